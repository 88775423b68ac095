use Rattle.std.proofs.Common.{Option, subst}
use Rattle.record_format.specs.declared.record.Record.{Record}
use Rattle.anchors.specs.Newest.{IsNewestRecord}
use Rattle.salvages.proofs.Saving.{newest_fits, none_committed}
use Rattle.salvages.proofs.salvaged.read_newest.Goals as goal

pub returns-in-Some-clause-sizes : goal.returns-in-Some-clause-sizes
returns-in-Some-clause-sizes g c =
    let d = g.F.Flash.device c.args.flash.now in
    (newest_fits d c.in-Some.newest (subst (λ (o : Option Record). IsNewestRecord d o) c.in-Some.is c.in_ok-newest.ensures.newest)).0

pub returns-in-Some-clause-is_record : goal.returns-in-Some-clause-is_record
returns-in-Some-clause-is_record g c =
    let d = g.F.Flash.device c.args.flash.now in
    (newest_fits d c.in-Some.newest (subst (λ (o : Option Record). IsNewestRecord d o) c.in-Some.is c.in_ok-newest.ensures.newest)).1

pub returns-in-None-clause-why : goal.returns-in-None-clause-why
returns-in-None-clause-why g c =
    let d = g.F.Flash.device c.args.flash.now in
    let none = subst (λ (o : Option Record). IsNewestRecord d o) c.in-None.is c.in_ok-newest.ensures.newest in
    (none, none_committed d none)

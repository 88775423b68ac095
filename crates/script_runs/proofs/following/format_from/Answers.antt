use Rattle.std.proofs.Common.{OnOk, subst}
use Rattle.mounting.specs.Formats.{ListsFailed}
use Rattle.script_runs.proofs.following.format_from.Goals as goal

pub returns-clause-listed : goal.returns-clause-listed
returns-clause-listed g c =
    let same = c.on-following.ensures.same in
    subst (λ (flash : g.row.F.Denot). OnOk c.format.result (ListsFailed (g.F.Flash.device flash) (g.F.Flash.device c.format.new.flash.flash.now))) same c.format.ensures.listed

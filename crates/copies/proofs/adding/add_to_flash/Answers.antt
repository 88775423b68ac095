use Rattle.std.proofs.Common.{rules}
use Rattle.history_machine.specs.Machine.{working_tree}
use Rattle.inquiries.specs.Readings.{shown}
use Rattle.copies.proofs.Extending.{at_rest, mounted_saved, not_added_to, one_more}
use Rattle.copies.proofs.adding.add_to_flash.Goals as goal

pub add_tree-added-requires : goal.add_tree-added-requires
add_tree-added-requires g c =
    let found = mounted_saved (g.G.Flash.device c.args.second.now) (g.G.Flash.device c.in-Ok.to.flash.now) c.in-Ok.to.system c.in-Ok.ensures.only_reads c.in-Ok.ensures.mounted c.in-Ok.to.mounted in
    at_rest (shown c.in-Ok.to) found.0 found.2

pub returns-in-Ok-added-clause-ok : goal.returns-in-Ok-added-clause-ok
returns-in-Ok-added-clause-ok g c = λ old stands.
    let found = mounted_saved (g.G.Flash.device c.args.second.now) (g.G.Flash.device c.in-Ok.to.flash.now) c.in-Ok.to.system c.in-Ok.ensures.only_reads c.in-Ok.ensures.mounted c.in-Ok.to.mounted in
    one_more found.0 old (shown c.in-Ok.to) (shown c.add_tree-added.new.to) (working_tree (shown c.args.from.now)) (g.G.Flash.device c.args.second.now) (g.G.Flash.device c.add_tree-added.new.to.flash.now) (g.G.Flash.device _)
    (search (rules, c.into_flash-left.ensures.flash, c.add_tree-added.ensures.same_flash, c.in-Ok.ensures.same_flash)) found.1 found.2 stands c.in-Ok-added.ensures.built c.in-Ok-added.ensures.kept c.in-Ok-added.ensures.synced

pub returns-in-Err-added-clause-err : goal.returns-in-Err-added-clause-err
returns-in-Err-added-clause-err g c =
    let found = mounted_saved (g.G.Flash.device c.args.second.now) (g.G.Flash.device c.in-Ok.to.flash.now) c.in-Ok.to.system c.in-Ok.ensures.only_reads c.in-Ok.ensures.mounted c.in-Ok.to.mounted in
    not_added_to (shown c.args.from.now) (shown c.in-Ok.to) found.0 (g.F.Flash.device c.args.from.now.flash.now) (g.F.Flash.device c.add_tree-added.new.from.flash.now) (g.G.Flash.device c.args.second.now)
    (g.G.Flash.device c.add_tree-added.new.to.flash.now) (g.G.Flash.device _) c.in-Err-added.why
    (search (rules, c.into_flash-left.ensures.flash, c.add_tree-added.ensures.same_flash, c.in-Ok.ensures.same_flash)) found.1 found.2 c.in-Err-added.ensures.err

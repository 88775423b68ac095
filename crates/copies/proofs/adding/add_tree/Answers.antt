use Rattle.std.proofs.Common.{inr}
use Rattle.std.proofs.lemmas.Result.{IfErr-weaker}
use Rattle.history_machine.specs.History.{gone_to}
use Rattle.history_machine.specs.Machine.{working_tree}
use Rattle.inquiries.specs.Readings.{shown}
use Rattle.inquiries.proofs.Readings.{unchanged-refl}
use Rattle.copies.proofs.Extending.{at_rest, built_more, kept_more, not_after}
use Rattle.copies.proofs.Causing.{on_uncopied}
use Rattle.copies.proofs.adding.add_tree.Goals as goal

pub add_after-requires : goal.add_after-requires
add_after-requires g c =
    let at = c.in-Ok.ensures.ok in
    at_rest (shown c.go_to_newest.new.to) (gone_to (shown c.args.to.now).history at.serial) at.is

pub returns-in-Ok-clause-built : goal.returns-in-Ok-clause-built
returns-in-Ok-clause-built g c =
    on_uncopied c.add_after.result _ _
    (λ made. built_more (shown c.args.to.now) (shown c.go_to_newest.new.to) (shown c.add_after.new.to) (working_tree (shown c.args.from.now)) c.args.to.now.mounted.mounted.machine c.go_to_newest.new.to.mounted.mounted.machine
    c.in-Ok.ensures.ok made) c.add_after.ensures.ok

pub returns-in-Ok-clause-kept : goal.returns-in-Ok-clause-kept
returns-in-Ok-clause-kept g c =
    on_uncopied c.add_after.result _ _
    (λ made. kept_more (shown c.args.to.now) (shown c.go_to_newest.new.to) (shown c.add_after.new.to) (working_tree (shown c.args.from.now)) c.args.to.now.mounted.mounted.machine c.go_to_newest.new.to.mounted.mounted.machine
    c.in-Ok.ensures.ok made) c.add_after.ensures.ok

pub returns-in-Ok-clause-err : goal.returns-in-Ok-clause-err
returns-in-Ok-clause-err g c =
    IfErr-weaker c.add_after.result _ _
    (λ why cause. not_after (shown c.args.from.now) (shown c.go_to_newest.new.to) (shown c.args.to.now).history (g.F.Flash.device c.args.from.now.flash.now) (g.F.Flash.device c.add_after.new.from.flash.now)
    (g.G.Flash.device c.add_after.new.to.flash.now) why c.in-Ok.ensures.ok cause) c.add_after.ensures.err

pub returns-in-Err-clause-same : goal.returns-in-Err-clause-same
returns-in-Err-clause-same g c = unchanged-refl c.args.from.now

pub returns-in-Err-clause-err : goal.returns-in-Err-clause-err
returns-in-Err-clause-err g c = (0, inr c.in-Err.ensures.err)

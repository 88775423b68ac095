use Rattle.std.proofs.Common.{subst}
use Rattle.std.proofs.lemmas.Result.{err_from_is_err_and}
use Rattle.history_machine.specs.Machine.{Machine, view_tree}
use Rattle.inquiries.specs.Pruned.{IsPruned}
use Rattle.inquiries.proofs.Readings.{unchanged-trans, meets-later}
use Rattle.inquiries.proofs.pruned.list_differing.Goals as goal

pub returns-in_err-differing_items-clause-same : goal.returns-in_err-differing_items-clause-same
returns-in_err-differing_items-clause-same g c = unchanged-trans c.args.fs.now c.check_small.new.fs c.differing_items.new.fs c.check_small.ensures.same c.differing_items.ensures.same

pub returns-in_err-differing_items-clause-err : goal.returns-in_err-differing_items-clause-err
returns-in_err-differing_items-clause-err g c =
    let p = err_from_is_err_and c.from_residual-in_err-differing_items.result c.from_residual-in_err-differing_items.ensures.1 in
    rw (p.1, p.2) (meets-later c.args.fs.now c.check_small.new.fs c.differing_items.new.fs c.in_err-differing_items.field-0.0 c.check_small.ensures.same c.in_err-differing_items.ensures.err)

pub returns-clause-same : goal.returns-clause-same
returns-clause-same g c = unchanged-trans c.args.fs.now c.check_small.new.fs c.differing_items.new.fs c.check_small.ensures.same c.differing_items.ensures.same

pub returns-clause-ok : goal.returns-clause-ok
returns-clause-ok g c =
    subst (λ (m : Machine). IsPruned (view_tree m c.args.view.now) (view_tree m c.args.other.now) c.in_ok-differing_items.field-0.items) c.check_small.ensures.same.machine c.in_ok-differing_items.ensures.pruned

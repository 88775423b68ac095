use Rattle.std.proofs.Common.{◌≡◌, ◌∙◌, ◌++◌, List, sym, ap, subst, append-nil, arith}
use Rattle.std.proofs.lemmas.List.{take_all}
use Rattle.std.proofs.lemmas.Result.{err_from_is_err_and}
use Rattle.history_machine.specs.Machine.{Machine, working_tree}
use Rattle.fs_types.specs.Names.{Path}
use Rattle.inquiries.specs.Readings.{shown}
use Rattle.inquiries.proofs.Readings.{meets-later, unchanged-refl, unchanged-trans}
use Rattle.copies.specs.Moved.{subtrees_at, subtree_at}
use Rattle.copies.proofs.Renaming.{listed_more}
use Rattle.copies.proofs.moving.add_subtrees.Goals as goal

pub loop-one-init : goal.loop-one-init
loop-one-init g c = (unchanged-refl c.args.to.now, sym (append-nil c.args.items.now.items))

pub returns-in_err-add_subtree-clause-same : goal.returns-in_err-add_subtree-clause-same
returns-in_err-add_subtree-clause-same g c = unchanged-trans c.args.to.now c.loop-one.to c.add_subtree.new.to c.loop-one.invariant.0 c.add_subtree.ensures.same

pub returns-in_err-add_subtree-clause-err : goal.returns-in_err-add_subtree-clause-err
returns-in_err-add_subtree-clause-err g c =
    let p = err_from_is_err_and c.from_residual.result c.from_residual.ensures.1 in
    rw (p.1, p.2) (meets-later c.args.to.now c.loop-one.to c.add_subtree.new.to c.in_err-add_subtree.field-0.0 c.loop-one.invariant.0 c.in_err-add_subtree.ensures.err)

pub loop-one-preserved : goal.loop-one-preserved
loop-one-preserved g c =
    let t = working_tree (shown c.args.to.now) in
    let same = c.loop-one.invariant.0 in
    let one = subst (λ (m : Machine). c.add_subtree.new.items.items ≡ c.loop-one.items.items ++ subtree_at (working_tree m) c.one-item.result.1) same.machine c.in_ok-add_subtree.ensures.ok in (
      unchanged-trans c.args.to.now c.loop-one.to c.add_subtree.new.to same c.add_subtree.ensures.same,
      listed_more (λ (x : Path × Path). subtree_at t x.1) c.args.moves.now c.loop-one.one-index c.one-item.result c.args.items.now.items c.loop-one.items.items c.add_subtree.new.items.items c.loop-one-test.true c.one-item.is c.loop-one.invariant.1 one,
    )

pub returns-clause-ok : goal.returns-clause-ok
returns-clause-ok g c =
    let past = c.loop-one-test.false in
    c.loop-one.invariant.1 ∙ ap (λ (xs : List (Path × Path)). c.args.items.now.items ++ subtrees_at (working_tree (shown c.args.to.now)) xs) (take_all c.loop-one.one-index c.args.moves.now (omega (arith, past)))

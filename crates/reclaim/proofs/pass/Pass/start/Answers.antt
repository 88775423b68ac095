use Rattle.std.proofs.Common.{ap, ◌∙◌}
use Rattle.std.proofs.lemmas.Result.{err_from_is_err_and}
use Rattle.block_ring.specs.BlockSet.{BlockSet}
use Rattle.reclaim.specs.Passes.{Pass}
use Rattle.reclaim.proofs.Marking.{begun, first_marked, only_memory}
use Rattle.reclaim.proofs.pass.Pass.start.Goals as goal

pub returns-in_err-mark_all-clause-memory : goal.returns-in_err-mark_all-clause-memory
returns-in_err-mark_all-clause-memory c =
    let p = err_from_is_err_and c.from_residual-in_err-mark_all.result c.from_residual-in_err-mark_all.ensures.1 in
    rw p.1 (p.2 ∙ only_memory _ _ _ _ (ap (λ (s : BlockSet). s.blocks) c.in_ok-marks.ensures.ok) c.requires c.in_err-mark_all.ensures.why)

pub returns-clause-pass : goal.returns-clause-pass
returns-clause-pass c f =
    let same = c.mark_all.ensures.same in
    begun f _ _ _ c.new-3.ensures.items
    (ap (λ (p : Pass). p.roots) same ∙ c.in_ok-own.ensures.items_if_clones_equal (λ x y same. same))
    c.in_ok-mark_all.ensures.marked (ap (λ (p : Pass). p.next) same)

pub returns-clause-first : goal.returns-clause-first
returns-clause-first c = first_marked _ _ _ c.new-3.ensures.items c.in_ok-mark_all.ensures.marked

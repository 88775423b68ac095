use Rattle.std.proofs.Common.{ℕ, List, ap, subst, sym, ◌∙◌, arith}
use Rattle.std.proofs.lemmas.List.{take_more}
use Rattle.reclaim.specs.Passes.{Pass, IsMarked}
use Rattle.reclaim.proofs.Marking.{marked_on, with_order}
use Rattle.reclaim.proofs.pass.Pass.mark_all.Goals as goal

pub loop-name-preserved : goal.loop-name-preserved
loop-name-preserved c = record {
  marked = subst (λ (l : List ℕ). IsMarked c.args.self.now.order l c.mark.new.self.order) (sym (take_more c.args.names.now c.loop-name.name-index 0 (omega arith)))
      (marked_on _ _ _ _ _ c.loop-name.invariant.marked c.in_ok-mark.ensures.marked);
  same = c.mark.ensures.same ∙ ap (λ (q : Pass). with_order q c.mark.new.self.order) c.loop-name.invariant.same;
}

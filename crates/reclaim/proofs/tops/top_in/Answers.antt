use Rattle.std.proofs.Common.{sym, ◌∙◌}
use Rattle.std.specs.Prelude.{slice_index}
use Rattle.reclaim.proofs.Steps.{top_below-none, top_below-has, top_below-lacks}
use Rattle.reclaim.proofs.tops.top_in.Goals as goal
use Rattle.reclaim.proofs.tops.top_in.Goals.{then-has_pointer, else-has_pointer}

pub loop-slot-init : goal.loop-slot-init
loop-slot-init c = sym (top_below-none (slice_index c.args.pointers.now) c.in-Some.index)

pub loop-slot-preserved : goal.loop-slot-preserved
loop-slot-preserved c =
    let p = slice_index c.args.pointers.now in
    elim c.if-has_pointer.branch [
      | then-has_pointer w ↦ rw w.top-is (sym (top_below-has p c.in-Some.index c.loop-slot.slot (sym c.has_pointer.ensures ∙ w.if-has_pointer.true)))
      | else-has_pointer w ↦ rw w.top-is (c.loop-slot.invariant ∙ sym (top_below-lacks p c.in-Some.index c.loop-slot.slot (sym c.has_pointer.ensures ∙ w.if-has_pointer.false)))
    ]

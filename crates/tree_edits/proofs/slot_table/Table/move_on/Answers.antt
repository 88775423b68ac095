use Rattle.std.proofs.Common.{◌≡◌, ℕ, ◌%◌, ◌^◌, slice_index, ap, ◌∙◌}
use Rattle.tree_edits.proofs.Marks.{moved_at, not_after}
use Rattle.tree_edits.proofs.slot_table.Table.move_on.Goals as goal

pub returns-then-index-pow-ne0 : goal.returns-then-index-pow-ne0
returns-then-index-pow-ne0 c x lt =
    let so_far = c.loop-slot.invariant in
    let slot = c.loop-slot.slot in
    let not : c.args.index % 2 ^ slot ≡ 0 → ⊥ = λ (e : c.args.index % 2 ^ slot ≡ 0). c.if-index-pow-ne0.true (ap (λ (p : ℕ). c.args.index % p) c.pow.ensures ∙ e) in
    moved_at c.args.index c.args.block slot x (slice_index c.loop-slot.self.blocks x) (slice_index c.args.self.now.blocks x) (so_far.divides x) (so_far.moved x) (so_far.others x) (λ le e. not_after c.args.index slot x not le e)

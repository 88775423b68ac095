use Rattle.std.proofs.Common.{◌++◌, [], ◌∷◌, ℕ, List, Some, ap, sym, ◌∙◌}
use Rattle.std.proofs.lemmas.List.{append_assoc, append-nil}
use Rattle.nodes.specs.Bodies.{pointer_of}
use Rattle.reclaim.specs.Naming.{slots_named}
use Rattle.reclaim.proofs.NamedLaws.{slots_named-none, slots_named-has, slots_named-lacks}
use Rattle.reclaim.proofs.named.push_slots.Goals as goal
use Rattle.reclaim.proofs.named.push_slots.Goals.{then-has_pointer+in_ok-push, else-has_pointer}

pub loop-slot-init : goal.loop-slot-init
loop-slot-init c =
    sym (ap (λ (l : List ℕ). c.args.out.now.items ++ l) (slots_named-none c.args.index (pointer_of (Some c.args.bytes.now))) ∙ append-nil c.args.out.now.items)

pub loop-slot-preserved : goal.loop-slot-preserved
loop-slot-preserved c =
    let pointer = pointer_of (Some c.args.bytes.now) in
    let so_far = slots_named c.args.index pointer c.loop-slot.slot in
    elim c.if-has_pointer.branch [
      | then-has_pointer+in_ok-push w ↦
          rw w.out-is
          (w.in_ok-push.ensures.items ∙ ap (λ (l : List ℕ). l ++ w.pointer_in.result ∷ []) c.loop-slot.invariant
          ∙ append_assoc c.args.out.now.items so_far (w.pointer_in.result ∷ [])
          ∙ ap (λ (b : ℕ). c.args.out.now.items ++ (so_far ++ b ∷ [])) w.pointer_in.ensures
          ∙ ap (λ (l : List ℕ). c.args.out.now.items ++ l) (sym (slots_named-has c.args.index pointer c.loop-slot.slot (sym c.has_pointer.ensures ∙ w.if-has_pointer.true))))
      | else-has_pointer w ↦
          rw w.out-is
          (c.loop-slot.invariant
          ∙ ap (λ (l : List ℕ). c.args.out.now.items ++ l) (sym (slots_named-lacks c.args.index pointer c.loop-slot.slot (sym c.has_pointer.ensures ∙ w.if-has_pointer.false))))
    ]

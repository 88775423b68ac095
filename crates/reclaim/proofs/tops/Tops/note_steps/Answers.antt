use Rattle.std.proofs.Common.{ℕ, Option, ◌++◌, sym, subst, ◌∙◌, arith}
use Rattle.std.specs.Prelude.{slice_index}
use Rattle.std.proofs.lemmas.Bool.{true≢false}
use Rattle.reclaim.specs.Tops.{HasSize, FitTops, steps_below, steps_by}
use Rattle.reclaim.proofs.LastSlots.{fit_steps, kept_first, kept_more, kept_same}
use Rattle.reclaim.proofs.tops.Tops.note_steps.Goals as goal
use Rattle.reclaim.proofs.tops.Tops.note_steps.Goals.{then-has_pointer+in_ok-is_told+else-not-is_told, else-has_pointer}

pub loop-slot-init : goal.loop-slot-init
loop-slot-init c = record {
  sized = c.requires.sized;
  told = λ top seen told keeps. kept_first top seen told c.args.self.now (slice_index c.args.pointers.now) c.in-Some.index keeps;
}

pub returns-then-not-is_told-clause-tops : goal.returns-then-not-is_told-clause-tops
returns-then-not-is_told-clause-tops c =
    let p = slice_index c.args.pointers.now in
    let i = c.in-Some.index in
    let x = c.loop-slot.slot in
    record {
      kept = λ top seen told keeps is. absurd (true≢false (sym is));
      bad = λ top seen told keeps _ fit.
          c.in_ok-is_told.ensures.tops.bad top seen (told ++ steps_below p i x) (c.loop-slot.invariant.told top seen told keeps) c.if-not-is_told.true
          (fit_steps top told p i x 15 (sym c.has_pointer.ensures ∙ c.if-has_pointer.true) (omega (arith, c.loop-slot-test.true))
          (subst (λ (o : Option ℕ). FitTops top (told ++ steps_by p o)) c.in-Some.is fit));
    }

pub loop-slot-preserved : goal.loop-slot-preserved
loop-slot-preserved c =
    let p = slice_index c.args.pointers.now in
    let i = c.in-Some.index in
    let x = c.loop-slot.slot in
    let so_far = c.loop-slot.invariant in
    elim c.if-has_pointer.branch [
      | then-has_pointer+in_ok-is_told+else-not-is_told w ↦
          rw w.self-is (record {
            sized = subst (λ (n : ℕ). HasSize n w.note_step.new.self) so_far.sized.read w.in_ok-is_told.ensures.sized;
            told = λ top seen told keeps.
                kept_more top seen told w.note_step.new.self p i x (sym c.has_pointer.ensures ∙ w.if-has_pointer.true)
                (w.in_ok-is_told.ensures.tops.kept top seen (told ++ steps_below p i x) (so_far.told top seen told keeps) w.if-not-is_told.false);
          })
      | else-has_pointer w ↦
          rw w.self-is (record {
            sized = so_far.sized;
            told = λ top seen told keeps. kept_same top seen told c.loop-slot.self p i x (sym c.has_pointer.ensures ∙ w.if-has_pointer.false) (so_far.told top seen told keeps);
          })
    ]

-- The kind of a block, by what is known of it.
use Rattle.std.proofs.Common.{◌≡◌, ℕ, ◌+◌, ◌*◌, ◌<◌, Bool, true, false, inl, inr, refl, sym, ap, subst, ◌∙◌}
use Rattle.std.proofs.lemmas.Bool.{true≢false}
use Rattle.std.proofs.lemmas.Option.{same_Some}
use Rattle.std.specs.FinSet as set
use Rattle.std.specs.Ordering.{nat_cmp}
use Rattle.std.specs.Prelude.{◌/◌, ◌↔◌}
use Rattle.flash_model.specs.Device.{Device, erased}
use Rattle.flash_model.specs.Reading.{OnlyReads}
use Rattle.flash_model.specs.declared.geometry.Geometry.{Geometry}
use Rattle.history_machine.specs.History.{Past}
use Rattle.anchors.specs.declared.best.Found.{Found}
use Rattle.system.specs.CleaningRounds.{IsBlank}
use Rattle.block_usage.specs.Kinds.{HasNewest, IsCheckpoint, IsOther, IsPresent, IsSound}
use Rattle.block_usage.specs.Maps.{IsKnownKind, reached_kind}

-- the newest record begins on one anchor alone
pub newest_same : (d : Device) (a b : ℕ) → HasNewest d a → HasNewest d b → a ≡ b
newest_same d a b one two = sym one.2 ∙ ap (λ (found : Found). found.page / d.geometry.pages) (same_Some _ _ (sym one.1 ∙ two.1)) ∙ two.2

no : {A : Type 0} → (false ≡ true) ↔ A → A → ⊥
no iff a = true≢false (sym (iff.1 a))

-- by the marks of a block that is sound
pub by_marks : (d : Device) (h : Past ℕ) (bad : set.FinSet nat_cmp) (b : ℕ) (p v c : Bool) → IsSound bad b
    → (p ≡ true) ↔ IsPresent d h b → (v ≡ true) ↔ IsOther d h b → (c ≡ true) ↔ IsCheckpoint d h b → IsKnownKind d h bad b (reached_kind p v c)
by_marks d h bad b true false false sound present other checkpoint = (sound, present.0 refl, no other, no checkpoint)
by_marks d h bad b true true false sound present other checkpoint = (sound, present.0 refl, inl (other.0 refl))
by_marks d h bad b true true true sound present other checkpoint = (sound, present.0 refl, inl (other.0 refl))
by_marks d h bad b true false true sound present other checkpoint = (sound, present.0 refl, inr (checkpoint.0 refl))
by_marks d h bad b false true false sound present other checkpoint = (sound, no present, other.0 refl)
by_marks d h bad b false true true sound present other checkpoint = (sound, no present, other.0 refl)
by_marks d h bad b false false true sound present other checkpoint = (sound, no present, no other, checkpoint.0 refl)
by_marks d h bad b false false false sound present other checkpoint = (sound, no present, no other, no checkpoint)

-- reads leave blank blocks blank, and no others become so
pub blank_before : (d e : Device) (b : ℕ) → OnlyReads d e → IsBlank e b → IsBlank d b
blank_before d e b reads is j within =
    sym (reads.pages (b * d.geometry.pages + j)) ∙ subst (λ (g : Geometry). (k : ℕ) → k < g.pages → e.pages (b * g.pages + k) ≡ erased) reads.geometry is j within

pub blank_after : (d e : Device) (b : ℕ) → OnlyReads d e → IsBlank d b → IsBlank e b
blank_after d e b reads is =
    subst (λ (g : Geometry). (k : ℕ) → k < g.pages → e.pages (b * g.pages + k) ≡ erased) (sym reads.geometry) (λ j within. reads.pages (b * d.geometry.pages + j) ∙ is j within)

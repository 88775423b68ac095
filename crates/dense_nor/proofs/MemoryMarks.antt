-- What befalls marks on a part in memory.
use Rattle.std.proofs.Common.{◌≡◌, ℕ, ◌+◌, ◌*◌, ◌<◌, ◌≤◌, false, List, length, slice_index, take, Result, Err, ap, sym, ◌∙◌, inl, inr, arith}
use Rattle.std.proofs.lemmas.Bool.{false_from_ne_true}
use Rattle.flash_model.specs.declared.flash.DevFault.{DevFault}
use Rattle.flash_model.specs.declared.flash.DevFault.TheVariants.{Failed}
use Rattle.nor_part.specs.Memory.{IsWholeErase, ZeroesPage}
use Rattle.nor_part.specs.Part.{is_blank}
use Rattle.nor_part.proofs.Pages.{blank_at}
use Rattle.dense_nor.specs.Marks.{mark_of, entry_of, BeginsMark}
use Rattle.dense_nor.specs.Parts.{GivesZeros}
use Rattle.dense_nor.proofs.EntryBytes.{entry-at, entry-length, unmarked}
use Rattle.dense_nor.proofs.Erasing.{blank_unmarked}

same_unmarked : (old new other : List ℕ) (i : ℕ) → new ≡ old → ¬ BeginsMark (entry_of old i) → ¬ (entry_of new i ≡ mark_of other)
same_unmarked old new other i same none stands = none (ap (take 4) (ap (λ (xs : List ℕ). entry_of xs i) (sym same) ∙ stands))

low_unmarked : (new other : List ℕ) (i : ℕ) → slice_index new (8 * i + 0) < 17 → ¬ (entry_of new i ≡ mark_of other)
low_unmarked new other i low = unmarked (entry_of new i) other (λ same. let is : slice_index new (8 * i + 0) ≡ 85 = sym (entry-at new i 0 (omega arith)) ∙ same in absurd (omega (arith, is, low)))

pub erased_unmarked : (old new other : List ℕ) (i : ℕ) → length new ≡ 256 → i < 32 → IsWholeErase old new → ¬ BeginsMark (entry_of old i) → ¬ (entry_of new i ≡ mark_of other)
erased_unmarked old new other i whole low (inl same) none = same_unmarked old new other i same none
erased_unmarked old new other i whole low (inr blank) none = blank_unmarked new other i whole low blank

pub programmed_unmarked : (old bytes new other : List ℕ) (i : ℕ) (result : Result (Unit {0}) DevFault) → ZeroesPage old bytes new result → GivesZeros 4 bytes i
    → ¬ BeginsMark (entry_of old i) → ¬ (entry_of new i ≡ mark_of other)
programmed_unmarked old bytes new other i result (inl zeroes) gives none = low_unmarked new other i (zeroes (8 * i + 0) (gives 0 (omega arith)).0 (gives 0 (omega arith)).1)
programmed_unmarked old bytes new other i result (inr before) gives none = same_unmarked old new other i before.1 none

pub failed_first : (old bytes new : List ℕ) (i : ℕ) (result : Result (Unit {0}) DevFault) → result ≡ Err Failed → ZeroesPage old bytes new result → GivesZeros 8 bytes i
    → slice_index new (8 * i + 0) < 17
failed_first old bytes new i result failed (inl zeroes) gives = zeroes (8 * i + 0) (gives 0 (omega arith)).0 (gives 0 (omega arith)).1
failed_first old bytes new i result failed (inr before) gives = let cut = before.0 in absurd cc

pub failed_trace : (old bytes new : List ℕ) (i : ℕ) (result : Result (Unit {0}) DevFault) → result ≡ Err Failed → ZeroesPage old bytes new result → GivesZeros 8 bytes i
    → length bytes ≤ 256 → length new ≡ 256 → (is_blank (entry_of new i) ≡ false) × ((other : List ℕ) → ¬ (entry_of new i ≡ mark_of other))
failed_trace old bytes new i result failed zeroes gives short whole =
    let low : slice_index new (8 * i + 0) < 17 = failed_first old bytes new i result failed zeroes gives in
    let place : i < 32 = omega (arith, (gives 7 (omega arith)).0, short) in (
      false_from_ne_true (is_blank (entry_of new i)) (λ blank.
          let first : slice_index new (8 * i + 0) ≡ 255 = sym (entry-at new i 0 (omega arith)) ∙ blank_at (entry_of new i) 0 blank (omega (arith, entry-length new i whole place)) in
          absurd (omega (arith, first, low))),
      λ other. low_unmarked new other i low,
    )

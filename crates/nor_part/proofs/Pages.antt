-- What a page is once its data are programmed, and once its mark is.
use Rattle.std.proofs.Common.{suc, sym, ◌≡◌, ◌≢◌, inl, inr, ℕ, ◌<◌, ◌==◌, true, false, List, [], ◌∷◌, length, slice_index, Result, Ok, Err, ap, ◌∙◌, refl, arith}
use Rattle.std.specs.Prelude.{bit_and}
use Rattle.std.proofs.lemmas.Grind.{common_steps, same_number_lists}
use Rattle.std.proofs.lemmas.Bool.{cases_Bool, eqb-true}
use Rattle.std.proofs.lemmas.Nat.{and_comm}
use Rattle.std.proofs.lemmas.Grind.{and_numeral}
use Rattle.std.proofs.lemmas.Bool.Decides.{nat_tests}
use Rattle.std.proofs.lemmas.List.Folds.{list_all_at}
use Rattle.flash_model.specs.declared.flash.DevFault.{DevFault}
use Rattle.flash_model.specs.declared.flash.DevFault.TheVariants.{Failed, PowerCut}
use Rattle.flash_model.specs.Device.{Page, erased, AfterProgram}
use Rattle.nor_part.specs.Part.{is_blank, HasCleared, AfterPageProgram, HasTorn, AfterSectorErase}
use Rattle.nor_part.specs.Layout.{page_from}

-- an erased page has a blank mark
pub erased-mark : (bytes : List ℕ) (mark : ℕ) → page_from bytes mark ≡ erased → mark ≡ 255
erased-mark bytes mark is = grind (arith, nat_tests, common_steps)

-- an erased page is blank
pub erased-blank : (bytes : List ℕ) (mark : ℕ) → page_from bytes mark ≡ erased → is_blank bytes ≡ true
erased-blank bytes mark is = grind (arith, nat_tests, common_steps)

-- a byte of a blank page
pub blank_at : (old : List ℕ) (k : ℕ) → is_blank old ≡ true → k < length old → slice_index old k ≡ 255
blank_at old k blank below =
    elim (cases_Bool (slice_index old k == 255)) [
      | inl same ↦ eqb-true _ _ same
      | inr apart ↦ let fails : is_blank old ≡ false = list_all_at (λ byte. byte == 255) old k 0 below apart in absurd cc
    ]

and-blank : (b : ℕ) → b < 256 → bit_and 255 b ≡ b
and-blank b small = and_comm 255 b ∙ and_numeral b 254 refl ∙ (omega arith)

-- the page is blank and is programmed
pub programmed-is : (old bytes new : List ℕ) → length old ≡ 256 → length bytes ≡ 256 → length new ≡ 256 → is_blank old ≡ true
    → ((i : ℕ) → slice_index bytes i < 256) → HasCleared old bytes new → new ≡ bytes
programmed-is old bytes new h k l blank small clears =
    same_number_lists new bytes (cc) (λ i below. let was : slice_index old i ≡ 255 = blank_at old i blank (omega arith) in
    clears i (omega arith) ∙ ap (λ b. bit_and b (slice_index bytes i)) was ∙ and-blank _ (small i))

-- the data stand, and the mark was programmed
pub marked : (was : Page) (stored bytes before after : List ℕ) (result : Result (Unit {0}) DevFault) → was ≡ erased → stored ≡ bytes
    → slice_index before 0 ≡ 255 → AfterPageProgram before (0 ∷ []) after result
    → AfterProgram was bytes (page_from stored (slice_index after 0)) result
marked was stored bytes before after (Ok _) blank same mark clears =
    let now : slice_index after 0 ≡ 0 = clears 0 (omega arith) ∙ ap (λ b. bit_and b 0) mark in
    grind (arith, nat_tests, common_steps)
marked was stored bytes before after (Err Failed) blank same mark fails =
    let trace : (slice_index after 0 ≢ 255) × (slice_index after 0 ≢ 0) = fails.1 refl mark (omega arith) in
    grind (arith, nat_tests, common_steps)
marked was stored bytes before after (Err PowerCut) blank same mark torn = grind (arith, nat_tests, common_steps)

-- a page is blank where each byte is
pub blank_from_bytes : (xs : List ℕ) → ((k : ℕ) → k < length xs → slice_index xs k ≡ 255) → is_blank xs ≡ true
blank_from_bytes [] each = refl
blank_from_bytes (x ∷ xs) each =
    let first : x ≡ 255 = each 0 (omega arith) in
    let rest : is_blank xs ≡ true = blank_from_bytes xs (λ k below. each (suc k) (omega arith)) in
    grind (arith, nat_tests, common_steps)

-- what was programmed whole may be told as torn
pub torn_from_cleared : (old bytes new : List ℕ) → ((i : ℕ) → slice_index bytes i < 256) → HasCleared old bytes new → HasTorn old bytes new
torn_from_cleared old bytes new small clears =
    λ i below was keeps gone. keeps (sym (and-blank _ (small i)) ∙ sym (ap (λ b. bit_and b (slice_index bytes i)) was) ∙ sym (clears i below) ∙ gone)

-- a blank page may be told as torn in an erase
pub torn_from_blank : (old new : List ℕ) (fault : DevFault) → length new ≡ length old → is_blank new ≡ true → AfterSectorErase old new (Err fault)
torn_from_blank old new fault same blank =
    λ i below some gone. let set : slice_index new i ≡ 255 = blank_at new i blank (omega arith) in absurd (omega (arith, set, gone))

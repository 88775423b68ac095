-- The pages of a flash once one of them was programmed, by what stands on the part.
use Rattle.std.proofs.Common.{◌≡◌, ◌≢◌, ℕ, ◌<◌, true, List, length, slice_index, Result, Err, ap, sym, ◌∙◌, inl, inr}
use Rattle.std.proofs.lemmas.Bool.{cases_eq}
use Rattle.flash_model.specs.declared.flash.DevFault.{DevFault}
use Rattle.flash_model.specs.declared.flash.DevFault.TheVariants.{Failed, PowerCut}
use Rattle.flash_model.specs.Device.{erased, AfterProgram}
use Rattle.nor_part.specs.Part.{is_blank, HasCleared}
use Rattle.nor_part.proofs.Pages.{programmed-is}
use Rattle.dense_nor.specs.Marks.{entry_of, page_from}
use Rattle.dense_nor.specs.Layout.{IsDense, data_at, mark_at, place_of, page_in}
use Rattle.dense_nor.specs.Parts.{AfterMark, LeavesTrace, MakesNoMark}
use Rattle.dense_nor.proofs.EntryBytes.{blank_first, begins_other, entry-length, unmarked}
use Rattle.dense_nor.proofs.Marking.{after_cut, after_mark, after_spoil, erased_blank}
use Rattle.dense_nor.proofs.Places.{data_apart, data_not_mark, marks_apart, place_low}

-- the data of a page alone were programmed
pub page_beside : (n p q : ℕ) (old new : ℕ → List ℕ) → IsDense n → ((m : ℕ) → m ≢ data_at n p → new m ≡ old m) → q ≢ p → page_in n new q ≡ page_in n old q
page_beside n p q old new dense others apart =
    ap (λ (xs : List ℕ). page_from xs (entry_of (new (mark_at n q)) (place_of n q))) (others (data_at n q) (data_apart n p q dense apart))
    ∙ ap (λ (xs : List ℕ). page_from (old (data_at n q)) (entry_of xs (place_of n q))) (others (mark_at n q) (λ same. data_not_mark n q p dense (sym same)))

-- the mark of a page alone was programmed
pub mark_beside : (n p q : ℕ) (old new : ℕ → List ℕ) → IsDense n → ((m : ℕ) → m ≢ mark_at n p → new m ≡ old m)
    → ((i : ℕ) → i ≢ place_of n p → entry_of (new (mark_at n p)) i ≡ entry_of (old (mark_at n p)) i) → q ≢ p → page_in n new q ≡ page_in n old q
mark_beside n p q old new dense others beside apart =
    ap (λ (xs : List ℕ). page_from xs (entry_of (new (mark_at n q)) (place_of n q))) (others (data_at n q) (data_not_mark n p q dense))
    ∙ ap (λ (entry : List ℕ). page_from (old (data_at n q)) entry) (elim (cases_eq (mark_at n q) (mark_at n p)) [
      | inl same ↦ ap (λ (m : ℕ). entry_of (new m) (place_of n q)) same ∙ beside (place_of n q) (marks_apart n p q dense apart same) ∙ ap (λ (m : ℕ). entry_of (old m) (place_of n q)) (sym same)
      | inr other ↦ ap (λ (xs : List ℕ). entry_of xs (place_of n q)) (others (mark_at n q) other)
    ])

-- the place of an erased page stays blank where its data alone are programmed
pub place_blank : (n p : ℕ) (old mid : ℕ → List ℕ) → IsDense n → page_in n old p ≡ erased → ((x : ℕ) → x ≢ data_at n p → mid x ≡ old x)
    → is_blank (entry_of (mid (mark_at n p)) (place_of n p)) ≡ true
place_blank n p old mid dense blank others =
    ap (λ (xs : List ℕ). is_blank (entry_of xs (place_of n p))) (others (mark_at n p) (λ same. data_not_mark n p p dense (sym same)))
    ∙ (erased_blank (old (data_at n p)) (entry_of (old (mark_at n p)) (place_of n p)) blank).0

-- so no mark stands or begins there
place_first : (n p : ℕ) (old mid : ℕ → List ℕ) → IsDense n → page_in n old p ≡ erased → ((x : ℕ) → x ≢ data_at n p → mid x ≡ old x) → ((x : ℕ) → length (mid x) ≡ 256)
    → slice_index (entry_of (mid (mark_at n p)) (place_of n p)) 0 ≢ 85
place_first n p old mid dense blank others whole =
    blank_first (entry_of (mid (mark_at n p)) (place_of n p)) (entry-length (mid (mark_at n p)) (place_of n p) (whole (mark_at n p)) (place_low n p)) (place_blank n p old mid dense blank others)

-- data and mark were programmed
pub written : (n p : ℕ) (old mid new : ℕ → List ℕ) (bytes : List ℕ) (result : Result (Unit {0}) DevFault) → IsDense n → page_in n old p ≡ erased
    → ((x : ℕ) → length (old x) ≡ 256) → ((x : ℕ) → length (mid x) ≡ 256) → length bytes ≡ 256 → ((k : ℕ) → slice_index bytes k < 256)
    → HasCleared (old (data_at n p)) bytes (mid (data_at n p)) → ((x : ℕ) → x ≢ mark_at n p → new x ≡ mid x) → AfterMark bytes new (mark_at n p) (place_of n p) result
    → AfterProgram (page_in n old p) bytes (page_in n new p) result
written n p old mid new bytes result dense blank first second whole small clears others after =
    after_mark (page_in n old p) bytes new (data_at n p) (mark_at n p) (place_of n p) result blank
    (others (data_at n p) (data_not_mark n p p dense) ∙ programmed-is (old (data_at n p)) bytes (mid (data_at n p)) (first (data_at n p)) whole (second (data_at n p))
    (erased_blank (old (data_at n p)) (entry_of (old (mark_at n p)) (place_of n p)) blank).1 small clears) after

-- its data failed, and 0 was programmed in the place of its mark
pub spoilt : (n p : ℕ) (old mid new : ℕ → List ℕ) (bytes : List ℕ) (fault : DevFault) → IsDense n → page_in n old p ≡ erased → ((x : ℕ) → x ≢ data_at n p → mid x ≡ old x)
    → ((x : ℕ) → length (mid x) ≡ 256) → (fault ≡ Failed → LeavesTrace new (mark_at n p) (place_of n p)) → MakesNoMark mid new (mark_at n p) (place_of n p)
    → AfterProgram (page_in n old p) bytes (page_in n new p) (Err fault)
spoilt n p old mid new bytes fault dense blank others whole trace unmarked =
    after_spoil (page_in n old p) bytes mid new (data_at n p) (mark_at n p) (place_of n p) fault blank
    (begins_other (entry_of (mid (mark_at n p)) (place_of n p)) (place_first n p old mid dense blank others whole)) trace unmarked

-- power went in the program of its data
pub cut_in_data : (n p : ℕ) (old mid : ℕ → List ℕ) (bytes : List ℕ) → IsDense n → page_in n old p ≡ erased → ((x : ℕ) → x ≢ data_at n p → mid x ≡ old x)
    → ((x : ℕ) → length (mid x) ≡ 256) → AfterProgram (page_in n old p) bytes (page_in n mid p) (Err PowerCut)
cut_in_data n p old mid bytes dense blank others whole =
    after_cut (page_in n old p) bytes (mid (data_at n p)) (entry_of (mid (mark_at n p)) (place_of n p)) blank
    (unmarked (entry_of (mid (mark_at n p)) (place_of n p)) (mid (data_at n p)) (place_first n p old mid dense blank others whole))

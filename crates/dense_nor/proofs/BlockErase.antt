-- The pages of a flash once a block was erased, or that was not done.
use Rattle.std.proofs.Common.{◌≡◌, ◌≢◌, ℕ, ◌/◌, true, List, length, Err, ap, sym, subst, ◌∙◌}
use Rattle.flash_model.specs.declared.flash.DevFault.{DevFault}
use Rattle.flash_model.specs.Device.{Page, erased, AfterErase}
use Rattle.nor_part.specs.Part.{is_blank}
use Rattle.dense_nor.specs.Marks.{mark_of, entry_of, page_from}
use Rattle.dense_nor.specs.Layout.{IsDense, data_pages, data_at, mark_at, place_of, page_in}
use Rattle.dense_nor.specs.Blocks.{IsOfBlock, IsOfMarks, IsUnmarked, MarksNothing}
use Rattle.dense_nor.proofs.EntryBytes.{blank_entry}
use Rattle.dense_nor.proofs.Erasing.{blank_unmarked}
use Rattle.dense_nor.proofs.Marking.{after_erase, kept_page, page-blank}
use Rattle.dense_nor.proofs.Places.{data_of_block, data_unmarked, mark_of_block, marks_within, one_block, place_low}

-- pages of other blocks stay
pub block_apart : (n b p : ℕ) (old new : ℕ → List ℕ) → IsDense n → ((x : ℕ) → ¬ IsOfBlock n b x → new x ≡ old x) → p / data_pages n ≢ b → page_in n new p ≡ page_in n old p
block_apart n b p old new dense others apart =
    let data_same : new (data_at n p) ≡ old (data_at n p) = others (data_at n p) (λ of. apart (one_block n (p / data_pages n) b (data_at n p) (data_of_block n p dense) of)) in
    let mark_same : new (mark_at n p) ≡ old (mark_at n p) =
    others (mark_at n p) (λ of. apart (one_block n (p / data_pages n) b (mark_at n p) (marks_within n (p / data_pages n) (mark_at n p) (mark_of_block n p dense)) of)) in
    ap (λ (xs : List ℕ). page_from xs (entry_of (new (mark_at n p)) (place_of n p))) data_same
    ∙ ap (λ (xs : List ℕ). page_from (old (data_at n p)) (entry_of xs (place_of n p))) mark_same

-- the marks were not all made 0
pub block_kept : (n b p : ℕ) (old new : ℕ → List ℕ) (fault : DevFault) → IsDense n → p / data_pages n ≡ b → ((x : ℕ) → ¬ IsOfMarks n b x → new x ≡ old x)
    → MarksNothing n b old new → AfterErase (page_in n old p) (page_in n new p) (Err fault)
block_kept n b p old new fault dense here others nothing =
    let unmarked : ¬ IsOfMarks n b (data_at n p) = subst (λ (c : ℕ). ¬ IsOfMarks n c (data_at n p)) here (data_unmarked n p dense) in
    let marked : IsOfMarks n b (mark_at n p) = subst (λ (c : ℕ). IsOfMarks n c (mark_at n p)) here (mark_of_block n p dense) in
    let same : new (data_at n p) ≡ old (data_at n p) = others (data_at n p) unmarked in
    subst (λ (xs : List ℕ). AfterErase (page_in n old p) (page_from xs (entry_of (new (mark_at n p)) (place_of n p))) (Err fault)) (sym same)
    (kept_page (old (data_at n p)) (entry_of (old (mark_at n p)) (place_of n p)) (entry_of (new (mark_at n p)) (place_of n p)) fault
    (λ stands. nothing (mark_at n p) (data_at n p) (place_of n p) marked unmarked (place_low n p) (stands ∙ ap mark_of (sym same)) ∙ ap mark_of same))

-- its sectors were not all erased
pub block_unmarked : (n b p : ℕ) (was : Page) (new : ℕ → List ℕ) (fault : DevFault) → IsDense n → p / data_pages n ≡ b → IsUnmarked n b new → AfterErase was (page_in n new p) (Err fault)
block_unmarked n b p was new fault dense here none =
    let marked : IsOfMarks n b (mark_at n p) = subst (λ (c : ℕ). IsOfMarks n c (mark_at n p)) here (mark_of_block n p dense) in
    after_erase was (new (data_at n p)) (entry_of (new (mark_at n p)) (place_of n p)) fault (none (mark_at n p) (place_of n p) marked (place_low n p) (data_at n p))

-- all of it was erased
pub block_blank : (n b p : ℕ) (new : ℕ → List ℕ) → IsDense n → p / data_pages n ≡ b → ((x : ℕ) → length (new x) ≡ 256) → ((x : ℕ) → IsOfBlock n b x → is_blank (new x) ≡ true)
    → page_in n new p ≡ erased
block_blank n b p new dense here whole blank =
    let first : is_blank (new (data_at n p)) ≡ true = blank (data_at n p) (subst (λ (c : ℕ). IsOfBlock n c (data_at n p)) here (data_of_block n p dense)) in
    let second : is_blank (new (mark_at n p)) ≡ true =
    blank (mark_at n p) (subst (λ (c : ℕ). IsOfBlock n c (mark_at n p)) here (marks_within n (p / data_pages n) (mark_at n p) (mark_of_block n p dense))) in
    page-blank (new (data_at n p)) (entry_of (new (mark_at n p)) (place_of n p))
    (blank_unmarked (new (mark_at n p)) (new (data_at n p)) (place_of n p) (whole (mark_at n p)) (place_low n p) second)
    (blank_entry (new (mark_at n p)) (place_of n p) (whole (mark_at n p)) (place_low n p) second) first

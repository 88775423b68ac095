-- What a page is by its mark, once it was programmed or erased.
use Rattle.std.proofs.Common.{◌≡◌, ℕ, Bool, true, false, List, Result, Ok, Err, ap, sym, subst, ◌∙◌, ◌⊎◌, inl, inr, refl, if◌then◌else◌}
use Rattle.std.specs.Prelude.{◌&&◌, bytes_eq}
use Rattle.std.proofs.lemmas.Bool.{cases_Bool, false_from_ne_true}
use Rattle.std.proofs.lemmas.Slice.Eq.{bytes_eq-Decides}
use Rattle.flash_model.specs.declared.flash.DevFault.{DevFault}
use Rattle.flash_model.specs.declared.flash.DevFault.TheVariants.{Failed, PowerCut}
use Rattle.flash_model.specs.Device.{Page, erased, bytes_of, unreadable, AfterProgram, AfterErase}
use Rattle.nor_part.specs.Part.{is_blank}
use Rattle.dense_nor.specs.Marks.{mark_of, entry_of, page_from, BeginsMark}
use Rattle.dense_nor.proofs.EntryBytes.{same_or_not}
use Rattle.dense_nor.specs.Parts.{AfterMark, LeavesTrace, MakesNoMark}

pub page-marked : (bytes entry : List ℕ) → entry ≡ mark_of bytes → page_from bytes entry ≡ bytes_of bytes
page-marked bytes entry is =
    ap (λ (b : Bool). if b then bytes_of bytes else (if is_blank entry && is_blank bytes then erased else unreadable)) ((bytes_eq-Decides entry (mark_of bytes)).1 is)

page-unmarked : (bytes entry : List ℕ) → ¬ (entry ≡ mark_of bytes) → page_from bytes entry ≡ (if is_blank entry && is_blank bytes then erased else unreadable)
page-unmarked bytes entry other =
    ap (λ (b : Bool). if b then bytes_of bytes else (if is_blank entry && is_blank bytes then erased else unreadable))
    (false_from_ne_true (bytes_eq entry (mark_of bytes)) (λ is. other ((bytes_eq-Decides entry (mark_of bytes)).0 is)))

pub page-blank : (bytes entry : List ℕ) → ¬ (entry ≡ mark_of bytes) → is_blank entry ≡ true → is_blank bytes ≡ true → page_from bytes entry ≡ erased
page-blank bytes entry other first second =
    page-unmarked bytes entry other ∙ ap (λ (b : Bool). if b && is_blank bytes then erased else unreadable) first ∙ ap (λ (b : Bool). if b then erased else unreadable) second

pub page-spoilt : (bytes entry : List ℕ) → ¬ (entry ≡ mark_of bytes) → is_blank entry ≡ false → page_from bytes entry ≡ unreadable
page-spoilt bytes entry other some = page-unmarked bytes entry other ∙ ap (λ (b : Bool). if b && is_blank bytes then erased else unreadable) some

-- with no mark it is erased or unreadable
pub page_without : (bytes entry : List ℕ) → ¬ (entry ≡ mark_of bytes) → (page_from bytes entry ≡ erased) ⊎ (page_from bytes entry ≡ unreadable)
page_without bytes entry other = elim (cases_Bool (is_blank entry && is_blank bytes)) [
  | inl both_blank ↦ inl (page-unmarked bytes entry other ∙ ap (λ (b : Bool). if b then erased else unreadable) both_blank)
  | inr either ↦ inr (page-unmarked bytes entry other ∙ ap (λ (b : Bool). if b then erased else unreadable) either)
]

both : (a b : Bool) → a && b ≡ true → (a ≡ true) × (b ≡ true)
both true b is = (refl, is)
both false b is = absurd cc

-- an erased page is blank, and so is its place
pub erased_blank : (bytes entry : List ℕ) → page_from bytes entry ≡ erased → (is_blank entry ≡ true) × (is_blank bytes ≡ true)
erased_blank bytes entry is = elim (same_or_not entry (mark_of bytes)) [
  | inl marked ↦ let written : page_from bytes entry ≡ bytes_of bytes = page-marked bytes entry marked in absurd cc
  | inr other ↦ elim (cases_Bool (is_blank entry && is_blank bytes)) [
    | inl both_blank ↦ both (is_blank entry) (is_blank bytes) both_blank
    | inr either ↦ let spoilt : page_from bytes entry ≡ unreadable = page-unmarked bytes entry other ∙ ap (λ (b : Bool). if b then erased else unreadable) either in absurd cc
  ]
]

-- the page was erased, and power went with no mark there
pub after_cut : (was : Page) (bytes stored entry : List ℕ) → was ≡ erased → ¬ (entry ≡ mark_of stored) → AfterProgram was bytes (page_from stored entry) (Err PowerCut)
after_cut was bytes stored entry blank other = elim (page_without stored entry other) [
  | inl is ↦ inl (is ∙ sym blank)
  | inr is ↦ inr (inr is)
]

-- its data stand, and its mark was programmed
pub after_mark : (was : Page) (bytes : List ℕ) (new : ℕ → List ℕ) (d m i : ℕ) (result : Result (Unit {0}) DevFault) → was ≡ erased → new d ≡ bytes
    → AfterMark bytes new m i result → AfterProgram was bytes (page_from (new d) (entry_of (new m) i)) result
after_mark was bytes new d m i (Ok _) blank same mark =
    subst (λ (stored : List ℕ). page_from stored (entry_of (new m) i) ≡ bytes_of bytes) (sym same) (page-marked bytes (entry_of (new m) i) mark)
after_mark was bytes new d m i (Err Failed) blank same mark = page-spoilt (new d) (entry_of (new m) i) (mark.1 d) mark.0
after_mark was bytes new d m i (Err PowerCut) blank same mark = elim (same_or_not (entry_of (new m) i) (mark_of (new d))) [
  | inl marked ↦ inr (inl (page-marked (new d) (entry_of (new m) i) marked ∙ ap bytes_of same))
  | inr other ↦ after_cut was bytes (new d) (entry_of (new m) i) blank other
]

-- its data failed, and 0 was programmed in the place of its mark
pub after_spoil : (was : Page) (bytes : List ℕ) (old new : ℕ → List ℕ) (d m i : ℕ) (fault : DevFault) → was ≡ erased → ¬ BeginsMark (entry_of (old m) i)
    → (fault ≡ Failed → LeavesTrace new m i) → MakesNoMark old new m i → AfterProgram was bytes (page_from (new d) (entry_of (new m) i)) (Err fault)
after_spoil was bytes old new d m i Failed blank none trace unmarked =
    let left : LeavesTrace new m i = trace refl in page-spoilt (new d) (entry_of (new m) i) (left.1 d) left.0
after_spoil was bytes old new d m i PowerCut blank none trace unmarked = after_cut was bytes (new d) (entry_of (new m) i) blank (unmarked none d)

-- a page that has no mark after an erase that was not done
pub after_erase : (was : Page) (bytes entry : List ℕ) (fault : DevFault) → ¬ (entry ≡ mark_of bytes) → AfterErase was (page_from bytes entry) (Err fault)
after_erase was bytes entry fault other = inr (page_without bytes entry other)

-- a page whose data stayed, and whose mark stands only where it stood
pub kept_page : (bytes first second : List ℕ) (fault : DevFault) → (second ≡ mark_of bytes → first ≡ mark_of bytes) → AfterErase (page_from bytes first) (page_from bytes second) (Err fault)
kept_page bytes first second fault back = elim (same_or_not second (mark_of bytes)) [
  | inl marked ↦ inl (page-marked bytes second marked ∙ sym (page-marked bytes first (back marked)))
  | inr other ↦ after_erase (page_from bytes first) bytes second fault other
]

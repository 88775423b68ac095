-- The anchor that records go to next, erased ahead.
use Rattle.std.specs.Prelude.{◌≡◌, ◌≢◌, ◌⊎◌, ℕ, ◌-◌, ◌*◌, ◌/◌, ◌<◌, ◌≤◌, Bool, true, false, Option, Some, Result, Ok, Err, if◌then◌else◌}
use Rattle.std.specs.FinSet as set
use Rattle.std.specs.Ordering.{nat_cmp}
use Rattle.fs_types.specs.declared.fault.Fault.{Fault}
use Rattle.fs_types.specs.declared.fault.Fault.TheVariants.{ReadOnly}
use Rattle.fs_types.specs.declared.limits.TheConstants.{ANCHORS}
use Rattle.flash_model.specs.declared.geometry.Geometry.{Geometry}
use Rattle.flash_model.specs.Device.{Device}
use Rattle.bad_blocks.specs.Mode.{is_read_only}
use Rattle.anchors.specs.declared.best.Found.{Found}
use Rattle.anchors.specs.declared.anchors.Anchors.{Anchors}
use Rattle.anchors.specs.Anchored.{ErasesAnchor}
use Rattle.anchors.specs.Committing.{IsNextAnchor}
use Rattle.anchors.specs.Keeping.{KeepsNewest}
use Rattle.anchors.specs.Newest.{remembered, prepared_anchor}
use Rattle.anchors.specs.Parts.{greatest_on}

-- fewer pages are left on an anchor, from its end on, than a quarter of its pages, or than two records of so many pages take
abbrev pub HasFewLeft : Geometry → ℕ → ℕ → Type 0
HasFewLeft g end count = (g.pages - end < g.pages / 4) ⊎ (g.pages - end < 2 * count)

-- the newest record's place, if one is remembered, is on an anchor
abbrev pub IsWithin : Geometry → Anchors → Type 0
IsWithin g anchors = (found : Found) → remembered anchors ≡ Some found → found.page / g.pages < ANCHORS

-- an anchor is to be erased ahead: a commit takes it next once the newest record's own is bad or has no room, which is so or
-- is soon; and it was not erased ahead yet
pub record IsWanted (g : Geometry) (bad : set.FinSet nat_cmp) (anchors : Anchors) (anchor : ℕ) : Type 0 where
  pub found : Found
  pub here : remembered anchors ≡ Some found
  pub soon : (set.contains bad (found.page / g.pages) ≡ true) ⊎ HasFewLeft g anchors.end found.head.count
  pub next : IsNextAnchor bad (found.page / g.pages) anchor
  pub unprepared : prepared_anchor anchors ≢ Some anchor

-- no anchor is
abbrev pub IsPrepared : Geometry → set.FinSet nat_cmp → Anchors → Type 0
IsPrepared g bad anchors = (anchor : ℕ) → IsWanted g bad anchors anchor → ⊥

-- what an erase ahead answers: it is refused where power went, or where its failure turned read-only mode on
abbrev pub erase_answer : Result Bool Fault → set.FinSet nat_cmp → Result (Unit {0}) Fault
erase_answer (Ok true) now = Ok tt
erase_answer (Ok false) now = if is_read_only now then Err ReadOnly else Ok tt
erase_answer (Err fault) now = Err fault

-- what is remembered after it: an anchor of which the erase was done
abbrev pub prepared_after : Option ℕ → ℕ → Result Bool Fault → Option ℕ
prepared_after was anchor (Ok true) = Some anchor
prepared_after was anchor _ = was

-- an anchor was erased ahead, or is bad since that failed, or power went: the newest record is what it was, at its place, and the
-- next one has the sequence that it had
pub record ErasesAhead (old : Device) (was : set.FinSet nat_cmp) (before : Anchors) (anchor : ℕ) (result : Result (Unit {0}) Fault) (new : Device) (now : set.FinSet nat_cmp) (after : Anchors) : Type 0 where
  pub wanted : IsWanted old.geometry was before anchor
  pub done : Result Bool Fault
  pub erases : ErasesAnchor old was new now anchor done
  pub answers : result ≡ erase_answer done now
  pub anchors : after ≡ record before { prepared = prepared_after (prepared_anchor before) anchor done }
  pub keeps : KeepsNewest old.geometry old.pages new.pages
  pub sequence : greatest_on new.geometry new.pages ≡ greatest_on old.geometry old.pages

-- no anchor is to be erased ahead, or none may be, and nothing is asked of the flash
pub record RestsAnchor (old : Device) (was : set.FinSet nat_cmp) (before : Anchors) (budget : ℕ) (result : Result ℕ Fault) (new : Device) (now : set.FinSet nat_cmp) (after : Anchors) : Type 0 where
  pub why : IsPrepared old.geometry was before ⊎ (budget ≡ 0)
  pub answers : result ≡ Ok budget
  pub flash : new ≡ old
  pub list : now ≡ was
  pub anchors : after ≡ before

-- what is left of a budget after one erase
abbrev pub left_of : ℕ → Result (Unit {0}) Fault → Result ℕ Fault
left_of budget (Ok _) = Ok (budget - 1)
left_of budget (Err fault) = Err fault

-- the anchor that is to be erased ahead, if one is, was, as one of the budget
abbrev pub PreparesAnchor : Device → set.FinSet nat_cmp → Anchors → ℕ → Result ℕ Fault → Device → set.FinSet nat_cmp → Anchors → Type 0
PreparesAnchor old was before budget result new now after =
    RestsAnchor old was before budget result new now after
    ⊎ ((1 ≤ budget) × (anchor : ℕ) × (ended : Result (Unit {0}) Fault) × (result ≡ left_of budget ended) × ErasesAhead old was before anchor ended new now after)

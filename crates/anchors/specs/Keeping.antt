-- What stays of the records on the anchors.
use Rattle.std.specs.Prelude.{◌≡◌, ◌≢◌, ◌⊎◌, ℕ, ◌+◌, ◌*◌, ◌/◌, ◌<◌, Some, None, Result, Ok, Err, true, false, Bool}
use Rattle.fs_types.specs.declared.fault.Fault.{Fault}
use Rattle.fs_types.specs.declared.fault.Fault.TheVariants.{PowerCut}
use Rattle.fs_types.specs.declared.limits.TheConstants.{ANCHORS}
use Rattle.flash_model.specs.declared.geometry.Geometry.{Geometry}
use Rattle.flash_model.specs.Device.{Page, bytes_of}
use Rattle.record_format.specs.declared.page_head.PageHead.{PageHead}
use Rattle.anchors.specs.declared.best.Found.{Found}
use Rattle.anchors.specs.Parts.{RecordBytes, part_of, parts_on, record_head, newest_at, newest_on}
use Rattle.anchors.specs.Programming.{bytes_for}

-- the newest record is what it was, at its place, and each record that is valid was valid
pub record KeepsNewest (g : Geometry) (was now : ℕ → Page) : Type 0 where
  pub heads : (q : ℕ) (head : PageHead) → record_head g (parts_on g now) q ≡ Some head → record_head g (parts_on g was) q ≡ Some head
  pub place : newest_at g (parts_on g now) ≡ newest_at g (parts_on g was)
  pub newest : newest_on g now ≡ newest_on g was

-- every valid record is older
abbrev pub AreOlder : Geometry → (ℕ → Page) → ℕ → Type 0
AreOlder g pages sequence = (q : ℕ) (head : PageHead) → q < ANCHORS * g.pages → record_head g (parts_on g pages) q ≡ Some head → head.sequence < sequence

-- a record is the newest one, at this place, and its pages hold no byte but those that it is spelled with
pub record IsAt (g : Geometry) (pages : ℕ → Page) (found : Found) (entry : RecordBytes) : Type 0 where
  pub place : newest_at g (parts_on g pages) ≡ Some found
  pub newest : newest_on g pages ≡ Some entry
  pub written : (n : ℕ) → n < found.head.count → pages (found.page + n) ≡ bytes_of (bytes_for g entry.sequence entry.payload found.head.count n)

-- a record was written, or its anchor failed, or power went: the newest record is the new one, or what it was
abbrev pub Placed : Geometry → (ℕ → Page) → (ℕ → Page) → Found → RecordBytes → Result Bool Fault → Type 0
Placed g was now found entry (Ok true) = IsAt g now found entry
Placed g was now found entry (Ok false) = KeepsNewest g was now
Placed g was now found entry (Err PowerCut) = KeepsNewest g was now ⊎ IsAt g now found entry
Placed g was now found entry (Err _) = ⊥

-- the newest record is not on this anchor, or its pages hold no part of any
abbrev pub Spares : Geometry → (ℕ → Page) → ℕ → Type 0
Spares g pages anchor = ((found : Found) × (newest_at g (parts_on g pages) ≡ Some found) × (found.page / g.pages ≢ anchor)) ⊎ ((p : ℕ) → p / g.pages ≡ anchor → part_of (pages p) ≡ None)

-- What attempts to commit a record leave, and which anchors are tried.
use Rattle.std.specs.Prelude.{◌≡◌, ◌≢◌, ◌⊎◌, ℕ, ◌+◌, ◌*◌, ◌/◌, ◌%◌, ◌<◌, ◌≤◌, Bool, true, false, Option, Some, None, List, [], Result, Ok, Err, IfErr}
use Rattle.std.specs.FinSet as set
use Rattle.std.specs.Ordering.{nat_cmp}
use Rattle.fs_types.specs.declared.fault.Fault.{Fault}
use Rattle.fs_types.specs.declared.fault.Fault.TheVariants.{ReadOnly, PowerCut}
use Rattle.fs_types.specs.declared.limits.TheConstants.{ANCHORS}
use Rattle.flash_model.specs.Geometry.{IsGeometry}
use Rattle.flash_model.specs.Device.{Device, Page, bytes_of, block_of}
use Rattle.bad_blocks.specs.Mode.{is_read_only}
use Rattle.record_format.specs.declared.record.Record.{Record}
use Rattle.record_format.specs.Payloads.{is_record, written}
use Rattle.anchors.specs.declared.best.Found.{Found}
use Rattle.anchors.specs.Anchored.{OnlyAnchors, Asked, IsPowerCut}
use Rattle.anchors.specs.Parts.{parts_on, newest_at, newest_on}
use Rattle.anchors.specs.Payloads.{Means}
use Rattle.anchors.specs.Programming.{bytes_for, Fills}
use Rattle.anchors.specs.Reading.{IsEnd}
use Rattle.anchors.specs.Keeping.{KeepsNewest}

-- a record that a flash and a list may get: it has the flash's sizes and is lawful, and no block of the list is past the end
pub record Suits (d : Device) (bad : set.FinSet nat_cmp) (r : Record) : Type 0 where
  pub same : d.geometry ≡ r.geometry
  pub lawful : IsGeometry r.geometry
  pub is_lawful : is_record (written r []) ≡ true
  pub on_flash : (b : ℕ) → set.contains bad b ≡ true → b < r.geometry.blocks

-- the newest record on the pages means this one, with a sequence and a list of bad blocks, and its pages are those of its one spelling
pub record IsCommitted (pages : ℕ → Page) (r : Record) (sequence : ℕ) (bad : set.FinSet nat_cmp) : Type 0 where
  pub bytes : List ℕ
  pub newest : newest_on r.geometry pages ≡ Some (record { sequence = sequence; payload = bytes })
  pub means : Means r sequence bad bytes
  pub found : Found
  pub place : newest_at r.geometry (parts_on r.geometry pages) ≡ Some found
  pub written : (n : ℕ) → n < found.head.count → pages (found.page + n) ≡ bytes_of (bytes_for r.geometry sequence bytes found.head.count n)

-- the newest record begins at this place, and all pages after it on its anchor are erased
pub record StandsLast (pages : ℕ → Page) (r : Record) (found : Found) : Type 0 where
  pub place : newest_at r.geometry (parts_on r.geometry pages) ≡ Some found
  pub end : IsEnd r.geometry pages (found.page / r.geometry.pages) r.geometry.pages (found.page % r.geometry.pages + found.head.count)

-- an attempt commits the record, or nothing changes of the newest one, or power went
abbrev pub Attempts : (ℕ → Page) → (ℕ → Page) → Record → ℕ → set.FinSet nat_cmp → Result (Option Found) Fault → Type 0
Attempts was now r sequence bad (Ok (Some found)) = IsCommitted now r sequence bad × StandsLast now r found
Attempts was now r sequence bad (Ok None) = KeepsNewest r.geometry was now
Attempts was now r sequence bad (Err PowerCut) = KeepsNewest r.geometry was now ⊎ IsCommitted now r sequence bad
Attempts was now r sequence bad (Err _) = ⊥

-- what holds where an attempt placed the record, and where it did not
abbrev pub IfPlaced : Result (Option Found) Fault → (Found → Type 0) → Type 0
IfPlaced (Ok (Some found)) p = p found
IfPlaced (Ok None) p = Unit {0}
IfPlaced (Err _) p = Unit {0}

abbrev pub OnNone : Result (Option Found) Fault → Type 0 → Type 0
OnNone (Ok (Some found)) p = Unit {0}
OnNone (Ok None) p = p
OnNone (Err _) p = Unit {0}

-- pages of blocks that are not in the list are as they were
abbrev pub Untouched : Device → set.FinSet nat_cmp → Device → Type 0
Untouched old bad new = (p : ℕ) → set.contains bad (block_of old p) ≡ false → new.pages p ≡ old.pages p

-- what an attempt answers, by what the writing of its record answered
abbrev pub answered : Result Bool Fault → Found → Result (Option Found) Fault
answered (Ok true) found = Ok (Some found)
answered (Ok false) found = Ok None
answered (Err fault) found = Err fault

-- what an attempt leaves that is made on an anchor at a place, after so many operations more
pub record Attempted (old : Device) (was : set.FinSet nat_cmp) (new : Device) (now : set.FinSet nat_cmp) (r : Record) (sequence anchor place more : ℕ) (result : Result (Option Found) Fault) : Type 0 where
  pub attempts : Attempts old.pages new.pages r sequence now result
  pub page : IfPlaced result (λ found. found.page ≡ anchor * r.geometry.pages + place)
  pub fits : IfPlaced result (λ found. place < r.geometry.pages)
  pub list : IfPlaced result (λ found. now ≡ was)
  pub good : IfPlaced result (λ found. set.contains was anchor ≡ false)
  pub others : IfPlaced result (λ found. (p : ℕ) → block_of old p ≢ anchor → new.pages p ≡ old.pages p)
  pub untouched : OnNone result (Untouched old now new)
  pub asked : IfPlaced result (λ found. Asked old new (more + found.head.count))
  pub tried : OnNone result (Asked old new 0)
  pub operations : new.operations ≤ old.operations + (r.geometry.pages + 1)
  pub only_anchors : OnlyAnchors old was new now
  pub why : IfErr result (IsPowerCut new)

-- the pages of an anchor from a place on are too few for the record with this list, and all its pages are enough
pub record LacksRoom (r : Record) (bad : set.FinSet nat_cmp) (place : ℕ) : Type 0 where
  pub bytes : List ℕ
  pub count : ℕ
  pub means : (sequence : ℕ) → Means r sequence bad bytes
  pub fills : Fills r.geometry bytes count
  pub fits : count ≤ r.geometry.pages
  pub past : r.geometry.pages < place + count

-- the k-th anchor after one, in ring order
abbrev pub anchor_after : ℕ → ℕ → ℕ
anchor_after home k = (home + k) % ANCHORS

-- the first anchor after one, in ring order, that is not bad
pub record IsNextAnchor (bad : set.FinSet nat_cmp) (home anchor : ℕ) : Type 0 where
  pub steps : ℕ
  pub some : 1 ≤ steps
  pub below : steps < ANCHORS
  pub is : anchor ≡ anchor_after home steps
  pub good : set.contains bad anchor ≡ false
  pub between : (k : ℕ) → 1 ≤ k → k < steps → set.contains bad (anchor_after home k) ≡ true

-- the lowest anchor that is not bad
pub record IsLowest (bad : set.FinSet nat_cmp) (anchor : ℕ) : Type 0 where
  pub below : anchor < ANCHORS
  pub good : set.contains bad anchor ≡ false
  pub others : (b : ℕ) → b < anchor → set.contains bad b ≡ true

-- a commit places the record, or leaves the newest one as it was; where power went, either
abbrev pub Commits : {T : Type 0} → (ℕ → Page) → (ℕ → Page) → Record → ℕ → set.FinSet nat_cmp → Result T Fault → Type 0
Commits was now r sequence bad (Ok _) = IsCommitted now r sequence bad
Commits was now r sequence bad (Err PowerCut) = KeepsNewest r.geometry was now ⊎ IsCommitted now r sequence bad
Commits was now r sequence bad (Err _) = KeepsNewest r.geometry was now

-- a record goes after the end of its home, where that is not bad and has room; else on the first page of the next anchor. The lists are those before and after the commit
abbrev pub GoesTo : Record → set.FinSet nat_cmp → set.FinSet nat_cmp → ℕ → ℕ → ℕ → Type 0
GoesTo r was now home place page = ((page ≡ home * r.geometry.pages + place) × (set.contains now home ≡ false))
    ⊎ ((anchor : ℕ) × (page ≡ anchor * r.geometry.pages) × IsNextAnchor now home anchor × ((set.contains now home ≡ true) ⊎ LacksRoom r was place))

-- no anchor is tried any more because too many blocks are bad, or because power is off
abbrev pub TryCause : Device → set.FinSet nat_cmp → Fault → Type 0
TryCause new bad ReadOnly = is_read_only bad ≡ true
TryCause new bad PowerCut = new.powered ≡ false
TryCause new bad _ = ⊥

-- no anchor took the record: why, and that pages of blocks which are not in the list are as they were, but where power went
pub record IsInVain (old new : Device) (bad : set.FinSet nat_cmp) (fault : Fault) : Type 0 where
  pub why : TryCause new bad fault
  pub untouched : fault ≢ PowerCut → Untouched old bad new

-- a record stands where a commit from a place of its home puts it, and what was asked for it. On its home it changes no page of another block
pub record StandsFrom (old : Device) (was : set.FinSet nat_cmp) (new : Device) (now : set.FinSet nat_cmp) (r : Record) (home place : ℕ) (found : Found) : Type 0 where
  pub stands : StandsLast new.pages r found
  pub goes : GoesTo r was now home place found.page
  pub begun : found.page / r.geometry.pages ≡ home → Asked old new found.head.count
  pub elsewhere : found.page / r.geometry.pages ≢ home → Asked old new (1 + found.head.count)
  pub others : found.page / r.geometry.pages ≡ home → (p : ℕ) → block_of old p ≢ home → new.pages p ≡ old.pages p
  pub writable : is_read_only now ≡ false

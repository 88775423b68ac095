-- A commit as one value: what it asks for, and what its attempts leave.
use Rattle.std.specs.Prelude.{◌≡◌, ◌≢◌, ◌⊎◌, ℕ, ◌+◌, ◌*◌, ◌<◌, ◌≤◌, Bool, true, false, Option, Result, IfOk, IfErr, vec_capacity, if◌then◌else◌}
use Rattle.std.specs.FinSet as set
use Rattle.std.specs.Ordering.{nat_cmp}
use Rattle.fs_types.specs.declared.fault.Fault.{Fault}
use Rattle.fs_types.specs.declared.limits.TheConstants.{ANCHORS}
use Rattle.flash_model.specs.declared.geometry.Geometry.{Geometry}
use Rattle.flash_model.specs.Device.{Device, Page}
use Rattle.record_format.specs.declared.record.Record.{Record}
use Rattle.anchors.specs.declared.best.Found.{Found}
use Rattle.anchors.specs.declared.draft.Draft.{Draft}
use Rattle.anchors.specs.declared.commit.Commit.{Commit}
use Rattle.anchors.specs.declared.commit.Start.{Start}
use Rattle.anchors.specs.Anchored.{OnlyAnchors, ChangesAnchor}
use Rattle.anchors.specs.Drafts.{IsBlankFrom}
use Rattle.anchors.specs.Keeping.{AreOlder, Spares, Placed}
use Rattle.anchors.specs.Committing.{Suits, Commits, IsInVain, Attempted, LacksRoom, StandsFrom, anchor_after}
use Rattle.anchors.specs.Programming.{head_for}
use Rattle.anchors.specs.Reading.{IsEnd}

module _ {F : Type 0} (device : F → Device) where
  -- a record may be committed: it suits the flash and the list, every valid record is older, and there is room for a page
  pub record IsReady (c : Commit F) : Type 0 where
    pub suits : Suits (device c.flash.now) c.bad.now c.saved.now
    pub older : AreOlder c.saved.now.geometry (device c.flash.now).pages c.sequence
    pub room : c.saved.now.geometry.page ≤ vec_capacity c.page.now

-- the same record is committed with the same sequence, on the same flash and the same list, and there is room for a page
pub record IsSameCommit {F : Type 0} (s t : Commit F) : Type 0 where
  pub flash : t.flash.ghost_name ≡ s.flash.ghost_name
  pub bad : t.bad.ghost_name ≡ s.bad.ghost_name
  pub saved : t.saved ≡ s.saved
  pub sequence : t.sequence ≡ s.sequence
  pub room : s.saved.now.geometry.page ≤ vec_capacity s.page.now → s.saved.now.geometry.page ≤ vec_capacity t.page.now

-- a commit may start at a place of its home: all pages from there on are erased, and the newest record is on no other anchor that is not bad
pub record MayStart (g : Geometry) (pages : ℕ → Page) (bad : set.FinSet nat_cmp) (home place : ℕ) : Type 0 where
  pub blank : IsBlankFrom g pages bad home place
  pub spares : (b : ℕ) → b < ANCHORS → b ≢ home → set.contains bad b ≡ false → Spares g pages b

-- an attempt may be made: where its anchor is not bad, all pages from its place on are erased, or it is erased anew and the newest record is not on it
pub record MayBegin (g : Geometry) (pages : ℕ → Page) (bad : set.FinSet nat_cmp) (start : Start) : Type 0 where
  pub below : start.anchor < ANCHORS
  pub blank : start.anew ≡ false → IsBlankFrom g pages bad start.anchor start.place
  pub first : start.anew ≡ true → start.place ≡ 0
  pub spares : start.anew ≡ true → set.contains bad start.anchor ≡ false → Spares g pages start.anchor

-- the first attempt is made at the place of the home, and each other on the next anchor in ring order, which is erased anew
pub record IsStep (home place step : ℕ) (start : Start) : Type 0 where
  pub first : step ≡ 0 → (start.anchor ≡ home) × (start.place ≡ place) × (start.anew ≡ false)
  pub next : 1 ≤ step → (start.anchor ≡ anchor_after home step) × (start.place ≡ 0) × (start.anew ≡ true)

-- what writing a draft at a place of an anchor leaves, by so many operations: the record stands at the end of the anchor, or the newest one is what it was
pub record Wrote (g : Geometry) (old : Device) (was : set.FinSet nat_cmp) (new : Device) (now : set.FinSet nat_cmp) (anchor place operations : ℕ) (draft : Draft) (result : Result Bool Fault) : Type 0 where
  pub placed : Placed g old.pages new.pages (record { page = anchor * g.pages + place; head = head_for g draft.sequence draft.payload.now draft.count 0 }) (record { sequence = draft.sequence; payload = draft.payload.now }) result
  pub end : IfOk result (λ done. done ≡ true → IsEnd g new.pages anchor g.pages (place + draft.count))
  pub changes : ChangesAnchor old was new now anchor operations result

-- what a commit leaves, whatever is answered. Each anchor is tried once at most, by an erase and its pages
pub record Leaves {T : Type 0} (old : Device) (was : set.FinSet nat_cmp) (new : Device) (now : set.FinSet nat_cmp) (r : Record) (sequence : ℕ) (result : Result T Fault) : Type 0 where
  pub commits : Commits old.pages new.pages r sequence now result
  pub only_anchors : OnlyAnchors old was new now
  pub operations : new.operations ≤ old.operations + ANCHORS * (r.geometry.pages + 1)
  pub in_vain : IfErr result (IsInVain old new now)

-- the same of two states of one commit, of which the second came of the first
module _ {F : Type 0} (device : F → Device) where
  -- it may start at a place of its home, and an attempt may be made
  abbrev pub MayStartAt : Commit F → ℕ → ℕ → Type 0
  MayStartAt s home place = MayStart s.saved.now.geometry (device s.flash.now).pages s.bad.now home place

  abbrev pub MayTry : Commit F → Start → Type 0
  MayTry s start = MayBegin s.saved.now.geometry (device s.flash.now).pages s.bad.now start

  -- what an attempt leaves, with one operation more where its anchor is erased anew
  abbrev pub Tries : Commit F → Commit F → Start → Result (Option Found) Fault → Type 0
  Tries s t start result =
      Attempted (device s.flash.now) s.bad.now (device t.flash.now) t.bad.now s.saved.now s.sequence start.anchor start.place (if start.anew then 1 else 0) result

  -- what writing a draft of the record leaves
  abbrev pub Writes : Commit F → Commit F → Start → Draft → Result Bool Fault → Type 0
  Writes s t start draft result =
      Wrote s.saved.now.geometry (device s.flash.now) s.bad.now (device t.flash.now) t.bad.now start.anchor start.place
      (if start.anew then 1 + draft.count else draft.count) draft result

  -- how it ends, and where the record stands then
  abbrev pub Ends : {T : Type 0} → Commit F → Commit F → Result T Fault → Type 0
  Ends s t result = Leaves (device s.flash.now) s.bad.now (device t.flash.now) t.bad.now s.saved.now s.sequence result

  abbrev pub Stands : Commit F → Commit F → ℕ → ℕ → Found → Type 0
  Stands s t home place found = StandsFrom (device s.flash.now) s.bad.now (device t.flash.now) t.bad.now s.saved.now home place found

-- the anchor of an attempt is bad then, or had no room for the record
abbrev pub IsPassed : {F : Type 0} → Commit F → Commit F → Start → Type 0
IsPassed s t start = (set.contains t.bad.now start.anchor ≡ true) ⊎ LacksRoom s.saved.now s.bad.now start.place

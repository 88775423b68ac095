-- When a record may be written to an anchor.
use Rattle.std.specs.Prelude.{◌≡◌, ℕ, ◌+◌, ◌*◌, ◌^◌, ◌<◌, ◌≤◌, false}
use Rattle.std.specs.FinSet as set
use Rattle.std.specs.Ordering.{nat_cmp}
use Rattle.fs_types.specs.declared.limits.TheConstants.{ANCHORS, MAX_BAD_BLOCKS}
use Rattle.flash_model.specs.declared.geometry.Geometry.{Geometry}
use Rattle.flash_model.specs.Geometry.{IsGeometry}
use Rattle.flash_model.specs.Device.{Page, erased}
use Rattle.anchors.specs.declared.draft.Draft.{Draft}
use Rattle.anchors.specs.Keeping.{AreOlder}
use Rattle.anchors.specs.Programming.{Fills}

-- the payload fills its pages, and they fit into a block
pub record IsDraft (g : Geometry) (draft : Draft) : Type 0 where
  pub lawful : IsGeometry g
  pub fills : Fills g draft.payload.now draft.count
  pub fits : draft.count ≤ g.pages
  pub sequence : draft.sequence < 2 ^ 64
  pub count : draft.count < 2 ^ 16

-- a draft may be written to an anchor that is not bad, and that may enter the list: every valid record is older
pub record MayWrite (g : Geometry) (pages : ℕ → Page) (bad : set.FinSet nat_cmp) (anchor : ℕ) (draft : Draft) : Type 0 where
  pub is : IsDraft g draft
  pub below : anchor < ANCHORS
  pub good : set.contains bad anchor ≡ false
  pub room : set.len bad < MAX_BAD_BLOCKS
  pub older : AreOlder g pages draft.sequence

-- an anchor of which, where it is not bad, all pages from a place on are erased
pub record IsBlankFrom (g : Geometry) (pages : ℕ → Page) (bad : set.FinSet nat_cmp) (anchor place : ℕ) : Type 0 where
  pub below : anchor < ANCHORS
  pub within : set.contains bad anchor ≡ false → place ≤ g.pages
  pub blank : set.contains bad anchor ≡ false → (m : ℕ) → place ≤ m → m < g.pages → pages (anchor * g.pages + m) ≡ erased

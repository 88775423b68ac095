-- What marking, verifying and formatting ask of the device.
use Rattle.std.specs.Prelude.{◌≡◌, ◌⊎◌, ℕ, ◌+◌, ◌*◌, ◌<◌, ◌≤◌, false, List, length}
use Rattle.std.specs.FinSet as set
use Rattle.std.specs.List.{sum_by}
use Rattle.std.specs.Ordering.{nat_cmp}
use Rattle.fs_types.specs.declared.limits.TheConstants.{ANCHORS}
use Rattle.flash_model.specs.Device.{Device}
use Rattle.flash_model.specs.Geometry.{block_bytes}
use Rattle.node_store.specs.NodePages.{node_of}
use Rattle.nodes.specs.Bodies.{Blocks}
use Rattle.reclaim.specs.Passes.{AreReached}
use Rattle.reclaim.specs.Verified.{all_pages}
use Rattle.anchors.specs.Parts.{parts_on, newest_at, pages_of}

-- so many reads came, each of another block that the roots reach
pub record ReadsEach (f : Blocks) (roots : List ℕ) (before after : ℕ) : Type 0 where
  pub blocks : List ℕ
  pub are : AreReached f roots blocks
  pub most : after ≤ before + length blocks

-- the device was asked for the pages of some blocks that the roots reach, none twice, and for nothing else
pub record AsksEach (old : Device) (roots : List ℕ) (new : Device) : Type 0 where
  pub blocks : List ℕ
  pub are : AreReached (node_of old) roots blocks
  pub most : new.operations ≤ old.operations + length blocks * old.geometry.pages

-- the most pages of a verification for these blocks: each of their nodes' own once, and the first page of the node after one of a
-- directory; and a block's pages for each read of the depths
abbrev pub verify_pages : Device → List ℕ → ℕ
verify_pages d blocks = sum_by (λ b. all_pages d.geometry.page (block_bytes d.geometry) (node_of d b)) blocks

-- a verification of these roots asked the device for no more: the blocks are some that they reach, none twice
pub record AsksToVerify (old : Device) (roots : List ℕ) (new : Device) : Type 0 where
  pub blocks : List ℕ
  pub are : AreReached (node_of old) roots blocks
  pub most : new.operations ≤ old.operations + verify_pages old blocks

-- how many pages the newest record has
abbrev pub record_pages : Device → ℕ
record_pages d = pages_of (newest_at d.geometry (parts_on d.geometry d.pages))

-- the first record was committed. Where no anchor was bad none was read; else of their pages none was read twice. An erase was
-- asked for at most and a program of each page of the record, and beside that on each anchor that failed an erase and all its
-- pages at most
pub record AsksForRecord (old : Device) (bad : set.FinSet nat_cmp) (new : Device) : Type 0 where
  pub failed : ℕ
  pub reads : ℕ
  pub failures : new.failures ≡ old.failures + failed
  pub unread : ((b : ℕ) → b < ANCHORS → set.contains bad b ≡ false) → reads ≡ 0
  pub once : reads ≤ ANCHORS * old.geometry.pages
  pub most : new.operations ≤ old.operations + reads + (1 + record_pages new) + failed * (1 + old.geometry.pages)

-- the anchors were cleared, or that was refused: an erase of each was asked for at most
pub record AsksToClear (old new : Device) : Type 0 where
  pub failed : ℕ
  pub failures : new.failures ≡ old.failures + failed
  pub most : new.operations ≤ old.operations + ANCHORS

-- whatever a format answers, it asked for no more than an erase of each anchor, an erase and a page in one data block and in each
-- that failed, each page of the anchors once, and an erase and the pages of each anchor
pub record AsksToFormatAtMost (old new : Device) : Type 0 where
  pub failed : ℕ
  pub failures : new.failures ≡ old.failures + failed
  pub most : new.operations ≤ old.operations + ANCHORS + (1 + failed) * 2 + ANCHORS * old.geometry.pages + ANCHORS * (old.geometry.pages + 1)

-- a format that was answered asked for an erase of each anchor, and, where one failed, for their pages, of none twice; for an erase and a page for
-- the root, and an erase and the pages of the record; and beside that on each block that failed for an erase and all its pages at
-- most
pub record AsksToFormat (old new : Device) : Type 0 where
  pub failed : ℕ
  pub reads : ℕ
  pub failures : new.failures ≡ old.failures + failed
  pub unread : failed ≡ 0 → reads ≡ 0
  pub once : reads ≤ ANCHORS * old.geometry.pages
  pub most : new.operations ≤ old.operations + ANCHORS + reads + 2 + (1 + record_pages new) + failed * (1 + old.geometry.pages)

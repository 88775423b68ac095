-- The laws of the newest record.
use Rattle.std.specs.Prelude.{◌≡◌, ◌≢◌, ℕ, ◌*◌, ◌/◌, ◌<◌, ◌≤◌, Option, Some}
use Rattle.fs_types.specs.declared.limits.TheConstants.{ANCHORS}
use Rattle.flash_model.specs.declared.geometry.Geometry.{Geometry}
use Rattle.flash_model.specs.Device.{Page}
use Rattle.record_format.specs.declared.page_head.PageHead.{PageHead}
use Rattle.anchors.specs.declared.best.Found.{Found}
use Rattle.anchors.specs.Parts.{Part, record_head, newest_at, newest_on}

-- a valid record begins at the place that is found, and every other valid record is older
pub record IsNewest (g : Geometry) (parts : ℕ → Option Part) (found : Found) : Type 0 where
  pub within : found.page < ANCHORS * g.pages
  pub valid : record_head g parts found.page ≡ Some found.head
  pub older : (q : ℕ) (head : PageHead) → q < ANCHORS * g.pages → q ≢ found.page → record_head g parts q ≡ Some head → head.sequence < found.head.sequence

-- no valid record is on the anchors
abbrev pub HasNone : Geometry → (ℕ → Option Part) → Type 0
HasNone g parts = (q : ℕ) (head : PageHead) → q < ANCHORS * g.pages → record_head g parts q ≡ Some head → ⊥

-- two valid records share the greatest sequence
pub record HasTie (g : Geometry) (parts : ℕ → Option Part) : Type 0 where
  pub one : Found
  pub two : Found
  pub one_within : one.page < ANCHORS * g.pages
  pub two_within : two.page < ANCHORS * g.pages
  pub apart : two.page ≢ one.page
  pub one_valid : record_head g parts one.page ≡ Some one.head
  pub two_valid : record_head g parts two.page ≡ Some two.head
  pub same : two.head.sequence ≡ one.head.sequence
  pub greatest : (q : ℕ) (head : PageHead) → q < ANCHORS * g.pages → record_head g parts q ≡ Some head → head.sequence ≤ one.head.sequence

-- what is found as the newest record is the newest, and the newest is found: there is at most one
abbrev pub FoundIsNewest : Type 0
FoundIsNewest = (g : Geometry) (parts : ℕ → Option Part) (found : Found) → newest_at g parts ≡ Some found → IsNewest g parts found

abbrev pub NewestIsFound : Type 0
NewestIsFound = (g : Geometry) (parts : ℕ → Option Part) (found : Found) → IsNewest g parts found → newest_at g parts ≡ Some found

-- pages of other blocks than the anchors do not matter
abbrev pub OnlyAnchorsMatter : Type 0
OnlyAnchorsMatter = (g : Geometry) (old new : ℕ → Page) → ((p : ℕ) → p / g.pages < ANCHORS → new p ≡ old p) → newest_on g new ≡ newest_on g old

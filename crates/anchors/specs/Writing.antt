-- What a record that is being written does to the newest one.
use Rattle.std.specs.Prelude.{◌≡◌, ◌⊎◌, ℕ, ◌+◌, ◌*◌, ◌%◌, ◌<◌, ◌≤◌, true, Option, Some, None}
use Rattle.fs_types.specs.declared.limits.TheConstants.{ANCHORS}
use Rattle.flash_model.specs.declared.geometry.Geometry.{Geometry}
use Rattle.record_format.specs.declared.page_head.PageHead.{PageHead}
use Rattle.anchors.specs.Parts.{Part, head_at, is_part, record_head, newest_at, newest_among}

-- of the `count` pages of a record, from page p on, which held no part, only the first n hold theirs: each has its place and the count of pages in its header
pub record IsHalfWritten (was now : ℕ → Option Part) (p count n : ℕ) : Type 0 where
  pub half : n < count
  pub others : (q : ℕ) → (q < p) ⊎ (p + count ≤ q) → now q ≡ was q
  pub blank : (m : ℕ) → m < count → was (p + m) ≡ None
  pub done : (m : ℕ) → m < n → (part : Part) × (now (p + m) ≡ Some part) × (part.head.index ≡ m) × (part.head.count ≡ count)
  pub rest : (m : ℕ) → n ≤ m → m < count → now (p + m) ≡ None

-- a record of which pages are missing changes nothing: the newest one is what it was
abbrev pub HalfChangesNothing : Type 0
HalfChangesNothing = (g : Geometry) (was now : ℕ → Option Part) (p count n : ℕ) → IsHalfWritten was now p count n → newest_among g now ≡ newest_among g was

-- all pages of a record stand from page p on, in one block of the anchors, where no part was; this is its first header
pub record IsWhollyWritten (g : Geometry) (was now : ℕ → Option Part) (p : ℕ) (first : PageHead) : Type 0 where
  pub within : p < ANCHORS * g.pages
  pub begins : head_at now p ≡ Some first
  pub some : 0 < first.count
  pub one_block : p % g.pages + first.count ≤ g.pages
  pub others : (q : ℕ) → (q < p) ⊎ (p + first.count ≤ q) → now q ≡ was q
  pub blank : (m : ℕ) → m < first.count → was (p + m) ≡ None
  pub done : (m : ℕ) → m < first.count → is_part g first m (head_at now (p + m)) ≡ true

-- a record whose pages all stand is the newest, where all others were older
abbrev pub WholeIsNewest : Type 0
WholeIsNewest = (g : Geometry) (was now : ℕ → Option Part) (p : ℕ) (first : PageHead) → IsWhollyWritten g was now p first
    → ((q : ℕ) (head : PageHead) → q < ANCHORS * g.pages → record_head g was q ≡ Some head → head.sequence < first.sequence)
    → newest_at g now ≡ Some (record { page = p; head = first })

-- What the first pages of records tell of the sizes of a flash.
use Rattle.std.specs.Prelude.{◌≡◌, ℕ, ◌*◌, ◌<◌, ◌≤◌, ◌==◌, nat_lt, Option, Some, None, List, length, if◌then◌else◌}
use Rattle.byteorder.specs.Endian.{little_from}
use Rattle.fs_types.specs.declared.limits.TheConstants.{ANCHORS}
use Rattle.flash_model.specs.Device.{Device, Page, erased, bytes_of, unreadable}
use Rattle.flash_model.specs.declared.geometry.Geometry.{Geometry}
use Rattle.record_format.specs.Pages.{page_head_of}
use Rattle.record_format.specs.declared.page_head.PageHead.{PageHead}
use Rattle.image_sizes.specs.declared.record_sizes.FirstPage.{FirstPage}

-- the sizes that a first page tells: they follow its header of 20 bytes and the format
abbrev pub sizes_in : List ℕ → Geometry
sizes_in page = record { page = little_from 24 4 page; pages = little_from 28 4 page; blocks = little_from 32 4 page }

-- what a page tells that begins with this header
abbrev pub told_by : Option PageHead → List ℕ → Option FirstPage
told_by None page = None
told_by (Some head) page = if head.index == 0 then Some (record { sequence = head.sequence; sizes = sizes_in page }) else None

-- what the bytes of a page tell; none where there are fewer than those of the header and the sizes
abbrev pub first_in : List ℕ → Option FirstPage
first_in page = if nat_lt (length page) 36 then None else told_by (page_head_of page) page

-- what a page tells, if it is the first one of a record
abbrev pub first_page : Page → Option FirstPage
first_page erased = None
first_page (bytes_of page) = first_in page
first_page unreadable = None

-- the one of greater sequence, the earlier one of two that are equal
abbrev pub newer : Option FirstPage → Option FirstPage → Option FirstPage
newer None next = next
newer (Some old) None = Some old
newer (Some old) (Some new) = if nat_lt old.sequence new.sequence then Some new else Some old

-- it stands on one of the first n pages, and none of these has a greater sequence; or there is none
abbrev pub IsNewest : (ℕ → Page) → ℕ → Option FirstPage → Type 0
IsNewest pages n None = (p : ℕ) → p < n → first_page (pages p) ≡ None
IsNewest pages n (Some newest) = ((p : ℕ) × (p < n) × (first_page (pages p) ≡ Some newest))
    × ((p : ℕ) (other : FirstPage) → p < n → first_page (pages p) ≡ Some other → other.sequence ≤ newest.sequence)

-- the sizes that the newest first page on the anchors tells
abbrev pub TellsNewest : Device → Option Geometry → Type 0
TellsNewest d None = IsNewest d.pages (ANCHORS * d.geometry.pages) None
TellsNewest d (Some sizes) = (newest : FirstPage) × IsNewest d.pages (ANCHORS * d.geometry.pages) (Some newest) × (newest.sizes ≡ sizes)

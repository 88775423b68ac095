-- Records on the anchors, the first eight blocks of a flash: their pages, which are valid, and the newest one.
use Rattle.std.specs.Prelude.{ℕ, zero, suc, ◌+◌, ◌-◌, ◌*◌, ◌/◌, ◌%◌, Bool, true, false, ◌&&◌, ◌==◌, nat_lt, nat_le, Option, Some, None, List, [], ◌++◌, if◌then◌else◌}
use Rattle.std.specs.Option.{option_map, option_and_then}
use Rattle.fs_types.specs.declared.limits.TheConstants.{ANCHORS}
use Rattle.flash_model.specs.declared.geometry.Geometry.{Geometry}
use Rattle.flash_model.specs.Device.{Page, erased, bytes_of, unreadable}
use Rattle.record_format.specs.Pages.{head_size, page_head_of, used_bytes}
use Rattle.record_format.specs.declared.page_head.PageHead.{PageHead}
use Rattle.anchors.specs.declared.best.Found.{Found}
use Rattle.anchors.specs.declared.best.Best.{Best}

-- a page of a record: its header, and the payload bytes that it holds
pub record Part : Type 0 where
  pub head : PageHead
  pub bytes : List ℕ

abbrev pub part_of : Page → Option Part
part_of erased = None
part_of (bytes_of page) = option_map (λ head. record { head = head; bytes = used_bytes head page }) (page_head_of page)
part_of unreadable = None

-- the parts on the anchors, by page; other pages hold none
abbrev pub parts_on : Geometry → (ℕ → Page) → ℕ → Option Part
parts_on g pages p = if nat_lt (p / g.pages) ANCHORS then part_of (pages p) else None

abbrev pub head_at : (ℕ → Option Part) → ℕ → Option PageHead
head_at parts p = option_map (λ part. part.head) (parts p)

-- the payload bytes that a page has room for
abbrev pub room : Geometry → ℕ
room g = g.page - head_size

-- the n-th page of `count` is filled: each but the last has all that it has room for, and the last at least one byte
abbrev pub is_filled : Geometry → ℕ → ℕ → ℕ → Bool
is_filled g count n used = if n + 1 == count then nat_lt 0 used && nat_le used (room g) else used == room g

-- a page is the n-th of the record whose first page has this header
abbrev pub is_part : Geometry → PageHead → ℕ → Option PageHead → Bool
is_part g first n None = false
is_part g first n (Some head) = (head.sequence == first.sequence) && ((head.count == first.count) && ((head.index == n) && is_filled g first.count n head.used))

-- so many pages from the n-th on are those of the record that begins at page p with this header
unfoldable pub are_parts : Geometry → (ℕ → Option Part) → ℕ → PageHead → ℕ → ℕ → Bool
are_parts g parts p first n zero = true
are_parts g parts p first n (suc others) = is_part g first n (head_at parts (p + n)) && are_parts g parts p first (n + 1) others

-- a valid record begins at page p with this header: all its pages follow in one block
abbrev pub is_valid_record : Geometry → (ℕ → Option Part) → ℕ → PageHead → Bool
is_valid_record g parts p first = nat_lt 0 first.count && (nat_le (p % g.pages + first.count) g.pages && are_parts g parts p first 0 first.count)

-- the header of the valid record that begins at page p
abbrev pub record_head : Geometry → (ℕ → Option Part) → ℕ → Option PageHead
record_head g parts p = option_and_then (λ first. if is_valid_record g parts p first then Some first else None) (head_at parts p)

-- one more record
abbrev pub considered_with : Best → Option Found → ℕ → PageHead → Best
considered_with best None p head = record { found = Some (record { page = p; head = head }); twice = false }
considered_with best (Some old) p head =
    if nat_lt old.head.sequence head.sequence then record { found = Some (record { page = p; head = head }); twice = false }
    else if old.head.sequence == head.sequence then record { found = best.found; twice = true }
    else best

abbrev pub considered : Best → ℕ → Option PageHead → Best
considered best p None = best
considered best p (Some head) = considered_with best best.found p head

-- of the records that begin before page n
unfoldable pub best_below : Geometry → (ℕ → Option Part) → ℕ → Best
best_below g parts zero = record { found = None; twice = false }
best_below g parts (suc p) = considered (best_below g parts p) p (record_head g parts p)

-- of all records on the anchors
abbrev pub best_on : Geometry → (ℕ → Option Part) → Best
best_on g parts = best_below g parts (ANCHORS * g.pages)

-- where the newest record begins: none where there is none, or two have the greatest sequence
abbrev pub newest_at : Geometry → (ℕ → Option Part) → Option Found
newest_at g parts = if (best_on g parts).twice then None else (best_on g parts).found

-- the greatest sequence of a valid record on the pages, 0 where none is valid
abbrev pub sequence_of : Option Found → ℕ
sequence_of None = 0
sequence_of (Some found) = found.head.sequence

-- how many pages a record has, 0 where there is none
abbrev pub pages_of : Option Found → ℕ
pages_of None = 0
pages_of (Some found) = found.head.count

abbrev pub greatest_on : Geometry → (ℕ → Page) → ℕ
greatest_on g pages = sequence_of (best_on g (parts_on g pages)).found

-- the payload bytes of so many pages from the n-th on
abbrev pub part_bytes : Option Part → List ℕ
part_bytes None = []
part_bytes (Some part) = part.bytes

unfoldable pub bytes_from : Geometry → (ℕ → Option Part) → ℕ → ℕ → ℕ → List ℕ
bytes_from g parts p n zero = []
bytes_from g parts p n (suc others) = part_bytes (parts (p + n)) ++ bytes_from g parts p (n + 1) others

-- the payload of the record that is found at a place
abbrev pub payload_of : Geometry → (ℕ → Option Part) → Found → List ℕ
payload_of g parts found = bytes_from g parts found.page 0 found.head.count

-- a record's sequence and payload
pub record RecordBytes : Type 0 where
  pub sequence : ℕ
  pub payload : List ℕ

-- the newest record among the parts
abbrev pub newest_among : Geometry → (ℕ → Option Part) → Option RecordBytes
newest_among g parts = option_map (λ found. record { sequence = found.head.sequence; payload = payload_of g parts found }) (newest_at g parts)

-- the payload bytes of a part whose page holds these bytes
abbrev pub held_bytes : Option PageHead → List ℕ → List ℕ
held_bytes None page = []
held_bytes (Some head) page = used_bytes head page

-- the newest record on a flash
abbrev pub newest_on : Geometry → (ℕ → Page) → Option RecordBytes
newest_on g pages = newest_among g (parts_on g pages)

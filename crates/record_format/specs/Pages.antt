-- The header of a page of a record: 20 bytes; numbers are little-endian.
use Rattle.std.specs.Prelude.{ℕ, ◌+◌, ◌-◌, ◌<◌, ◌^◌, ◌==◌, Option, Some, None, List, ◌++◌, length, take, drop, replicate, codes, if◌then◌else◌}
use Rattle.byteorder.specs.Endian.{little_from, little_bytes}
use Rattle.record_format.specs.declared.page_head.PageHead.{PageHead}

-- the bytes of the header
abbrev pub head_size : ℕ
head_size = 20

-- a header's magic, as a number
abbrev pub record_magic : ℕ
record_magic = little_from 0 4 (codes "UFCR")

-- the header that a page begins with: magic, sequence, index of the page, count of pages, used bytes; none without the magic
abbrev pub page_head_of : List ℕ → Option PageHead
page_head_of page =
    if little_from 0 4 page == record_magic
    then Some (record { sequence = little_from 4 8 page; index = little_from 12 2 page; count = little_from 14 2 page; used = little_from 16 2 page })
    else None

-- the spelling of a header; its last two bytes are not looked at, and written as 0
abbrev pub head_bytes : PageHead → List ℕ
head_bytes head = codes "UFCR" ++ (little_bytes 8 head.sequence ++ (little_bytes 2 head.index ++ (little_bytes 2 head.count ++ (little_bytes 2 head.used ++ little_bytes 2 0))))

-- the numbers of a header fit their fields
pub record HeadFits (head : PageHead) : Type 0 where
  pub sequence : head.sequence < 2 ^ 64
  pub index : head.index < 2 ^ 16
  pub count : head.count < 2 ^ 16
  pub used : head.used < 2 ^ 16

-- the payload bytes that a page with this header holds
abbrev pub used_bytes : PageHead → List ℕ → List ℕ
used_bytes head page = take head.used (drop head_size page)

-- a page of so many bytes with this header and payload; the bytes past it are 0
abbrev pub record_page_bytes : ℕ → PageHead → List ℕ → List ℕ
record_page_bytes size head payload = head_bytes head ++ (payload ++ replicate (size - (head_size + length payload)) 0)

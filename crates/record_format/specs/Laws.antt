-- The laws of payloads and of pages.
use Rattle.std.specs.Prelude.{◌≡◌, ℕ, ◌+◌, ◌<◌, ◌≤◌, ◌^◌, true, Some, Ok, List, length}
use Rattle.flash_model.specs.declared.geometry.Geometry.{Geometry}
use Rattle.record_format.specs.Payloads.{is_record, FitsFields, spelling, payload_bytes, meaning_of, payload_at, longest}
use Rattle.record_format.specs.Pages.{HeadFits, page_head_of, head_size, used_bytes, record_page_bytes}
use Rattle.record_format.specs.declared.page_head.PageHead.{PageHead}
use Rattle.record_format.specs.declared.record.Record.{Record}

-- the payload says this record: it is a spelling of it, with some numbers that are not looked at
pub record Says (bytes : List ℕ) (r : Record) : Type 0 where
  pub lawful : is_record r ≡ true
  pub one : ℕ
  pub two : ℕ
  pub spelled : bytes ≡ spelling one two r

-- what a payload means it says
abbrev pub MeaningSays : Type 0
MeaningSays = (sequence : ℕ) (bytes : List ℕ) (r : Record) → meaning_of sequence bytes ≡ Some r → Says bytes r × (r.sequence ≡ sequence)

-- what a payload says it means, where the numbers fit their fields
abbrev pub SaysMeaning : Type 0
SaysMeaning = (bytes : List ℕ) (r : Record) → FitsFields r → (says : Says bytes r) → says.one < 256 → says.two < 256 ^ 2 → meaning_of r.sequence bytes ≡ Some r

-- a payload says at most one record with a sequence
abbrev pub OneMeaning : Type 0
OneMeaning = (bytes : List ℕ) (r s : Record) → FitsFields r → FitsFields s → (a : Says bytes r) (b : Says bytes s) → a.one < 256 → b.one < 256 → a.two < 256 ^ 2 → b.two < 256 ^ 2
    → r.sequence ≡ s.sequence → r ≡ s

-- what is written is read, on a flash of its sizes
abbrev pub WrittenIsRead : Type 0
WrittenIsRead = (r : Record) → is_record r ≡ true → FitsFields r → payload_at r.geometry r.sequence (payload_bytes r) ≡ Ok r

-- what a payload means on a flash is a lawful record of its sizes
abbrev pub MeansItsFlash : Type 0
MeansItsFlash = (g : Geometry) (sequence : ℕ) (bytes : List ℕ) (r : Record) → payload_at g sequence bytes ≡ Ok r → (r.geometry ≡ g) × (is_record r ≡ true)

-- a payload is not empty and has at most 3,176 bytes
abbrev pub IsShort : Type 0
IsShort = (r : Record) → is_record r ≡ true → FitsFields r → (40 ≤ length (payload_bytes r)) × (length (payload_bytes r) ≤ longest)

-- a page that is written has its header, its payload and its size
abbrev pub PageIsRead : Type 0
PageIsRead = (size : ℕ) (head : PageHead) (payload : List ℕ) → HeadFits head → head.used ≡ length payload → head_size + length payload ≤ size
    → (page_head_of (record_page_bytes size head payload) ≡ Some head) × (used_bytes head (record_page_bytes size head payload) ≡ payload) × (length (record_page_bytes size head payload) ≡ size)

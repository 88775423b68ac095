-- The bytes that a checklist programs into a page.
use Rattle.std.specs.Prelude.{◌≡◌, ℕ, ◌+◌, ◌*◌, ◌/◌, ◌%◌, ◌<◌, List, length, slice_index}
use Rattle.flash_model.specs.Device.{Page, erased, bytes_of, unreadable}

-- the byte at a place of a page: no two places near each other, no two pages near each other and no two rounds have the same ones
abbrev pub pattern_byte : ℕ → ℕ → ℕ → ℕ
pattern_byte page round i = (page * 37 + page / 256 + round + i + i / 256) % 256

-- the bytes of a page in a round
abbrev pub IsPattern : ℕ → ℕ → List ℕ → Type 0
IsPattern page round bytes = (i : ℕ) → i < length bytes → slice_index bytes i ≡ pattern_byte page round i

-- a page of so many bytes holds those of a round
abbrev pub Holds : ℕ → ℕ → ℕ → Page → Type 0
Holds size page round erased = ⊥
Holds size page round (bytes_of bytes) = (length bytes ≡ size) × IsPattern page round bytes
Holds size page round unreadable = ⊥

-- The pages of a record, as they are programmed on an anchor.
use Rattle.std.specs.Prelude.{◌≡◌, ◌⊎◌, ℕ, ◌+◌, ◌*◌, ◌<◌, ◌≤◌, true, false, None, List, length, take, drop, Result, Ok, Err}
use Rattle.flash_model.specs.declared.geometry.Geometry.{Geometry}
use Rattle.flash_model.specs.declared.flash.DevFault.{DevFault}
use Rattle.flash_model.specs.declared.flash.DevFault.TheVariants.{Failed, PowerCut}
use Rattle.flash_model.specs.Device.{Device, Page, bytes_of}
use Rattle.record_format.specs.Pages.{record_page_bytes}
use Rattle.record_format.specs.declared.page_head.PageHead.{PageHead}
use Rattle.anchors.specs.Anchored.{AsksInTurn}
use Rattle.anchors.specs.Parts.{room, part_of}

-- the piece of a payload that the n-th page holds, and the header of that page
abbrev pub piece : Geometry → List ℕ → ℕ → List ℕ
piece g payload n = take (room g) (drop (n * room g) payload)

abbrev pub head_for : Geometry → ℕ → List ℕ → ℕ → ℕ → PageHead
head_for g sequence payload count n = record { sequence = sequence; index = n; count = count; used = length (piece g payload n) }

abbrev pub bytes_for : Geometry → ℕ → List ℕ → ℕ → ℕ → List ℕ
bytes_for g sequence payload count n = record_page_bytes g.page (head_for g sequence payload count n) (piece g payload n)

-- a payload fills so many pages: each but the last whole, and at least one byte of the last
pub record Fills (g : Geometry) (payload : List ℕ) (count : ℕ) : Type 0 where
  pub some : 0 < count
  pub low : count * room g < length payload + room g
  pub high : length payload ≤ count * room g

-- of the `count` pages of a record, from page p on, those before the n-th are programmed; the others hold no part
pub record HasRecordPages (g : Geometry) (old new : ℕ → Page) (p sequence : ℕ) (payload : List ℕ) (count n : ℕ) : Type 0 where
  pub others : (q : ℕ) → (q < p) ⊎ (p + count ≤ q) → new q ≡ old q
  pub done : (m : ℕ) → m < n → new (p + m) ≡ bytes_of (bytes_for g sequence payload count m)
  pub rest : (m : ℕ) → n ≤ m → m < count → part_of (new (p + m)) ≡ None

-- how many pages are programmed, by the answer
abbrev pub EndsAt : ℕ → ℕ → Result (Unit {0}) DevFault → Type 0
EndsAt count n (Ok _) = n ≡ count
EndsAt count n (Err Failed) = n < count
EndsAt count n (Err PowerCut) = n ≤ count

-- a program of each page was asked for, none after one that failed
abbrev pub TriesPages : Device → Device → ℕ → Result (Unit {0}) DevFault → Type 0
TriesPages old new count (Ok _) = AsksInTurn old new count true
TriesPages old new count (Err Failed) = AsksInTurn old new count false
TriesPages old new count (Err PowerCut) = Unit {0}

-- What is asked of a serial NOR part of the dense layout beside what any part is asked for.
use Rattle.std.specs.Prelude.{◌≡◌, ℕ, ◌+◌, ◌*◌, ◌<◌, List, length, slice_index, false, Result, Ok, Err}
use Rattle.flash_model.specs.declared.flash.DevFault.{DevFault}
use Rattle.flash_model.specs.declared.flash.DevFault.TheVariants.{Failed, PowerCut}
use Rattle.nor_part.specs.Part.{is_blank}
use Rattle.dense_nor.specs.Marks.{entry_of, mark_of, BeginsMark}

-- 0 is given for the first bytes at a place
abbrev pub GivesZeros : ℕ → List ℕ → ℕ → Type 0
GivesZeros count bytes i = (k : ℕ) → k < count → (8 * i + k < length bytes) × (slice_index bytes (8 * i + k) ≡ 0)

-- at a place of a page stands no mark with the sum of a page
abbrev pub HasNoMark : (ℕ → List ℕ) → ℕ → ℕ → Type 0
HasNoMark held m i = (d : ℕ) → ¬ (entry_of (held m) i ≡ mark_of (held d))

-- where no mark began, none with the sum of a page stands
abbrev pub MakesNoMark : (ℕ → List ℕ) → (ℕ → List ℕ) → ℕ → ℕ → Type 0
MakesNoMark old new m i = ¬ BeginsMark (entry_of (old m) i) → HasNoMark new m i

-- a failed program of 0 over the eight bytes at a place leaves them neither blank nor a mark
abbrev pub LeavesTrace : (ℕ → List ℕ) → ℕ → ℕ → Type 0
LeavesTrace new m i = (is_blank (entry_of (new m) i) ≡ false) × HasNoMark new m i

-- what is left at a place where the mark of a page of these bytes was programmed: it stands where that was done, and where it failed
-- what tells that the page is spoilt
abbrev pub AfterMark : List ℕ → (ℕ → List ℕ) → ℕ → ℕ → Result (Unit {0}) DevFault → Type 0
AfterMark bytes new m i (Ok _) = entry_of (new m) i ≡ mark_of bytes
AfterMark bytes new m i (Err Failed) = LeavesTrace new m i
AfterMark bytes new m i (Err PowerCut) = Unit {0}

-- What a serial NOR part holds, and what each operation on it may leave.
use Rattle.std.specs.Prelude.{◌≡◌, ◌≢◌, ℕ, ◌/◌, ◌<◌, ◌==◌, List, length, slice_index, Bool, true, bit_and, Result, Ok, Err}
use Rattle.std.specs.List.{list_all}
use Rattle.flash_model.specs.declared.flash.DevFault.{DevFault}
use Rattle.flash_model.specs.declared.flash.DevFault.TheVariants.{Failed, PowerCut}

-- each byte is as an erase leaves it
abbrev pub is_blank : List ℕ → Bool
is_blank page = list_all (λ byte. byte == 255) page

-- the first bytes of a page are programmed: each keeps the bits that the new one has
abbrev pub HasCleared : List ℕ → List ℕ → List ℕ → Type 0
HasCleared old bytes new = (i : ℕ) → i < length bytes → slice_index new i ≡ bit_and (slice_index old i) (slice_index bytes i)

-- a byte that is not given, or is given as 255, stays
abbrev pub KeepsOthers : List ℕ → List ℕ → List ℕ → Type 0
KeepsOthers old bytes new = (i : ℕ) → (i < length bytes → slice_index bytes i ≡ 255) → slice_index new i ≡ slice_index old i

-- a program was not done: a blank byte that was to keep a bit has one
abbrev pub HasTorn : List ℕ → List ℕ → List ℕ → Type 0
HasTorn old bytes new = (i : ℕ) → i < length bytes → slice_index old i ≡ 255 → slice_index bytes i ≢ 0 → slice_index new i ≢ 0

-- a single blank byte that was to lose its upper four bits at least: where that failed it has lost one, and is not as wanted
abbrev pub LeavesTrace : List ℕ → List ℕ → List ℕ → Type 0
LeavesTrace old bytes new = length bytes ≡ 1 → slice_index old 0 ≡ 255 → slice_index bytes 0 < 16
    → (slice_index new 0 ≢ 255) × (slice_index new 0 ≢ slice_index bytes 0)

-- the programmed page
abbrev pub AfterPageProgram : List ℕ → List ℕ → List ℕ → Result (Unit {0}) DevFault → Type 0
AfterPageProgram old bytes new (Ok _) = HasCleared old bytes new
AfterPageProgram old bytes new (Err Failed) = HasTorn old bytes new × LeavesTrace old bytes new
AfterPageProgram old bytes new (Err PowerCut) = HasTorn old bytes new

-- a page program changes one page
pub record ProgramsPage (old : ℕ → List ℕ) (n : ℕ) (bytes : List ℕ) (new : ℕ → List ℕ) (result : Result (Unit {0}) DevFault) : Type 0 where
  pub others : (m : ℕ) → m ≢ n → new m ≡ old m
  pub own : AfterPageProgram (old n) bytes (new n) result

-- a page of the erased sector: blank where done, else a byte that had a bit has one
abbrev pub AfterSectorErase : List ℕ → List ℕ → Result (Unit {0}) DevFault → Type 0
AfterSectorErase old new (Ok _) = is_blank new ≡ true
AfterSectorErase old new (Err _) = (i : ℕ) → i < length old → slice_index old i ≢ 0 → slice_index new i ≢ 0

-- a sector erase changes the sixteen pages of one sector
pub record ErasesSector (old : ℕ → List ℕ) (s : ℕ) (new : ℕ → List ℕ) (result : Result (Unit {0}) DevFault) : Type 0 where
  pub others : (m : ℕ) → m / 16 ≢ s → new m ≡ old m
  pub own : (m : ℕ) → m / 16 ≡ s → AfterSectorErase (old m) (new m) result

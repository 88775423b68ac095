-- Raw flash, and what each operation on it may leave.
use Rattle.std.specs.Prelude.{◌≡◌, ◌≢◌, ◌⊎◌, ℕ, ◌+◌, ◌/◌, List, Bool, true, false, if◌then◌else◌, Result, Ok, Err}
use Rattle.flash_model.specs.declared.geometry.Geometry.{Geometry}
use Rattle.flash_model.specs.declared.flash.DevFault.{DevFault}
use Rattle.flash_model.specs.declared.flash.DevFault.TheVariants.{Failed, PowerCut}
use Rattle.flash_model.specs.declared.flash.PageState.{PageState}
use Rattle.flash_model.specs.declared.flash.PageState.TheVariants.{Erased, Data, Unreadable}

-- what a page holds
pub data Page : Type 0 where
  erased : Page
  bytes_of : List ℕ → Page
  unreadable : Page

-- a flash: its sizes, what each page holds, whether power is on, the worn blocks, and what happened so far
pub record Device : Type 0 where
  pub geometry : Geometry
  pub pages : ℕ → Page
  pub powered : Bool
  pub worn : ℕ → Bool
  pub failed_reads : ℕ
  pub failures : ℕ
  pub cuts : ℕ
  pub operations : ℕ

-- the block of a page
abbrev pub block_of : Device → ℕ → ℕ
block_of d p = p / d.geometry.pages

-- one more failure where the operation failed
abbrev pub failed : {T : Type 0} → Result T DevFault → ℕ
failed (Ok _) = 0
failed (Err Failed) = 1
failed (Err PowerCut) = 0

-- one more cut where power went
abbrev pub cut : {T : Type 0} → Result T DevFault → ℕ
cut (Ok _) = 0
cut (Err Failed) = 0
cut (Err PowerCut) = 1

-- whether power is on after the answer
abbrev pub power_after : {T : Type 0} → Result T DevFault → Bool
power_after (Ok _) = true
power_after (Err Failed) = true
power_after (Err PowerCut) = false

-- what every operation does to power and counts; with the power off it changes nothing
pub record Operates {T : Type 0} (old new : Device) (result : Result T DevFault) (reads fails : ℕ) : Type 0 where
  pub geometry : new.geometry ≡ old.geometry
  pub power : new.powered ≡ power_after result
  pub was_on : power_after result ≡ true → old.powered ≡ true
  pub off : old.powered ≡ false → new ≡ old
  pub failed_reads : new.failed_reads ≡ old.failed_reads + reads
  pub failures : new.failures ≡ old.failures + fails
  pub cuts : new.cuts ≡ old.cuts + (if old.powered then cut result else 0)
  pub operations : new.operations ≡ old.operations + (if old.powered then 1 else 0)

-- the state that a read reports, and the buffer after it
abbrev pub ReportsPage : Page → List ℕ → List ℕ → Result PageState DevFault → Type 0
ReportsPage held was now (Err _) = now ≡ was
ReportsPage held was now (Ok Erased) = (held ≡ erased) × (now ≡ was)
ReportsPage held was now (Ok Data) = held ≡ bytes_of now
ReportsPage held was now (Ok Unreadable) = (held ≡ unreadable) × (now ≡ was)

-- a read changes no page
pub record Reads (old : Device) (p : ℕ) (was : List ℕ) (new : Device) (now : List ℕ) (result : Result PageState DevFault) : Type 0 where
  pub operates : Operates old new result (failed result) 0
  pub pages : (q : ℕ) → new.pages q ≡ old.pages q
  pub worn : (b : ℕ) → new.worn b ≡ old.worn b
  pub shows : ReportsPage (old.pages p) was now result

-- a block is worn from a failure on
abbrev pub Wears : Device → Device → ℕ → Result (Unit {0}) DevFault → Type 0
Wears old new b (Ok _) = (c : ℕ) → new.worn c ≡ old.worn c
Wears old new b (Err Failed) = (new.worn b ≡ true) × ((c : ℕ) → c ≢ b → new.worn c ≡ old.worn c)
Wears old new b (Err PowerCut) = (c : ℕ) → new.worn c ≡ old.worn c

-- the programmed page: whole where done, unreadable where failed, and where power goes as it was, whole or unreadable
abbrev pub AfterProgram : Page → List ℕ → Page → Result (Unit {0}) DevFault → Type 0
AfterProgram was bytes now (Ok _) = now ≡ bytes_of bytes
AfterProgram was bytes now (Err Failed) = now ≡ unreadable
AfterProgram was bytes now (Err PowerCut) = (now ≡ was) ⊎ ((now ≡ bytes_of bytes) ⊎ (now ≡ unreadable))

-- a program writes one page
pub record Programs (old : Device) (p : ℕ) (bytes : List ℕ) (new : Device) (result : Result (Unit {0}) DevFault) : Type 0 where
  pub operates : Operates old new result 0 (failed result)
  pub others : (q : ℕ) → q ≢ p → new.pages q ≡ old.pages q
  pub page : AfterProgram (old.pages p) bytes (new.pages p) result
  pub worn : Wears old new (block_of old p) result

-- a page of the erased block: erased where done, else as it was, erased or unreadable
abbrev pub AfterErase : Page → Page → Result (Unit {0}) DevFault → Type 0
AfterErase was now (Ok _) = now ≡ erased
AfterErase was now (Err _) = (now ≡ was) ⊎ ((now ≡ erased) ⊎ (now ≡ unreadable))

-- an erase clears the pages of one block
pub record Erases (old : Device) (b : ℕ) (new : Device) (result : Result (Unit {0}) DevFault) : Type 0 where
  pub operates : Operates old new result 0 (failed result)
  pub others : (p : ℕ) → block_of old p ≢ b → new.pages p ≡ old.pages p
  pub own : (p : ℕ) → block_of old p ≡ b → AfterErase (old.pages p) (new.pages p) result
  pub worn : Wears old new b result

-- what a program or an erase in a block leaves beside the pages, by its answer, where power was on
pub record LeavesBeside (old : Device) (b : ℕ) (new : Device) (result : Result (Unit {0}) DevFault) : Type 0 where
  pub rest : new ≡ record old { powered = power_after result; worn = new.worn; failures = old.failures + failed result; cuts = old.cuts + cut result }
  pub worn : Wears old new b result

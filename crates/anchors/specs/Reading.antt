-- Where the pages of an anchor end, and why a read of one is refused.
use Rattle.std.specs.Prelude.{◌≡◌, ◌≢◌, ℕ, ◌+◌, ◌*◌, ◌<◌, ◌≤◌, false, List, length, Result, IfErr}
use Rattle.fs_types.specs.declared.fault.Fault.{Fault}
use Rattle.fs_types.specs.declared.fault.Fault.TheVariants.{ReadFailed, PowerCut}
use Rattle.flash_model.specs.declared.geometry.Geometry.{Geometry}
use Rattle.flash_model.specs.Geometry.{IsGeometry}
use Rattle.flash_model.specs.Device.{Device, Page, erased}
use Rattle.flash_model.specs.Reading.{OnlyReads}

-- of the first `count` pages of an anchor those from a place on are erased, and the one before it is not
pub record IsEnd (g : Geometry) (pages : ℕ → Page) (anchor count place : ℕ) : Type 0 where
  pub within : place ≤ count
  pub blank : (m : ℕ) → place ≤ m → m < count → pages (anchor * g.pages + m) ≡ erased
  pub last : (m : ℕ) → place ≡ m + 1 → pages (anchor * g.pages + m) ≢ erased

-- a read is refused only because it failed, or because power is off
abbrev pub PageReadCause : Device → Device → Fault → Type 0
PageReadCause old new ReadFailed = old.failed_reads < new.failed_reads
PageReadCause old new PowerCut = new.powered ≡ false
PageReadCause old new _ = ⊥

-- pages may be read: the flash has these sizes, and the buffer is as long as a page
pub record MayRead (d : Device) (g : Geometry) (buffer : List ℕ) : Type 0 where
  pub same : d.geometry ≡ g
  pub lawful : IsGeometry g
  pub whole : length buffer ≡ g.page

-- so many reads at most and nothing else came between two states, whatever was answered
pub record ReadsFew {T : Type 0} (old new : Device) (n : ℕ) (result : Result T Fault) : Type 0 where
  pub only_reads : OnlyReads old new
  pub operations : new.operations ≤ old.operations + n
  pub why : IfErr result (PageReadCause old new)

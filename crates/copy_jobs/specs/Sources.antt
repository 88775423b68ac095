-- What is copied of a flash.
use Rattle.std.specs.Prelude.{◌≡◌, ◌⊎◌, ◌==◌, ◌&&◌, Bool, true, false, Option, Some, None, vec_len}
use Rattle.fs_types.specs.declared.fault.Fault.{Fault}
use Rattle.flash_model.specs.Reading.{OnlyReads}
use Rattle.flash_simulation.specs.Simulation.{device_of}
use Rattle.flash_simulation.specs.declared.sim_flash.SimFlash.{SimFlash}
use Rattle.image_jobs.specs.Failures.{of_system}
use Rattle.image_jobs.specs.declared.failure.Failure.{Failure}
use Rattle.salvages.specs.Remade.{IsRestOf, UnmadeCause}
use Rattle.salvages.specs.Salvages.{IsSalvageOf, SalvageCause}
use Rattle.salvages.specs.declared.losses.LossFault.{LossFault}
use Rattle.salvages.specs.declared.making.Rest.{Rest}
use Rattle.salvages.specs.declared.salvaged.Salvaged.{Salvaged}
use Rattle.copy_jobs.specs.Copied.{sizes_of}
use Rattle.copy_jobs.specs.Failures.{of_untold}
use Rattle.copy_jobs.specs.Lefts.{IsRestFlash, IsUnformed}
use Rattle.copy_jobs.specs.declared.asked_sizes.AskedSizes.{AskedSizes}
use Rattle.copy_jobs.specs.declared.source.Source.{Source}

-- a flash that was salvaged, with what comes after it; it is whole where no version and no checkpoint is lost
abbrev pub source_in : Salvaged → Option SimFlash → Source
source_in found rest = record { flash = found.flash; rest = rest; is_whole = (vec_len found.lost_versions == 0) && (vec_len found.lost_checkpoints == 0) }

-- a flash that has nothing but what is left
abbrev pub source_alone : SimFlash → Source
source_alone flash = record { flash = flash; rest = None; is_whole = false }

-- what is saved of a flash, and after it what is left of its present version
pub record IsSaved (asked : AskedSizes) (flash : SimFlash) (source : Source) : Type 0 where
  pub read : SimFlash
  pub reads : OnlyReads (device_of flash) (device_of read)
  pub found : Salvaged
  pub saved : IsSalvageOf (device_of read) found
  pub rest : IsRestFlash (device_of flash) (sizes_of asked (device_of flash).geometry) source.rest
  pub is : source ≡ source_in found source.rest

-- nothing is saved of a flash but what is left of its present version
pub record IsAlone (asked : AskedSizes) (flash : SimFlash) (source : Source) : Type 0 where
  pub read : SimFlash
  pub reads : OnlyReads (device_of flash) (device_of read)
  pub left : SimFlash
  pub none : SalvageCause (device_of read) (device_of left) Fault.Damaged
  pub rest : IsRestFlash (device_of flash) (sizes_of asked (device_of flash).geometry) (Some source.flash)
  pub is : source ≡ source_alone source.flash

-- all of a flash is copied; or where it is to be salvaged what is saved of it, or what is left
abbrev pub IsSourceOf : AskedSizes → Bool → SimFlash → Source → Type 0
IsSourceOf asked false flash source = source ≡ record { flash = flash; rest = None; is_whole = true }
IsSourceOf asked true flash source = IsSaved asked flash source ⊎ IsAlone asked flash source

-- nothing is saved of it
pub record IsUnsaved (flash : SimFlash) (failure : Failure) : Type 0 where
  pub read : SimFlash
  pub reads : OnlyReads (device_of flash) (device_of read)
  pub left : SimFlash
  pub fault : Fault
  pub cause : SalvageCause (device_of read) (device_of left) fault
  pub is : failure ≡ of_system fault

-- what is left of it is not made
pub record IsUnmade (asked : AskedSizes) (flash : SimFlash) (failure : Failure) : Type 0 where
  pub rest : Rest
  pub is_rest : IsRestOf (device_of flash) (Some rest)
  pub cause : IsUnformed (sizes_of asked (device_of flash).geometry) rest failure

-- it is not known what is left
abbrev pub IsUnknown : SimFlash → Failure → Type 0
IsUnknown flash failure = (left : SimFlash) × (why : LossFault) × UnmadeCause (device_of flash) (device_of left) why × (failure ≡ of_untold why)

-- why nothing is copied: it is to be salvaged, and it is not known what is left, nothing is saved, or what is left is not made
abbrev pub UnsalvagedCause : AskedSizes → Bool → SimFlash → Failure → Type 0
UnsalvagedCause asked false flash failure = ⊥
UnsalvagedCause asked true flash failure = IsUnknown flash failure ⊎ (IsUnsaved flash failure ⊎ IsUnmade asked flash failure)

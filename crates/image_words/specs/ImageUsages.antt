-- How a job ends that tells how many blocks what stands in a directory takes.
use Rattle.std.specs.Prelude.{◌≡◌, ◌⊎◌, ℕ, Option, Result, Ok, Err, List, ◌++◌, take, codes, decimal}
use Rattle.std.specs.Io.KnownBytes.{Appends}
use Rattle.std.specs.List.{flat_map}
use Rattle.fs_types.specs.Names.{Path}
use Rattle.fs_types.specs.declared.call.View.{View}
use Rattle.flash_simulation.specs.Simulation.{device_of}
use Rattle.flash_simulation.specs.declared.sim_flash.SimFlash.{SimFlash}
use Rattle.image_jobs.specs.Failures.{of_system, of_refusal}
use Rattle.image_jobs.specs.Images.{IsSpelledFlash, LoadCause}
use Rattle.image_jobs.specs.declared.failure.Failure.{Failure}
use Rattle.inquiries.specs.Printed.{path_text}
use Rattle.image_jobs.specs.InquiryWords.{IsMisspelled}
use Rattle.script_runs.specs.declared.scripts.Refusal.{Refusal}
use Rattle.block_usage.specs.declared.usage.Usage.{Usage}
use Rattle.block_usage.specs.declared.usage_list.EntryUsage.{EntryUsage}
use Rattle.block_usage.specs.declared.usage_list.UsageList.{UsageList}
use Rattle.block_usage.specs.UsageReports.{IsUsageReport, ReportCause}
use Rattle.block_usage.specs.declared.usage_reports.ReportFault.{ReportFault}

-- how many blocks are reached, and how many of these alone
abbrev pub counts_text : Usage → List ℕ
counts_text usage = decimal usage.blocks ++ codes " " ++ decimal usage.alone ++ codes " "

abbrev pub usage_line : EntryUsage → List ℕ
usage_line entry = counts_text entry.usage ++ path_text entry.path ++ codes "\n"

-- a line for each entry, and one for all together
abbrev pub usage_text : UsageList → List ℕ
usage_text list = flat_map usage_line list.entries.items ++ counts_text list.total ++ codes "total\n"

-- so many blocks of the flash of an image what stands at a path of a view takes
pub record AreUsagesIn (held : Option (List ℕ)) (view : View) (path : Path) (list : UsageList) : Type 0 where
  pub flash : SimFlash
  pub there : IsSpelledFlash held flash
  pub report : IsUsageReport (device_of flash) view path list

-- words spell a view and a path, and a text tells how many
pub record IsUsageText (spelled : Result (View × Path) Failure) (held : Option (List ℕ)) (text : List ℕ) : Type 0 where
  pub place : View × Path
  pub is : spelled ≡ Ok place
  pub list : UsageList
  pub are : AreUsagesIn held place.0 place.1 list
  pub told : text ≡ usage_text list

-- by why nothing is told
abbrev pub of_report : ReportFault → Failure
of_report (ReportFault.Unmounted fault) = of_system fault
of_report (ReportFault.Refused fault) = of_refusal (Refusal.Fault fault)
of_report ReportFault.TooManyBlocks = Failure.TooManyLines

-- of a flash nothing is told, for this cause, as it was left
pub record IsUnreportedIn (held : Option (List ℕ)) (view : View) (path : Path) (failure : Failure) : Type 0 where
  pub flash : SimFlash
  pub there : IsSpelledFlash held flash
  pub left : SimFlash
  pub fault : ReportFault
  pub why : ReportCause (device_of flash) view path (device_of left) fault
  pub told : failure ≡ of_report fault

-- why blocks are not counted: there is no flash, or nothing is told of it
abbrev pub UncountedCause : Option (List ℕ) → View → Path → Failure → Type 0
UncountedCause held view path failure = LoadCause held failure ⊎ IsUnreportedIn held view path failure

-- why there is no text: the words spell no view and no path, or blocks are not counted, or memory is wanted
abbrev pub UntoldCause : Result (View × Path) Failure → Option (List ℕ) → Failure → Type 0
UntoldCause spelled held failure = IsMisspelled spelled failure ⊎ ((place : View × Path) × (spelled ≡ Ok place) × UncountedCause held place.0 place.1 failure)

-- how many blocks are taken is written; or nothing is told, and nothing is written; or the output fails
abbrev pub UsageEnds : Result (View × Path) Failure → Option (List ℕ) → Result (Unit {0}) Failure → Option (List ℕ) → Option (List ℕ) → Type 0
UsageEnds spelled held (Ok done) old new = (text : List ℕ) × IsUsageText spelled held text × Appends old new text
UsageEnds spelled held (Err failure) old new = (UntoldCause spelled held failure × (new ≡ old))
    ⊎ ((text : List ℕ) × (n : ℕ) × IsUsageText spelled held text × (failure ≡ Failure.Output) × Appends old new (take n text))

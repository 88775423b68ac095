-- Opening a file, by what a look up of its path finds.
use Rattle.std.specs.Prelude.{Bool, true, false, not, ◌&&◌, nat_lt, Option, Some, None, if◌then◌else◌}
use Rattle.history_machine.specs.Descriptors.{creates, is_exclusive, truncates}
use Rattle.fs_types.specs.declared.fault.Fault.{Fault}
use Rattle.fs_types.specs.declared.fault.Fault.TheVariants.{NoEntry, IsDirectory, Exists, DirectoryFull}
use Rattle.fs_types.specs.declared.open_flags.OpenFlags.{OpenFlags}
use Rattle.directory.specs.declared.lookups.Found.{Found}
use Rattle.directory.specs.declared.lookups.Found.TheVariants.{Missing, File, Dir}

-- why what was found is not opened
abbrev pub open_refusal_of : OpenFlags → Found → Option Fault
open_refusal_of flags (Missing is_full) =
    if not (creates flags) then Some NoEntry else if is_full then Some DirectoryFull else None
open_refusal_of flags (File head size) = if creates flags && is_exclusive flags then Some Exists else None
open_refusal_of flags (Dir block) = if creates flags && is_exclusive flags then Some Exists else Some IsDirectory

-- a file that is missing is made, and one that has bytes is cut
abbrev pub changes_found : OpenFlags → Found → Bool
changes_found flags (Missing is_full) = true
changes_found flags (File head size) = truncates flags && nat_lt 0 size
changes_found flags (Dir block) = false

-- Files of one directory that are written together: what refuses each, in order.
use Rattle.std.specs.Prelude.{◌≡◌, ◌⊎◌, ℕ, ◌+◌, Bool, Option, Some, None, nat_le, if◌then◌else◌}
use Rattle.fs_types.specs.declared.limits.TheConstants.{MAX_ENTRIES}
use Rattle.fs_types.specs.declared.fault.Fault.{Fault}
use Rattle.fs_types.specs.declared.fault.Fault.TheVariants as fault
use Rattle.directory.specs.declared.lookups.Found.{Found}
use Rattle.directory.specs.declared.lookups.Found.TheVariants.{Missing, File, Dir}
use Rattle.working_state.specs.Moments.{Moment, seen_at}
use Rattle.working_state.specs.Worked.{ReadCause}

-- why what was found is no directory
abbrev pub no_directory : Found → Option Fault
no_directory (Missing is_full) = Some fault.NoEntry
no_directory (File head size) = Some fault.NotDirectory
no_directory (Dir block) = None

-- why no file is written where this was found, in a directory that has so many entries by then
abbrev pub next_place_refusal : Bool → ℕ → Found → Option Fault
next_place_refusal is_open count (Missing is_full) = if nat_le MAX_ENTRIES count then Some fault.DirectoryFull else None
next_place_refusal is_open count (File head size) = if is_open then Some fault.Busy else None
next_place_refusal is_open count (Dir block) = Some fault.IsDirectory

-- and how many it has with the file
abbrev pub count_with : ℕ → Found → ℕ
count_with count (Missing is_full) = count + 1
count_with count (File head size) = count
count_with count (Dir block) = count

-- this is the refusal, or a read was refused for its cause
abbrev pub IsRefusedBy : Option Fault → Moment → Fault → Moment → Type 0
IsRefusedBy refusal old fault new = (refusal ≡ Some fault) ⊎ ReadCause (seen_at old) fault (seen_at new)

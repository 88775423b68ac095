-- A whole file written at a path, by what a look up of the path finds.
use Rattle.std.specs.Prelude.{◌≡◌, ℕ, ◌==◌, Bool, false, Option, Some, None, List, [], if◌then◌else◌}
use Rattle.fs_types.specs.declared.fault.Fault.{Fault}
use Rattle.fs_types.specs.declared.fault.Fault.TheVariants as fault
use Rattle.nodes.specs.Bodies.{Blocks, body, IsBody}
use Rattle.directory.specs.declared.lookups.Found.{Found}
use Rattle.directory.specs.declared.lookups.Found.TheVariants.{Missing, File, Dir}

-- why no file is written where this was found; a file that is open is not replaced
abbrev pub place_refusal : Bool → Found → Option Fault
place_refusal is_open (Missing is_full) = if is_full then Some fault.DirectoryFull else None
place_refusal is_open (File head size) = if is_open then Some fault.Busy else None
place_refusal is_open (Dir block) = Some fault.IsDirectory

-- a file was found that has so many bytes
abbrev pub is_as_long : Found → ℕ → Bool
is_as_long (Missing is_full) count = false
is_as_long (File head size) count = size == count
is_as_long (Dir block) count = false

-- a file was found whose body is whole, of so many bytes
abbrev pub IsWholeFile : ℕ → Blocks → Found → ℕ → Type 0
IsWholeFile capacity f (Missing is_full) count = ⊥
IsWholeFile capacity f (File head size) count = IsBody capacity f head size × (size ≡ count)
IsWholeFile capacity f (Dir block) count = ⊥

-- the bytes of the file that was found
abbrev pub file_bytes : ℕ → Blocks → Found → List ℕ
file_bytes capacity f (Missing is_full) = []
file_bytes capacity f (File head size) = body capacity f head size
file_bytes capacity f (Dir block) = []

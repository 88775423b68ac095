-- Files that are written together, by their names in one directory.
use Rattle.std.specs.Prelude.{Bool, true, not, ◌&&◌, nat_lt, nat_le, Option, Some, None, List, [], ◌∷◌, ◌++◌, length, if◌then◌else◌}
use Rattle.fs_types.specs.Names.{Name, Path, is_after}
use Rattle.fs_types.specs.declared.limits.TheConstants.{MAX_NAMES}
use Rattle.fs_types.specs.declared.named_file.NamedFile.{NamedFile}
use Rattle.fs_types.specs.declared.fault.Fault.{Fault}
use Rattle.fs_types.specs.declared.fault.Fault.TheVariants.{Invalid, NameTooLong}

-- the path of a file of a directory
abbrev pub path_in : Path → NamedFile → Path
path_in directory file = directory ++ file.name ∷ []

-- each name comes after the one before it in byte order, and the first one after a given one: none stands twice
abbrev pub ascend_from : Option Name → List NamedFile → Bool
ascend_from last [] = true
ascend_from last (file ∷ files) = is_after last file.name && ascend_from (Some file.name) files

-- why files cannot be written in a directory, whatever stands there: their names do not ascend, or the directory's
-- path has no room for one more name
abbrev pub files_refusal : Path → List NamedFile → Option Fault
files_refusal directory files =
    if not (ascend_from None files) then Some Invalid
    else if nat_lt 0 (length files) && nat_le MAX_NAMES (length directory) then Some NameTooLong
    else None

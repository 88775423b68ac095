-- Files of one directory that are written one after the other, by the tree before all of them: what refuses each.
use Rattle.std.specs.Prelude.{ℕ, ◌+◌, Option, Some, None, is_none, nat_le, List, [], ◌∷◌, if◌then◌else◌}
use Rattle.std.specs.Option.{option_or}
use Rattle.std.specs.FinMap.{get}
use Rattle.fs_types.specs.Names.{Path}
use Rattle.fs_types.specs.NamedFiles.{path_in}
use Rattle.fs_types.specs.declared.named_file.NamedFile.{NamedFile}
use Rattle.fs_types.specs.declared.limits.TheConstants.{MAX_ENTRIES}
use Rattle.fs_types.specs.declared.fault.Fault.{Fault}
use Rattle.fs_types.specs.declared.fault.Fault.TheVariants.{IsDirectory, Busy, DirectoryFull}
use Rattle.plain_trees.specs.Contents.{Entry, is_dir}
use Rattle.plain_trees.specs.Trees.{Tree}
use Rattle.history_machine.specs.Descriptors.{Descriptors, is_open}
use Rattle.history_machine.specs.Machine.{size_refusal}

-- why the next file is not written, by what stands at its path in the tree before all of them, where its directory has so
-- many entries by then
abbrev pub next_entry_refusal : Descriptors → Path → ℕ → Option Entry → Option Fault
next_entry_refusal opened path count None = if nat_le MAX_ENTRIES count then Some DirectoryFull else None
next_entry_refusal opened path count (Some entry) =
    if is_dir entry then Some IsDirectory
    else if is_open opened path then Some Busy
    else None

abbrev pub next_refusal : Tree → Descriptors → Path → ℕ → NamedFile → Option Fault
next_refusal t opened directory count file =
    option_or (next_entry_refusal opened (path_in directory file) count (get t (path_in directory file)))
    (size_refusal file.bytes)

-- how many entries the directory has with it
abbrev pub next_count : Tree → Path → ℕ → NamedFile → ℕ
next_count t directory count file = count + (if is_none (get t (path_in directory file)) then 1 else 0)

-- the first refusal of files that are written one after the other, and how many entries the directory has after them
abbrev pub next_refusals : Tree → Descriptors → Path → ℕ → List NamedFile → Option Fault
next_refusals t opened directory count [] = None
next_refusals t opened directory count (file ∷ files) =
    option_or (next_refusal t opened directory count file)
    (next_refusals t opened directory (next_count t directory count file) files)

abbrev pub next_counts : Tree → Path → ℕ → List NamedFile → ℕ
next_counts t directory count [] = count
next_counts t directory count (file ∷ files) = next_counts t directory (next_count t directory count file) files

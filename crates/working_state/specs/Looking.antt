-- What look-ups ask of the device.
use Rattle.std.specs.Prelude.{◌≡◌, ℕ, ◌+◌, ◌*◌, ◌≤◌, Bool, Option, Some, None, List, length, sum_by}
use Rattle.fs_types.specs.declared.call.Call.{Call}
use Rattle.fs_types.specs.declared.call.Stat.{Stat}
use Rattle.fs_types.specs.Names.{Name, Path}
use Rattle.plain_trees.specs.Trees.{Tree, bytes_of_file, entry_count, nodes_for, path_need}
use Rattle.history_machine.specs.Descriptors.{Descriptor, descriptor_at}
use Rattle.history_machine.specs.Machine.{Machine, working_tree, view_tree, entries_of}
use Rattle.flash_model.specs.Device.{Device}
use Rattle.nodes.specs.Bodies.{head_index}
use Rattle.tree_edits.specs.Reading.{HasDigits, nodes_of_range}
use Rattle.working_state.specs.Facts.{facts_of}
use Rattle.working_state.specs.Seen.{capacity_of}

-- the device was asked for no more than the pages of so many blocks
pub record AsksBlocks (old : Device) (blocks : ℕ) (new : Device) : Type 0 where
  pub most : new.operations ≤ old.operations + blocks * old.geometry.pages

-- how many nodes the directories on a path have, and with that at the path itself
abbrev pub look_nodes : Tree → Path → ℕ
look_nodes t path = path_need t t path

abbrev pub list_nodes : Tree → Path → ℕ
list_nodes t path = look_nodes t path + nodes_for (entry_count t path)

-- the device was asked for no more than one page of each of so many blocks
pub record AsksFirsts (old : Device) (firsts : ℕ) (new : Device) : Type 0 where
  pub most : new.operations ≤ old.operations + firsts

-- the device was asked for no more than the pages of so many blocks, and one page of each of so many more
pub record AsksPages (old : Device) (blocks firsts : ℕ) (new : Device) : Type 0 where
  pub most : new.operations ≤ old.operations + (blocks * old.geometry.pages + firsts)

-- how many nodes a directory has, by how many entries; a file counts for none
abbrev pub stat_nodes : Stat → ℕ
stat_nodes (Stat.Dir count) = nodes_for count
stat_nodes (Stat.File size) = 0

-- the nodes of all directories among entries
abbrev pub entry_nodes : List (Name × Stat) → ℕ
entry_nodes entries = sum_by (λ e. stat_nodes e.1) entries

-- so many nodes: those on the way to a file, those that hold a range of its bytes, and two for each binary digit of
-- the index of its last node
pub record IsReadOf (capacity way : ℕ) (bytes : List ℕ) (offset count nodes : ℕ) : Type 0 where
  pub digits : ℕ
  pub enough : HasDigits (head_index capacity (length bytes)) digits
  pub sum : nodes ≡ way + nodes_of_range capacity (length bytes) offset count + 2 * digits

-- a range of the bytes of a file is read once
abbrev pub AsksForRange : Device → ℕ → List ℕ → ℕ → ℕ → Device → Type 0
AsksForRange old way bytes offset count new =
    (nodes : ℕ) → IsReadOf (capacity_of old) way bytes offset count nodes → AsksBlocks old nodes new

-- that of an open file; without one nothing is read
abbrev pub AsksForOpen : Device → Option Descriptor → Tree → ℕ → ℕ → Device → Type 0
AsksForOpen old None t offset count new = AsksBlocks old 0 new
AsksForOpen old (Some file) t offset count new =
    AsksForRange old (look_nodes t file.path) (bytes_of_file t file.path) offset count new

-- calls that only look at what stands at paths, or at the bytes of a file
abbrev pub only_looks : Call → Bool
only_looks call = (facts_of call).looks

-- such a call looks once: it reads the nodes of each directory on its path, and then those of the directory or the
-- bytes of the file; of each directory that `entries` tells of the first page of each node
abbrev pub LooksOnce : Machine → Call → Device → Device → Type 0
LooksOnce m (Call.Stat view path) old new = AsksBlocks old (list_nodes (view_tree m view) path) new
LooksOnce m (Call.List view path) old new = AsksBlocks old (list_nodes (view_tree m view) path) new
LooksOnce m (Call.ReadAt view path offset count) old new =
    AsksForRange old (look_nodes (view_tree m view) path) (bytes_of_file (view_tree m view) path) offset count new
LooksOnce m (Call.Entries view path from most) old new =
    AsksPages old (list_nodes (view_tree m view) path) (entry_nodes (entries_of (view_tree m view) path from most)) new
LooksOnce m (Call.Pread descriptor offset count) old new =
    AsksForOpen old (descriptor_at m.descriptors descriptor) (working_tree m) offset count new
LooksOnce m _ old new = Unit {0}

-- Edits of trees: when one can be applied, the tree that it makes, and how many nodes it may write.
use Rattle.std.specs.Prelude.{◌≡◌, ℕ, ◌+◌, ◌-◌, ◌*◌, ◌<◌, ◌≤◌, ◌&&◌, Bool, true, false, Option, Some, None, is_none, Ok, List, [], ◌∷◌, length, count_by, All, if◌then◌else◌}
use Rattle.fs_types.specs.declared.limits.TheConstants.{MAX_NAMES, MAX_FILE_BYTES, MAX_ENTRIES}
use Rattle.fs_types.specs.Names.{Path, is_path, same_path}
use Rattle.fs_types.specs.declared.named_file.NamedFile.{NamedFile}
use Rattle.plain_trees.specs.Contents.{Entry, Apart, parent_of, overwritten, resized, pwrite_need, ftruncate_need, body_need}
use Rattle.plain_trees.specs.Files.{files_put, bodies_need}
use Rattle.plain_trees.specs.Trees.{Tree, put, remove, move, bytes_of_file, nodes_for}
use Rattle.node_format.specs.Items.{Item, is_place, named_place}
use Rattle.node_format.specs.declared.place.Place.{Place}
use Rattle.node_format.specs.declared.place.Place.TheVariants.{Dir, File}
use Rattle.nodes.specs.Bodies.{Blocks, head_index}
use Rattle.nodes.specs.TreeLaws.{IsShallow}
use Rattle.nodes.specs.Reached.{IsHeld}
use Rattle.nodes.specs.Trees.{entries_in, items_in, child, leads, IsRoot}
use Rattle.directory.specs.declared.lookups.Found.{Found}
use Rattle.directory.specs.declared.lookups.Found.TheVariants as found
use Rattle.directory.specs.Lookups.{look_up}
use Rattle.directory.specs.Counts.{nodes_in, path_nodes, move_nodes}
use Rattle.directory.specs.Trails.{IsTrail, has_room}
use Rattle.tree_edits.specs.Reading.{nodes_between, HasDigits}
use Rattle.tree_edits.specs.declared.edits.Edit.{Edit}

-- a file may be put where this was found: where nothing stands and the directory has room, and in the place of a file
abbrev pub TakesFile : Found → Type 0
TakesFile (found.Missing is_full) = is_full ≡ false
TakesFile (found.File head size) = Unit {0}
TakesFile (found.Dir block) = ⊥

-- what was found may be taken out: a file, or a directory without entries
abbrev pub IsRemovable : Blocks → Found → Type 0
IsRemovable f (found.Missing is_full) = ⊥
IsRemovable f (found.File head size) = Unit {0}
IsRemovable f (found.Dir block) = entries_in f block ≡ Some []

-- what an old path leads to can be moved to a new one: the trails are those of the paths, no path gets too
-- long, and the new name has room, which a move within one directory does not ask
pub record IsMovable (f : Blocks) (root : ℕ) (old : Path) (old_trail : List ℕ) (new : Path) (new_trail : List ℕ) (place : Place) : Type 0 where
  pub lawful : is_path old && is_path new ≡ true
  pub lawful_place : is_place place ≡ true
  pub old_way : IsTrail f root old old_trail
  pub new_way : IsTrail f root new new_trail
  pub stands : leads f (Dir root) old ≡ Some place
  pub shallow : IsShallow f place (MAX_NAMES - length new)
  pub room : same_path (parent_of old) (parent_of new) ≡ false → has_room (look_up f root new) ≡ true

-- the files whose bytes change
abbrev pub chosen : List NamedFile → List Bool → List NamedFile
chosen [] changes = []
chosen (file ∷ files) [] = []
chosen (file ∷ files) (changes ∷ rest) = if changes then file ∷ chosen files rest else chosen files rest

-- a file may be put under a name that leads there: it is no directory
abbrev pub IsNoDirectory : Option Place → Type 0
IsNoDirectory None = Unit {0}
IsNoDirectory (Some (File head size)) = Unit {0}
IsNoDirectory (Some (Dir block)) = ⊥

-- so many of the names of these files are missing
abbrev pub count_new : List Item → List NamedFile → ℕ
count_new items files = count_by (λ file. is_none (named_place items file.name)) files

-- files can be put in the directory at a path, which begins in this block: some of them change, no name leads to a
-- directory, no file is too long, and there is room for those that are missing
pub record AreWritable (f : Blocks) (root : ℕ) (directory : Path) (trail : List ℕ) (block : ℕ) (files : List NamedFile) (changes : List Bool) : Type 0 where
  pub way : IsTrail f root directory trail
  pub led : look_up f root directory ≡ Ok (found.Dir block)
  pub above : length directory < MAX_NAMES
  pub counted : length changes ≡ length files
  pub some : 0 < length (chosen files changes)
  pub short : All (λ file. length file.bytes ≤ MAX_FILE_BYTES) files
  pub free : All (λ file. IsNoDirectory (child f (Dir block) file.name)) files
  pub room : length (items_in f block) + count_new (items_in f block) (chosen files changes) ≤ MAX_ENTRIES

-- this was found at a path
abbrev pub Finds : Blocks → ℕ → Path → Found → Type 0
Finds f root path x = look_up f root path ≡ Ok x

-- what look-ups told of an edit of the tree of a root
abbrev pub IsEditable : ℕ → Blocks → (ℕ → Bool) → ℕ → Edit → Type 0
IsEditable capacity f kept root (Edit.MakeDirectory path trail) =
    (is_path path.now ≡ true) × IsTrail f root path.now trail.now × Finds f root path.now (found.Missing false)
IsEditable capacity f kept root (Edit.PutEmptyFile path trail) =
    (is_path path.now ≡ true) × IsTrail f root path.now trail.now
    × (x : Found) × Finds f root path.now x × TakesFile x
IsEditable capacity f kept root (Edit.WriteFile path trail bytes) =
    (is_path path.now ≡ true) × IsTrail f root path.now trail.now
    × (length bytes.now ≤ MAX_FILE_BYTES) × (x : Found) × Finds f root path.now x × TakesFile x
IsEditable capacity f kept root (Edit.WriteFiles directory trail block files changes) =
    AreWritable f root directory.now trail.now block files.now changes.now
IsEditable capacity f kept root (Edit.Overwrite path trail body offset bytes) =
    (is_path path.now ≡ true) × IsTrail f root path.now trail.now
    × Finds f root path.now (found.File body.head body.length) × (body.length ≤ MAX_FILE_BYTES)
    × (0 < length bytes.now) × (offset + length bytes.now ≤ MAX_FILE_BYTES)
IsEditable capacity f kept root (Edit.SetLength path trail body size) =
    (is_path path.now ≡ true) × IsTrail f root path.now trail.now
    × Finds f root path.now (found.File body.head body.length) × (size ≤ MAX_FILE_BYTES)
IsEditable capacity f kept root (Edit.Remove path trail) =
    (is_path path.now ≡ true) × IsTrail f root path.now trail.now × (0 < length path.now)
    × (x : Found) × Finds f root path.now x × IsRemovable f x
IsEditable capacity f kept root (Edit.Move old old_trail new new_trail place) =
    Apart old.now new.now × IsMovable f root old.now old_trail.now new.now new_trail.now place
IsEditable capacity f kept root (Edit.Restore other) = IsHeld f kept (Dir other) × IsRoot capacity f other

-- a tree with other bytes in the file at a path
abbrev pub with_file : Tree → Path → (List ℕ → List ℕ) → Tree
with_file t path change = put t path (Entry.File (change (bytes_of_file t path)))

-- the tree that an edit makes of a tree, where each root has this tree
abbrev pub effect : (ℕ → Tree) → Edit → Tree → Tree
effect trees (Edit.MakeDirectory path trail) t = put t path.now Entry.Dir
effect trees (Edit.PutEmptyFile path trail) t = put t path.now (Entry.File [])
effect trees (Edit.WriteFile path trail bytes) t = put t path.now (Entry.File bytes.now)
effect trees (Edit.WriteFiles directory trail block files changes) t =
    files_put t directory.now (chosen files.now changes.now)
effect trees (Edit.Overwrite path trail body offset bytes) t =
    with_file t path.now (λ old. overwritten old offset bytes.now)
effect trees (Edit.SetLength path trail body size) t = with_file t path.now (λ old. resized old size)
effect trees (Edit.Remove path trail) t = remove t path.now
effect trees (Edit.Move old old_trail new new_trail place) t = move t old.now new.now
effect trees (Edit.Restore other) t = trees other

-- the root whose blocks an edit goes on from
abbrev pub source : ℕ → Edit → ℕ
source root (Edit.Restore other) = other
source root _ = root

-- how many nodes are written to put files in the directory at a path, which begins in this block: those of their
-- bodies, of the directory with the names that are missing, and of each directory above it as many as it has
abbrev pub files_nodes : ℕ → Blocks → List ℕ → Path → ℕ → List NamedFile → ℕ
files_nodes capacity f trail directory block files =
    bodies_need capacity files
    + (nodes_for (length (items_in f block) + count_new (items_in f block) files) + path_nodes f trail directory false 0)

-- how many nodes an edit may write, where a body node has room for so many data bytes: of each directory of its
-- trails as many as it has, or as it has with one entry more where a name is put that is missing; a directory
-- that is made; and those of a file's body
abbrev pub edit_need : ℕ → Blocks → Edit → ℕ
edit_need capacity f (Edit.MakeDirectory path trail) = path_nodes f trail.now path.now true 0 + 1
edit_need capacity f (Edit.PutEmptyFile path trail) = path_nodes f trail.now path.now true 0
edit_need capacity f (Edit.WriteFile path trail bytes) =
    body_need capacity (length bytes.now) + path_nodes f trail.now path.now true 0
edit_need capacity f (Edit.WriteFiles directory trail block files changes) =
    files_nodes capacity f trail.now directory.now block (chosen files.now changes.now)
edit_need capacity f (Edit.Overwrite path trail body offset bytes) =
    pwrite_need capacity body.length offset (length bytes.now) + path_nodes f trail.now path.now true 0
edit_need capacity f (Edit.SetLength path trail body size) =
    ftruncate_need capacity body.length size + path_nodes f trail.now path.now true 0
edit_need capacity f (Edit.Remove path trail) = path_nodes f trail.now path.now false 0
edit_need capacity f (Edit.Move old old_trail new new_trail place) =
    move_nodes f old_trail.now old.now new_trail.now new.now
edit_need capacity f (Edit.Restore other) = 0

-- how many nodes are read at most to overwrite a body of this length up to an end, where the index of its head
-- has so many binary digits
abbrev pub overwrite_reads : ℕ → ℕ → ℕ → ℕ → ℕ
overwrite_reads capacity size end digits = 2 * nodes_between capacity end size + (1 + 5 * digits)

-- and to give a body another length
abbrev pub resize_reads : ℕ → ℕ
resize_reads digits = 1 + 5 * digits

-- how many nodes the directories have that are written anew for a path
abbrev pub way_reads : Blocks → List ℕ → Path → ℕ
way_reads f trail path = path_nodes f trail path false 0

-- at most so many nodes were read of a body of this length, by the digits of the index of its head, and of
-- directories
abbrev pub ReadsBody : ℕ → ℕ → (ℕ → ℕ) → ℕ → ℕ → ℕ → Type 0
ReadsBody capacity size body_reads way before after =
    (digits : ℕ) → HasDigits (head_index capacity size) digits → after ≤ before + (body_reads digits + way)

-- an edit read few nodes: each of a directory that is written anew once, and of a file what its body's write asks
abbrev pub ReadsFew : ℕ → Blocks → Edit → ℕ → ℕ → Type 0
ReadsFew capacity f (Edit.MakeDirectory path trail) before after = after ≤ before + way_reads f trail.now path.now
ReadsFew capacity f (Edit.PutEmptyFile path trail) before after = after ≤ before + way_reads f trail.now path.now
ReadsFew capacity f (Edit.WriteFile path trail bytes) before after =
    after ≤ before + (1 + way_reads f trail.now path.now)
ReadsFew capacity f (Edit.WriteFiles directory trail block files changes) before after =
    after ≤ before + (length (chosen files.now changes.now) + (nodes_in f block + way_reads f trail.now directory.now))
ReadsFew capacity f (Edit.Overwrite path trail body offset bytes) before after =
    ReadsBody capacity body.length (overwrite_reads capacity body.length (offset + length bytes.now))
    (way_reads f trail.now path.now) before after
ReadsFew capacity f (Edit.SetLength path trail body size) before after =
    ReadsBody capacity body.length resize_reads (way_reads f trail.now path.now) before after
ReadsFew capacity f (Edit.Remove path trail) before after = after ≤ before + way_reads f trail.now path.now
ReadsFew capacity f (Edit.Move old old_trail new new_trail place) before after =
    after ≤ before + move_nodes f old_trail.now old.now new_trail.now new.now
ReadsFew capacity f (Edit.Restore other) before after = after ≡ before

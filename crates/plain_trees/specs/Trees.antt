-- Trees as finite maps from paths, the plain edits of them, and listings.
use Rattle.std.specs.Prelude.{◌≡◌, ℕ, ◌+◌, ◌≤◌, max, Bool, true, Option, Some, None, IsSome, List, [], ◌∷◌, ◌++◌, length, take, sum_by, false, filter_map, nat_le, nat_lt}
use Rattle.std.specs.Int.{div_ceil}
use Rattle.std.specs.Option.{option_map_or}
use Rattle.std.specs.List.{list_any, range_with_len}
use Rattle.std.specs.FinMap as map
use Rattle.fs_types.specs.Names.{Name, Path, path_cmp, is_path}
use Rattle.plain_trees.specs.Contents.{Entry, is_dir, beneath, IsTree}
use Rattle.fs_types.specs.declared.limits.TheConstants.{MAX_NAMES, MAX_ENTRIES, NODE_ENTRIES, MAX_FILE_BYTES}

-- a finite map from paths to what stands there
abbrev pub Tree : Type 0
Tree = map.FinMap path_cmp Entry

-- the root alone
abbrev pub bare : Tree
bare = map.insert map.empty [] Entry.Dir

-- this entry stands at the path, and all else stays
abbrev pub put : Tree → Path → Entry → Tree
put t p x = map.insert t p x

-- nothing stands at the path, and all else stays
abbrev pub remove : Tree → Path → Tree
remove t p = map.remove t p

-- where an entry stands after a move, or None where another takes its place
abbrev pub moved_to : Path → Option Path → Option Path → Path × Entry → Option (Path × Entry)
moved_to new (Some rest) _ e = Some (new ++ rest, e.1)
moved_to new None (Some rest) e = None
moved_to new None None e = Some e

abbrev pub moved_entry : Path → Path → Path × Entry → Option (Path × Entry)
moved_entry old new e = moved_to new (beneath old e.0) (beneath new e.0) e

-- what stood at `old` and below stands at `new` and below, nothing else does, and all else stays (POSIX.1-2017 rename)
abbrev pub move : Tree → Path → Path → Tree
move t old new = map.from_entries (filter_map (moved_entry old new) (map.entries t))

-- the name of an entry right in a directory, with whether it is a directory itself
abbrev pub named : Option Path → Entry → Option (Name × Bool)
named None x = None
named (Some []) x = None
named (Some (n ∷ [])) x = Some (n, is_dir x)
named (Some (n ∷ m ∷ rest)) x = None

abbrev pub child_of : Path → Path × Entry → Option (Name × Bool)
child_of p e = named (beneath p e.0) e.1

-- the names in a directory, in byte order, each with whether it is a directory
abbrev pub children : Tree → Path → List (Name × Bool)
children t p = filter_map (child_of p) (map.entries t)

abbrev pub entry_count : Tree → Path → ℕ
entry_count t p = length (children t p)

-- a directory has as many entries as it may
abbrev pub is_full : Tree → Path → Bool
is_full t p = nat_le MAX_ENTRIES (entry_count t p)

-- how many nodes a directory of so many entries has: each but the last is full, and one is there without entries
abbrev pub nodes_for : ℕ → ℕ
nodes_for count = max 1 (div_ceil count NODE_ENTRIES)

-- how many nodes the directory at a path has in one tree or in the other: the greater number
abbrev pub directory_need : Tree → Tree → Path → ℕ
directory_need t t' p = max (nodes_for (entry_count t p)) (nodes_for (entry_count t' p))

-- how many nodes of directories a change of what stands at a path may write, from one tree to the other: those of each
-- directory on the way to it, which some first names of the path lead to
abbrev pub path_need : Tree → Tree → Path → ℕ
path_need t t' p = sum_by (λ i. directory_need t t' (take i p)) (range_with_len 0 (length p))

-- the bytes of the file at a path
abbrev pub bytes_of : Option Entry → List ℕ
bytes_of None = []
bytes_of (Some Entry.Dir) = []
bytes_of (Some (Entry.File bytes)) = bytes

abbrev pub bytes_of_file : Tree → Path → List ℕ
bytes_of_file t path = bytes_of (map.get t path)

-- a file stands at the path
abbrev pub IsFile : Tree → Path → Type 0
IsFile t path = (bytes : List ℕ) × (map.get t path ≡ Some (Entry.File bytes))

-- a path at `old` or below would have more names than a path may have at `new`
abbrev pub is_too_deep : Tree → Path → Path → Bool
is_too_deep t old new = list_any (λ p. option_map_or (λ rest. nat_lt MAX_NAMES (length new + length rest)) (beneath old p) false) (map.keys t)

-- a tree of directories and files within the limits of paths, of entries in a directory, and of bytes in a file
pub record IsFileTree (t : Tree) : Type 0 where
  pub shape : IsTree (map.get t)
  pub paths : (p : Path) → IsSome (map.get t p) → is_path p ≡ true
  pub entries : (p : Path) → entry_count t p ≤ MAX_ENTRIES
  pub lengths : (p : Path) (bytes : List ℕ) → map.get t p ≡ Some (Entry.File bytes) → length bytes ≤ MAX_FILE_BYTES

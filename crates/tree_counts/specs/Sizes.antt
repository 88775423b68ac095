-- How much stands in a tree: how many directories and files below its root, and how many bytes these files have.
use Rattle.std.specs.Prelude.{ℕ, zero, suc, ◌+◌, ◌^◌, nat_lt, Option, Some, None, List, [], ◌∷◌, ◌++◌, length, sum_by, if◌then◌else◌}
use Rattle.std.specs.FinMap.{get}
use Rattle.fs_types.specs.Names.{Path}
use Rattle.fs_types.specs.declared.limits.TheConstants.{MAX_NAMES}
use Rattle.plain_trees.specs.Contents.{Entry}
use Rattle.plain_trees.specs.Trees.{Tree, children, bytes_of}
use Rattle.node_format.specs.declared.place.Place.{Place}
use Rattle.node_format.specs.declared.place.Place.TheVariants.{Dir, File}
use Rattle.tree_counts.specs.declared.tree_size.TreeSize.{TreeSize}

-- a number that a word holds; none past the greatest
abbrev pub in_word : ℕ → Option ℕ
in_word n = if nat_lt n (2 ^ 64) then Some n else None

abbrev pub sized : ℕ → ℕ → TreeSize
sized entries bytes = record { entries = in_word entries; bytes = in_word bytes }

-- a sum over all that stands below a directory, in so many levels
unfoldable pub sum_below : (Option Entry → ℕ) → Tree → ℕ → Path → ℕ
sum_below of t zero directory = 0
sum_below of t (suc levels) directory = sum_by (λ entry. of (get t (directory ++ entry.0 ∷ [])) + (if entry.1 then sum_below of t levels (directory ++ entry.0 ∷ []) else 0)) (children t directory)

abbrev pub one : Option Entry → ℕ
one entry = 1

abbrev pub file_length : Option Entry → ℕ
file_length entry = length (bytes_of entry)

-- how many directories and files stand below the root: no path has more names
abbrev pub entries_of : Tree → ℕ
entries_of t = sum_below one t MAX_NAMES []

-- how many bytes the files have
abbrev pub lengths_of : Tree → ℕ
lengths_of t = sum_below file_length t MAX_NAMES []

abbrev pub size_of : Tree → TreeSize
size_of t = sized (entries_of t) (lengths_of t)

-- the length of a file, by its entry; none for a directory
abbrev pub place_length : Place → ℕ
place_length (Dir block) = 0
place_length (File head size) = size

abbrev pub place_one : Place → ℕ
place_one place = 1

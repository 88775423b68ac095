-- The law of what is told of two trees: a line for each path at which they differ, and no other.
use Rattle.std.specs.Prelude.{◌≡◌, ◌≢◌, ◌↔◌, ℕ, Bool, false, Option, Some, IsSome, List, [], ◌++◌, codes, AllPairs, Contains}
use Rattle.std.specs.FinMap.{get}
use Rattle.std.specs.List.{flat_map}
use Rattle.std.specs.Option.{option_map}
use Rattle.std.specs.declared.cmp.Ordering.{Ordering}
use Rattle.fs_types.specs.Names.{Path, path_cmp}
use Rattle.plain_trees.specs.Contents.{is_dir}
use Rattle.plain_trees.specs.Trees.{Tree, IsFileTree}
use Rattle.inquiries.specs.Differences.{changed_line, difference_lines}
use Rattle.inquiries.specs.Items.{item_at}
use Rattle.inquiries.specs.Printed.{item_line}

-- what a line tells of its path: what stood there went; the file there has other bytes; what stands there came. What is of another
-- kind than what stood there went and came
pub data Sign : Type 0 where
  Went : Sign
  Changed : Sign
  Came : Sign

-- what stands at a path: a directory or no directory, or nothing
abbrev pub kind_at : Tree → Path → Option Bool
kind_at t path = option_map is_dir (get t path)

-- something stands at the path in the one tree, and nothing of its kind in the other
pub record StandsAlone (t other : Tree) (path : Path) : Type 0 where
  pub here : IsSome (get t path)
  pub kinds : kind_at t path ≢ kind_at other path

-- a file stands at the path in both, and it has other bytes
pub record IsChanged (old new : Tree) (path : Path) : Type 0 where
  pub was_file : kind_at old path ≡ Some false
  pub is_file : kind_at new path ≡ Some false
  pub bytes : get old path ≢ get new path

-- the two trees differ so at a path
abbrev pub Differ : Tree → Tree → Sign → Path → Type 0
Differ old new Sign.Went path = StandsAlone old new path
Differ old new Sign.Changed path = IsChanged old new path
Differ old new Sign.Came path = StandsAlone new old path

-- the line of a path with a sign
abbrev pub sign_line : Tree → Tree → Sign × Path → List ℕ
sign_line old new (Sign.Went, path) = codes "- " ++ item_line (item_at old path)
sign_line old new (Sign.Changed, path) = changed_line path
sign_line old new (Sign.Came, path) = codes "+ " ++ item_line (item_at new path)

-- what went or changed comes before what came, and otherwise the paths ascend
abbrev pub Precedes : Sign × Path → Sign × Path → Type 0
Precedes (Sign.Came, path) (Sign.Came, other) = path_cmp path other ≡ Ordering.Less
Precedes (Sign.Came, path) (_, other) = ⊥
Precedes (_, path) (Sign.Came, other) = Unit {0}
Precedes (_, path) (_, other) = path_cmp path other ≡ Ordering.Less

-- lines tell what differs between two trees, and nothing else
pub record TellsDifferences (old new : Tree) (text : List ℕ) : Type 0 where
  -- the signs and paths that have a line, and their lines
  pub told : List (Sign × Path)
  pub lines : text ≡ flat_map (sign_line old new) told
  -- a path has a line of a sign exactly where the two differ so there
  pub exact : (sign : Sign) (path : Path) → Contains told (sign, path) ↔ Differ old new sign path
  -- each path at which they differ has a line, and no other path has one
  pub all : (path : Path) → get old path ≢ get new path → (sign : Sign) × Contains told (sign, path)
  pub others : (path : Path) → get old path ≡ get new path → (sign : Sign) → Contains told (sign, path) → ⊥
  -- no line comes twice
  pub once : AllPairs (λ first second. first ≢ second) told
  pub order : AllPairs Precedes told

-- each path at which two trees differ has a line that tells how, and no other path has one
abbrev pub DifferenceLaw : Type 0
DifferenceLaw = (old new : Tree) → IsFileTree old → IsFileTree new → TellsDifferences old new (difference_lines old new)

-- nothing is told of two trees exactly where they are one
abbrev pub NoDifferenceLaw : Type 0
NoDifferenceLaw = (old new : Tree) → IsFileTree old → IsFileTree new → (difference_lines old new ≡ []) ↔ (old ≡ new)

-- Paths below a directory, and where a move puts them.
use Rattle.std.specs.Prelude.{ℕ, ◌+◌, Bool, false, nat_lt, Option, Some, None, [], ◌∷◌, ◌++◌, length, is_some}
use Rattle.std.specs.Option.{option_map_or}
use Rattle.fs_types.specs.declared.limits.TheConstants.{MAX_NAMES}
use Rattle.fs_types.specs.Names.{Name, Path}
use Rattle.plain_trees.specs.Contents.{beneath}

-- the name that is all that is left of a path
abbrev pub only_name : Option Path → Option Name
only_name None = None
only_name (Some []) = None
only_name (Some (n ∷ [])) = Some n
only_name (Some (n ∷ m ∷ rest)) = None

-- a path stands right in a directory
abbrev pub is_child : Path → Path → Bool
is_child directory p = is_some (only_name (beneath directory p))

-- where a path stands after a move, or None where another takes its place
abbrev pub path_moved_at : Path → Path → Option Path → Option Path → Option Path
path_moved_at new p (Some rest) _ = Some (new ++ rest)
path_moved_at new p None (Some rest) = None
path_moved_at new p None None = Some p

abbrev pub path_moved : Path → Path → Path → Option Path
path_moved old new p = path_moved_at new p (beneath old p) (beneath new p)

-- a path at `old` or below it would have more names than a path may have, where `old` becomes so many
abbrev pub is_deep : Path → ℕ → Path → Bool
is_deep old depth p = option_map_or (λ rest. nat_lt MAX_NAMES (depth + length rest)) (beneath old p) false

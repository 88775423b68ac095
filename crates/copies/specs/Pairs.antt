-- Pairs of what is gone and what is new, that look the same.
use Rattle.std.specs.Prelude.{◌≡◌, ◌≢◌, ℕ, Option, Some, None, IsSome, List, [], ◌∷◌, All, Contains, map, if◌then◌else◌}
use Rattle.fs_types.specs.Names.{Path, same_path}
use Rattle.copies.specs.declared.pairs.Look.{Look}

-- the last of some looks with each shape
pub record Indexes (looks : List Look) (last : ℕ → Option Path) : Type 0 where
  pub among : (shape : ℕ) (path : Path) → last shape ≡ Some path → Contains looks (record { path = path; shape = shape })
  pub all : (look : Look) → Contains looks look → IsSome (last look.shape)

-- the pair of what is gone, if it is, and what is new elsewhere
abbrev pub pair_of : Option Path → Path → List (Path × Path)
pair_of None to = []
pair_of (Some from) to = if same_path from to then [] else (from, to) ∷ []

-- what is gone and what is new elsewhere have one shape
pub record IsPair (gone come : List Look) (one : Path × Path) : Type 0 where
  pub shape : ℕ
  pub from : Contains gone (record { path = one.0; shape = shape })
  pub to : Contains come (record { path = one.1; shape = shape })
  pub apart : one.0 ≢ one.1

-- pairs are of what looks the same; and what is new is in one, where what is gone looks the same and nothing of it was at that path
pub record Pairs (gone come : List Look) (moves : List (Path × Path)) : Type 0 where
  pub alike : All (IsPair gone come) moves
  pub found : (from to : Look) → Contains gone from → Contains come to → from.shape ≡ to.shape → All (λ other. other.path ≢ to.path) gone → Contains (map (λ one. one.1) moves) to.path

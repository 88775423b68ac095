-- Tables by block.
use Rattle.std.specs.Prelude.{ℕ, Bool, false, Option, None, List, slice_index_or}
use Rattle.nodes.specs.Bodies.{Blocks}

-- the nodes in blocks, of a list that has each at its place; none past the last
abbrev pub blocks_in : List (Option (List ℕ)) → Blocks
blocks_in nodes b = slice_index_or nodes b None

-- which blocks are marked, of a list that has each at its place; none past the last
abbrev pub marks_in : List Bool → ℕ → Bool
marks_in marks b = slice_index_or marks b false

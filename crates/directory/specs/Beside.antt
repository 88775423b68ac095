-- A look up of a path beside another one that was looked up before.
use Rattle.std.specs.Prelude.{ℕ, ◌-◌, min, List, length, drop, slice_index_or}
use Rattle.fs_types.specs.Names.{Path}
use Rattle.nodes.specs.Bodies.{Blocks}
use Rattle.directory.specs.Lookups.{way_nodes}
use Rattle.directory.specs.Moves.{common}

-- so many names of a path lead to the last directory of another path's trail that both paths go through
abbrev pub parting : Path → Path → ℕ
parting other path = min (common other path) (length other - 1)

-- how many nodes the directories have from that one on which a look up of the path goes through
abbrev pub beside_nodes : Blocks → ℕ → Path → List ℕ → Path → ℕ
beside_nodes f root other trail path = way_nodes f (slice_index_or trail (parting other path) root) (drop (parting other path) path)

-- A new empty directory at a path where nothing stood.
use Rattle.std.specs.Prelude.{◌≡◌, ℕ, Bool, true, Some, []}
use Rattle.fs_types.specs.Names.{Path}
use Rattle.node_format.specs.declared.place.Place.TheVariants.{Dir}
use Rattle.nodes.specs.Bodies.{Blocks}
use Rattle.nodes.specs.Trees.{entries_in}
use Rattle.nodes.specs.Rewritten.{IsFreshNode, IsRewritten}

-- the path leads to a new empty directory, one node of a chain in a block that was not kept and is now, and each directory along
-- it was written anew
pub record IsNewDirectory (old new : Blocks) (kept kept' : ℕ → Bool) (from to : ℕ) (path : Path) : Type 0 where
  pub block : ℕ
  pub empty : entries_in new block ≡ Some []
  pub fresh : IsFreshNode kept new block
  pub is_kept : kept' block ≡ true
  pub rewritten : IsRewritten old new kept kept' from to path (Some (Dir block))

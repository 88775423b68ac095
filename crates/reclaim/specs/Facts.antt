-- What the node in a block tells: the blocks that it names, and all that a verification asks of it.
use Rattle.std.specs.Prelude.{◌↔◌, ℕ, Option, List, Contains}
use Rattle.nodes.specs.Reached.{Names}
use Rattle.reclaim.specs.Looks.{Says}
use Rattle.reclaim.specs.Tables.{NamesDirectory}
use Rattle.reclaim.specs.Kinds.{NamesBody}
use Rattle.reclaim.specs.declared.facts.Facts.{Facts}
use Rattle.reclaim.specs.declared.named.Named.{Named}

-- these are the parts of a node, the blocks that it names, and those that it names as directories
pub record AreFacts (node : Option (List ℕ)) (facts : Facts) : Type 0 where
  pub says : Says node facts.parts
  pub names : (b : ℕ) → Contains facts.names.items b ↔ Names node b
  pub directories : (b : ℕ) → Contains facts.directories.items b ↔ NamesDirectory node b

-- these are the blocks that a node names, and those of them that it names as nodes of bodies
pub record AreNamed (node : Option (List ℕ)) (named : Named) : Type 0 where
  pub blocks : (b : ℕ) → Contains named.blocks.items b ↔ Names node b
  pub bodies : (b : ℕ) → Contains named.bodies.items b ↔ NamesBody node b

-- What is known of nodes.
use Rattle.std.specs.Prelude.{◌≡◌, ℕ, ◌<◌, Bool, Option, List}
use Rattle.known_nodes.specs.Tables.{blocks_in, marks_in}
use Rattle.known_nodes.specs.WholeFiles.{is_linked}

-- the nodes of blocks, each at its place, and how many bytes of a file one has room for
pub record Known : Type 0 where
  pub nodes : List (Option (List ℕ))
  pub capacity : ℕ

-- there is room, and those nodes are marked that end linked chains
pub record IsKnown (capacity : ℕ) (nodes : List (Option (List ℕ))) (linked : List Bool) : Type 0 where
  pub some : 0 < capacity
  pub linked_are : marks_in linked ≡ is_linked capacity (blocks_in nodes)

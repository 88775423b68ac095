-- The nodes of a file, from its head back to the first.
use Rattle.std.specs.Prelude.{ℕ, zero, suc, List, [], ◌∷◌}
use Rattle.nodes.specs.Bodies.{Blocks, data_of, pointer_of}

-- the blocks of the nodes from that of an index in a block down to the first
unfoldable pub blocks_back : Blocks → ℕ → ℕ → List ℕ
blocks_back f zero block = block ∷ []
blocks_back f (suc i) block = block ∷ blocks_back f i (pointer_of (f block) 0)

abbrev pub data_in : Blocks → ℕ → List ℕ
data_in f block = data_of (f block)

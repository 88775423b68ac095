-- How much nodes of directories lead to, counted by node.
use Rattle.std.specs.Prelude.{◌≡◌, ◌⊎◌, ◌≤◌, ℕ, zero, suc, ◌+◌, ◌*◌, Option, Some, None, List, [], ◌∷◌, ◌++◌, length, sum_by, slice_get, Contains}
use Rattle.std.specs.List.{flat_map}
use Rattle.fs_types.specs.declared.limits.TheConstants.{MAX_NAMES, CHAIN_NODES}
use Rattle.node_format.specs.Items.{Item}
use Rattle.node_format.specs.declared.place.Place.{Place}
use Rattle.nodes.specs.Bodies.{Blocks}
use Rattle.nodes.specs.Chains.{link_items, next_of}
use Rattle.nodes.specs.Reached.{Reached}
use Rattle.reclaim.specs.Naming.{item_directories, next_names}
use Rattle.reclaim.specs.Passes.{AreReached}
use Rattle.reclaim.specs.Sound.{HoldsLink}
use Rattle.tree_counts.specs.Sizes.{sized, place_one, place_length}
use Rattle.tree_counts.specs.declared.node_sizes.NodeSizes.{NodeSizes}
use Rattle.tree_counts.specs.declared.tree_size.TreeSize.{TreeSize}

-- the directories that the entries of a node name, and the node after it
abbrev pub leads_of : Option (List ℕ) → List ℕ
leads_of node = flat_map item_directories (link_items node) ++ next_names (next_of node)

-- a sum over the entries of a node
abbrev pub own_of : (Place → ℕ) → List Item → ℕ
own_of of items = sum_by (λ (item : Item). of item.place) items

abbrev pub own : (Place → ℕ) → Option (List ℕ) → ℕ
own of node = own_of of (link_items node)

-- a sum over the entries of a node of a directory, of the nodes after it, and of all directories below, in so many steps
unfoldable pub weight : (Place → ℕ) → Blocks → ℕ → ℕ → ℕ
weight of f zero b = 0
weight of f (suc steps) b = own of (f b) + sum_by (weight of f steps) (leads_of (f b))

-- from a node of a directory on, no way over entries and nodes after has more nodes
unfoldable pub IsLow : Blocks → ℕ → ℕ → Type 0
IsLow f zero b = ⊥
IsLow f (suc steps) b = HoldsLink f b × ((c : ℕ) → Contains (leads_of (f b)) c → IsLow f steps c)

-- no way from a root has more: paths have 16 names at most, and directories 32 nodes
abbrev pub most_steps : ℕ
most_steps = CHAIN_NODES * (MAX_NAMES + 1)

-- how much the entries of a node are themselves, and how much it leads to
abbrev pub own_size : Option (List ℕ) → TreeSize
own_size node = sized (own place_one node) (own place_length node)

abbrev pub size_from : Blocks → ℕ → TreeSize
size_from f b = sized (weight place_one f most_steps b) (weight place_length f most_steps b)

-- how much a block leads to was found
abbrev pub Has : NodeSizes → ℕ → TreeSize → Type 0
Has s b size = slice_get s.found.items b ≡ Some (Some size)

-- what was found is right, with a place for each block
pub record AreSizes (f : Blocks) (blocks : ℕ) (s : NodeSizes) : Type 0 where
  pub all : length s.found.items ≡ blocks
  pub right : (b : ℕ) (size : TreeSize) → Has s b size → size ≡ size_from f b

-- what was found stays found
abbrev pub StillHas : NodeSizes → NodeSizes → Type 0
StillHas s t = (b : ℕ) (size : TreeSize) → Has s b size → Has t b size

-- of each block that was read since, how much it leads to was found
abbrev pub AreDone : NodeSizes → NodeSizes → Type 0
AreDone s t = (b : ℕ) → Contains t.read.items b → Contains s.read.items b ⊎ ((size : TreeSize) × Has t b size)

-- a block is led to by another over one node or more
pub data IsUnder (f : Blocks) (above : ℕ) : ℕ → Type 0 where
  IsNext : {b : ℕ} → Contains (leads_of (f above)) b → IsUnder f above b
  IsLater : {b c : ℕ} → IsUnder f above b → Contains (leads_of (f b)) c → IsUnder f above c

-- each block that was read is reached and was read once; how much it leads to was found, or it leads to this block, which is read next
pub record IsGoneTo (f : Blocks) (roots : List ℕ) (s : NodeSizes) (block : ℕ) : Type 0 where
  pub are : AreReached f roots s.read.items
  pub done : (b : ℕ) → Contains s.read.items b → ((size : TreeSize) × Has s b size) ⊎ IsUnder f b block

-- so many reads came, each of another block that the roots reach
pub record ReadsOnce (f : Blocks) (roots : List ℕ) (before after : ℕ) : Type 0 where
  pub blocks : List ℕ
  pub are : AreReached f roots blocks
  pub most : after ≤ before + length blocks

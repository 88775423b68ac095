-- The blocks that roots reach, and blocks that stay as they are.
use Rattle.std.specs.Prelude.{◌≡◌, ℕ, ◌<◌, ◌⊎◌, Bool, true, Option, Some, None, List, [], ◌∷◌, Contains}
use Rattle.node_format.specs.Items.{Item}
use Rattle.node_format.specs.declared.place.Place.{Place}
use Rattle.node_format.specs.declared.place.Place.TheVariants.{Dir, File}
use Rattle.node_format.specs.BodyNodes.{HasSlot}
use Rattle.nodes.specs.Bodies.{Blocks, index_of, pointer_of}
use Rattle.nodes.specs.Chains.{link_items, next_of}

-- a place names a block: a directory its first node, a file that is not empty its head
abbrev pub PlaceNames : Place → ℕ → Type 0
PlaceNames (Dir block) next = block ≡ next
PlaceNames (File head size) next = (0 < size) × (head ≡ next)

-- a body node names the blocks of the slots that its index has
abbrev pub BodyNames : Option ℕ → (ℕ → ℕ) → ℕ → Type 0
BodyNames None pointer next = ⊥
BodyNames (Some index) pointer next = (x : ℕ) × HasSlot index x × (pointer x ≡ next)

-- a node of a directory names the node after it
abbrev pub NextNames : Option (List ℕ) → ℕ → Type 0
NextNames node next = (0 < next_of node) × (next_of node ≡ next)

-- the node in a block names a block, by an entry, by a slot, or as the node after it
abbrev pub Names : Option (List ℕ) → ℕ → Type 0
Names node next = ((item : Item) × Contains (link_items node) item × PlaceNames item.place next) ⊎ (BodyNames (index_of node) (pointer_of node) next ⊎ NextNames node next)

-- the least set that has the roots and all that its members name
pub data Reached (f : Blocks) (roots : List ℕ) : ℕ → Type 0 where
  IsFirst : {block : ℕ} → Contains roots block → Reached f roots block
  IsNamed : {block next : ℕ} → Reached f roots block → Names (f block) next → Reached f roots next

-- the blocks that the roots reach hold the same nodes
abbrev pub Agrees : List ℕ → Blocks → Blocks → Type 0
Agrees roots old new = (block : ℕ) → Reached old roots block → new block ≡ old block

-- all that a place reaches is kept
abbrev pub IsHeld : Blocks → (ℕ → Bool) → Place → Type 0
IsHeld f kept at = (root : ℕ) → PlaceNames at root → (block : ℕ) → Reached f (root ∷ []) block → kept block ≡ true

-- kept blocks stay kept and keep their nodes
pub record Keeps (kept : ℕ → Bool) (old : Blocks) (kept' : ℕ → Bool) (new : Blocks) : Type 0 where
  pub same : (block : ℕ) → kept block ≡ true → new block ≡ old block
  pub stays : (block : ℕ) → kept block ≡ true → kept' block ≡ true

-- What one look at a block, and at the blocks that it names, shows: where each reached block is sound, whole trees hang
-- from the roots.
use Rattle.std.specs.Prelude.{◌≡◌, ◌≢◌, ℕ, zero, suc, ◌+◌, ◌*◌, ◌<◌, ◌≤◌, false, Option, Some, None, List, length, Contains}
use Rattle.node_format.specs.Items.{Item}
use Rattle.node_format.specs.Links.{Link}
use Rattle.node_format.specs.declared.place.Place.{Place}
use Rattle.node_format.specs.declared.place.Place.TheVariants.{Dir, File}
use Rattle.nodes.specs.Bodies.{Blocks, index_of, pointer_of, data_of, head_index}
use Rattle.nodes.specs.Chains.{link_of, entries_in}
use Rattle.nodes.specs.Trees.{IsRoot}
use Rattle.nodes.specs.Reached.{Reached}
use Rattle.nodes.specs.TreeLaws.{IsShallow}
use Rattle.fs_types.specs.declared.limits.TheConstants.{MAX_FILE_BYTES, MAX_NAMES}
use Rattle.node_format.specs.BodyNodes.{HasSlot}

-- the block holds a node of a directory
abbrev pub HoldsLink : Blocks → ℕ → Type 0
HoldsLink f block = (l : Link) × (link_of (f block) ≡ Some l)

-- a directory begins in the block
abbrev pub IsDirectoryAt : Blocks → ℕ → Type 0
IsDirectoryAt f block = (items : List Item) × (entries_in f block ≡ Some items)

-- the node is none of a chain
abbrev pub IsPlainNode : Option (List ℕ) → Type 0
IsPlainNode node = (l : Link) → link_of node ≡ Some l → l.chained ≡ false

-- the head of a file has the index that the length asks, and bytes enough
abbrev pub IsHead : ℕ → Blocks → ℕ → ℕ → Type 0
IsHead capacity f head zero = head ≡ 0
IsHead capacity f head (suc n) =
    (index_of (f head) ≡ Some (head_index capacity (suc n))) × (suc n ≤ head_index capacity (suc n) * capacity + length (data_of (f head)))

-- an entry leads to a node of a directory, or to the head of its file
abbrev pub IsSoundPlace : ℕ → Blocks → Place → Type 0
IsSoundPlace capacity f (Dir block) = HoldsLink f block
IsSoundPlace capacity f (File head size) = IsHead capacity f head size

-- slot x of a body node names this block
pub record HoldsSlot (node : Option (List ℕ)) (x next : ℕ) : Type 0 where
  pub index : ℕ
  pub is_body : index_of node ≡ Some index
  pub names : pointer_of node x ≡ next

-- each slot that the index has, after slot 0, is the one before it of the node that the one before it names
abbrev pub AreStepped : Blocks → (ℕ → ℕ) → ℕ → Type 0
AreStepped f pointer index = (x : ℕ) → HasSlot index (suc x) → HoldsSlot (f (pointer x)) x (pointer (suc x))

-- the node before is full and has the index before, and the slots are stepped
abbrev pub IsSoundBody : ℕ → Blocks → (ℕ → ℕ) → ℕ → Type 0
IsSoundBody capacity f pointer zero = Unit {0}
IsSoundBody capacity f pointer (suc i) =
    (index_of (f (pointer 0)) ≡ Some i) × (length (data_of (f (pointer 0))) ≡ capacity) × AreStepped f pointer (suc i)

-- a node's entries are sound, and so are a body node's pointers; its index is one that a file can have
pub record AreSoundNames (capacity : ℕ) (f : Blocks) (node : Option (List ℕ)) : Type 0 where
  pub entries : (l : Link) → link_of node ≡ Some l → (item : Item) → Contains l.items item → IsSoundPlace capacity f item.place
  pub pointers : (index : ℕ) → index_of node ≡ Some index → IsSoundBody capacity f (pointer_of node) index
  pub short : (index : ℕ) → index_of node ≡ Some index → index * capacity < MAX_FILE_BYTES

-- what the node in a block names is sound, and where it is one of a directory, a directory begins in the block
pub record IsSoundNode (capacity : ℕ) (f : Blocks) (block : ℕ) : Type 0 where
  pub names : AreSoundNames capacity f (f block)
  pub directory : HoldsLink f block → IsDirectoryAt f block

-- all that the roots reach is sound, and they hold directories below which no path has more names than it may
pub record AreSound (capacity : ℕ) (f : Blocks) (roots : List ℕ) : Type 0 where
  pub nodes : (b : ℕ) → Reached f roots b → IsSoundNode capacity f b
  pub directories : (root : ℕ) → Contains roots root → HoldsLink f root
  pub shallow : (root : ℕ) → Contains roots root → IsShallow f (Dir root) MAX_NAMES

-- then each root has a tree
abbrev pub SoundHasTrees : Type 0
SoundHasTrees = (capacity : ℕ) (f : Blocks) (roots : List ℕ) → AreSound capacity f roots → (root : ℕ) → Contains roots root → IsRoot capacity f root

-- where each root has a tree, all of it is sound
abbrev pub TreesAreSound : Type 0
TreesAreSound = (capacity : ℕ) (f : Blocks) (roots : List ℕ) → ((root : ℕ) → Contains roots root → IsRoot capacity f root) → AreSound capacity f roots

-- and each reached block holds a node
abbrev pub TreesHoldNodes : Type 0
TreesHoldNodes = (capacity : ℕ) (f : Blocks) (roots : List ℕ) → ((root : ℕ) → Contains roots root → IsRoot capacity f root) → (b : ℕ) → Reached f roots b → f b ≢ None

-- no node of a chain is reached
abbrev pub IsPlain : Blocks → List ℕ → Type 0
IsPlain f roots = (b : ℕ) → Reached f roots b → IsPlainNode (f b)

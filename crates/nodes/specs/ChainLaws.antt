-- The laws of directories as chains of nodes: what stays, how they are put together, how many nodes they have, what they reach.
use Rattle.std.specs.Prelude.{◌≡◌, ◌⊎◌, ℕ, suc, ◌<◌, ◌≤◌, true, Some, List, [], ◌∷◌, ◌++◌, length, Contains}
use Rattle.fs_types.specs.Names.{Name}
use Rattle.plain_trees.specs.Trees.{nodes_for}
use Rattle.node_format.specs.Items.{Item, are_ascending}
use Rattle.node_format.specs.Links.{Link}
use Rattle.node_format.specs.declared.place.Place.{Place}
use Rattle.node_format.specs.declared.place.Place.TheVariants.{Dir}
use Rattle.nodes.specs.Bodies.{Blocks}
use Rattle.nodes.specs.Chains.{link_of, is_later, entries_after, most_after, entries_in, items_in, chain}
use Rattle.nodes.specs.Trees.{child}
use Rattle.nodes.specs.Reached.{Reached, PlaceNames}

-- where the nodes of a directory stay, it stays, and so do its blocks
abbrev pub ChainFrameLaw : Type 0
ChainFrameLaw = (old new : Blocks) (block : ℕ) → ((b : ℕ) → Contains (chain old block) b → new b ≡ old b)
    → (entries_in new block ≡ entries_in old block) × (chain new block ≡ chain old block)

-- one node more before others
abbrev pub StepLaw : Type 0
StepLaw = (f : Blocks) (n next : ℕ) (l : Link) (more : List Item) → 0 < next → link_of (f next) ≡ Some l → is_later l ≡ true → entries_after n f l.next ≡ Some more → entries_after (suc n) f next ≡ Some (l.items ++ more)

-- and the first one
abbrev pub FirstLaw : Type 0
FirstLaw = (f : Blocks) (n block : ℕ) (l : Link) (more : List Item) → n ≤ most_after → link_of (f block) ≡ Some l → entries_after n f l.next ≡ Some more → are_ascending (l.items ++ more) ≡ true → entries_in f block ≡ Some (l.items ++ more)

-- a directory begins in a block
abbrev pub BeginsIn : Blocks → ℕ → Type 0
BeginsIn f block = (items : List Item) × (entries_in f block ≡ Some items)

-- each node of a directory begins a directory
abbrev pub TailLaw : Type 0
TailLaw = (f : Blocks) (block : ℕ) (items : List Item) (b : ℕ) → entries_in f block ≡ Some items → Contains (chain f block) b → BeginsIn f b

-- how many nodes a directory has is told by how many entries
abbrev pub CountLaw : Type 0
CountLaw = (f : Blocks) (block : ℕ) (items : List Item) → entries_in f block ≡ Some items → length (chain f block) ≡ nodes_for (length items)

-- the nodes of a directory are reached from its block
abbrev pub ReachedLaw : Type 0
ReachedLaw = (f : Blocks) (block b : ℕ) → Contains (chain f block) b → Reached f (block ∷ []) b

-- an entry is what its name leads to
abbrev pub EntryLaw : Type 0
EntryLaw = (f : Blocks) (block : ℕ) (item : Item) → Contains (items_in f block) item → child f (Dir block) item.name ≡ Some item.place

-- what an entry names is reached from the block of the directory
abbrev pub NamedLaw : Type 0
NamedLaw = (f : Blocks) (block : ℕ) (name : Name) (place : Place) (root : ℕ) → child f (Dir block) name ≡ Some place → PlaceNames place root → Reached f (block ∷ []) root

-- what a directory reaches is one of its nodes, or what an entry of it reaches
abbrev pub IsReachedFrom : Blocks → ℕ → ℕ → Type 0
IsReachedFrom f block b = Contains (chain f block) b ⊎ ((name : Name) × (place : Place) × (next : ℕ) × (child f (Dir block) name ≡ Some place) × PlaceNames place next × Reached f (next ∷ []) b)

abbrev pub ReachedByLaw : Type 0
ReachedByLaw = (f : Blocks) (block : ℕ) (items : List Item) (b : ℕ) → entries_in f block ≡ Some items → Reached f (block ∷ []) b → IsReachedFrom f block b

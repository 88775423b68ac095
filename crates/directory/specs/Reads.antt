-- The entries of a directory, read node by node as far as they are wanted.
use Rattle.std.specs.Prelude.{◌≡◌, ◌⊎◌, ℕ, ◌+◌, ◌*◌, ◌≤◌, ◌==◌, ◌||◌, ◌&&◌, Bool, true, Option, Some, None, IsSome, List, ◌++◌, length, Contains}
use Rattle.std.specs.Option.{is_some}
use Rattle.fs_types.specs.declared.limits.TheConstants.{NODE_ENTRIES, CHAIN_NODES, MAX_ENTRIES}
use Rattle.fs_types.specs.Names.{Name}
use Rattle.node_format.specs.Items.{Item, named_place, are_ascending}
use Rattle.node_format.specs.Links.{Link}
use Rattle.nodes.specs.Bodies.{Blocks}
use Rattle.nodes.specs.Chains.{entries_after, blocks_after, entries_in, chain}
use Rattle.plain_trees.specs.Trees.{nodes_for}
use Rattle.directory.specs.Counts.{entries_to}

-- the first entries of the directory that begins in a block, those of its nodes before the one in another block (0: of all): at most so many nodes are left
pub record IsReadTo (f : Blocks) (block left : ℕ) (items : List Item) (tail : ℕ) : Type 0 where
  pub more : List Item
  pub all : entries_in f block ≡ Some (items ++ more)
  pub rest : entries_after left f tail ≡ Some more
  pub within : (b : ℕ) → Contains (blocks_after left f tail) b → Contains (chain f block) b
  pub full : (tail ≡ 0) ⊎ (length items ≡ NODE_ENTRIES * nodes_for (length items))
  pub few : left + nodes_for (length items) ≤ CHAIN_NODES

-- the entries of a node may be put after others: they come after them in order, and are not too many with them
abbrev pub MayAppend : Option Link → List Item → Type 0
MayAppend None items = ⊥
MayAppend (Some link) items = (are_ascending (items ++ link.items) ≡ true) × (length items + length link.items ≤ MAX_ENTRIES)

-- the entries of a node were put after others: whether it has one of the name, and the block of the node after it
abbrev pub IsAppended : Option Link → Name → List Item → List Item → Bool → ℕ → Type 0
IsAppended None name old new has_name next = ⊥
IsAppended (Some link) name old new has_name next = (new ≡ old ++ link.items) × (has_name ≡ is_some (named_place link.items name)) × (next ≡ link.next)

-- no more nodes are wanted: none is left, or a place is put under a name that the last one has
abbrev pub is_enough : Bool → Bool → ℕ → Bool
is_enough puts has_name next = (next == 0) || (puts && has_name)

-- as far as an edit of a name wants the entries: all of them, or where a place is put under a name that is there, those of the nodes up to the one with it
pub record IsEnough (items : List Item) (tail : ℕ) (name : Name) (puts : Bool) : Type 0 where
  pub ends : (tail ≡ 0) ⊎ ((puts ≡ true) × IsSome (named_place items name))
  pub needed : puts ≡ true → nodes_for (length items) ≡ nodes_for (entries_to items name)

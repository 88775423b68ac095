-- Nodes of a chain that are kept, and lists of entries written before them.
use Rattle.std.specs.Prelude.{◌≡◌, ◌⊎◌, ℕ, ◌+◌, ◌<◌, ◌≤◌, Bool, true, false, Some, List, ◌++◌, length, Contains}
use Rattle.fs_types.specs.declared.limits.TheConstants.{CHAIN_NODES}
use Rattle.node_format.specs.Items.{Item, are_ascending}
use Rattle.node_format.specs.Links.{link}
use Rattle.nodes.specs.Bodies.{Blocks}
use Rattle.nodes.specs.Chains.{link_of, entries_after, blocks_after, entries_in, chain}
use Rattle.nodes.specs.Rewritten.{IsFreshNode}
use Rattle.plain_trees.specs.Trees.{nodes_for}

-- the nodes from a block on, at most so many, have these entries, and are kept
pub record IsKeptAfter (f : Blocks) (kept : ℕ → Bool) (n next : ℕ) (items : List Item) : Type 0 where
  pub entries : entries_after n f next ≡ Some items
  pub held : (b : ℕ) → Contains (blocks_after n f next) b → kept b ≡ true

-- the entries are in one node more, before those that stand from a block on, in a block that was not kept and is now
pub record IsOneMore (kept : ℕ → Bool) (new : Blocks) (kept' : ℕ → Bool) (next to : ℕ) (items : List Item) : Type 0 where
  pub fresh : kept to ≡ false
  pub is_kept : kept' to ≡ true
  pub some : 0 < to
  pub node : link_of (new to) ≡ Some (link true next items)

-- the nodes from a block on have these entries and are kept; each is a fresh node of a chain, or stood after them before
pub record IsPut (old : Blocks) (kept : ℕ → Bool) (n tail : ℕ) (new : Blocks) (kept' : ℕ → Bool) (all to : ℕ) (items : List Item) : Type 0 where
  pub here : IsKeptAfter new kept' all to items
  pub fresh : (b : ℕ) → Contains (blocks_after all new to) b → IsFreshNode kept new b ⊎ Contains (blocks_after n old tail) b

-- entries in so many nodes from a block on, before those that stand after them, which were there before and are kept
abbrev pub PutsBefore : Blocks → (ℕ → Bool) → Blocks → (ℕ → Bool) → ℕ → ℕ → ℕ → List Item → Type 0
PutsBefore old kept new kept' nodes tail to items = (n : ℕ) (more : List Item) → IsKeptAfter old kept n tail more → IsPut old kept n tail new kept' (nodes + n) to (items ++ more)

-- the directory that begins in a block has these entries; each of its nodes is kept, and is a fresh one of a chain, or is one of the old nodes from a block on
pub record IsDirectoryPut (old : Blocks) (kept : ℕ → Bool) (n tail : ℕ) (new : Blocks) (kept' : ℕ → Bool) (to : ℕ) (items : List Item) : Type 0 where
  pub entries : entries_in new to ≡ Some items
  pub nodes : (b : ℕ) → Contains (chain new to) b → (kept' b ≡ true) × (IsFreshNode kept new b ⊎ Contains (blocks_after n old tail) b)

-- entries as a directory, before those that stand after them, which were there before and are kept, where all are in order and not too many
abbrev pub PutsDirectory : Blocks → (ℕ → Bool) → Blocks → (ℕ → Bool) → ℕ → ℕ → List Item → Type 0
PutsDirectory old kept new kept' tail to items =
    (n : ℕ) (more : List Item) → n + nodes_for (length items) ≤ CHAIN_NODES → are_ascending (items ++ more) ≡ true → IsKeptAfter old kept n tail more → IsDirectoryPut old kept n tail new kept' to (items ++ more)

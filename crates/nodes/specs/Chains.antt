-- Directories: the entries along a chain of nodes.
use Rattle.std.specs.Prelude.{ℕ, zero, suc, ◌-◌, ◌==◌, ◌&&◌, Bool, false, nat_lt, Option, Some, None, unwrap_or, List, [], ◌∷◌, ◌++◌, length, if◌then◌else◌}
use Rattle.std.specs.Option.{option_map, option_map_or, option_and_then}
use Rattle.fs_types.specs.declared.limits.TheConstants.{CHAIN_NODES}
use Rattle.node_format.specs.Items.{Item, are_ascending}
use Rattle.node_format.specs.Links.{Link, link_at}
use Rattle.nodes.specs.Bodies.{Blocks}

-- what a node says as one of a directory; none of any other node
abbrev pub link_of : Option (List ℕ) → Option Link
link_of node = option_and_then link_at node

-- whether a node is one of a chain
abbrev pub is_chained : Option (List ℕ) → Bool
is_chained node = option_map_or (λ link. link.chained) (link_of node) false

-- the block of the node after a node, 0 where none comes
abbrev pub next_of : Option (List ℕ) → ℕ
next_of node = option_map_or (λ link. link.next) (link_of node) 0

-- a node that comes after another is one of a chain, and has entries
abbrev pub is_later : Link → Bool
is_later link = link.chained && nat_lt 0 (length link.items)

-- the entries of a node, and of those after it
abbrev pub and_after : (ℕ → Option (List Item)) → Link → Option (List Item)
and_after rest link = option_map (λ more. link.items ++ more) (rest link.next)

abbrev pub later : (ℕ → Option (List Item)) → Option Link → Option (List Item)
later rest None = None
later rest (Some link) = if is_later link then and_after rest link else None

-- the entries of the nodes from a block on, at most so many nodes; 0 names none
abbrev pub entries_after : ℕ → Blocks → ℕ → Option (List Item)
entries_after zero f next = if next == 0 then Some [] else None
entries_after (suc n) f next = if next == 0 then Some [] else later (entries_after n f) (link_of (f next))

-- the most nodes after the first one of a chain
abbrev pub most_after : ℕ
most_after = CHAIN_NODES - 1

-- the entries of one node
abbrev pub link_items : Option (List ℕ) → List Item
link_items node = option_map_or (λ link. link.items) (link_of node) []

-- names ascend along the whole chain
abbrev pub in_order : List Item → Option (List Item)
in_order items = if are_ascending items then Some items else None

-- the entries of the directory that begins in a block: a chain of at most 32 nodes; none where it is no directory
abbrev pub entries_in : Blocks → ℕ → Option (List Item)
entries_in f block = option_and_then in_order (option_and_then (and_after (entries_after most_after f)) (link_of (f block)))

abbrev pub items_in : Blocks → ℕ → List Item
items_in f block = unwrap_or (entries_in f block) []

-- the blocks of the nodes from a block on, at most so many
abbrev pub blocks_after : ℕ → Blocks → ℕ → List ℕ
blocks_after zero f next = []
blocks_after (suc n) f next = if next == 0 then [] else next ∷ blocks_after n f (next_of (f next))

-- the blocks of the directory that begins in a block
abbrev pub chain : Blocks → ℕ → List ℕ
chain f block = block ∷ blocks_after most_after f (next_of (f block))

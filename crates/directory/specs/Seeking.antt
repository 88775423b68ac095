-- What a name leads to in a directory, as its nodes are read one after the other.
use Rattle.std.specs.Prelude.{◌≡◌, ◌||◌, Bool, ℕ, zero, suc, ◌==◌, Option, Some, None, Result, Ok, Err, List, length, if◌then◌else◌}
use Rattle.std.specs.Option.{is_some}
use Rattle.std.specs.List.{flat_map}
use Rattle.fs_types.specs.Names.{Name}
use Rattle.fs_types.specs.declared.fault.Fault.{Fault}
use Rattle.fs_types.specs.declared.fault.Fault.TheVariants.{Damaged}
use Rattle.node_format.specs.Items.{Item, named_place}
use Rattle.node_format.specs.declared.place.Place.{Place}
use Rattle.node_format.specs.Links.{Link}
use Rattle.nodes.specs.Bodies.{Blocks}
use Rattle.nodes.specs.Chains.{link_of, link_items, is_later, most_after, chain}

-- the place in this node, or what the nodes after it say
abbrev pub here_or : Option Place → Result (Option Place) Fault → Result (Option Place) Fault
here_or None rest = rest
here_or (Some place) rest = Ok (Some place)

abbrev pub seek_link : (ℕ → Result (Option Place) Fault) → Name → Link → Result (Option Place) Fault
seek_link rest name link = here_or (named_place link.items name) (rest link.next)

abbrev pub seek_later : (ℕ → Result (Option Place) Fault) → Name → Option Link → Result (Option Place) Fault
seek_later rest name None = Err Damaged
seek_later rest name (Some link) = if is_later link then seek_link rest name link else Err Damaged

-- in the nodes from a block on, at most so many; 0 names none
abbrev pub seek : ℕ → Blocks → Name → ℕ → Result (Option Place) Fault
seek zero f name next = if next == 0 then Ok None else Err Damaged
seek (suc n) f name next = if next == 0 then Ok None else seek_later (seek n f name) name (link_of (f next))

abbrev pub seek_first : (ℕ → Result (Option Place) Fault) → Name → Option Link → Result (Option Place) Fault
seek_first rest name None = Err Damaged
seek_first rest name (Some link) = seek_link rest name link

-- in the directory that begins in a block; no node after the one that has the name is looked at
abbrev pub place_in : Blocks → Name → ℕ → Result (Option Place) Fault
place_in f name block = seek_first (seek most_after f name) name (link_of (f block))

-- the entries of the nodes in some blocks, one after the other
abbrev pub entries_along : Blocks → List ℕ → List Item
entries_along f blocks = flat_map (λ b. link_items (f b)) blocks

-- those of the nodes that follow one another from a block on, as many as a directory may have: in a directory all it has
abbrev pub chain_items : Blocks → ℕ → List Item
chain_items f block = entries_along f (chain f block)

-- what a node says of a name: it is there, whether it may come after another, the place of the name, how many entries it
-- has, and the block of the node after it
abbrev pub Sees : Option Link → Name → Bool → Option Place → ℕ → ℕ → Type 0
Sees None name later place count next = ⊥
Sees (Some link) name later place count next = (later ≡ is_later link) × (place ≡ named_place link.items name) × (count ≡ length link.items) × (next ≡ link.next)

-- no node is left to be read: the name was found, or none comes after
abbrev pub is_over : Option Place → ℕ → Bool
is_over place next = is_some place || (next == 0)

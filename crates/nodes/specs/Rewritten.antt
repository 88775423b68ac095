-- A path of directories written anew from a changed entry up to the root.
use Rattle.std.specs.Prelude.{◌≡◌, ◌⊎◌, ℕ, Bool, true, false, Option, Some, None, List, [], ◌∷◌, Contains, if◌then◌else◌}
use Rattle.fs_types.specs.Names.{Name, Path, same_name}
use Rattle.node_format.specs.Items.{Item, named_place}
use Rattle.node_format.specs.declared.place.Place.{Place}
use Rattle.node_format.specs.declared.place.Place.TheVariants.{Dir}
use Rattle.nodes.specs.Bodies.{Blocks}
use Rattle.nodes.specs.Chains.{chain, is_chained}
use Rattle.nodes.specs.Trees.{entries_in, child}

-- the directory at `to` has the entries of the one at `from`, but that a name leads to this place (None: to nothing)
abbrev pub IsDirectoryEdit : Blocks → Blocks → ℕ → ℕ → Name → Option Place → Type 0
IsDirectoryEdit old new from to n at =
    (items : List Item) × (entries_in new to ≡ Some items) × ((m : Name) → named_place items m ≡ (if same_name n m then at else child old (Dir from) m))

-- a node of a chain was written in a block that was not kept
abbrev pub IsFreshNode : (ℕ → Bool) → Blocks → ℕ → Type 0
IsFreshNode kept new b = (kept b ≡ false) × (is_chained (new b) ≡ true)

-- each node of the new directory is kept, and is fresh, one of a chain, or is a node of the old one
abbrev pub IsFreshChain : Blocks → Blocks → (ℕ → Bool) → (ℕ → Bool) → ℕ → ℕ → Type 0
IsFreshChain old new kept kept' from to = (b : ℕ) → Contains (chain new to) b → (kept' b ≡ true) × (IsFreshNode kept new b ⊎ Contains (chain old from) b)

-- each directory along the path was written anew, so that the path leads to this place
abbrev pub IsRewritten : Blocks → Blocks → (ℕ → Bool) → (ℕ → Bool) → ℕ → ℕ → Path → Option Place → Type 0
IsRewritten old new kept kept' from to [] at = ⊥
IsRewritten old new kept kept' from to (n ∷ []) at = IsFreshChain old new kept kept' from to × IsDirectoryEdit old new from to n at
IsRewritten old new kept kept' from to (n ∷ m ∷ p) at =
    (below : ℕ) × (next : ℕ) × (child old (Dir from) n ≡ Some (Dir below)) × IsFreshChain old new kept kept' from to
    × IsDirectoryEdit old new from to n (Some (Dir next)) × IsRewritten old new kept kept' below next (m ∷ p) at

-- in new the directory at `to` has the entries of the one at `from` in old, but that one name leads to one place and another to another (None: to nothing)
abbrev pub IsSecondEdit : Blocks → Blocks → ℕ → ℕ → Name → Option Place → Name → Option Place → Type 0
IsSecondEdit old new from to n at m at' =
    (items : List Item) × (entries_in new to ≡ Some items) × ((k : Name) → named_place items k ≡ (if same_name m k then at' else if same_name n k then at else child old (Dir from) k))

-- what a name of a directory leads to now, so that the names after it lead on to this place: the place itself where
-- none come after it, else the directory below, written anew
abbrev pub IsBranch : Blocks → Blocks → (ℕ → Bool) → (ℕ → Bool) → ℕ → Name → Path → Option Place → Option Place → Type 0
IsBranch old new kept kept' from n [] at now = now ≡ at
IsBranch old new kept kept' from n (m ∷ p) at now =
    (below : ℕ) × (next : ℕ) × (child old (Dir from) n ≡ Some (Dir below)) × (now ≡ Some (Dir next))
    × IsRewritten old new kept kept' below next (m ∷ p) at

-- each directory along two paths was written anew, once where both go through it: the first path leads to nothing, the
-- second to this place; neither begins the other
abbrev pub IsMoved : Blocks → Blocks → (ℕ → Bool) → (ℕ → Bool) → ℕ → ℕ → Path → Path → Place → Type 0
IsMoved old new kept kept' from to [] q place = ⊥
IsMoved old new kept kept' from to (n ∷ p) [] place = ⊥
IsMoved old new kept kept' from to (n ∷ p) (m ∷ q) place = IsFreshChain old new kept kept' from to × (
    ((same_name n m ≡ true) × (below : ℕ) × (next : ℕ) × (child old (Dir from) n ≡ Some (Dir below))
    × IsDirectoryEdit old new from to n (Some (Dir next)) × IsMoved old new kept kept' below next p q place)
    ⊎ ((same_name n m ≡ false) × (gone : Option Place) × (here : Option Place) × IsSecondEdit old new from to n gone m here
    × IsBranch old new kept kept' from n p None gone × IsBranch old new kept kept' from m q (Some place) here))

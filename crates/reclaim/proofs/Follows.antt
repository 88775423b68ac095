-- What the first page of a node tells of the order of a chain.
use Rattle.std.proofs.Common.{◌≡◌, ℕ, ◌≤◌, Bool, true, false, cond, ltb, Option, Some, None, List, [], ◌∷◌, length, refl, arith}
use Rattle.std.specs.Prelude.{◌&&◌, min, slice_get}
use Rattle.std.specs.Option.{option_map, option_map_or}
use Rattle.std.proofs.lemmas.Bool.{lt-ltb}
use Rattle.fs_types.specs.Names.{Name}
use Rattle.node_format.specs.Items.{Item, is_before}
use Rattle.node_format.specs.Links.{Link, link_at, first_of}
use Rattle.nodes.specs.Parts.{IsFront}
use Rattle.nodes.specs.Chains.{link_of}
use Rattle.reclaim.specs.Looks.{may_follow, are_after}

-- a node comes after a name where its first entry does
pub by_first : (name : Name) (l : Link) → option_map_or (is_before name) (first_of l) false ≡ may_follow name (Some l)
by_first name l = on l.chained l.items
  where
    on : (chained : Bool) (items : List Item) → option_map_or (is_before name) (cond chained (option_map (λ (item : Item). item.name) (slice_get items 0)) None) false ≡ ((chained && ltb 0 (length items)) && are_after name items)
    on false items = refl
    on true [] = refl
    on true (item ∷ items) = let some : ltb 0 (length (item ∷ items)) ≡ true = lt-ltb 0 (length (item ∷ items)) (omega arith) in rw some refl

-- a front has 90 bytes of a node, or all
pub front_enough : (page : ℕ) (front bytes : List ℕ) → 256 ≤ page → IsFront page front bytes → min 90 (length bytes) ≤ length front
front_enough page front bytes room is = omega (arith, room, is.enough)

-- the bytes of a node of a directory
pub link_bytes : (node : Option (List ℕ)) (l : Link) → link_of node ≡ Some l → (bytes : List ℕ) × (node ≡ Some bytes) × (link_at bytes ≡ Some l)
link_bytes None l e = absurd cc
link_bytes (Some bytes) l e = (bytes, refl, e)

-- A rewriting after a write, seen from before it.
use Rattle.std.proofs.Common.{◌≡◌, ℕ, inl, inr, Bool, false, cond, Option, Some, Result, Ok, Err, List, [], ◌∷◌, refl, sym, ap, subst, ◌∙◌}
use Rattle.std.specs.Prelude.{unwrap_or, Contains}
use Rattle.fs_types.specs.Names.{Name, Path, same_name}
use Rattle.fs_types.specs.declared.fault.Fault.{Fault}
use Rattle.node_format.specs.Items.{Item, named_place}
use Rattle.node_format.specs.declared.place.Place.{Place}
use Rattle.node_format.specs.declared.place.Place.TheVariants.{Dir}
use Rattle.nodes.specs.Bodies.{Blocks}
use Rattle.nodes.specs.Chains.{entries_in}
use Rattle.nodes.specs.Trees.{child}
use Rattle.nodes.specs.Reached.{IsHeld, Keeps}
use Rattle.nodes.specs.Rewritten.{IsDirectoryEdit, IsFreshChain, IsRewritten}
use Rattle.nodes.proofs.Reaching.{held_child}
use Rattle.directory.specs.declared.lookups.Found.{Found}
use Rattle.directory.specs.Lookups.{◌>>=◌}
use Rattle.directory.proofs.Held.{same_held}

-- ---- a look up that found something

pub on_below : (below : Result ℕ Fault) (after : ℕ → Result Found Fault) (found : Found) → (below >>= after) ≡ Ok found → (block : ℕ) × (below ≡ Ok block) × (after block ≡ Ok found)
on_below (Err fault) after found e = absurd cc
on_below (Ok block) after found e = (block, refl, e)

-- ---- a rewriting after a write

-- a name leads where it did
pub child_is : (f g : Blocks) (block : ℕ) (name : Name) → entries_in g block ≡ entries_in f block → child g (Dir block) name ≡ child f (Dir block) name
child_is f g block name same = ap (λ (o : Option (List Item)). named_place (unwrap_or o []) name) same

pub edit_before : (f g h : Blocks) (from to : ℕ) (name : Name) (at : Option Place) → entries_in g from ≡ entries_in f from → IsDirectoryEdit g h from to name at → IsDirectoryEdit f h from to name at
edit_before f g h from to name at same (items, spelled, leads) =
    (items, spelled, λ m. leads m ∙ ap (λ (o : Option Place). cond (same_name name m) at o) (child_is f g from m same))

pub fresh_before : (f g h : Blocks) (k l kept : ℕ → Bool) → Keeps k f l g → ((b : ℕ) → l b ≡ false → k b ≡ false) → (from to : ℕ) → IsHeld f k (Dir from) → IsFreshChain g h l kept from to → IsFreshChain f h k kept from to
fresh_before f g h k l kept keeps was from to held fresh b inside =
    let now = fresh b inside in
    (now.0, elim now.1 [ inl free ↦ inl (was b free.0, free.1) | inr old ↦ inr (subst (λ (blocks : List ℕ). Contains blocks b) (same_held f g k l keeps from held).1 old) ])

pub rewritten_before : (f g h : Blocks) (k l kept : ℕ → Bool) → Keeps k f l g → ((b : ℕ) → l b ≡ false → k b ≡ false) → (path : Path) (from to : ℕ) (at : Option Place) → IsHeld f k (Dir from)
    → IsRewritten g h l kept from to path at → IsRewritten f h k kept from to path at
rewritten_before f g h k l kept keeps was [] from to at held r = absurd r
rewritten_before f g h k l kept keeps was (n ∷ []) from to at held (fresh, edit) =
    (fresh_before f g h k l kept keeps was from to held fresh, edit_before f g h from to n at (same_held f g k l keeps from held).0 edit)
rewritten_before f g h k l kept keeps was (n ∷ m ∷ p) from to at held (below, next, leads, fresh, edit, rest) =
    let same = (same_held f g k l keeps from held).0 in
    let led : child f (Dir from) n ≡ Some (Dir below) = sym (child_is f g from n same) ∙ leads in
    (below, next, led, fresh_before f g h k l kept keeps was from to held fresh, edit_before f g h from to n (Some (Dir next)) same edit, rewritten_before f g h k l kept keeps was (m ∷ p) below next at (held_child f k (Dir from) n (Dir below) led held) rest)

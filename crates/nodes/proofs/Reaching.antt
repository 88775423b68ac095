-- What places and blocks reach.
use Rattle.std.proofs.Common.{◌≡◌, ℕ, suc, unwrap_or, List, ◌*◌, ◌^◌, ◌⊎◌, inl, inr, Bool, Option, Some, None, [], ◌∷◌, get_or, refl, sym, ap, subst, ◌∙◌, arith}
use Rattle.std.specs.Prelude.{Contains}
use Rattle.std.specs.Option.{option_and_then}
use Rattle.fs_types.specs.Names.{Name, Path}
use Rattle.node_format.specs.declared.place.Place.{Place}
use Rattle.node_format.specs.declared.place.Place.TheVariants.{Dir, File}
use Rattle.nodes.specs.Bodies.{Blocks, index_of, pointer_of}
use Rattle.nodes.specs.Trees.{child, leads}
use Rattle.nodes.specs.Reached.{IsHeld, Reached, IsFirst, IsNamed, Names, BodyNames}
use Rattle.std.specs.Option.{option_map_or}
use Rattle.node_format.specs.Items.{Item}
use Rattle.node_format.specs.Links.{Link}
use Rattle.nodes.specs.Chains.{link_of, next_of, chain}
use Rattle.nodes.proofs.Entries.{place_is, directory_no_index}
use Rattle.nodes.specs.ChainLaws.{IsReachedFrom, ReachedByLaw}
use Rattle.nodes.proofs.Chained.{entry_named, among_chain, IsAmong, child_names}

only : (x y : ℕ) → Contains (x ∷ []) y → x ≡ y
only x y (k, lt, e) =
    let zeroth : k ≡ 0 = omega arith in
    ap (λ (j : ℕ). get_or (x ∷ []) j y) (sym zeroth) ∙ e

pub reached_own : (f : Blocks) (block : ℕ) → Reached f (block ∷ []) block
reached_own f block = IsFirst (0, omega arith, refl)

-- what a named block reaches, the block that names it reaches
pub reached_below : (f : Blocks) (block below : ℕ) → Names (f block) below → {b : ℕ} → Reached f (below ∷ []) b → Reached f (block ∷ []) b
reached_below f block below names {b} (IsFirst first) =
    subst (λ (x : ℕ). Reached f (block ∷ []) x) (only below b first) (IsNamed (reached_own f block) names)
reached_below f block below names (IsNamed before by) = IsNamed (reached_below f block below names before) by

-- what a reached block reaches is reached
pub reached_via : (f : Blocks) (roots : List ℕ) (below : ℕ) → Reached f roots below → {b : ℕ} → Reached f (below ∷ []) b → Reached f roots b
reached_via f roots below there {b} (IsFirst first) = subst (Reached f roots) (only below b first) there
reached_via f roots below there (IsNamed before by) = IsNamed (reached_via f roots below there before) by

-- what a block reaches is the block, or a block that it names reaches it
abbrev pub IsReachedBy : Blocks → ℕ → ℕ → Type 0
IsReachedBy f block b = (block ≡ b) ⊎ ((next : ℕ) × Names (f block) next × Reached f (next ∷ []) b)

one_more : (f : Blocks) (block b next : ℕ) → Names (f b) next → IsReachedBy f block b → IsReachedBy f block next
one_more f block b next names (inl here) = inr (next, subst (λ (x : ℕ). Names (f x) next) (sym here) names, reached_own f next)
one_more f block b next names (inr (first, named, reached)) = inr (first, named, IsNamed reached names)

pub reached_by : (f : Blocks) (block : ℕ) {b : ℕ} → Reached f (block ∷ []) b → IsReachedBy f block b
reached_by f block {b} (IsFirst first) = inl (only block b first)
reached_by f block {b} (IsNamed {block = before} reached names) = one_more f block before b names (reached_by f block reached)

-- what a directory reaches is one of its nodes, or what an entry of it reaches
pub reached_from : ReachedByLaw
reached_from f block items b is (IsFirst first) = inl (subst (Contains (chain f block)) (only block b first) (0, omega arith, refl))
reached_from f block items b is (IsNamed {block = before} reached names) = on (reached_from f block items before is reached)
  where
    contains : (item : Item) → Contains items item → child f (Dir block) item.name ≡ Some item.place
    contains item inside = entry_named f block item (subst (λ (o : Option (List Item)). Contains (unwrap_or o []) item) (sym is) inside)

    next_of_is : (l : Link) → link_of (f before) ≡ Some l → next_of (f before) ≡ l.next
    next_of_is l e = ap (λ (o : Option Link). option_map_or (λ x. x.next) o 0) e

    in_chain : IsAmong f before items (chain f block) → Names (f before) b → IsReachedFrom f block b
    in_chain a (inl (item, inside, named)) =
        let own = subst (λ (o : Option Link). Contains (option_map_or (λ x. x.items) o []) item) a.is inside in
        inr (item.name, item.place, b, contains item (a.entries item own), named, reached_own f b)
    in_chain a (inr (inl body)) = absurd (subst (λ (index : Option ℕ). BodyNames index (pointer_of (f before)) b) (directory_no_index (f before) a.l a.is) body)
    in_chain a (inr (inr (some, next))) =
        let same = sym (next_of_is a.l a.is) ∙ next in
        inl (subst (Contains (chain f block)) same (a.on (omega (arith, some, next_of_is a.l a.is))))

    on : IsReachedFrom f block before → IsReachedFrom f block b
    on (inl inside) = in_chain (among_chain f block items is before inside) names
    on (inr (name, place, next, leads, named, below)) = inr (name, place, next, leads, named, IsNamed below names)

-- slot 0 of a body node after the first names the node before it
pub before_named : (f : Blocks) (i block : ℕ) → index_of (f block) ≡ Some (suc i) → Names (f block) (pointer_of (f block) 0)
before_named f i block is =
    let divides : suc i ≡ suc i * 2 ^ 0 = omega arith in
    inr (inl (subst (λ (index : Option ℕ). BodyNames index (pointer_of (f block)) (pointer_of (f block) 0)) (sym is) (0, (omega arith, omega arith, (suc i, divides)), refl)))

-- what is below a held place is held
pub held_child : (f : Blocks) (kept : ℕ → Bool) (at : Place) (name : Name) (place : Place) → child f at name ≡ Some place → IsHeld f kept at → IsHeld f kept place
held_child f kept (Dir block) name place is held root names b reached =
    held block refl b (reached_via f (block ∷ []) root (child_names f block name place root is names) reached)
held_child f kept (File head size) name place is held root names b reached = absurd cc

pub held_leads : (f : Blocks) (kept : ℕ → Bool) (path : Path) (at place : Place) → leads f at path ≡ Some place → IsHeld f kept at → IsHeld f kept place
held_leads f kept [] at place is held = subst (IsHeld f kept) (place_is at place is) held
held_leads f kept (n ∷ path) at place is held = on (child f at n) refl is (held_leads f kept path)
  where
    on : (o : Option Place) → child f at n ≡ o → option_and_then (λ next. leads f next path) o ≡ Some place
        → ((next there : Place) → leads f next path ≡ Some there → IsHeld f kept next → IsHeld f kept there) → IsHeld f kept place
    on None e is again = absurd cc
    on (Some next) e is again = again next place is (held_child f kept at n next e held)

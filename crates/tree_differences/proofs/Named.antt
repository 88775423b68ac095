-- The entries of directories, and what their names lead to.
use Rattle.std.proofs.Common.{◌≡◌, ◌∙◌, ℕ, suc, ◌-◌, ◌≤◌, ◌<◌, Bool, true, cond, Option, Some, None, List, [], ◌∷◌, length, take, drop, map, get_or, refl, sym, ap, subst, arith}
use Rattle.std.proofs.Math.Seq.{drop-cons}
use Rattle.std.proofs.lemmas.List.{take_all}
use Rattle.std.specs.Prelude.{filter, unwrap_or}
use Rattle.std.specs.BTreeMap.{is_at}
use Rattle.std.specs.Map.{lookup}
use Rattle.fs_types.specs.Names.{Name, name_cmp, same_name}
use Rattle.fs_types.specs.declared.limits.TheConstants.{MAX_ENTRIES}
use Rattle.fs_types.proofs.Orders.{name_ties}
use Rattle.node_format.specs.Items.{Item, named_place}
use Rattle.node_format.specs.declared.place.Place.{Place}
use Rattle.node_format.specs.declared.place.Place.TheVariants.{Dir}
use Rattle.nodes.specs.Bodies.{Blocks}
use Rattle.nodes.specs.Trees.{entries_in, items_in}
use Rattle.nodes.proofs.ChainCounts.{most_of}
use Rattle.nodes.proofs.RootMaps.{same_name-turned}
use Rattle.directory.specs.Places.{placed, places_after, Begins}
use Rattle.tree_differences.specs.Differing.{child_at, items_at}

-- all entries come after none
all_kept : (items : List Item) → filter (λ item. true) items ≡ items
all_kept [] = refl
all_kept (item ∷ items) = ap (λ (l : List Item). item ∷ l) (all_kept items)

all_placed : (most : ℕ) (items : List Item) → length items ≤ most → places_after None most items ≡ map placed items
all_placed most items few = ap (map placed) (ap (take most) (all_kept items) ∙ take_all most items few)

-- a directory has no more entries than are asked for
pub entries_told : (f : Blocks) (place : Place) (block : ℕ) (entries : List (Name × Place)) → place ≡ Dir block → Begins f place
    → ((items : List Item) → entries_in f block ≡ Some items → entries ≡ places_after None MAX_ENTRIES items) → entries ≡ map placed (items_at f (Some place))
entries_told f place block entries is begins told =
    let whole : Begins f (Dir block) = subst (Begins f) is begins in
    let all : items_in f block ≡ whole.0 = ap (λ (o : Option (List Item)). unwrap_or o []) whole.1 in
    let few : length whole.0 ≤ MAX_ENTRIES = subst (λ (items : List Item). length items ≤ MAX_ENTRIES) all (most_of f block) in
    told whole.0 whole.1 ∙ all_placed MAX_ENTRIES whole.0 few ∙ sym (ap (λ (p : Place). map placed (items_at f (Some p))) is ∙ ap (map placed) all)

-- a test of names by their order
at_turned : (n m : Name) → is_at (name_cmp n) m ≡ same_name m n
at_turned n m = sym (name_ties n m) ∙ same_name-turned n m

at_both : (n m : Name) → is_at (name_cmp n) m ≡ is_at (name_cmp m) n
at_both n m = at_turned n m ∙ name_ties m n

-- what a name leads to, by the places of entries
pub looked_up : (items : List Item) (n : Name) → lookup (is_at (name_cmp n)) (map placed items) ≡ named_place items n
looked_up [] n = refl
looked_up (item ∷ items) n =
    ap (λ (b : Bool). cond b (Some item.place) (lookup (is_at (name_cmp n)) (map placed items))) (at_turned n item.name)
    ∙ ap (cond (same_name item.name n) (Some item.place)) (looked_up items n)

-- a map has what entries have of each name
abbrev pub AreNamed : List (Name × Place) → List (Name × Place) → Type 0
AreNamed places entries = (name : Name) → lookup (is_at (name_cmp name)) places ≡ lookup (is_at (name_cmp name)) entries

-- one entry more, before the others
pub named_more : (entries : List (Name × Place)) (left : ℕ) (e : Name × Place) (old new : List (Name × Place)) → 0 < left → left ≤ length entries → e ≡ get_or entries (left - 1) e
    → ((name : Name) → lookup (is_at (name_cmp name)) new ≡ cond (is_at (name_cmp e.0) name) (Some e.1) (lookup (is_at (name_cmp name)) old))
    → AreNamed old (drop left entries) → AreNamed new (drop (left - 1) entries)
named_more entries left e old new some within at inserted are name =
    let next : suc (left - 1) ≡ left = omega (arith, some) in
    let first : drop (left - 1) entries ≡ e ∷ drop left entries =
    drop-cons entries (left - 1) e (omega (arith, some, within)) ∙ ap (λ (x : Name × Place). x ∷ drop (suc (left - 1)) entries) (sym at) ∙ ap (λ (n : ℕ). e ∷ drop n entries) next in
    inserted name
    ∙ ap (λ (b : Bool). cond b (Some e.1) (lookup (is_at (name_cmp name)) old)) (at_both e.0 name)
    ∙ ap (cond (is_at (name_cmp name) e.0) (Some e.1)) (are name)
    ∙ sym (ap (lookup (is_at (name_cmp name))) first)

-- what a map leads to, by the entries of a place
pub child_named : (f : Blocks) (place : Option Place) (entries places : List (Name × Place)) → entries ≡ map placed (items_at f place) → AreNamed places entries
    → (name : Name) → lookup (is_at (name_cmp name)) places ≡ child_at f place name
child_named f place entries places is are name = are name ∙ ap (lookup (is_at (name_cmp name))) is ∙ looked_up (items_at f place) name

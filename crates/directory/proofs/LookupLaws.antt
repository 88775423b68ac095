-- What a look up answers is what path resolution says of the tree.
use Rattle.std.proofs.Common.{◌≡◌, ℕ, suc, ◌-◌, Bool, Option, Some, None, Result, Ok, Err, List, [], ◌∷◌, ◌++◌, length, take, refl, sym, ap, ◌∙◌, ◌⊎◌, inl, inr, arith}
use Rattle.std.specs.Prelude.{nat_le, unwrap_or}
use Rattle.std.specs.Option.{option_map, option_and_then, option_or}
use Rattle.fs_types.specs.declared.limits.TheConstants.{MAX_ENTRIES, MAX_NAMES}
use Rattle.fs_types.specs.Names.{Name, Path}
use Rattle.plain_trees.specs.Contents.{Contents, parent_of, under, way_refusal, lookup_refusal}
use Rattle.fs_types.specs.declared.fault.Fault.{Fault}
use Rattle.fs_types.specs.declared.fault.Fault.TheVariants.{NoEntry, NotDirectory}
use Rattle.node_format.specs.Items.{Item, named_place}
use Rattle.node_format.specs.declared.place.Place.{Place}
use Rattle.node_format.specs.declared.place.Place.TheVariants.{Dir, File}
use Rattle.nodes.specs.Bodies.{Blocks}
use Rattle.nodes.specs.Trees.{entries_in, items_in, child, leads, entry_at, tree, HasTree, IsRoot}
use Rattle.nodes.proofs.RootMaps.{leads-append}
use Rattle.directory.specs.declared.lookups.Found.{Found}
use Rattle.directory.specs.declared.lookups.Found.TheVariants as variant
use Rattle.directory.specs.Seeking.{chain_items}
use Rattle.directory.specs.Lookups.{directory_at, below_in, found_of, found_in, look_up, place_of, found_entry, LeadsToDirectories, ◌>>=◌}
use Rattle.directory.proofs.Directories.{along_chain, place_named, child_below}

abbrev ok_found : Found → Result Found Fault
ok_found x = Ok x

found_same : (x y : Found) → ok_found x ≡ ok_found y → x ≡ y
found_same x y e = cc

fault_same : {A : Type 0} (x y : Fault) → (let r : Result A Fault = Err x in r ≡ Err y) → x ≡ y
fault_same x y e = cc

-- ---- the place that was found

-- what is found in a directory, by its entries
pub found_items : (f : Blocks) (block : ℕ) (name : Name) (items : List Item) → entries_in f block ≡ Some items → found_in f name block ≡ Ok (found_of (named_place items name) (nat_le MAX_ENTRIES (length items)))
found_items f block name items spelled =
    ap (λ (r : Result (Option Place) Fault). r >>= (λ place. Ok (found_of place (nat_le MAX_ENTRIES (length (chain_items f block)))))) (place_named f block name items spelled)
    ∙ ap (λ (all : List Item). Ok (found_of (named_place items name) (nat_le MAX_ENTRIES (length all)))) (along_chain f block items spelled)

place_found : (f : Blocks) (block : ℕ) (name : Name) (found : Found) (items : List Item) → entries_in f block ≡ Some items → found_in f name block ≡ Ok found → named_place (items_in f block) name ≡ place_of found
place_found f block name found items spelled e =
    ap (λ (o : Option (List Item)). named_place (unwrap_or o []) name) spelled
    ∙ on (named_place items name) ∙ ap place_of (found_same (found_of (named_place items name) (nat_le MAX_ENTRIES (length items))) found (sym (found_items f block name items spelled) ∙ e))
  where
    on : (place : Option Place) → place ≡ place_of (found_of place (nat_le MAX_ENTRIES (length items)))
    on None = refl
    on (Some (File head size)) = refl
    on (Some (Dir block)) = refl

-- ---- the tree below a directory of a directory

tree_below : (capacity : ℕ) (f : Blocks) (block below : ℕ) (name : Name) → child f (Dir block) name ≡ Some (Dir below) → under (tree capacity f block) (name ∷ []) ≡ tree capacity f below
tree_below capacity f block below name led = λ i p. option_map (entry_at capacity f) (option_and_then (λ next. leads f next p) (led i))

and_then_same : {A : Type 0} (o : Option A) → option_and_then (λ x. Some x) o ≡ o
and_then_same None = refl
and_then_same (Some x) = refl

leads_one : (f : Blocks) (block : ℕ) (name : Name) → leads f (Dir block) (name ∷ []) ≡ named_place (items_in f block) name
leads_one f block name = and_then_same (named_place (items_in f block) name)

leads_below : (f : Blocks) (block below : ℕ) (name : Name) (path : Path) → child f (Dir block) name ≡ Some (Dir below) → leads f (Dir block) (name ∷ path) ≡ leads f (Dir below) path
leads_below f block below name path led = ap (λ (o : Option Place). option_and_then (λ next. leads f next path) o) led

-- the root of a tree, and a directory that its entries name
pub root_leads : (capacity depth : ℕ) (f : Blocks) (root : ℕ) → HasTree capacity f (Dir root) depth → LeadsToDirectories f root
root_leads capacity depth f root has path block led = (has path (Dir block) led).0

pub rooted_leads : (capacity : ℕ) (f : Blocks) (root : ℕ) → IsRoot capacity f root → LeadsToDirectories f root
rooted_leads capacity f root is = root_leads capacity MAX_NAMES f root is

-- so does each directory that a path leads to
pub led_leads : (f : Blocks) (root block : ℕ) (path : Path) → leads f (Dir root) path ≡ Some (Dir block) → LeadsToDirectories f root → LeadsToDirectories f block
led_leads f root block path led whole more at is = whole (path ++ more) at (leads-append f (Dir root) path more ∙ ap (option_and_then (λ next. leads f next more)) led ∙ is)

below_leads : (f : Blocks) (block below : ℕ) (name : Name) → child f (Dir block) name ≡ Some (Dir below) → LeadsToDirectories f block → LeadsToDirectories f below
below_leads f block below name led whole path at is = whole (name ∷ path) at (leads_below f block below name path led ∙ is)

child_is : (f : Blocks) (block below : ℕ) (name : Name) → LeadsToDirectories f block → below_in f name block ≡ Ok below → child f (Dir block) name ≡ Some (Dir below)
child_is f block below name whole is = let begins = whole [] block refl in child_below f block name below begins.0 begins.1 is

on_below : (below : Result ℕ Fault) (after : ℕ → Result Found Fault) (found : Found) → (below >>= after) ≡ Ok found → (block : ℕ) × (below ≡ Ok block) × (after block ≡ Ok found)
on_below (Err fault) after found e = absurd cc
on_below (Ok block) after found e = (block, refl, e)

-- a path leads to what a look up finds
pub found_place : (f : Blocks) (root : ℕ) (path : Path) (found : Found) → LeadsToDirectories f root → look_up f root path ≡ Ok found → leads f (Dir root) path ≡ place_of found
found_place f root [] found whole e = ap place_of (found_same (variant.Dir root) found e)
found_place f root (n ∷ []) found whole e = let begins = whole [] root refl in leads_one f root n ∙ place_found f root n found begins.0 begins.1 e
found_place f root (n ∷ m ∷ p) found whole e =
    let step = on_below (below_in f n root) (λ below. look_up f below (m ∷ p)) found e in
    let led = child_is f root step.0 n whole step.1 in
    leads_below f root step.0 n (m ∷ p) led ∙ found_place f step.0 (m ∷ p) found (below_leads f root step.0 n led whole) step.2

pub found_leads : (f : Blocks) (root : ℕ) (path : Path) (block : ℕ) → LeadsToDirectories f root → look_up f root path ≡ Ok (variant.Dir block) → leads f (Dir root) path ≡ Some (Dir block)
found_leads f root path block whole e = found_place f root path (variant.Dir block) whole e

pub found_leads_file : (f : Blocks) (root : ℕ) (path : Path) (head size : ℕ) → LeadsToDirectories f root → look_up f root path ≡ Ok (variant.File head size) → leads f (Dir root) path ≡ Some (File head size)
found_leads_file f root path head size whole e = found_place f root path (variant.File head size) whole e

entry_found : (capacity : ℕ) (f : Blocks) (found : Found) → option_map (entry_at capacity f) (place_of found) ≡ found_entry capacity f found
entry_found capacity f (variant.Missing is_full) = refl
entry_found capacity f (variant.File head size) = refl
entry_found capacity f (variant.Dir block) = refl

-- what stands at the path is what a look up finds
pub found_stands : (capacity : ℕ) (f : Blocks) (root : ℕ) (path : Path) (found : Found) → LeadsToDirectories f root → look_up f root path ≡ Ok found → tree capacity f root path ≡ found_entry capacity f found
found_stands capacity f root path found whole e = ap (λ (o : Option Place). option_map (entry_at capacity f) o) (found_place f root path found whole e) ∙ entry_found capacity f found

-- the refusal of a path whose first name is a directory
way_below : (capacity : ℕ) (f : Blocks) (block below : ℕ) (name next : Name) (path : Path) → child f (Dir block) name ≡ Some (Dir below)
    → lookup_refusal (tree capacity f block) (name ∷ next ∷ path) ≡ lookup_refusal (tree capacity f below) (next ∷ path)
way_below capacity f block below name next path led =
    ap (λ (t : Contents). option_or (way_refusal (t [])) (lookup_refusal t (next ∷ path))) (tree_below capacity f block below name led)

pub found_passes : (capacity : ℕ) (f : Blocks) (root : ℕ) (path : Path) (found : Found) → LeadsToDirectories f root → look_up f root path ≡ Ok found → lookup_refusal (tree capacity f root) path ≡ None
found_passes capacity f root [] found whole e = refl
found_passes capacity f root (n ∷ []) found whole e = refl
found_passes capacity f root (n ∷ m ∷ p) found whole e =
    let step = on_below (below_in f n root) (λ below. look_up f below (m ∷ p)) found e in
    let led = child_is f root step.0 n whole step.1 in
    way_below capacity f root step.0 n m p led ∙ found_passes capacity f step.0 (m ∷ p) found (below_leads f root step.0 n led whole) step.2

-- a look up that finds something finds what stands there, and path resolution is not refused
pub found_is : (capacity : ℕ) (f : Blocks) (root : ℕ) (path : Path) (found : Found) → LeadsToDirectories f root → look_up f root path ≡ Ok found → (lookup_refusal (tree capacity f root) path ≡ None) × (tree capacity f root path ≡ found_entry capacity f found)
found_is capacity f root path found whole e = (found_passes capacity f root path found whole e, found_stands capacity f root path found whole e)

-- ---- the directory that a name is missing from

parent_cons : (n m : Name) (p : Path) → parent_of (n ∷ m ∷ p) ≡ n ∷ parent_of (m ∷ p)
parent_cons n m p = let e : length (n ∷ m ∷ p) - 1 ≡ suc (length (m ∷ p) - 1) = omega arith in ap (λ k. take k (n ∷ m ∷ p)) e

full_in : (f : Blocks) (block : ℕ) (name : Name) (is_full : Bool) (items : List Item) → entries_in f block ≡ Some items → found_in f name block ≡ Ok (variant.Missing is_full) → is_full ≡ nat_le MAX_ENTRIES (length (items_in f block))
full_in f block name is_full items spelled e =
    on (named_place items name) (sym (found_items f block name items spelled) ∙ e) ∙ ap (λ (o : Option (List Item)). nat_le MAX_ENTRIES (length (unwrap_or o []))) (sym spelled)
  where
    on : (place : Option Place) → ok_found (found_of place (nat_le MAX_ENTRIES (length items))) ≡ ok_found (variant.Missing is_full) → is_full ≡ nat_le MAX_ENTRIES (length items)
    on None same = cc
    on (Some (File head size)) same = absurd cc
    on (Some (Dir block)) same = absurd cc

pub missing_parent : (f : Blocks) (root : ℕ) (path : Path) (is_full : Bool) → LeadsToDirectories f root → look_up f root path ≡ Ok (variant.Missing is_full)
    → (block : ℕ) × (leads f (Dir root) (parent_of path) ≡ Some (Dir block)) × (is_full ≡ nat_le MAX_ENTRIES (length (items_in f block)))
missing_parent f root [] is_full whole e = absurd cc
missing_parent f root (n ∷ []) is_full whole e = let begins = whole [] root refl in (root, refl, full_in f root n is_full begins.0 begins.1 e)
missing_parent f root (n ∷ m ∷ p) is_full whole e =
    let step = on_below (below_in f n root) (λ below. look_up f below (m ∷ p)) (variant.Missing is_full) e in
    let below = child_is f root step.0 n whole step.1 in
    let found = missing_parent f step.0 (m ∷ p) is_full (below_leads f root step.0 n below whole) step.2 in
    let led : leads f (Dir root) (parent_of (n ∷ m ∷ p)) ≡ Some (Dir found.0) =
    ap (λ (q : Path). leads f (Dir root) q) (parent_cons n m p) ∙ leads_below f root step.0 n (parent_of (m ∷ p)) below ∙ found.1 in
    (found.0, led, found.2)

-- ---- a look up that is refused

-- a directory of a tree has a tree
pub has_tree_below : (capacity : ℕ) (f : Blocks) (depth block below : ℕ) (name : Name) → child f (Dir block) name ≡ Some (Dir below) → HasTree capacity f (Dir block) depth → HasTree capacity f (Dir below) depth
has_tree_below capacity f depth block below name led has = λ p at leads_to.
    let whole = has (name ∷ p) at (leads_below f block below name p led ∙ leads_to) in
    (whole.0, omega (arith, whole.1))

-- a component on the way is refused for what stands there
way_refused : (capacity : ℕ) (f : Blocks) (block : ℕ) (name next : Name) (path : Path) (items : List Item) (fault : Fault) → entries_in f block ≡ Some items → directory_at (named_place items name) ≡ Err fault
    → lookup_refusal (tree capacity f block) (name ∷ next ∷ path) ≡ Some fault
way_refused capacity f block name next path items fault spelled e = on (named_place items name) led e
  where
    led : leads f (Dir block) (name ∷ []) ≡ named_place items name
    led = leads_one f block name ∙ ap (λ (entries : Option (List Item)). named_place (unwrap_or entries []) name) spelled

    rest : Option Fault
    rest = lookup_refusal (under (tree capacity f block) (name ∷ [])) (next ∷ path)

    on : (place : Option Place) → leads f (Dir block) (name ∷ []) ≡ place → directory_at place ≡ Err fault → option_or (way_refusal (tree capacity f block (name ∷ []))) rest ≡ Some fault
    on None is e = ap (λ (o : Option Place). option_or (way_refusal (option_map (entry_at capacity f) o)) rest) is ∙ ap (λ (x : Fault). Some x) (fault_same NoEntry fault e)
    on (Some (File head size)) is e = ap (λ (o : Option Place). option_or (way_refusal (option_map (entry_at capacity f) o)) rest) is ∙ ap (λ (x : Fault). Some x) (fault_same NotDirectory fault e)
    on (Some (Dir below)) is e = absurd cc

abbrev SplitBelow : Result ℕ Fault → (ℕ → Result Found Fault) → Fault → Type 0
SplitBelow below after fault = (below ≡ Err fault) ⊎ ((block : ℕ) × (below ≡ Ok block) × (after block ≡ Err fault))

split_below : (below : Result ℕ Fault) (after : ℕ → Result Found Fault) (fault : Fault) → (below >>= after) ≡ Err fault → SplitBelow below after fault
split_below (Err other) after fault e = inl (ap (λ (x : Fault). (let r : Result ℕ Fault = Err x in r)) (fault_same other fault e))
split_below (Ok block) after fault e = inr (block, refl, e)

pub refused_at : (capacity : ℕ) (f : Blocks) (depth root : ℕ) (path : Path) (fault : Fault) → HasTree capacity f (Dir root) depth → look_up f root path ≡ Err fault → lookup_refusal (tree capacity f root) path ≡ Some fault
refused_at capacity f depth root [] fault has e = absurd cc
refused_at capacity f depth root (n ∷ []) fault has e =
    let whole = (has [] (Dir root) refl).0 in
    let spelled = whole.1 in
    let found = found_items f root n whole.0 spelled in
    let wrong : (let r : Result Found Fault = Ok (found_of (named_place whole.0 n) (nat_le MAX_ENTRIES (length whole.0))) in r) ≡ Err fault = sym found ∙ e in
    absurd cc
refused_at capacity f depth root (n ∷ m ∷ p) fault has e =
    let whole = (has [] (Dir root) refl).0 in
    elim (split_below (below_in f n root) (λ below. look_up f below (m ∷ p)) fault e) [
      | inl here ↦ way_refused capacity f root n m p whole.0 fault whole.1 (ap (λ (r : Result (Option Place) Fault). r >>= directory_at) (sym (place_named f root n whole.0 whole.1)) ∙ here)
      | inr later ↦
          let led = child_below f root n later.0 whole.0 whole.1 later.1 in
          way_below capacity f root later.0 n m p led ∙ refused_at capacity f depth later.0 (m ∷ p) fault (has_tree_below capacity f depth root later.0 n led has) later.2
    ]

-- a look up below a root is refused as path resolution is; so no directory on the way is damaged
pub refused_is : (capacity : ℕ) (f : Blocks) (root : ℕ) (path : Path) (fault : Fault) → IsRoot capacity f root → look_up f root path ≡ Err fault → lookup_refusal (tree capacity f root) path ≡ Some fault
refused_is capacity f root path fault is_root e = refused_at capacity f 16 root path fault is_root e

-- What stands in a directory of a tree has a tree.
use Rattle.std.proofs.Common.{◌≡◌, ◌∙◌, ℕ, zero, suc, ◌-◌, ◌≤◌, true, Option, Some, None, List, [], ◌∷◌, ◌++◌, length, map, take, get_or, refl, sym, ap, subst, arith}
use Rattle.std.proofs.lemmas.List.{length-append, take_all}
use Rattle.std.specs.Option.{option_and_then}
use Rattle.std.specs.Prelude.{All, Contains, filter, unwrap_or}
use Rattle.fs_types.specs.Names.{Name, Path}
use Rattle.fs_types.specs.declared.limits.TheConstants.{MAX_ENTRIES, MAX_NAMES}
use Rattle.node_format.specs.Items.{Item}
use Rattle.node_format.specs.declared.place.Place.{Place}
use Rattle.node_format.specs.declared.place.Place.TheVariants.{Dir, File}
use Rattle.nodes.specs.Bodies.{Blocks}
use Rattle.nodes.specs.Trees.{entries_in, items_in, leads, HasTree, IsRoot}
use Rattle.nodes.proofs.ChainCounts.{most_of}
use Rattle.nodes.proofs.Chained.{entry_named}
use Rattle.nodes.proofs.RootMaps.{leads-append}
use Rattle.directory.specs.Places.{placed, places_after}
use Rattle.node_format.specs.Headers.{body_header}
use Rattle.block_usage.specs.Usages.{HasRoom, places_at, with_path}

-- a place below a root has a tree of no longer paths
pub place_tree : (capacity : ℕ) (f : Blocks) (root : ℕ) (path : Path) (at : Place) → IsRoot capacity f root → leads f (Dir root) path ≡ Some at → HasTree capacity f at MAX_NAMES
place_tree capacity f root path at is led more there to =
    let whole = is (path ++ more) there (leads-append f (Dir root) path more ∙ ap (option_and_then (λ next. leads f next more)) led ∙ to) in
    (whole.0, omega (arith, whole.1, length-append path more))

-- an entry of a directory stands at its path
pub entry_leads : (f : Blocks) (root : ℕ) (path : Path) (block : ℕ) (item : Item) → leads f (Dir root) path ≡ Some (Dir block) → Contains (items_in f block) item → leads f (Dir root) (path ++ item.name ∷ []) ≡ Some item.place
entry_leads f root path block item led has =
    leads-append f (Dir root) path (item.name ∷ []) ∙ ap (option_and_then (λ next. leads f next (item.name ∷ []))) led
    ∙ ap (option_and_then (λ next. leads f next [])) (entry_named f block item has)

all_mapped : {X Y : Type 0} (g : X → Y) (P : Y → Type 0) (xs : List X) → ((x : X) → Contains xs x → P (g x)) → All P (map g xs)
all_mapped g P [] each k d within = absurd (omega (arith, within))
all_mapped g P (x ∷ xs) each zero d within = each x (0, omega arith, refl)
all_mapped g P (x ∷ xs) each (suc k) d within = all_mapped g P xs (λ y has. each y (suc has.0, omega (arith, has.1), has.2)) k d (omega (arith, within))

pub places_trees : (capacity : ℕ) (f : Blocks) (root : ℕ) (path : Path) (at : Place) → IsRoot capacity f root → leads f (Dir root) path ≡ Some at
    → All (λ (one : Path × Place). HasTree capacity f one.1 MAX_NAMES) (places_at f path at)
places_trees capacity f root path (Dir block) is led =
    all_mapped (λ (item : Item). (path ++ item.name ∷ [], item.place)) (λ (one : Path × Place). HasTree capacity f one.1 MAX_NAMES) (items_in f block)
    (λ item has. place_tree capacity f root (path ++ item.name ∷ []) item.place is (entry_leads f root path block item led has))
places_trees capacity f root path (File head size) is led = all_mapped (λ (one : Path × Place). one) (λ (one : Path × Place). HasTree capacity f one.1 MAX_NAMES) ((path, File head size) ∷ []) own
  where
    own : (one : Path × Place) → Contains ((path, File head size) ∷ []) one → HasTree capacity f one.1 MAX_NAMES
    own one (k, within, e) =
        let first : k ≡ 0 = omega (arith, within) in
        let same : (path, File head size) ≡ one = ap (λ (j : ℕ). get_or ((path, File head size) ∷ []) j one) (sym first) ∙ e in
        subst (λ (x : Path × Place). HasTree capacity f x.1 MAX_NAMES) same (place_tree capacity f root path (File head size) is led)

-- an entry has room below its directory
pub entries_room : (capacity : ℕ) (f : Blocks) (root : ℕ) (path : Path) (block : ℕ) → IsRoot capacity f root → leads f (Dir root) path ≡ Some (Dir block) → HasRoom path (map placed (items_in f block))
entries_room capacity f root path block is led = by (items_in f block) refl
  where
    by : (items : List Item) → items_in f block ≡ items → HasRoom path (map placed items)
    by [] e some = absurd (omega (arith, some))
    by (item ∷ items) e some =
        let has : Contains (items_in f block) item = subst (λ (l : List Item). Contains l item) (sym e) (0, omega arith, refl) in
        let whole = is (path ++ item.name ∷ []) item.place (entry_leads f root path block item led has) in
        omega (arith, whole.1, length-append path (item.name ∷ []))

-- the entries of a directory, each with its path
pub with_paths : (f : Blocks) (path : Path) (block : ℕ) → map (with_path path) (map placed (items_in f block)) ≡ places_at f path (Dir block)
with_paths f path block = twice (items_in f block)
  where
    twice : (items : List Item) → map (with_path path) (map placed items) ≡ map (λ (item : Item). (path ++ item.name ∷ [], item.place)) items
    twice [] = refl
    twice (item ∷ items) = ap (λ (l : List (Path × Place)). (path ++ item.name ∷ [], item.place) ∷ l) (twice items)

-- ---- after looks

pub tree_later : (limit limit' : ℕ) (f g : Blocks) (at : Place) → limit' ≡ limit → g ≡ f → HasTree (limit - body_header) f at MAX_NAMES → HasTree (limit' - body_header) g at MAX_NAMES
tree_later limit limit' f g at same_limit same tree =
    subst (λ (n : ℕ). HasTree (n - body_header) g at MAX_NAMES) (sym same_limit) (subst (λ (h : Blocks). HasTree (limit - body_header) h at MAX_NAMES) (sym same) tree)

-- ---- the entries that are listed

all_kept : (items : List Item) → filter (λ item. true) items ≡ items
all_kept [] = refl
all_kept (item ∷ items) = ap (λ (l : List Item). item ∷ l) (all_kept items)

all_placed : (most : ℕ) (items : List Item) → length items ≤ most → places_after None most items ≡ map placed items
all_placed most items few = ap (map placed) (ap (take most) (all_kept items) ∙ take_all most items few)

-- a directory of a tree begins in its block
pub begins : (capacity : ℕ) (f : Blocks) (root : ℕ) (path : Path) (block : ℕ) → IsRoot capacity f root → leads f (Dir root) path ≡ Some (Dir block) → (items : List Item) × (entries_in f block ≡ Some items)
begins capacity f root path block is led = (is path (Dir block) led).0

pub no_items : (items : List Item) → (let o : Option (List Item) = None in o ≡ Some items) → ⊥
no_items items e = cc

-- it has no more entries than are asked for
pub entries_told : (f : Blocks) (block : ℕ) (entries : List (Name × Place)) → (items : List Item) × (entries_in f block ≡ Some items)
    → ((items : List Item) → entries_in f block ≡ Some items → entries ≡ places_after None MAX_ENTRIES items) → entries ≡ map placed (items_in f block)
entries_told f block entries whole told =
    let all : items_in f block ≡ whole.0 = ap (λ (o : Option (List Item)). unwrap_or o []) whole.1 in
    let few : length whole.0 ≤ MAX_ENTRIES = subst (λ (items : List Item). length items ≤ MAX_ENTRIES) all (most_of f block) in
    told whole.0 whole.1 ∙ all_placed MAX_ENTRIES whole.0 few ∙ ap (map placed) (sym all)

-- The entries of a directory, gone over one after the other.
use Rattle.std.proofs.Common.{◌≡◌, ◌∙◌, ℕ, zero, suc, ◌+◌, ◌-◌, ◌≤◌, ◌<◌, false, Option, Some, None, List, [], ◌∷◌, ◌++◌, length, take, map, get_or, append_assoc, append-nil, refl, sym, ap, ap₂, subst, arith}
use Rattle.std.proofs.lemmas.List.{take_all, take_more, flat_map_more}
use Rattle.std.proofs.lemmas.List.Folds.{flat_map-map}
use Rattle.std.specs.Prelude.{Contains}
use Rattle.std.specs.List.{flat_map}
use Rattle.fs_types.specs.Names.{Name, Path}
use Rattle.node_format.specs.Items.{Item, is_dir_place}
use Rattle.node_format.specs.declared.place.Place.{Place}
use Rattle.node_format.specs.declared.place.Place.TheVariants.{Dir, File}
use Rattle.nodes.specs.Bodies.{Blocks}
use Rattle.nodes.proofs.Chained.{entry_named}
use Rattle.directory.specs.Places.{placed}
use Rattle.tree_differences.specs.Differing.{child_at, differing_below, items_at, told, BeginsAt, IsReadable}
use Rattle.tree_differences.proofs.Below.{told_none, same_below, file_below, readable_child}

-- what differs at an entry, and below it
abbrev pub row : Blocks → ℕ → Path → Option Place → Name × Place → List Path
row f levels directory other e =
    told (directory ++ e.0 ∷ []) e.1 (child_at f other e.0) ++ differing_below f levels (directory ++ e.0 ∷ []) e.1 (child_at f other e.0)

-- nothing does in no levels, nor below a file
pub none_below : (f : Blocks) (levels : ℕ) (directory : Path) (at : Place) (other : Option Place) → levels ≡ 0 → differing_below f levels directory at other ≡ []
unfolding differing_below
none_below f zero directory at other is = refl
none_below f (suc levels) directory at other is = absurd (omega (arith, is))

pub none_below_file : (f : Blocks) (levels : ℕ) (directory : Path) (at : Place) (other : Option Place) → is_dir_place at ≡ false → differing_below f levels directory at other ≡ []
none_below_file f levels directory (Dir block) other is = absurd cc
none_below_file f levels directory (File head size) other is = file_below f levels directory head size other

-- nothing does where both lead to the same place
pub none_in_row : (f : Blocks) (levels : ℕ) (directory : Path) (other : Option Place) (e : Name × Place) → child_at f other e.0 ≡ Some e.1 → row f levels directory other e ≡ []
none_in_row f levels directory other e same =
    ap (λ (o : Option Place). told (directory ++ e.0 ∷ []) e.1 o ++ differing_below f levels (directory ++ e.0 ∷ []) e.1 o) same
    ∙ ap₂ (λ (a b : List Path). a ++ b) (told_none (directory ++ e.0 ∷ []) e.1) (same_below f levels (directory ++ e.0 ∷ []) e.1)

-- one entry more
pub rows_more : (g : Name × Place → List Path) (entries : List (Name × Place)) (i : ℕ) (e : Name × Place) (start loop new : List Path) → i < length entries → e ≡ get_or entries i e
    → loop ≡ start ++ flat_map g (take i entries) → new ≡ loop ++ g e → new ≡ start ++ flat_map g (take (i + 1) entries)
rows_more g entries i e start loop new within at is more =
    let taken : take (i + 1) entries ≡ take i entries ++ e ∷ [] = take_more entries i e within ∙ ap (λ (x : Name × Place). take i entries ++ x ∷ []) (sym at) in
    more ∙ ap (λ (x : List Path). x ++ g e) is ∙ flat_map_more g start (take i entries) e ∙ ap (λ (x : List (Name × Place)). start ++ flat_map g x) (sym taken)

pub rows_same : (g : Name × Place → List Path) (entries : List (Name × Place)) (i : ℕ) (e : Name × Place) (start loop : List Path) → i < length entries → e ≡ get_or entries i e
    → loop ≡ start ++ flat_map g (take i entries) → g e ≡ [] → loop ≡ start ++ flat_map g (take (i + 1) entries)
rows_same g entries i e start loop within at is none =
    rows_more g entries i e start loop loop within at is (sym (ap (λ (x : List Path). loop ++ x) none ∙ append-nil loop))

-- what is told of an entry, and then what is told below it
pub row_added : (f : Blocks) (levels : ℕ) (directory path : Path) (other there : Option Place) (e : Name × Place) (loop pushed new : List Path) → there ≡ child_at f other e.0 → path ≡ directory ++ e.0 ∷ []
    → pushed ≡ loop ++ told path e.1 there → new ≡ pushed ++ differing_below f levels path e.1 there → new ≡ loop ++ row f levels directory other e
row_added f levels directory path other there e loop pushed new is at first rest =
    rest ∙ ap (λ (x : List Path). x ++ differing_below f levels path e.1 there) first
    ∙ append_assoc loop (told path e.1 there) (differing_below f levels path e.1 there)
    ∙ ap₂ (λ (p : Path) (o : Option Place). loop ++ (told p e.1 o ++ differing_below f levels p e.1 o)) at is

-- all entries of a place
pub rows_all : (f : Blocks) (levels : ℕ) (directory : Path) (at : Place) (other : Option Place) (entries : List (Name × Place)) (i : ℕ) (start loop : List Path) → 0 < levels
    → entries ≡ map placed (items_at f (Some at)) → length entries ≤ i → loop ≡ start ++ flat_map (row f (levels - 1) directory other) (take i entries) → loop ≡ start ++ differing_below f levels directory at other
unfolding differing_below
rows_all f zero directory at other entries i start loop some are past is = absurd (omega (arith, some))
rows_all f (suc levels) directory at other entries i start loop some are past is =
    let less : suc levels - 1 ≡ levels = omega arith in
    is ∙ ap (λ (n : ℕ). start ++ flat_map (row f n directory other) (take i entries)) less
    ∙ ap (λ (es : List (Name × Place)). start ++ flat_map (row f levels directory other) es) (take_all i entries past ∙ are)
    ∙ ap (λ (l : List Path). start ++ l) (flat_map-map (row f levels directory other) placed (items_at f (Some at)))

-- an entry is what its name leads to
pub entry_child : (f : Blocks) (at : Place) (entries : List (Name × Place)) (i : ℕ) (e : Name × Place) → entries ≡ map placed (items_at f (Some at)) → i < length entries → e ≡ get_or entries i e → child_at f (Some at) e.0 ≡ Some e.1
entry_child f (File head size) entries i e are within at = absurd (let none : length entries ≡ 0 = ap length are in omega (arith, none, within))
entry_child f (Dir block) entries i e are within at =
    let found = placed_in (items_at f (Some (Dir block))) e (subst (λ (es : List (Name × Place)). Contains es e) are (i, within, sym at)) in
    subst (λ (x : Name × Place). child_at f (Some (Dir block)) x.0 ≡ Some x.1) found.2 (entry_named f block found.0 found.1)
  where
    placed_in : (items : List Item) (x : Name × Place) → Contains (map placed items) x → (item : Item) × Contains items item × (placed item ≡ x)
    placed_in [] x (k, lt, is) = absurd (omega (arith, lt))
    placed_in (item ∷ items) x (zero, lt, is) = (item, (0, omega arith, refl), is)
    placed_in (item ∷ items) x (suc k, lt, is) = let more = placed_in items x (k, omega (arith, lt), is) in (more.0, (suc more.1.0, omega (arith, more.1.1), more.1.2), more.2)

-- a place below may be gone on from
pub readable_entry : (f : Blocks) (at : Place) (e : Name × Place) → child_at f (Some at) e.0 ≡ Some e.1 → IsReadable f (Some at) → IsReadable f (Some e.1)
readable_entry f at e is can = subst (IsReadable f) is (readable_child f (Some at) e.0 can)

pub readable_begins : (f : Blocks) (at : Option Place) → IsReadable f at → BeginsAt f at
readable_begins f None can = tt
readable_begins f (Some at) can = can [] at refl

-- What stands in the tree of a view, and that a call which looks there is accepted.
use Rattle.std.proofs.Common.{◌≡◌, ◌∙◌, inl, inr, ◌<◌, ◌≤◌, ◌+◌, ◌-◌, ℕ, zero, suc, Bool, true, false, cond, Option, Some, None, List, [], ◌∷◌, ◌++◌, length, take, get_or, append_assoc, IsSome, refl, sym, ap, ap₂, subst, arith}
use Rattle.std.proofs.lemmas.List.{take_all, take_more, flat_map_more, length-map, get_or_default, get_or-map}
use Rattle.std.proofs.lemmas.List.Elements.{All-head, All-tail}
use Rattle.std.proofs.lemmas.Option.{get_or_from_slice_get, slice_get_within}
use Rattle.std.specs.Prelude.{All, Contains, slice_get, unwrap_or, filter, map, if◌then◌else◌}
use Rattle.std.specs.FinMap.{get}
use Rattle.std.specs.List.{flat_map}
use Rattle.std.specs.Map.{lookup}
use Rattle.std.specs.BTreeMap.{is_at}
use Rattle.std.specs.Option.{option_map, option_or, option_map_or, option_and_then}
use Rattle.fs_types.specs.Names.{Name, Path, is_path, name_cmp, is_after}
use Rattle.fs_types.specs.declared.call.Call.{Call}
use Rattle.fs_types.specs.declared.call.Reply.{Reply}
use Rattle.fs_types.specs.declared.limits.TheConstants.{MAX_ENTRIES}
use Rattle.fs_types.specs.declared.call.Version.{Version}
use Rattle.fs_types.specs.declared.call.Stat.{Stat}
use Rattle.fs_types.specs.declared.call.View.{View}
use Rattle.fs_types.specs.declared.fault.Fault.TheVariants.{NoEntry, NotDirectory, IsDirectory}
use Rattle.plain_trees.specs.Contents.{Entry, is_dir, IsTree, lookup_refusal}
use Rattle.plain_trees.specs.Trees.{Tree, bare, children, IsFileTree}
use Rattle.plain_trees.proofs.Beneath.{None≢Some, same_Some}
use Rattle.plain_trees.proofs.Listings.{listing_law}
use Rattle.plain_trees.proofs.Lookups.{lookup_law, some-is}
use Rattle.plain_trees.proofs.Shapes.{last_name}
use Rattle.history_machine.specs.History.{view_refusal, version_place}
use Rattle.history_machine.specs.Machine.{Machine, IsMachine, refusal, view_tree, stat_of, stat_at, with_stat, entries_of}
use Rattle.history_machine.proofs.Kept.{bare-file_tree, working-file_tree}
use Rattle.inquiries.specs.Items.{item_at, items_below, all_entries, levels_below, IsDirectoryOf}
use Rattle.inquiries.specs.declared.items.Item.{Item}

-- ---- the tree of a view

at_place : (versions : List (Version Tree)) (o : Option ℕ) → All (λ v. IsFileTree v.root) versions → IsFileTree (unwrap_or (option_map (λ (v : Version Tree). v.root) (option_and_then (slice_get versions) o)) bare)
at_place versions None all = bare-file_tree
at_place versions (Some k) all = go (slice_get versions k) refl
  where
    go : (o : Option (Version Tree)) → slice_get versions k ≡ o → IsFileTree (unwrap_or (option_map (λ (v : Version Tree). v.root) o) bare)
    go None is = bare-file_tree
    go (Some v) is = subst IsFileTree (ap (λ w. w.root) (get_or_from_slice_get versions k v v is)) (all k v (slice_get_within versions k v is))

at_name : (test : Name → Bool) (es : List (Name × Tree)) → All (λ e. IsFileTree e.1) es → IsFileTree (unwrap_or (lookup test es) bare)
at_name test [] all = bare-file_tree
at_name test (f ∷ es) all = go (test f.0) (at_name test es (All-tail (λ (e : Name × Tree). IsFileTree e.1) f es all))
  where
    go : (b : Bool) → IsFileTree (unwrap_or (lookup test es) bare) → IsFileTree (unwrap_or (cond b (Some f.1) (lookup test es)) bare)
    go true rest = All-head (λ (e : Name × Tree). IsFileTree e.1) f es all
    go false rest = rest

-- it is a lawful one, whatever the view
pub view-file_tree : (m : Machine) (view : View) → IsMachine m → IsFileTree (view_tree m view)
view-file_tree m View.Present is = working-file_tree m is
view-file_tree m (View.Serial serial) is = at_place m.history.versions (version_place m.history serial) is.trees
view-file_tree m (View.Checkpoint name) is = at_name (is_at (name_cmp name)) m.history.checkpoints is.kept

-- ---- what stands there

-- a path at which something stands is found
pub lookup_there : (t : Tree) (p : Path) → IsTree (get t) → IsSome (get t p) → lookup_refusal (get t) p ≡ None
lookup_there t p tree there = elim (last_name p) [
  | inl root ↦ ap (lookup_refusal (get t)) root
  | inr last ↦
      let here : IsSome (get t (last.0 ++ last.1 ∷ [])) = subst (λ q. IsSome (get t q)) last.2 there in
      ap (lookup_refusal (get t)) last.2 ∙ (lookup_law.found t last.0 last.1 tree).1 (tree.parents last.0 last.1 here)
]

-- a name that is listed stands there
pub listed_there : (t : Tree) (p : Path) (n : Name) (b : Bool) → Contains (children t p) (n, b) → (x : Entry) × (get t (p ++ n ∷ []) ≡ Some x) × (is_dir x ≡ b)
listed_there t p n b listed = go (get t (p ++ n ∷ [])) refl ((listing_law.exact t p n b).0 listed)
  where
    go : (o : Option Entry) → get t (p ++ n ∷ []) ≡ o → option_map is_dir o ≡ Some b → (x : Entry) × (get t (p ++ n ∷ []) ≡ Some x) × (is_dir x ≡ b)
    go None is e = absurd (None≢Some e)
    go (Some x) is e = (x, is, same_Some e)

dir_of : (x : Entry) → is_dir x ≡ true → x ≡ Entry.Dir
dir_of Entry.Dir e = refl
dir_of (Entry.File bytes) e = absurd cc

or_none : {A : Type 0} (a : Option A) → option_or a None ≡ a
or_none None = refl
or_none (Some x) = refl

-- what stands at the root is refused for its view alone
pub root_refusal : (m : Machine) (view : View) → IsMachine m → refusal m (Call.Stat view []) ≡ view_refusal m.history view
root_refusal m view is =
    ap (λ o. option_or (view_refusal m.history view) (option_map_or (λ (entry : Entry). None) o (Some NoEntry))) (view-file_tree m view is).shape.root ∙ or_none (view_refusal m.history view)

module _ (m : Machine) (view : View) (is : IsMachine m) (seen : view_refusal m.history view ≡ None) where
  good : IsFileTree (view_tree m view)
  good = view-file_tree m view is

  pub stat_accepted : (p : Path) (x : Entry) → get (view_tree m view) p ≡ Some x → refusal m (Call.Stat view p) ≡ None
  stat_accepted p x there =
      ap₂ option_or seen (ap₂ option_or (lookup_there (view_tree m view) p good.shape (some-is (get (view_tree m view) p) x there)) (ap (λ o. option_map_or (λ (entry : Entry). None) o (Some NoEntry)) there))

  pub list_accepted : (p : Path) → get (view_tree m view) p ≡ Some Entry.Dir → refusal m (Call.List view p) ≡ None
  list_accepted p there =
      ap₂ option_or seen (ap₂ option_or (lookup_there (view_tree m view) p good.shape (some-is (get (view_tree m view) p) Entry.Dir there))
      (ap (λ o. option_map_or (λ (entry : Entry). if is_dir entry then None else Some NotDirectory) o (Some NoEntry)) there))

  pub file_accepted : (p : Path) (bytes : List ℕ) (offset count : ℕ) → get (view_tree m view) p ≡ Some (Entry.File bytes) → refusal m (Call.ReadAt view p offset count) ≡ None
  file_accepted p bytes offset count there =
      ap₂ option_or seen (ap₂ option_or (lookup_there (view_tree m view) p good.shape (some-is (get (view_tree m view) p) (Entry.File bytes) there))
      (ap (λ o. option_map_or (λ (entry : Entry). if is_dir entry then Some IsDirectory else None) o (Some NoEntry)) there))

  -- the root is there
  pub root_there : IsDirectoryOf m view []
  root_there = record { accepted = seen; there = good.shape.root }

  -- an entry that is listed: its path is one, and it is a directory where that is said
  pub entry_path : (p : Path) (n : Name) (b : Bool) → Contains (children (view_tree m view) p) (n, b) → is_path (p ++ n ∷ []) ≡ true
  entry_path p n b listed =
      let there = listed_there (view_tree m view) p n b listed in
      good.paths (p ++ n ∷ []) (some-is (get (view_tree m view) (p ++ n ∷ [])) there.0 there.1)

  pub entry_directory : (p : Path) (n : Name) → Contains (children (view_tree m view) p) (n, true) → IsDirectoryOf m view (p ++ n ∷ [])
  entry_directory p n listed =
      let there = listed_there (view_tree m view) p n true listed in
      record { accepted = seen; there = there.1 ∙ ap Some (dir_of there.0 there.2) }

-- ---- what stands below

-- an entry, and what stands below it in so many levels
abbrev pub row : Tree → ℕ → Path → Name × Bool → List Item
row t levels p entry = item_at t (p ++ entry.0 ∷ []) ∷ (if entry.1 then items_below t levels (p ++ entry.0 ∷ []) else [])

pub items_below-more : (t : Tree) (levels : ℕ) (p : Path) → 0 < levels → items_below t levels p ≡ flat_map (row t (levels - 1) p) (children t p)
unfolding items_below
items_below-more t zero p some = absurd (omega arith)
items_below-more t (suc levels) p some =
    let less : suc levels - 1 ≡ levels = omega arith in
    ap (λ k. flat_map (row t k p) (children t p)) (sym less)

pub items_below-none : (t : Tree) (levels : ℕ) (p : Path) → levels ≡ 0 → items_below t levels p ≡ []
unfolding items_below
items_below-none t zero p none = refl
items_below-none t (suc levels) p none = absurd (omega arith)

-- nothing stands below a file
pub row-below : (t : Tree) (levels below : ℕ) (p : Path) (entry : Name × Bool) → below ≡ (if entry.1 then levels else 0) → row t levels p entry ≡ item_at t (p ++ entry.0 ∷ []) ∷ items_below t below (p ++ entry.0 ∷ [])
row-below t levels below p (n, true) is = ap (λ k. item_at t (p ++ n ∷ []) ∷ items_below t k (p ++ n ∷ [])) (sym is)
row-below t levels below p (n, false) is = ap (λ items. item_at t (p ++ n ∷ []) ∷ items) (sym (items_below-none t below (p ++ n ∷ []) is))

-- ---- the entries of a directory, one after the other

-- nothing stands below a file
child_below : (t : Tree) (directory : Path) (n : Name) (b : Bool) (levels : ℕ) → Contains (children t directory) (n, b) → levels_below (stat_at t (directory ++ n ∷ [])) levels ≡ (if b then levels - 1 else 0)
child_below t directory n b levels listed =
    let there = listed_there t directory n b listed in
    ap (λ (o : Option Entry). levels_below (stat_of t (directory ++ n ∷ []) o) levels) there.1 ∙ by_entry there.0 ∙ ap (λ (c : Bool). if c then levels - 1 else 0) there.2
  where
    by_entry : (x : Entry) → levels_below (stat_of t (directory ++ n ∷ []) (Some x)) levels ≡ (if is_dir x then levels - 1 else 0)
    by_entry Entry.Dir = refl
    by_entry (Entry.File bytes) = refl

filter_all : (names : List (Name × Bool)) → filter (λ e. is_after None e.0) names ≡ names
filter_all [] = refl
filter_all (e ∷ names) = ap (λ (rest : List (Name × Bool)). e ∷ rest) (filter_all names)

-- with no name to begin after, and as many as a directory may have, all are told
pub told_all : (m : Machine) (view : View) (path : Path) (most : ℕ) (told : List (Name × Stat)) → IsMachine m → MAX_ENTRIES ≤ most → Reply.Entries told ≡ Reply.Entries (entries_of (view_tree m view) path None most)
    → told ≡ all_entries (view_tree m view) path
told_all m view path most told is enough same =
    let few = (view-file_tree m view is).entries path in
    let first : told ≡ entries_of (view_tree m view) path None most = cc in
    first ∙ ap (map (with_stat (view_tree m view) path)) (ap (take most) (filter_all (children (view_tree m view) path)) ∙ take_all most (children (view_tree m view) path) (omega (arith, few, enough)))

-- the name of an entry that was told, with whether it is a directory
pub record IsTold (t : Tree) (directory : Path) (i : ℕ) (told : Name × Stat) : Type 0 where
  pub child : Name × Bool
  pub within : i < length (children t directory)
  pub at : child ≡ get_or (children t directory) i child
  pub listed : Contains (children t directory) child
  pub name : told.0 ≡ child.0
  pub stat : told.1 ≡ stat_at t (directory ++ child.0 ∷ [])
  pub below : (levels : ℕ) → levels_below told.1 levels ≡ (if child.1 then levels - 1 else 0)

pub told_at : (t : Tree) (directory : Path) (es : List (Name × Stat)) (i : ℕ) (e : Name × Stat) → es ≡ all_entries t directory → i < length es → e ≡ get_or es i e → IsTold t directory i e
told_at t directory es i e is within at =
    let names : List (Name × Bool) = children t directory in
    let child : Name × Bool = get_or names i (e.0, false) in
    let inside : i < length names = let long = ap length is ∙ length-map names (with_stat t directory) in omega (arith, within, long) in
    let here : child ≡ get_or names i child = get_or_default names i (e.0, false) child inside in
    let told : e ≡ with_stat t directory child =
    at ∙ ap (λ (l : List (Name × Stat)). get_or l i e) is ∙ get_or-map (with_stat t directory) names i (e.0, false) e inside in
    record {
      child = child;
      within = inside;
      at = here;
      listed = (i, inside, sym here);
      name = ap (λ (x : Name × Stat). x.0) told;
      stat = ap (λ (x : Name × Stat). x.1) told;
      below = λ levels. ap (λ (x : Name × Stat). levels_below x.1 levels) told ∙ child_below t directory child.0 child.1 levels (i, inside, sym here);
    }

abbrev item : Path → Stat → Item
item path stat = record { path = path; stat = stat }

-- an entry more, with what stands below it
pub one_more : (m first second : Machine) (view : View) (levels below : ℕ) (directory path copy : Path) (stat : Stat) (es : List (Name × Bool)) (i : ℕ) (e : Name × Bool) (start loop pushed new : List Item)
    → first ≡ m → second ≡ m → path ≡ directory ++ e.0 ∷ [] → copy ≡ path → stat ≡ stat_of (view_tree first view) path (get (view_tree first view) path)
    → i < length es → e ≡ get_or es i e → below ≡ (if e.1 then levels - 1 else 0)
    → loop ≡ start ++ flat_map (row (view_tree m view) (levels - 1) directory) (take i es)
    → pushed ≡ loop ++ item copy stat ∷ []
    → new ≡ pushed ++ items_below (view_tree second view) below path
    → new ≡ start ++ flat_map (row (view_tree m view) (levels - 1) directory) (take (i + 1) es)
one_more m first second view levels below directory path copy stat es i e start loop pushed new same_first same_second is_path' is_copy is_stat within at is_below is_loop is_pushed is_new =
    let t : Tree = view_tree m view in
    let here : Path = directory ++ e.0 ∷ [] in
    let rest : List Item = items_below t below here in
    let stats : stat ≡ stat_of t here (get t here) = is_stat ∙ ap₂ (λ (b : Machine) (p : Path). stat_of (view_tree b view) p (get (view_tree b view) p)) same_first is_path' in
    let items : item copy stat ≡ item_at t here = ap₂ (λ (p : Path) (s : Stat). item p s) (is_copy ∙ is_path') stats in
    let below_it : items_below (view_tree second view) below path ≡ rest = ap₂ (λ (b : Machine) (p : Path). items_below (view_tree b view) below p) same_second is_path' in
    let parts : new ≡ (loop ++ item_at t here ∷ []) ++ rest = is_new ∙ ap₂ (λ (a b : List Item). a ++ b) (is_pushed ∙ ap (λ (x : Item). loop ++ x ∷ []) items) below_it in
    let joined : (loop ++ item_at t here ∷ []) ++ rest ≡ loop ++ (item_at t here ∷ rest) = simp append_assoc in
    let taken : take (i + 1) es ≡ take i es ++ e ∷ [] = take_more es i e within ∙ ap (λ (x : Name × Bool). take i es ++ x ∷ []) (sym at) in
    parts ∙ joined ∙ ap (λ (r : List Item). loop ++ r) (sym (row-below t (levels - 1) below directory e is_below)) ∙ ap (λ (l : List Item). l ++ row t (levels - 1) directory e) is_loop
    ∙ flat_map_more (row t (levels - 1) directory) start (take i es) e ∙ ap (λ (l : List (Name × Bool)). start ++ flat_map (row t (levels - 1) directory) l) (sym taken)

-- all of them
pub all_items : (t : Tree) (levels : ℕ) (directory : Path) (es : List (Name × Bool)) (i : ℕ) (start loop : List Item) → 0 < levels → es ≡ children t directory → length es ≤ i
    → loop ≡ start ++ flat_map (row t (levels - 1) directory) (take i es) → loop ≡ start ++ items_below t levels directory
all_items t levels directory es i start loop some is past is_loop =
    is_loop ∙ ap (λ (l : List (Name × Bool)). start ++ flat_map (row t (levels - 1) directory) l) (take_all i es past ∙ is)
    ∙ ap (λ (x : List Item). start ++ x) (sym (items_below-more t levels directory some))

-- What stands in one tree beside another.
use Rattle.std.proofs.Common.{◌≡◌, ◌∙◌, ◌⊎◌, inl, inr, ◌<◌, ℕ, zero, suc, Bool, true, false, Option, Some, None, List, [], ◌∷◌, ◌++◌, length, get_or, IsSome, refl, sym, ap, subst}
use Rattle.std.proofs.lemmas.Bool.{true≢false}
use Rattle.std.proofs.lemmas.List.Elements.{All-nil, All-cons, All-append, All-head, All-tail, All-weaker, All-contains_itself}
use Rattle.std.specs.Prelude.{All, Contains, if◌then◌else◌}
use Rattle.std.specs.FinMap.{get}
use Rattle.std.specs.List.{flat_map}
use Rattle.std.specs.Option.{option_map, option_or, option_map_or}
use Rattle.fs_types.specs.Names.{Name, Path}
use Rattle.fs_types.specs.declared.call.Call.{Call}
use Rattle.fs_types.specs.declared.call.Stat.{Stat}
use Rattle.fs_types.specs.declared.call.View.{View}
use Rattle.fs_types.specs.declared.fault.Fault.{Fault}
use Rattle.fs_types.specs.declared.fault.Fault.TheVariants.{NoEntry, NotDirectory}
use Rattle.plain_trees.specs.Contents.{Entry, Contents, under, way_refusal, lookup_refusal}
use Rattle.plain_trees.specs.Trees.{Tree, children}
use Rattle.plain_trees.proofs.Beneath.{None≢Some, same_Some}
use Rattle.plain_trees.proofs.Lookups.{some-is}
use Rattle.flash_model.specs.Device.{Device}
use Rattle.history_machine.specs.History.{view_refusal}
use Rattle.history_machine.specs.Machine.{Machine, IsMachine, refusal, view_tree, stat_of}
use Rattle.inquiries.specs.Counterparts.{counterpart_of, is_missing, stat_there}
use Rattle.inquiries.specs.Differences.{line_beside}
use Rattle.inquiries.specs.Items.{item_at, items_below, IsItemOf}
use Rattle.inquiries.specs.Readings.{Meets}
use Rattle.inquiries.specs.declared.counterpart.Counterpart.{Counterpart}
use Rattle.inquiries.specs.declared.items.Item.{Item}
use Rattle.inquiries.specs.declared.printing.Side.{Side}
use Rattle.inquiries.proofs.Entries.{row, listed_there, stat_accepted}

-- ---- what is listed stands there

All-flat_map : {X A : Type 0} (P : A → Type 0) (f : X → List A) (xs : List X) → All (λ x. All P (f x)) xs → All P (flat_map f xs)
All-flat_map P f [] all = All-nil P
All-flat_map P f (x ∷ xs) all = All-append P (f x) (flat_map f xs) (All-head (λ y. All P (f y)) x xs all) (All-flat_map P f xs (All-tail (λ y. All P (f y)) x xs all))

-- an entry, and what stands below it
row_there : (t : Tree) (levels : ℕ) (p : Path) (e : Name × Bool) → ((q : Path) → All (IsItemOf t) (items_below t levels q)) → Contains (children t p) e → All (IsItemOf t) (row t levels p e)
row_there t levels p (n, b) all listed =
    let there = listed_there t p n b listed in
    All-cons (IsItemOf t) (item_at t (p ++ n ∷ [])) (if b then items_below t levels (p ++ n ∷ []) else []) (record { there = some-is (get t (p ++ n ∷ [])) there.0 there.1; stat = refl }) (below b)
  where
    below : (b : Bool) → All (IsItemOf t) (if b then items_below t levels (p ++ n ∷ []) else [])
    below true = all (p ++ n ∷ [])
    below false = All-nil (IsItemOf t)

pub items_there : (t : Tree) (levels : ℕ) (p : Path) → All (IsItemOf t) (items_below t levels p)
unfolding items_below
items_there t zero p = All-nil (IsItemOf t)
items_there t (suc levels) p =
    All-flat_map (IsItemOf t) (row t levels p) (children t p)
    (All-weaker (Contains (children t p)) (λ e. All (IsItemOf t) (row t levels p e)) (λ e listed. row_there t levels p e (λ q. items_there t levels q) listed) (children t p) (All-contains_itself (children t p)))

-- so do the items that were listed
pub all_there : (first second : Machine) (view : View) (levels : ℕ) (p : Path) (items : List Item) → second ≡ first → items ≡ items_below (view_tree first view) levels p → All (IsItemOf (view_tree second view)) items
all_there first second view levels p items same are =
    subst (λ (n : Machine). All (IsItemOf (view_tree n view)) items) (sym same) (subst (All (IsItemOf (view_tree first view))) (sym are) (items_there (view_tree first view) levels p))

-- and each item of such a list
pub item_there : (first second : Machine) (view : View) (items : List Item) (i : ℕ) (item : Item) → second ≡ first → All (IsItemOf (view_tree first view)) items → i < length items → item ≡ get_or items i item → IsItemOf (view_tree second view) item
item_there first second view items i item same all within at =
    subst (λ (n : Machine). IsItemOf (view_tree n view) item) (sym same) (subst (IsItemOf (view_tree first view)) (sym at) (all i item within))

-- ---- what stands at a path

-- a refusal by one of these is the call's own
pub own_missing : (own : Option Fault) (d e : Device) (fault : Fault) → is_missing fault ≡ true → (own ≡ Some fault) ⊎ Meets d e fault → own ≡ Some fault
own_missing own d e fault missing (inl is) = is
own_missing own d e NoEntry missing (inr met) = absurd met
own_missing own d e NotDirectory missing (inr met) = absurd met
own_missing own d e _ missing (inr met) = absurd (true≢false (sym missing))

-- what is looked up is refused by no other
by_way : (o : Option Entry) (rest : Option Fault) (fault : Fault) → (rest ≡ Some fault → is_missing fault ≡ true) → option_or (way_refusal o) rest ≡ Some fault → is_missing fault ≡ true
by_way None rest fault only e = ap is_missing (sym (same_Some e))
by_way (Some (Entry.File bytes)) rest fault only e = ap is_missing (sym (same_Some e))
by_way (Some Entry.Dir) rest fault only e = only e

lookup_only : (t : Contents) (p : Path) (fault : Fault) → lookup_refusal t p ≡ Some fault → is_missing fault ≡ true
lookup_only t [] fault e = absurd cc
lookup_only t (n ∷ []) fault e = absurd cc
lookup_only t (n ∷ m ∷ p) fault e = by_way (t (n ∷ [])) (lookup_refusal (under t (n ∷ [])) (m ∷ p)) fault (lookup_only (under t (n ∷ [])) (m ∷ p) fault) e

-- nor is what is found
found_only : (looked : Option Fault) (o : Option Entry) (fault : Fault) → ((f : Fault) → looked ≡ Some f → is_missing f ≡ true) → option_or looked (option_map_or (λ (entry : Entry). None) o (Some NoEntry)) ≡ Some fault → is_missing fault ≡ true
found_only (Some f) o fault only e = only fault e
found_only None None fault only e = ap is_missing (sym (same_Some e))
found_only None (Some x) fault only e = absurd cc

module _ (m : Machine) (view : View) (is : IsMachine m) (seen : view_refusal m.history view ≡ None) where
  abbrev t : Tree
  t = view_tree m view

  -- a call that asks what stands at a path is refused so, or by what the work met
  refused_only : (p : Path) (fault : Fault) → refusal m (Call.Stat view p) ≡ Some fault → is_missing fault ≡ true
  refused_only p fault e =
      found_only (lookup_refusal (get t) p) (get t p) fault (lookup_only (get t) p)
      (sym (ap (λ o. option_or o (option_or (lookup_refusal (get t) p) (option_map_or (λ (entry : Entry). None) (get t p) (Some NoEntry)))) seen) ∙ e)

  pub met_else : (p : Path) (d e : Device) (fault : Fault) → is_missing fault ≡ false → (refusal m (Call.Stat view p) ≡ Some fault) ⊎ Meets d e fault → Meets d e fault
  met_else p d e fault other (inl is) = absurd (true≢false (sym (refused_only p fault is) ∙ other))
  met_else p d e fault other (inr met) = met

  -- nothing stands where it is refused
  pub none_there : (p : Path) (fault : Fault) → refusal m (Call.Stat view p) ≡ Some fault → None ≡ stat_there t p
  none_there p fault e = go (get t p) refl
    where
      go : (o : Option Entry) → get t p ≡ o → None ≡ option_map (λ (entry : Entry). stat_of t p (Some entry)) o
      go None there = refl
      go (Some x) there = absurd (None≢Some (sym (stat_accepted m view is seen p x there) ∙ e))

-- ---- the line of an item

directory_line : (side : Side) (item : Item) (t u : Tree) (p : Path) (o other : Option Entry) → IsSome o → counterpart_of (stat_of t p o) (option_map (λ (entry : Entry). stat_of u p (Some entry)) other) ≡ Counterpart.Directory
    → line_beside side item o other ≡ []
directory_line side item t u p None other there same = absurd cc
directory_line side item t u p (Some Entry.Dir) None there same = absurd cc
directory_line side item t u p (Some Entry.Dir) (Some Entry.Dir) there same = refl
directory_line side item t u p (Some Entry.Dir) (Some (Entry.File others)) there same = absurd cc
directory_line side item t u p (Some (Entry.File bytes)) None there same = absurd cc
directory_line side item t u p (Some (Entry.File bytes)) (Some Entry.Dir) there same = absurd cc
directory_line side item t u p (Some (Entry.File bytes)) (Some (Entry.File others)) there same = absurd cc

-- a directory that stands in both has none
pub line_directory : (side : Side) (item : Item) (t u : Tree) (place : Counterpart) → IsItemOf t item → place ≡ counterpart_of item.stat (stat_there u item.path) → place ≡ Counterpart.Directory
    → line_beside side item (get t item.path) (get u item.path) ≡ []
line_directory side item t u place is found at =
    directory_line side item t u item.path (get t item.path) (get u item.path) is.there (sym (found ∙ ap (λ (s : Stat). counterpart_of s (stat_there u item.path)) is.stat) ∙ at)

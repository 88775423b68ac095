-- What stands at a path of the views that are kept.
use Rattle.std.proofs.Common.{◌≡◌, ◌≢◌, ◌∙◌, ◌||◌, ◌-◌, ◌<◌, ℕ, Bool, true, false, Option, Some, None, Result, Ok, Err, List, [], ◌++◌, length, get_or, map, refl, sym, ap, ap₂, subst, arith}
use Rattle.std.proofs.lemmas.Bool.{true≢false, eq-eqb, ne_eqb}
use Rattle.std.proofs.lemmas.List.{get_or_default}
use Rattle.std.proofs.lemmas.List.Elements.{All-append, All-map}
use Rattle.std.proofs.lemmas.Slice.Eq.{bytes_eq-Decides}
use Rattle.std.specs.Bool.{Decides}
use Rattle.std.specs.Prelude.{All, IfOk, not, ◌==◌}
use Rattle.std.specs.FinMap.{get}
use Rattle.std.specs.Option.{option_map}
use Rattle.std.specs.Str.{bytes_eq}
use Rattle.fs_types.specs.Names.{Path}
use Rattle.fs_types.specs.declared.fault.Fault.{Fault}
use Rattle.fs_types.specs.declared.call.Stat.{Stat}
use Rattle.fs_types.specs.declared.call.View.{View}
use Rattle.fs_types.specs.declared.limits.TheConstants.{MAX_NAMES}
use Rattle.plain_trees.specs.Contents.{Entry}
use Rattle.plain_trees.specs.Trees.{Tree, bytes_of_file, bytes_of}
use Rattle.plain_trees.proofs.Beneath.{None≢Some}
use Rattle.history_machine.specs.History.{view_refusal}
use Rattle.history_machine.specs.Machine.{Machine, IsMachine, view_tree, stat_of}
use Rattle.tree_counts.specs.Sizes.{in_word, size_of}
use Rattle.tree_counts.specs.declared.tree_size.TreeSize.{TreeSize}
use Rattle.inquiries.specs.Counterparts.{counterpart_of, stat_there}
use Rattle.inquiries.specs.Differences.{difference_below}
use Rattle.inquiries.specs.Folders.{IsSmall}
use Rattle.inquiries.specs.Items.{items_below}
use Rattle.inquiries.specs.PathHistories.{is_changed, is_checkpoint, is_filled, is_other, is_told, kept_views, looked_below, IsSmallBelow}
use Rattle.inquiries.specs.Versions.{kept_names, kept_serials}
use Rattle.inquiries.specs.Within.{have_other_lengths}
use Rattle.inquiries.specs.declared.counterpart.Counterpart.{Counterpart}
use Rattle.inquiries.specs.declared.printing.Side.{Side}
use Rattle.inquiries.proofs.Shared.{lines_itself}
use Rattle.inquiries.proofs.DifferenceLemmas.{items_there}
use Rattle.inquiries.proofs.Sizes.{entries_are}
use Rattle.inquiries.proofs.VersionLemmas.{serial_seen, name_seen}

-- ---- the views

-- each of them is there
kept_seen : (m : Machine) → IsMachine m → All (λ view. view_refusal m.history view ≡ None) (kept_views m)
kept_seen m is =
    let Seen : View → Type 0 = λ view. view_refusal m.history view ≡ None in
    All-append Seen (map View.Serial (kept_serials m)) (map View.Checkpoint (kept_names m))
    (All-map Seen View.Serial (kept_serials m) (λ k d within. serial_seen m m is refl (kept_serials m) k d refl within))
    (All-map Seen View.Checkpoint (kept_names m) (λ k d within. name_seen m m is refl (kept_names m) k (get_or (kept_names m) k d) refl within (get_or_default (kept_names m) k d (get_or (kept_names m) k d) within)))

pub views_seen : (m : Machine) (views : List View) → IsMachine m → views ≡ kept_views m → All (λ view. view_refusal m.history view ≡ None) views
views_seen m views is are = subst (All (λ view. view_refusal m.history view ≡ None)) (sym are) (kept_seen m is)

-- as a reading leaves the machine
pub seen_at : (m n : Machine) (views : List View) (i : ℕ) (view : View) → IsMachine m → views ≡ kept_views m → n ≡ m → i < length views → view ≡ get_or views i view → view_refusal n.history view ≡ None
seen_at m n views i view is are same within at =
    subst (λ (x : Machine). view_refusal x.history view ≡ None) (sym same) (subst (λ (v : View). view_refusal m.history v ≡ None) (sym at) (views_seen m views is are i view within))

-- a version after the first has a line where it changed something
told_by_change : (m : Machine) (path : Path) (views : List View) (place : ℕ) (checked before here : View) → views ≡ kept_views m → place < length views → place ≢ 0 → checked ≡ get_or views place checked → is_checkpoint checked ≡ false
    → before ≡ get_or views (place - 1) before → here ≡ get_or views place here → is_changed (view_tree m before) (view_tree m here) path ≡ is_told m path place (get_or views place View.Present)
told_by_change m path views place checked before here are within later checked_at version before_at here_at =
    let last : View = get_or (kept_views m) (place - 1) View.Present in
    let now : View = get_or views place View.Present in
    let was : before ≡ last = before_at ∙ get_or_default views (place - 1) before View.Present (omega (arith, within)) ∙ ap (λ (vs : List View). get_or vs (place - 1) View.Present) are in
    let is : here ≡ now = here_at ∙ get_or_default views place here View.Present within in
    let unnamed : is_checkpoint now ≡ false = ap is_checkpoint (sym (checked_at ∙ get_or_default views place checked View.Present within)) ∙ version in
    ap₂ (λ (x y : View). is_changed (view_tree m x) (view_tree m y) path) was is
    ∙ sym (ap₂ (λ (a b : Bool). a || (b || is_changed (view_tree m last) (view_tree m now) path)) (ne_eqb place 0 later) unnamed)

pub told_if_changed : (m : Machine) (path : Path) (views : List View) (place : ℕ) (checked before here : View) (result : Result Bool Fault) → views ≡ kept_views m → place < length views → place ≢ 0 → checked ≡ get_or views place checked
    → is_checkpoint checked ≡ false → before ≡ get_or views (place - 1) before → here ≡ get_or views place here
    → IfOk result (λ changed. changed ≡ is_changed (view_tree m before) (view_tree m here) path) → IfOk result (λ told. told ≡ is_told m path place (get_or views place View.Present))
told_if_changed m path views place checked before here (Ok changed) are within later checked_at version before_at here_at is =
    is ∙ told_by_change m path views place checked before here are within later checked_at version before_at here_at
told_if_changed m path views place checked before here (Err fault) are within later checked_at version before_at here_at is = tt

-- ---- what stands there, by what is told of it

directory_at : (t : Tree) (path : Path) (stat : Option Stat) (n : ℕ) → stat ≡ stat_there t path → stat ≡ Some (Stat.Dir n) → get t path ≡ Some Entry.Dir
directory_at t path stat n told dir = go (get t path) (sym dir ∙ told)
  where
    go : (o : Option Entry) → Some (Stat.Dir n) ≡ option_map (λ (entry : Entry). stat_of t path (Some entry)) o → o ≡ Some Entry.Dir
    go None e = absurd (None≢Some (sym e))
    go (Some Entry.Dir) e = refl
    go (Some (Entry.File bytes)) e = absurd cc

-- how many entries are looked at
pub looked_directory : (t : Tree) (path : Path) (stat : Option Stat) (n : ℕ) (size : TreeSize) → stat ≡ stat_there t path → stat ≡ Some (Stat.Dir n) → size ≡ size_of t → size.entries ≡ in_word (looked_below t (get t path))
looked_directory t path stat n size told dir is =
    ap (λ (s : TreeSize). s.entries) is ∙ ap in_word (entries_are t) ∙ sym (ap (λ (o : Option Entry). in_word (looked_below t o)) (directory_at t path stat n told dir))

-- that a tree is small is asked where a directory stands at the path alone
pub small_directory : (t : Tree) (path : Path) (stat : Option Stat) (n : ℕ) (small : Bool) → stat ≡ stat_there t path → stat ≡ Some (Stat.Dir n) → Decides small (IsSmall t) → Decides small (IsSmallBelow t (get t path))
small_directory t path stat n small told dir decides = subst (λ (o : Option Entry). Decides small (IsSmallBelow t o)) (sym (directory_at t path stat n told dir)) decides

not_directory : (t : Tree) (path : Path) (o : Option Entry) (stat : Option Stat) → stat ≡ option_map (λ (entry : Entry). stat_of t path (Some entry)) o → ((n : ℕ) → stat ≡ Some (Stat.Dir n) → ⊥) → IsSmallBelow t o
not_directory t path None stat told never = tt
not_directory t path (Some Entry.Dir) stat told never = absurd (never _ told)
not_directory t path (Some (Entry.File bytes)) stat told never = tt

pub small_elsewhere : (t : Tree) (path : Path) (stat : Option Stat) → stat ≡ stat_there t path → ((n : ℕ) → stat ≡ Some (Stat.Dir n) → ⊥) → Decides true (IsSmallBelow t (get t path))
small_elsewhere t path stat told never = (λ any. not_directory t path (get t path) stat told never, λ small. refl)

-- ---- what stands in both trees

module _ (t u : Tree) (path : Path) where
  directories : (o n : Option Entry) (stat : Stat) → Some stat ≡ option_map (λ (entry : Entry). stat_of t path (Some entry)) o
      → counterpart_of stat (option_map (λ (entry : Entry). stat_of u path (Some entry)) n) ≡ Counterpart.Directory → (o ≡ Some Entry.Dir) × (n ≡ Some Entry.Dir)
  directories None n stat e same = absurd (None≢Some (sym e))
  directories (Some Entry.Dir) None stat e same = absurd cc
  directories (Some Entry.Dir) (Some Entry.Dir) stat e same = (refl, refl)
  directories (Some Entry.Dir) (Some (Entry.File others)) stat e same = absurd cc
  directories (Some (Entry.File bytes)) None stat e same = absurd cc
  directories (Some (Entry.File bytes)) (Some Entry.Dir) stat e same = absurd cc
  directories (Some (Entry.File bytes)) (Some (Entry.File others)) stat e same = absurd cc

  files : (o n : Option Entry) (stat : Stat) → Some stat ≡ option_map (λ (entry : Entry). stat_of t path (Some entry)) o
      → counterpart_of stat (option_map (λ (entry : Entry). stat_of u path (Some entry)) n) ≡ Counterpart.File → (o ≡ Some (Entry.File (bytes_of o))) × (n ≡ Some (Entry.File (bytes_of n)))
  files None n stat e same = absurd (None≢Some (sym e))
  files (Some Entry.Dir) None stat e same = absurd cc
  files (Some Entry.Dir) (Some Entry.Dir) stat e same = absurd cc
  files (Some Entry.Dir) (Some (Entry.File others)) stat e same = absurd cc
  files (Some (Entry.File bytes)) None stat e same = absurd cc
  files (Some (Entry.File bytes)) (Some Entry.Dir) stat e same = absurd cc
  files (Some (Entry.File bytes)) (Some (Entry.File others)) stat e same = (refl, refl)

  module _ (was is : Option Stat) (stat : Stat) (place : Counterpart) (told : was ≡ stat_there t path) (there : is ≡ stat_there u path) (some : was ≡ Some stat) (found : place ≡ counterpart_of stat is) where
    pub both_directories : place ≡ Counterpart.Directory → (get t path ≡ Some Entry.Dir) × (get u path ≡ Some Entry.Dir)
    both_directories same = directories (get t path) (get u path) stat (sym some ∙ told) (sym (found ∙ ap (counterpart_of stat) there) ∙ same)

    pub both_files : place ≡ Counterpart.File → (get t path ≡ Some (Entry.File (bytes_of_file t path))) × (get u path ≡ Some (Entry.File (bytes_of_file u path)))
    both_files same = files (get t path) (get u path) stat (sym some ∙ told) (sym (found ∙ ap (counterpart_of stat) there) ∙ same)

-- ---- files of other lengths

-- they have other bytes
pub other_lengths : (t u : Tree) (path : Path) (differs : Bool) (o n : Option Entry) → have_other_lengths (option_map (λ (entry : Entry). stat_of t path (Some entry)) o) (option_map (λ (entry : Entry). stat_of u path (Some entry)) n) ≡ true
    → true ≡ is_other differs o n
other_lengths t u path differs None n is = absurd (true≢false (sym is))
other_lengths t u path differs (Some Entry.Dir) n is = absurd (true≢false (sym is))
other_lengths t u path differs (Some (Entry.File bytes)) None is = absurd (true≢false (sym is))
other_lengths t u path differs (Some (Entry.File bytes)) (Some Entry.Dir) is = absurd (true≢false (sym is))
other_lengths t u path differs (Some (Entry.File bytes)) (Some (Entry.File others)) is = by (bytes_eq bytes others) refl
  where
    by : (b : Bool) → bytes_eq bytes others ≡ b → true ≡ not b
    by false unlike = refl
    by true alike =
        absurd (true≢false (sym is ∙ ap not (le_eq (length bytes) (length others) (ap length ((bytes_eq-Decides bytes others).0 alike)))))
      where
        le_eq : (m n : ℕ) → m ≡ n → (m == n) ≡ true
        le_eq m n same = eq-eqb m n same

-- ---- nothing changed from a tree to itself

nothing_below : (t : Tree) (path : Path) → difference_below t t path ≡ []
nothing_below t path =
    ap₂ (λ (x y : List ℕ). x ++ y) (lines_itself Side.Old t (items_below t MAX_NAMES path) (items_there t MAX_NAMES path)) (lines_itself Side.New t (items_below t MAX_NAMES path) (items_there t MAX_NAMES path))

pub unchanged_itself : (t u : Tree) (path : Path) → t ≡ u → false ≡ is_changed t u path
unchanged_itself t u path same = subst (λ (x : Tree). false ≡ is_changed t x path) same (go (get t path))
  where
    go : (o : Option Entry) → false ≡ is_other (is_filled (difference_below t t path)) o o
    go None = refl
    go (Some Entry.Dir) = sym (ap is_filled (nothing_below t path))
    go (Some (Entry.File bytes)) = sym (ap not ((bytes_eq-Decides bytes bytes).1 refl))

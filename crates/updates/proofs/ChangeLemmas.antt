-- What stands at a path of two trees, and the calls of an update for it.
use Rattle.std.proofs.Common.{◌≡◌, ◌∙◌, ◌⊎◌, inl, inr, ◌+◌, ◌<◌, ℕ, zero, suc, take, get_or, Bool, true, false, Option, Some, None, IsSome, List, [], ◌∷◌, ◌++◌, length, map, refl, sym, ap, ap₂, subst}
use Rattle.std.proofs.lemmas.Bool.{true≢false}
use Rattle.std.proofs.lemmas.List.{take_more, flat_map_more, map-append, reverse-append}
use Rattle.std.proofs.lemmas.List.Elements.{All-nil, All-cons, All-head, All-tail, All-append}
use Rattle.std.specs.Prelude.{All, reverse, if◌then◌else◌}
use Rattle.std.specs.List.{flat_map}
use Rattle.std.specs.Option.{option_map}
use Rattle.std.specs.FinMap.{get}
use Rattle.fs_types.specs.Names.{Name, Path}
use Rattle.fs_types.specs.declared.call.Call.{Call}
use Rattle.fs_types.specs.declared.call.Stat.{Stat}
use Rattle.fs_types.specs.declared.limits.TheConstants.{MAX_NAMES}
use Rattle.plain_trees.specs.Contents.{Entry}
use Rattle.plain_trees.specs.Trees.{Tree, bytes_of, bytes_of_file, children}
use Rattle.history_machine.specs.Machine.{stat_of}
use Rattle.inquiries.specs.Counterparts.{counterpart_of, stat_there}
use Rattle.inquiries.specs.Items.{IsItemOf, item_at, items_below, items_of}
use Rattle.inquiries.specs.declared.counterpart.Counterpart.{Counterpart}
use Rattle.inquiries.specs.declared.items.Item.{Item}
use Rattle.inquiries.proofs.DifferenceLemmas.{items_there}
use Rattle.tree_differences.specs.Updates.{adapting_at, edit_paths, goes, removal, removal_at, making, paths_below, paths_of}
use Rattle.updates.specs.Changes.{changed_file, changes_by, made_by, making_of, paths_in, removal_of}
use Rattle.updates.specs.Lines.{PathsLaw}
use Rattle.updates.specs.declared.manner.Manner.{Manner}

no_entry : {A : Type 0} → IsSome {T = Entry} None → A
no_entry some = absurd (true≢false (sym some))

-- the manner is for a file of both trees alone
new_by : (manner : Manner) (p : Path) (entry : Option Entry) → made_by manner p None entry ≡ making p None entry
new_by Manner.Whole p entry = refl
new_by Manner.Edited p entry = refl
new_by Manner.Patched p entry = refl

over_directory : (manner : Manner) (p : Path) (entry : Option Entry) → made_by manner p (Some Entry.Dir) entry ≡ making p (Some Entry.Dir) entry
over_directory Manner.Whole p entry = refl
over_directory Manner.Edited p entry = refl
over_directory Manner.Patched p entry = refl

directory_over : (manner : Manner) (p : Path) (bytes : List ℕ) → made_by manner p (Some (Entry.File bytes)) (Some Entry.Dir) ≡ making p (Some (Entry.File bytes)) (Some Entry.Dir)
directory_over Manner.Whole p bytes = refl
directory_over Manner.Edited p bytes = refl
directory_over Manner.Patched p bytes = refl

-- what is not missing is of the same kind
pub not_missing : (place : Counterpart) → (place ≡ Counterpart.Missing → ⊥) → (place ≡ Counterpart.Directory) ⊎ (place ≡ Counterpart.File)
not_missing Counterpart.Directory other = inl refl
not_missing Counterpart.File other = inr refl
not_missing Counterpart.Missing other = absurd (other refl)

-- what of another tree stands in the place of what stands in one
abbrev place_of : Tree → Tree → Path → Option Entry → Option Entry → Counterpart
place_of t u p o there = counterpart_of (stat_of t p o) (option_map (λ (entry : Entry). stat_of u p (Some entry)) there)

module _ (t u : Tree) (item : Item) (is : IsItemOf t item) (place : Counterpart) (found : place ≡ counterpart_of item.stat (stat_there u item.path)) where
  p : Path
  p = item.path

  at_place : place ≡ place_of t u item.path (get t item.path) (get u item.path)
  at_place = found ∙ ap (λ (s : Stat). counterpart_of s (stat_there u item.path)) is.stat

  -- it goes where nothing of its kind stands there
  missing_goes : (o there : Option Entry) → IsSome o → place_of t u item.path o there ≡ Counterpart.Missing → goes o there ≡ true
  missing_goes None there some missing = no_entry some
  missing_goes (Some Entry.Dir) None some missing = refl
  missing_goes (Some Entry.Dir) (Some Entry.Dir) some missing = absurd cc
  missing_goes (Some Entry.Dir) (Some (Entry.File others)) some missing = refl
  missing_goes (Some (Entry.File bytes)) None some missing = refl
  missing_goes (Some (Entry.File bytes)) (Some Entry.Dir) some missing = refl
  missing_goes (Some (Entry.File bytes)) (Some (Entry.File others)) some missing = absurd cc

  other_stays : (o there : Option Entry) → IsSome o → (place_of t u item.path o there ≡ Counterpart.Directory) ⊎ (place_of t u item.path o there ≡ Counterpart.File) → goes o there ≡ false
  other_stays None there some other = no_entry some
  other_stays (Some Entry.Dir) None some (inl dir) = absurd cc
  other_stays (Some Entry.Dir) None some (inr file) = absurd cc
  other_stays (Some Entry.Dir) (Some Entry.Dir) some other = refl
  other_stays (Some Entry.Dir) (Some (Entry.File others)) some (inl dir) = absurd cc
  other_stays (Some Entry.Dir) (Some (Entry.File others)) some (inr file) = absurd cc
  other_stays (Some (Entry.File bytes)) None some (inl dir) = absurd cc
  other_stays (Some (Entry.File bytes)) None some (inr file) = absurd cc
  other_stays (Some (Entry.File bytes)) (Some Entry.Dir) some (inl dir) = absurd cc
  other_stays (Some (Entry.File bytes)) (Some Entry.Dir) some (inr file) = absurd cc
  other_stays (Some (Entry.File bytes)) (Some (Entry.File others)) some other = refl

  pub missing_gone : place ≡ Counterpart.Missing → goes (get t item.path) (get u item.path) ≡ true
  missing_gone missing = missing_goes (get t item.path) (get u item.path) is.there (sym at_place ∙ missing)

  pub other_left : (place ≡ Counterpart.Directory) ⊎ (place ≡ Counterpart.File) → goes (get t item.path) (get u item.path) ≡ false
  other_left other = other_stays (get t item.path) (get u item.path) is.there (at other)
    where
      at : (place ≡ Counterpart.Directory) ⊎ (place ≡ Counterpart.File)
          → (place_of t u item.path (get t item.path) (get u item.path) ≡ Counterpart.Directory) ⊎ (place_of t u item.path (get t item.path) (get u item.path) ≡ Counterpart.File)
      at (inl dir) = inl (sym at_place ∙ dir)
      at (inr file) = inr (sym at_place ∙ file)

  pub removal_missing : place ≡ Counterpart.Missing → removal_of t u item ≡ removal item.path (get t item.path)
  removal_missing missing = ap (λ (b : Bool). if b then removal item.path (get t item.path) else []) (missing_gone missing)

  pub removal_other : (place ≡ Counterpart.Directory) ⊎ (place ≡ Counterpart.File) → removal_of t u item ≡ []
  removal_other other = ap (λ (b : Bool). if b then removal item.path (get t item.path) else []) (other_left other)

  -- ---- what stands in the new tree, by the old one

  directory_made : (manner : Manner) (o there : Option Entry) → IsSome o → place_of t u item.path o there ≡ Counterpart.Directory → made_by manner item.path there o ≡ []
  directory_made manner None there some dir = no_entry some
  directory_made manner (Some Entry.Dir) None some dir = absurd cc
  directory_made manner (Some Entry.Dir) (Some Entry.Dir) some dir = over_directory manner item.path (Some Entry.Dir)
  directory_made manner (Some Entry.Dir) (Some (Entry.File others)) some dir = absurd cc
  directory_made manner (Some (Entry.File bytes)) None some dir = absurd cc
  directory_made manner (Some (Entry.File bytes)) (Some Entry.Dir) some dir = absurd cc
  directory_made manner (Some (Entry.File bytes)) (Some (Entry.File others)) some dir = absurd cc

  pub making_directory : (manner : Manner) → place ≡ Counterpart.Directory → making_of manner u t item ≡ []
  making_directory manner dir = directory_made manner (get t item.path) (get u item.path) is.there (sym at_place ∙ dir)

  missing_made : (manner : Manner) (o there : Option Entry) → IsSome o → place_of t u item.path o there ≡ Counterpart.Missing → made_by manner item.path there o ≡ making item.path None o
  missing_made manner None there some missing = no_entry some
  missing_made manner (Some Entry.Dir) None some missing = new_by manner item.path (Some Entry.Dir)
  missing_made manner (Some Entry.Dir) (Some Entry.Dir) some missing = absurd cc
  missing_made manner (Some Entry.Dir) (Some (Entry.File others)) some missing = directory_over manner item.path others
  missing_made manner (Some (Entry.File bytes)) None some missing = new_by manner item.path (Some (Entry.File bytes))
  missing_made manner (Some (Entry.File bytes)) (Some Entry.Dir) some missing = over_directory manner item.path (Some (Entry.File bytes))
  missing_made manner (Some (Entry.File bytes)) (Some (Entry.File others)) some missing = absurd cc

  pub making_missing : (manner : Manner) → place ≡ Counterpart.Missing → making_of manner u t item ≡ making item.path None (get t item.path)
  making_missing manner missing = missing_made manner (get t item.path) (get u item.path) is.there (sym at_place ∙ missing)

  -- both are files
  files_there : (o there : Option Entry) → get t item.path ≡ o → get u item.path ≡ there → IsSome o → place_of t u item.path o there ≡ Counterpart.File
      → (get t item.path ≡ Some (Entry.File (bytes_of_file t item.path))) × (get u item.path ≡ Some (Entry.File (bytes_of_file u item.path)))
  files_there None there e e' some file = no_entry some
  files_there (Some Entry.Dir) None e e' some file = absurd cc
  files_there (Some Entry.Dir) (Some Entry.Dir) e e' some file = absurd cc
  files_there (Some Entry.Dir) (Some (Entry.File others)) e e' some file = absurd cc
  files_there (Some (Entry.File bytes)) None e e' some file = absurd cc
  files_there (Some (Entry.File bytes)) (Some Entry.Dir) e e' some file = absurd cc
  files_there (Some (Entry.File bytes)) (Some (Entry.File others)) e e' some file =
      (e ∙ ap (λ (o : Option Entry). Some (Entry.File (bytes_of o))) (sym e), e' ∙ ap (λ (o : Option Entry). Some (Entry.File (bytes_of o))) (sym e'))

  pub both_files : place ≡ Counterpart.File → (get t item.path ≡ Some (Entry.File (bytes_of_file t item.path))) × (get u item.path ≡ Some (Entry.File (bytes_of_file u item.path)))
  both_files file = files_there (get t item.path) (get u item.path) refl refl is.there (sym at_place ∙ file)

  pub making_changed : (manner : Manner) → place ≡ Counterpart.File → making_of manner u t item ≡ changed_file manner item.path (bytes_of_file u item.path) (bytes_of_file t item.path)
  making_changed manner file = let both = both_files file in ap₂ (λ (o there : Option Entry). made_by manner item.path o there) both.1 both.0

-- ---- an item by what it is

module _ (t : Tree) (item : Item) (is : IsItemOf t item) where
  directory_there : (count : ℕ) → item.stat ≡ Stat.Dir count → (o : Option Entry) → get t item.path ≡ o → IsSome o → o ≡ Some Entry.Dir
  directory_there count dir None at some = no_entry some
  directory_there count dir (Some Entry.Dir) at some = refl
  directory_there count dir (Some (Entry.File bytes)) at some = absurd (let wrong : Stat.File (length bytes) ≡ Stat.Dir count = sym (ap (stat_of t item.path) at) ∙ sym is.stat ∙ dir in cc)

  pub is_directory : (count : ℕ) → item.stat ≡ Stat.Dir count → get t item.path ≡ Some Entry.Dir
  is_directory count dir = directory_there count dir (get t item.path) refl is.there

  file_stands : (size : ℕ) → item.stat ≡ Stat.File size → (o : Option Entry) → get t item.path ≡ o → IsSome o → get t item.path ≡ Some (Entry.File (bytes_of_file t item.path))
  file_stands size file None at some = no_entry some
  file_stands size file (Some Entry.Dir) at some = absurd (let wrong : stat_of t item.path (Some Entry.Dir) ≡ Stat.File size = sym (ap (stat_of t item.path) at) ∙ sym is.stat ∙ file in cc)
  file_stands size file (Some (Entry.File bytes)) at some = at ∙ ap (λ (o : Option Entry). Some (Entry.File (bytes_of o))) (sym at)

  pub is_file : (size : ℕ) → item.stat ≡ Stat.File size → get t item.path ≡ Some (Entry.File (bytes_of_file t item.path))
  is_file size file = file_stands size file (get t item.path) refl is.there

-- the calls of one item more
pub items_more : (f : Item → List Call) (items : List Item) (i : ℕ) (item : Item) (start loop new : List Call) → i < length items → item ≡ get_or items i item → loop ≡ start ++ flat_map f (take i items) → new ≡ loop ++ f item
    → new ≡ start ++ flat_map f (take (i + 1) items)
items_more f items i item start loop new within at is more =
    let taken : take (i + 1) items ≡ take i items ++ item ∷ [] = take_more items i item within ∙ ap (λ (x : Item). take i items ++ x ∷ []) (sym at) in
    more ∙ ap (λ (x : List Call). x ++ f item) is ∙ flat_map_more f start (take i items) item ∙ ap (λ (x : List Item). start ++ flat_map f x) (sym taken)

-- ---- all calls

-- by the items of a list or by their paths
by_paths : (f : Path → List Call) (items : List Item) → flat_map (λ (item : Item). f item.path) items ≡ flat_map f (map (λ (item : Item). item.path) items)
by_paths f [] = refl
by_paths f (item ∷ items) = ap (λ (l : List Call). f item.path ++ l) (by_paths f items)

-- the paths of what stands below a directory
row_paths : (t : Tree) (levels : ℕ) (directory : Path) (es : List (Name × Bool)) → ((d : Path) → map (λ (item : Item). item.path) (items_below t levels d) ≡ paths_below t levels d)
    → map (λ (item : Item). item.path) (flat_map (λ (entry : Name × Bool). item_at t (directory ++ entry.0 ∷ []) ∷ (if entry.1 then items_below t levels (directory ++ entry.0 ∷ []) else [])) es)
    ≡ flat_map (λ (entry : Name × Bool). (directory ++ entry.0 ∷ []) ∷ (if entry.1 then paths_below t levels (directory ++ entry.0 ∷ []) else [])) es
row_paths t levels directory [] below = refl
row_paths t levels directory ((n, true) ∷ es) below =
    map-append (λ (item : Item). item.path) (item_at t (directory ++ n ∷ []) ∷ items_below t levels (directory ++ n ∷ [])) _
    ∙ ap₂ (λ (a b : List Path). ((directory ++ n ∷ []) ∷ a) ++ b) (below (directory ++ n ∷ [])) (row_paths t levels directory es below)
row_paths t levels directory ((n, false) ∷ es) below = ap (λ (l : List Path). (directory ++ n ∷ []) ∷ l) (row_paths t levels directory es below)

pub paths_listed : (t : Tree) (levels : ℕ) (directory : Path) → map (λ (item : Item). item.path) (items_below t levels directory) ≡ paths_below t levels directory
unfolding items_below paths_below
paths_listed t zero directory = refl
paths_listed t (suc levels) directory = row_paths t levels directory (children t directory) (λ d. paths_listed t levels d)

pub listing : PathsLaw
listing t = paths_listed t MAX_NAMES []

map_reversed : (items : List Item) → map (λ (item : Item). item.path) (reverse items) ≡ reverse (map (λ (item : Item). item.path) items)
map_reversed [] = refl
map_reversed (x ∷ items) =
    ap (map (λ (item : Item). item.path)) (reverse-append (x ∷ []) items) ∙ map-append (λ (item : Item). item.path) (reverse items) (x ∷ [])
    ∙ ap (λ (l : List Path). l ++ x.path ∷ []) (map_reversed items) ∙ sym (reverse-append (x.path ∷ []) (map (λ (item : Item). item.path) items))

-- what is told of a tree stands there, the last first too
All-reverse : {X : Type 0} (P : X → Type 0) (xs : List X) → All P xs → All P (reverse xs)
All-reverse P [] all = All-nil P
All-reverse P (x ∷ xs) all =
    subst (All P) (sym (reverse-append (x ∷ []) xs)) (All-append P (reverse xs) (x ∷ []) (All-reverse P xs (All-tail P x xs all)) (All-cons P x [] (All-head P x xs all) (All-nil P)))

pub all_there : (t : Tree) (items : List Item) → items ≡ items_of t → All (IsItemOf t) items
all_there t items is = subst (All (IsItemOf t)) (sym is) (items_there t MAX_NAMES [])

pub all_there_reversed : (t : Tree) (items : List Item) → items ≡ reverse (items_of t) → All (IsItemOf t) items
all_there_reversed t items is = subst (All (IsItemOf t)) (sym is) (All-reverse (IsItemOf t) (items_of t) (items_there t MAX_NAMES []))

-- the changes, by the items for which they are made
pub all_changes : (manner : Manner) (old new : Tree) (olds news : List Item) (first second third : List Call) → olds ≡ reverse (items_of old) → news ≡ items_of new
    → first ≡ [] → second ≡ first ++ flat_map (removal_of old new) olds → third ≡ second ++ flat_map (making_of manner old new) news → third ≡ changes_by manner old new
all_changes manner old new olds news first second third is is' none gone made =
    let removals : flat_map (removal_of old new) olds ≡ flat_map (removal_at old new) (reverse (paths_of old)) =
    ap (flat_map (removal_of old new)) is ∙ by_paths (removal_at old new) (reverse (items_of old)) ∙ ap (flat_map (removal_at old new)) (map_reversed (items_of old) ∙ ap reverse (listing old)) in
    let make : Path → List Call = λ p. made_by manner p (get old p) (get new p) in
    let makings : flat_map (making_of manner old new) news ≡ flat_map make (paths_of new) =
    ap (flat_map (making_of manner old new)) is' ∙ by_paths make (items_of new) ∙ ap (flat_map make) (listing new) in
    made ∙ ap₂ (λ (a b : List Call). a ++ b) (gone ∙ ap₂ (λ (a b : List Call). a ++ b) none removals) makings ∙ in_all manner
  where
    in_all : (way : Manner) → flat_map (removal_at old new) (reverse (paths_of old)) ++ flat_map (λ p. made_by way p (get old p) (get new p)) (paths_of new) ≡ changes_by way old new
    in_all Manner.Whole = refl
    in_all Manner.Edited = refl
    in_all Manner.Patched = refl

-- what is told of a tree, the last first
pub reversed_there : (t : Tree) (kept items : List Item) → All (IsItemOf t) kept → items ≡ reverse kept → All (IsItemOf t) items
reversed_there t kept items all turned = subst (All (IsItemOf t)) (sym turned) (All-reverse (IsItemOf t) kept all)

-- the changes at the paths of some items
pub listed_changes : (old new : Tree) (kept olds news : List Item) (first second third : List Call) → olds ≡ reverse kept → first ≡ [] → second ≡ first ++ flat_map (removal_of old new) olds
    → third ≡ second ++ flat_map (making_of Manner.Edited old new) news → third ≡ edit_paths old new (paths_in kept) (paths_in news)
listed_changes old new kept olds news first second third turned none gone made =
    let removals : flat_map (removal_of old new) olds ≡ flat_map (removal_at old new) (reverse (paths_in kept)) =
    ap (flat_map (removal_of old new)) turned ∙ by_paths (removal_at old new) (reverse kept) ∙ ap (flat_map (removal_at old new)) (map_reversed kept) in
    let makings : flat_map (making_of Manner.Edited old new) news ≡ flat_map (adapting_at old new) (paths_in news) = by_paths (adapting_at old new) news in
    made ∙ ap₂ (λ (a b : List Call). a ++ b) (gone ∙ ap₂ (λ (a b : List Call). a ++ b) none removals) makings

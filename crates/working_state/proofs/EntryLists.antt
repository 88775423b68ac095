-- The entries of a directory, by what a listing and a stat of each name say.
use Rattle.std.proofs.Common.{◌≡◌, ℕ, suc, ◌+◌, Bool, true, false, cond, Option, Some, List, [], ◌∷◌, ◌++◌, length, take, map, get_or, refl, sym, ap, ◌∙◌, arith}
use Rattle.std.specs.Prelude.{All, Contains, filter, unwrap_or}
use Rattle.std.proofs.lemmas.List.Sums.{sum_by-cons}
use Rattle.std.specs.Option.{option_map, option_and_then}
use Rattle.std.proofs.lemmas.List.{take-map, length-map}
use Rattle.std.proofs.lemmas.List.Elements.{All-map, All-take, All-filter, Contains-get_or}
use Rattle.fs_types.specs.Names.{Name, Path, is_after}
use Rattle.fs_types.specs.declared.call.Stat.{Stat}
use Rattle.plain_trees.specs.Contents.{Contents}
use Rattle.plain_trees.specs.Trees.{Tree, children, nodes_for}
use Rattle.history_machine.specs.Machine.{stat_of, stat_at, listed_after, entries_of}
use Rattle.history_machine.specs.Machine as machine
use Rattle.node_format.specs.Items.{Item, is_dir_place, named_place}
use Rattle.node_format.specs.EntryLaws.{contained-named_place}
use Rattle.node_format.specs.declared.place.Place.{Place}
use Rattle.node_format.specs.declared.place.Place.TheVariants.{Dir, File}
use Rattle.nodes.specs.Bodies.{Blocks}
use Rattle.nodes.specs.Trees.{entries_in, items_in, leads, entry_at, root_tree, names_of, IsRoot}
use Rattle.nodes.proofs.Chains.{first_parts}
use Rattle.nodes.proofs.ChainCounts.{count_law}
use Rattle.nodes.proofs.RootMaps.{map_law, leads-append}
use Rattle.directory.specs.Places.{placed, places_after, nodes_of, nodes_of_all, Begins, AllBegin}
use Rattle.directory.specs.Places as places
use Rattle.working_state.specs.Looking.{stat_nodes, entry_nodes}
use Rattle.working_state.proofs.Stats.{body_length}

-- ---- a listing of entries

filter_names : (from : Option Name) (items : List Item) → filter (λ e. is_after from e.0) (names_of items) ≡ names_of (filter (λ item. is_after from item.name) items)
filter_names from [] = refl
filter_names from (item ∷ items) = on (is_after from item.name) (filter_names from items)
  where
    on : (b : Bool) → filter (λ e. is_after from e.0) (names_of items) ≡ names_of (filter (λ item. is_after from item.name) items)
        → cond b ((item.name, is_dir_place item.place) ∷ filter (λ e. is_after from e.0) (names_of items)) (filter (λ e. is_after from e.0) (names_of items))
        ≡ names_of (cond b (item ∷ filter (λ item. is_after from item.name) items) (filter (λ item. is_after from item.name) items))
    on true e = ap (λ (xs : List (Name × Bool)). (item.name, is_dir_place item.place) ∷ xs) e
    on false e = e

-- what is told of each name is what is told of its place
each_told : (g : Name × Bool → Name × Stat) (h : Name × Place → Name × Stat) (items : List Item) → All (λ item. g (item.name, is_dir_place item.place) ≡ h (placed item)) items → map g (names_of items) ≡ map h (map placed items)
each_told g h [] all = refl
each_told g h (item ∷ items) all =
    ap (λ (e : Name × Stat). e ∷ map g (names_of items)) (all 0 item (omega arith))
    ∙ ap (λ (es : List (Name × Stat)). h (placed item) ∷ es) (each_told g h items (λ k d less. all (suc k) d (omega (arith, less))))

pub entries_told : (t : Tree) (path : Path) (f : Blocks) (from : Option Name) (most : ℕ) (items : List Item) → children t path ≡ names_of items
    → All (λ item. machine.with_stat t path (item.name, is_dir_place item.place) ≡ places.with_stat f (placed item)) items
    → entries_of t path from most ≡ map (places.with_stat f) (places_after from most items)
entries_told t path f from most items listed told =
    ap (λ (l : List (Name × Bool)). map (machine.with_stat t path) (listed_after from most l)) listed
    ∙ ap (λ (l : List (Name × Bool)). map (machine.with_stat t path) (take most l)) (filter_names from items)
    ∙ ap (map (machine.with_stat t path)) (take-map (λ (item : Item). (item.name, is_dir_place item.place)) most (filter (λ item. is_after from item.name) items))
    ∙ each_told (machine.with_stat t path) (places.with_stat f) (take most (filter (λ item. is_after from item.name) items))
    (All-take (λ item. machine.with_stat t path (item.name, is_dir_place item.place) ≡ places.with_stat f (placed item)) most (filter (λ item. is_after from item.name) items)
    (All-filter (λ item. is_after from item.name) (λ item. machine.with_stat t path (item.name, is_dir_place item.place) ≡ places.with_stat f (placed item)) items told))

-- ---- what stands at the names of a directory

-- the directory that a path leads to, in the tree of a root
module _ (capacity : ℕ) (f : Blocks) (root : ℕ) (path : Path) (block : ℕ) (items : List Item) (rooted : IsRoot capacity f root) (led : leads f (Dir root) path ≡ Some (Dir block)) (spelled : entries_in f block ≡ Some items) where
  child_led : (item : Item) → Contains items item → leads f (Dir root) (path ++ item.name ∷ []) ≡ Some item.place
  child_led item inside =
      leads-append f (Dir root) path (item.name ∷ [])
      ∙ ap (λ (o : Option Place). option_and_then (λ next. leads f next (item.name ∷ [])) o) led
      ∙ ap (λ (o : Option Place). option_and_then (λ next. leads f next []) o)
      (ap (λ (o : Option (List Item)). named_place (unwrap_or o []) item.name) spelled ∙ contained-named_place items item (first_parts f block items spelled).order inside)

  there : (n : Name) (place : Place) → leads f (Dir root) (path ++ n ∷ []) ≡ Some place → stat_at (root_tree capacity f root) (path ++ n ∷ []) ≡ stat_of (root_tree capacity f root) (path ++ n ∷ []) (Some (entry_at capacity f place))
  there n place is =
      ap (λ (t : Contents). stat_of (root_tree capacity f root) (path ++ n ∷ []) (t (path ++ n ∷ []))) (map_law capacity f root rooted).same
      ∙ ap (λ (o : Option Place). stat_of (root_tree capacity f root) (path ++ n ∷ []) (option_map (entry_at capacity f) o)) is

  at_place : (n : Name) (place : Place) → leads f (Dir root) (path ++ n ∷ []) ≡ Some place → stat_at (root_tree capacity f root) (path ++ n ∷ []) ≡ places.stat_of f place
  at_place n (Dir b) is =
      there n (Dir b) is
      ∙ ap (λ (names : List (Name × Bool)). Stat.Dir (length names)) ((map_law capacity f root rooted).lists (path ++ n ∷ []) b is)
      ∙ ap Stat.Dir (length-map (items_in f b) (λ (item : Item). (item.name, is_dir_place item.place)))
  at_place n (File head size) is = there n (File head size) is ∙ ap Stat.File (body_length capacity f head size (rooted (path ++ n ∷ []) (File head size) is).0)

  begins_there : (place : Place) (p : Path) → leads f (Dir root) p ≡ Some place → Begins f place
  begins_there (Dir b) p is = (rooted p (Dir b) is).0
  begins_there (File head size) p is = tt

  -- each name has what its place has
  pub stats_told : All (λ item. machine.with_stat (root_tree capacity f root) path (item.name, is_dir_place item.place) ≡ places.with_stat f (placed item)) items
  stats_told k d less =
      let item = get_or items k d in
      ap (λ (stat : Stat). (item.name, stat)) (at_place item.name item.place (child_led item (Contains-get_or items k d less)))

  -- each directory that it names begins in its block
  pub all_begin : (from : Option Name) (most : ℕ) → AllBegin f (places_after from most items)
  all_begin from most =
      All-map (λ entry. Begins f entry.1) placed (take most (filter (λ item. is_after from item.name) items))
      (All-take (λ item. Begins f item.place) most (filter (λ item. is_after from item.name) items) (All-filter (λ item. is_after from item.name) (λ item. Begins f item.place) items
      (λ k d less. let item = get_or items k d in begins_there item.place (path ++ item.name ∷ []) (child_led item (Contains-get_or items k d less)))))

-- ---- how many nodes the directories have

place_nodes : (f : Blocks) (place : Place) → Begins f place → nodes_of f place ≡ stat_nodes (places.stat_of f place)
place_nodes f (File head size) begins = refl
place_nodes f (Dir block) (items, spelled) =
    count_law f block items spelled ∙ ap (λ (o : Option (List Item)). nodes_for (length (unwrap_or o []))) (sym spelled)

pub all_nodes : (f : Blocks) (entries : List (Name × Place)) → AllBegin f entries → nodes_of_all f entries ≡ entry_nodes (map (places.with_stat f) entries)
all_nodes f [] begin = refl
all_nodes f (e ∷ entries) begin =
    let here = place_nodes f e.1 (begin 0 e (omega arith)) in
    let rest = all_nodes f entries (λ k d less. begin (suc k) d (omega (arith, less))) in
    sum_by-cons (λ (entry : Name × Place). nodes_of f entry.1) e entries ∙ (λ i. here i + rest i) ∙ sym (sum_by-cons (λ (entry : Name × Stat). stat_nodes entry.1) (places.with_stat f e) (map (places.with_stat f) entries))

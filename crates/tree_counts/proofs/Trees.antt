-- How much a root leads to is how much stands in its tree.
use Rattle.std.proofs.Common.{◌≡◌, ◌⊎◌, inl, inr, ℕ, zero, suc, ◌+◌, ◌-◌, ◌*◌, ◌≤◌, ◌<◌, Bool, true, false, cond, eqb, Option, Some, None, List, [], ◌∷◌, ◌++◌, map, length, refl, sym, ap, subst, ◌∙◌, arith}
use Rattle.std.proofs.lemmas.List.{length-take-le, append-nil}
use Rattle.std.proofs.lemmas.List.Elements.{Contains-append_left, Contains-append_right, Contains-append_cases}
use Rattle.std.proofs.lemmas.Bool.{true≢false}
use Rattle.std.proofs.lemmas.List.Sums.{sum_by-append, sum_by-cons}
use Rattle.std.specs.Prelude.{sum_by, Contains, unwrap_or, if◌then◌else◌}
use Rattle.std.specs.FinMap.{get}
use Rattle.std.specs.List.{flat_map}
use Rattle.std.specs.Option.{option_map, option_and_then}
use Rattle.fs_types.specs.Names.{Name, Path}
use Rattle.fs_types.specs.declared.limits.TheConstants.{MAX_NAMES, CHAIN_NODES}
use Rattle.plain_trees.specs.Contents.{Entry}
use Rattle.plain_trees.specs.Trees.{Tree, children}
use Rattle.node_format.specs.Items.{Item, is_dir_place}
use Rattle.node_format.specs.Links.{Link}
use Rattle.node_format.specs.declared.place.Place.{Place}
use Rattle.node_format.specs.declared.place.Place.TheVariants.{Dir, File}
use Rattle.nodes.specs.Bodies.{Blocks, body, IsBody, data_to, head_index}
use Rattle.nodes.specs.Chains.{link_of, link_items, next_of, entries_after, most_after}
use Rattle.nodes.specs.TreeLaws.{MapLaw}
use Rattle.nodes.specs.Reached.{Names, PlaceNames}
use Rattle.nodes.specs.Trees.{child, leads, tree, entry_at, entries_in, items_in, names_of, root_tree, HasTree, IsRoot, IsWholePlace}
use Rattle.nodes.proofs.Chains.{by_test, AfterParts, HasNodeAfter, HasFirstNode, none_after, after_parts, first_parts, next_is, items_are}
use Rattle.nodes.proofs.Chained.{entry_named}
use Rattle.nodes.proofs.EditedTrees.{child_tree}
use Rattle.nodes.proofs.RootMaps.{leads-append, map_law}
use Rattle.reclaim.specs.Naming.{item_directories, place_directories, next_names}
use Rattle.tree_counts.specs.Counted.{leads_of, own, own_of, weight, IsLow, most_steps, size_from}
use Rattle.tree_counts.specs.Sizes.{sum_below, one, file_length, place_one, place_length, sized, size_of}
use Rattle.tree_counts.proofs.Sums.{head_in, tail_in, in_none, in_one, sum_same, sum_map, sum_flat, sum_plus}
use Rattle.tree_counts.proofs.Weights.{low_most, weight_step}

-- ---- what nodes lead to

-- a directory that an entry names
abbrev SomeDirectory : List Item → ℕ → Type 0
SomeDirectory items c = (item : Item) × Contains items item × (item.place ≡ Dir c)

place_to : (place : Place) (c : ℕ) → Contains (place_directories place) c → place ≡ Dir c
place_to (Dir block) c h = ap Dir (in_one block c h)
place_to (File head size) c h = absurd (in_none c h)

directories_to : (items : List Item) (c : ℕ) → Contains (flat_map item_directories items) c → SomeDirectory items c
directories_to [] c h = absurd (in_none c h)
directories_to (item ∷ items) c h = either (Contains-append_cases (item_directories item) (flat_map item_directories items) c h) (directories_to items c)
  where
    either : Contains (item_directories item) c ⊎ Contains (flat_map item_directories items) c → (Contains (flat_map item_directories items) c → SomeDirectory items c) → SomeDirectory (item ∷ items) c
    either (inl first) again = (item, head_in item items, place_to item.place c first)
    either (inr rest) again = let found = again rest in (found.0, tail_in item found.0 items found.1, found.2)

next_to : (next c : ℕ) → Contains (next_names next) c → (eqb next 0 ≡ false) × (next ≡ c)
next_to next c h = by_test (eqb next 0)
    (λ none. absurd (in_none c (subst (λ (b : Bool). Contains (cond b [] (next ∷ [])) c) none h)))
    (λ some. (some, in_one next c (subst (λ (b : Bool). Contains (cond b [] (next ∷ [])) c) some h)))

-- what a node of a directory leads to
led : (f : Blocks) (b : ℕ) (l : Link) (c : ℕ) → link_of (f b) ≡ Some l → Contains (leads_of (f b)) c → SomeDirectory l.items c ⊎ ((eqb l.next 0 ≡ false) × (l.next ≡ c))
led f b l c is h = either (Contains-append_cases (flat_map item_directories (link_items (f b))) (next_names (next_of (f b))) c h)
  where
    either : Contains (flat_map item_directories (link_items (f b))) c ⊎ Contains (next_names (next_of (f b))) c → SomeDirectory l.items c ⊎ ((eqb l.next 0 ≡ false) × (l.next ≡ c))
    either (inl x) = inl (directories_to l.items c (subst (λ (items : List Item). Contains (flat_map item_directories items) c) (items_are f b l is) x))
    either (inr x) = inr (next_to l.next c (subst (λ (n : ℕ). Contains (next_names n) c) (next_is f b l is) x))

-- a node names what it leads to
pub led_names : (node : Option (List ℕ)) (c : ℕ) → Contains (leads_of node) c → Names node c
led_names node c h = either (Contains-append_cases (flat_map item_directories (link_items node)) (next_names (next_of node)) c h)
  where
    some : (next : ℕ) → eqb next 0 ≡ false → 0 < next
    some zero is = absurd (let zero_is : eqb 0 0 ≡ true = grind arith in true≢false (sym zero_is ∙ is))
    some (suc next) is = omega arith

    either : Contains (flat_map item_directories (link_items node)) c ⊎ Contains (next_names (next_of node)) c → Names node c
    either (inl x) = let found = directories_to (link_items node) c x in inl (found.0, found.1, subst (λ (p : Place). PlaceNames p c) (sym found.2) refl)
    either (inr x) = let is = next_to (next_of node) c x in inr (inr (some (next_of node) is.0, is.1))

-- directories that entries name stand low
abbrev pub AreLow : Blocks → ℕ → List Item → Type 0
AreLow f bound items = (item : Item) (c : ℕ) → Contains items item → item.place ≡ Dir c → IsLow f bound c

low_here : (f : Blocks) (n bound b : ℕ) (l : Link) → link_of (f b) ≡ Some l → bound ≤ n → AreLow f bound l.items → (eqb l.next 0 ≡ false → IsLow f n l.next) → IsLow f (suc n) b
unfolding IsLow
low_here f n bound b l is le low next = ((l, is), λ c has. by c (led f b l c is has))
  where
    by : (c : ℕ) → SomeDirectory l.items c ⊎ ((eqb l.next 0 ≡ false) × (l.next ≡ c)) → IsLow f n c
    by c (inl (item, has, at)) = low_most f bound n c le (low item c has at)
    by c (inr (some, same)) = subst (IsLow f n) same (next some)

low_front : (f : Blocks) (bound : ℕ) (front back items : List Item) → items ≡ front ++ back → AreLow f bound items → AreLow f bound front
low_front f bound front back items is low item c has at = low item c (subst (λ (l : List Item). Contains l item) (sym is) (Contains-append_left front back item has)) at

low_back : (f : Blocks) (bound : ℕ) (front back items : List Item) → items ≡ front ++ back → AreLow f bound items → AreLow f bound back
low_back f bound front back items is low item c has at = low item c (subst (λ (l : List Item). Contains l item) (sym is) (Contains-append_right front back item has)) at

not_both : {P : Type 0} (b : Bool) → b ≡ true → b ≡ false → P
not_both b first second = absurd (true≢false (sym first ∙ second))

low_after : (f : Blocks) (bound n next : ℕ) (items : List Item) → entries_after n f next ≡ Some items → AreLow f bound items → eqb next 0 ≡ false → IsLow f (n + bound) next
low_after f bound zero next items e low some = not_both (eqb next 0) (none_after f next items e).0 some
low_after f bound (suc n) next items e low some = on (after_parts f n next items e) (low_after f bound n)
  where
    on : AfterParts f n next items → ((c : ℕ) (more : List Item) → entries_after n f c ≡ Some more → AreLow f bound more → eqb c 0 ≡ false → IsLow f (n + bound) c) → IsLow f (suc n + bound) next
    on (inl none) again = not_both (eqb next 0) none.0 some
    on (inr p) again =
        let same : suc (n + bound) ≡ suc n + bound = omega arith in
        subst (λ (k : ℕ). IsLow f k next) same
        (low_here f (n + bound) bound next p.l p.is (omega arith) (low_front f bound p.l.items p.more items p.parts low)
        (λ on_next. again p.l.next p.more p.rest (low_back f bound p.l.items p.more items p.parts low) on_next))

low_first : (f : Blocks) (bound b : ℕ) (items : List Item) → entries_in f b ≡ Some items → AreLow f bound items → IsLow f (CHAIN_NODES + bound) b
low_first f bound b items e low =
    let p : HasFirstNode f b items = first_parts f b items e in
    let same : suc (most_after + bound) ≡ CHAIN_NODES + bound = omega arith in
    subst (λ (k : ℕ). IsLow f k b) same
    (low_here f (most_after + bound) bound b p.l p.is (omega arith) (low_front f bound p.l.items p.more items p.parts low)
    (λ some. low_after f bound most_after p.l.next p.more p.rest (low_back f bound p.l.items p.more items p.parts low) some))

-- ---- directories of a tree

module _ (capacity : ℕ) (f : Blocks) where
  -- an entry of a directory has a tree, of paths of a name less
  below : (depth b : ℕ) (items : List Item) (item : Item) → HasTree capacity f (Dir b) depth → entries_in f b ≡ Some items → Contains items item → (1 ≤ depth) × HasTree capacity f item.place (depth - 1)
  below depth b items item has e inside =
      let leads_to : child f (Dir b) item.name ≡ Some item.place = entry_named f b item (subst (λ (l : List Item). Contains l item) (sym (ap (λ (o : Option (List Item)). unwrap_or o []) e)) inside) in
      let own_path = has (item.name ∷ []) item.place (ap (option_and_then (λ next. leads f next [])) leads_to) in
      (omega (arith, own_path.1), child_tree capacity f depth (Dir b) item.name item.place leads_to has)

  pub low_directory : (depth b : ℕ) → HasTree capacity f (Dir b) depth → IsLow f (CHAIN_NODES * (depth + 1)) b
  low_directory zero b has =
      let whole = (has [] (Dir b) refl).0 in
      low_first f 0 b whole.0 whole.1 (λ item c inside at. absurd (let deep = (below 0 b whole.0 item has whole.1 inside).0 in omega (arith, deep)))
  low_directory (suc depth) b has =
      let whole = (has [] (Dir b) refl).0 in
      let same : CHAIN_NODES + CHAIN_NODES * (depth + 1) ≡ CHAIN_NODES * (suc depth + 1) = omega arith in
      let one_less : suc depth - 1 ≡ depth = omega arith in
      subst (λ (k : ℕ). IsLow f k b) same
      (low_first f (CHAIN_NODES * (depth + 1)) b whole.0 whole.1
      (λ item c inside at. low_directory depth c (subst (HasTree capacity f (Dir c)) one_less (subst (λ (p : Place). HasTree capacity f p (suc depth - 1)) at (below (suc depth) b whole.0 item has whole.1 inside).1))))

  module _ (of : Place → ℕ) where
    -- how much a directory leads to
    abbrev value : ℕ → ℕ
    value b = weight of f most_steps b

    -- how much an entry counts, with what stands below it
    abbrev term : Item → ℕ
    term item = of item.place + sum_by value (item_directories item)

    node_value : (n b : ℕ) (l : Link) → n ≤ most_steps → IsLow f n b → link_of (f b) ≡ Some l → value b ≡ sum_by term l.items + sum_by value (next_names l.next)
    node_value n b l le low is =
        let whole : value b ≡ own of (f b) + sum_by value (leads_of (f b)) = weight_step of f n b le low in
        let parts : sum_by value (leads_of (f b)) ≡ sum_by value (flat_map item_directories (link_items (f b))) + sum_by value (next_names (next_of (f b))) = sum_by-append value (flat_map item_directories (link_items (f b))) (next_names (next_of (f b))) in
        let flat : sum_by value (flat_map item_directories (link_items (f b))) ≡ sum_by (λ item. sum_by value (item_directories item)) (link_items (f b)) = sum_flat value item_directories (link_items (f b)) in
        let all : sum_by term (link_items (f b)) ≡ own of (f b) + sum_by (λ item. sum_by value (item_directories item)) (link_items (f b)) = sum_plus (λ (item : Item). of item.place) (λ item. sum_by value (item_directories item)) (link_items (f b)) in
        let here : value b ≡ sum_by term (link_items (f b)) + sum_by value (next_names (next_of (f b))) = omega (arith, whole, parts, flat, all) in
        here ∙ ap (λ (items : List Item). sum_by term items + sum_by value (next_names (next_of (f b)))) (items_are f b l is)
        ∙ ap (λ (next : ℕ). sum_by term l.items + sum_by value (next_names next)) (next_is f b l is)

    single : (next : ℕ) → eqb next 0 ≡ false → sum_by value (next_names next) ≡ value next
    single next some =
        let whole : sum_by value (next ∷ []) ≡ value next = omega (arith, sum_by-cons value next []) in
        ap (λ (b : Bool). sum_by value (cond b [] (next ∷ []))) some ∙ whole

    no_next : (next : ℕ) → eqb next 0 ≡ true → sum_by value (next_names next) ≡ 0
    no_next next none = ap (λ (b : Bool). sum_by value (cond b [] (next ∷ []))) none

    after_value : (bound n next : ℕ) (items : List Item) → n + bound ≤ most_steps → entries_after n f next ≡ Some items → AreLow f bound items → sum_by value (next_names next) ≡ sum_by term items
    after_value bound zero next items le e low =
        let none = none_after f next items e in
        no_next next none.0 ∙ sym (ap (sum_by term) none.1)
    after_value bound (suc n) next items le e low = on (after_parts f n next items e) (after_value bound n)
      where
        on : AfterParts f n next items → ((c : ℕ) (more : List Item) → n + bound ≤ most_steps → entries_after n f c ≡ Some more → AreLow f bound more → sum_by value (next_names c) ≡ sum_by term more) → sum_by value (next_names next) ≡ sum_by term items
        on (inl none) again = no_next next none.0 ∙ sym (ap (sum_by term) none.1)
        on (inr p) again =
            let here = node_value (suc n + bound) next p.l le (low_after f bound (suc n) next items e low p.some) p.is in
            let rest = again p.l.next p.more (omega arith) p.rest (low_back f bound p.l.items p.more items p.parts low) in
            let all : sum_by term items ≡ sum_by term p.l.items + sum_by term p.more = ap (sum_by term) p.parts ∙ sum_by-append term p.l.items p.more in
            omega (arith, single next p.some, here, rest, all)

    directory_value : (bound b : ℕ) (items : List Item) → CHAIN_NODES + bound ≤ most_steps → entries_in f b ≡ Some items → AreLow f bound items → value b ≡ sum_by term items
    directory_value bound b items le e low =
        let p : HasFirstNode f b items = first_parts f b items e in
        let here = node_value (CHAIN_NODES + bound) b p.l le (low_first f bound b items e low) p.is in
        let rest = after_value bound most_after p.l.next p.more (omega arith) p.rest (low_back f bound p.l.items p.more items p.parts low) in
        let all : sum_by term items ≡ sum_by term p.l.items + sum_by term p.more = ap (sum_by term) p.parts ∙ sum_by-append term p.l.items p.more in
        omega (arith, here, rest, all)

    -- how much a directory of a tree leads to, by its entries
    tree_value : (depth b : ℕ) (items : List Item) → depth ≤ MAX_NAMES → HasTree capacity f (Dir b) depth → entries_in f b ≡ Some items → value b ≡ sum_by term items
    tree_value zero b items le has e = directory_value 0 b items (omega arith) e (λ item c inside at. absurd (let deep = (below 0 b items item has e inside).0 in omega (arith, deep)))
    tree_value (suc depth) b items le has e =
        let one_less : suc depth - 1 ≡ depth = omega arith in
        directory_value (CHAIN_NODES * (depth + 1)) b items (omega arith) e
        (λ item c inside at. low_directory depth c (subst (HasTree capacity f (Dir c)) one_less (subst (λ (p : Place). HasTree capacity f p (suc depth - 1)) at (below (suc depth) b items item has e inside).1)))

    -- ---- the tree of a root

    module _ (root : ℕ) (is_root : IsRoot capacity f root) (of_entry : Option Entry → ℕ) (agree : (place : Place) → IsWholePlace capacity f place → of_entry (Some (entry_at capacity f place)) ≡ of place) where
      abbrev t : Tree
      t = root_tree capacity f root

      law : MapLaw capacity f root
      law = map_law capacity f root is_root

      empty : (items : List Item) → ((item : Item) → Contains items item → ⊥) → items ≡ []
      empty [] none = refl
      empty (item ∷ items) none = absurd (none item (head_in item items))

      pub below_value : (levels depth : ℕ) (path : Path) (b : ℕ) → depth ≤ levels → depth ≤ MAX_NAMES → leads f (Dir root) path ≡ Some (Dir b) → HasTree capacity f (Dir b) depth → sum_below of_entry (root_tree capacity f root) levels path ≡ value b
      unfolding sum_below
      below_value zero depth path b le few at has =
          let whole = (has [] (Dir b) refl).0 in
          let none : whole.0 ≡ [] = empty whole.0 (λ item inside. let deep = (below depth b whole.0 item has whole.1 inside).0 in omega (arith, deep, le)) in
          sym (tree_value depth b whole.0 few has whole.1 ∙ ap (sum_by term) none)
      below_value (suc levels) depth path b le few at has =
          let whole = (has [] (Dir b) refl).0 in
          let items : List Item = whole.0 in
          let listed : children t path ≡ names_of items = law.lists path b at ∙ ap (λ (o : Option (List Item)). names_of (unwrap_or o [])) whole.1 in
          let row : Name × Bool → ℕ = λ entry. of_entry (get t (path ++ entry.0 ∷ [])) + (if entry.1 then sum_below of_entry t levels (path ++ entry.0 ∷ []) else 0) in
          ap (sum_by row) listed
          ∙ sum_map row (λ (item : Item). (item.name, is_dir_place item.place)) items
          ∙ sum_same (λ (item : Item). row (item.name, is_dir_place item.place)) term items (λ item inside. each item (below depth b items item has whole.1 inside)
          (leads-append f (Dir root) path (item.name ∷ []) ∙ ap (option_and_then (λ next. leads f next (item.name ∷ []))) at
          ∙ ap (option_and_then (λ next. leads f next [])) (entry_named f b item (subst (λ (l : List Item). Contains l item) (sym (ap (λ (o : Option (List Item)). unwrap_or o []) whole.1)) inside))) (below_value levels (depth - 1)))
          ∙ sym (tree_value depth b items few has whole.1)
        where
          each : (item : Item) → (1 ≤ depth) × HasTree capacity f item.place (depth - 1) → leads f (Dir root) (path ++ item.name ∷ []) ≡ Some item.place
              → ((p : Path) (c : ℕ) → depth - 1 ≤ levels → depth - 1 ≤ MAX_NAMES → leads f (Dir root) p ≡ Some (Dir c) → HasTree capacity f (Dir c) (depth - 1) → sum_below of_entry t levels p ≡ value c)
              → of_entry (get t (path ++ item.name ∷ [])) + (if is_dir_place item.place then sum_below of_entry t levels (path ++ item.name ∷ []) else 0) ≡ term item
          each item deep there again =
              let own_value : of_entry (get t (path ++ item.name ∷ [])) ≡ of item.place =
              ap of_entry (ap (λ (g : Path → Option Entry). g (path ++ item.name ∷ [])) law.same ∙ ap (option_map (entry_at capacity f)) there) ∙ agree item.place (deep.1 [] item.place refl).0 in
              omega (arith, own_value, rest item.place deep.1 there)
            where
              rest : (place : Place) → HasTree capacity f place (depth - 1) → leads f (Dir root) (path ++ item.name ∷ []) ≡ Some place
                  → (if is_dir_place place then sum_below of_entry t levels (path ++ item.name ∷ []) else 0) ≡ sum_by value (place_directories place)
              rest (Dir c) below_it to =
                  let whole : sum_by value (c ∷ []) ≡ value c = omega (arith, sum_by-cons value c []) in
                  again (path ++ item.name ∷ []) c (omega arith) (omega arith) to below_it ∙ sym whole
              rest (File head size) below_it to = refl

body_length : (capacity : ℕ) (f : Blocks) (head size : ℕ) → IsBody capacity f head size → length (body capacity f head size) ≡ size
body_length capacity f head zero is = refl
body_length capacity f head (suc n) is = length-take-le (suc n) (data_to f (head_index capacity (suc n)) head) is.1

one_agrees : (capacity : ℕ) (f : Blocks) (place : Place) → IsWholePlace capacity f place → one (Some (entry_at capacity f place)) ≡ place_one place
one_agrees capacity f place whole = refl

length_agrees : (capacity : ℕ) (f : Blocks) (place : Place) → IsWholePlace capacity f place → file_length (Some (entry_at capacity f place)) ≡ place_length place
length_agrees capacity f (Dir block) whole = refl
length_agrees capacity f (File head size) whole = body_length capacity f head size whole

-- how much a root leads to is the size of its tree
pub root_size : (capacity : ℕ) (f : Blocks) (root : ℕ) → IsRoot capacity f root → size_from f root ≡ size_of (root_tree capacity f root)
root_size capacity f root is =
    let entries = below_value capacity f place_one root is one (one_agrees capacity f) MAX_NAMES MAX_NAMES [] root (omega arith) (omega arith) refl is in
    let lengths = below_value capacity f place_length root is file_length (length_agrees capacity f) MAX_NAMES MAX_NAMES [] root (omega arith) (omega arith) refl is in
    λ i. sized (sym entries i) (sym lengths i)

pub root_low : (capacity : ℕ) (f : Blocks) (root : ℕ) → IsRoot capacity f root → IsLow f most_steps root
root_low capacity f root is = low_directory capacity f MAX_NAMES root is

-- How many nodes an edit may write of directories is at most what the trees before and after it tell.
use Rattle.std.proofs.Common.{◌≡◌, ℕ, zero, suc, ◌+◌, ◌-◌, ◌<◌, ◌≤◌, ◌⊎◌, inl, inr, Bool, true, false, cond, ◌&&◌, Option, Some, None, List, [], ◌∷◌, ◌++◌, length, take, max, get_or, refl, sym, ap, subst, ◌∙◌, arith}
use Rattle.std.proofs.lemmas.Bool.{true≢false}
use Rattle.std.proofs.lemmas.List.{length-map, length-take-le, get_or-take}
use Rattle.std.proofs.lemmas.List.Sums.{sum_by-cons, sum_by_more}
use Rattle.std.proofs.Math.ListN.{get_or-append}
use Rattle.std.proofs.Math.Seq.{take-length}
use Rattle.std.specs.Prelude.{slice_index, nat_lt, IsSome}
use Rattle.std.specs.List.{sum_by, range_with_len}
use Rattle.std.specs.Option.{option_map, is_none, is_some}
use Rattle.std.specs.FinMap.{get}
use Rattle.fs_types.specs.Names.{Path, same_name}
use Rattle.fs_types.proofs.Orders.{same_name-own}
use Rattle.plain_trees.specs.Contents.{Contents, Entry, Apart}
use Rattle.plain_trees.specs.Contents as plain
use Rattle.plain_trees.specs.Trees.{Tree, put, move, entry_count, nodes_for, directory_need, path_need}
use Rattle.plain_trees.proofs.Beneath.{by_beneath}
use Rattle.plain_trees.proofs.Needs.{nodes_for-some, nodes_for-le, nodes_for-more, sum_below-le, put-grows, move-grows}
use Rattle.node_format.specs.Items.{Item, named_place, is_dir_place}
use Rattle.node_format.specs.declared.place.Place.{Place}
use Rattle.node_format.specs.declared.place.Place.TheVariants.{Dir}
use Rattle.nodes.specs.Bodies.{Blocks}
use Rattle.nodes.specs.Trees.{items_in, entry_at, leads, IsRoot, root_tree}
use Rattle.nodes.proofs.RootMaps.{map_law}
use Rattle.directory.specs.Counts.{nodes_in, edit_nodes, path_nodes, move_nodes}
use Rattle.directory.specs.Moves.{common}
use Rattle.directory.specs.Trails.{IsTrail}
use Rattle.directory.proofs.Forks.{parted}
use Rattle.directory.proofs.TrailEdits.{level_child, leads_last}
use Rattle.directory.proofs.Ways.{take_more}

-- ---- numbers

le_first : (a b c : ℕ) → a ≤ b → a ≤ max b c
le_first a b c h = omega arith

le_second : (a b c : ℕ) → a ≤ c → a ≤ max b c
le_second a b c h = omega arith

le_both : (a b c d : ℕ) → a ≤ b → b ≤ c → a ≤ c + d
le_both a b c d h k = omega arith

le_more : (a b c d e : ℕ) → a ≤ b + 1 → b ≤ c → 0 < e → e ≤ d → a ≤ c + d
le_more a b c d e h k some l = omega arith

-- what is counted of two paths, where the place at which they part counts for both
joined : (shared fork first second a here b all other there c every : ℕ) → shared ≤ a → fork ≤ here + there → first ≤ b → second ≤ c → all ≡ a + (here + b) → every ≡ other + (there + c)
    → shared + (fork + (first + second)) ≤ all + every
joined shared fork first second a here b all other there c every h k l m n o = omega arith

-- ---- sums

-- a sum of one term
sum_one : (g : ℕ → ℕ) (k : ℕ) → sum_by g (range_with_len k 1) ≡ g k
sum_one g k = omega arith

-- a sum in two parts
sum_split : (g : ℕ → ℕ) (a b m n k : ℕ) → b ≡ a + m → k ≡ m + n → sum_by g (range_with_len a k) ≡ sum_by g (range_with_len a m) + sum_by g (range_with_len b n)
sum_split g a b zero n k first second =
    let here : a ≡ b = omega arith in
    let all : k ≡ n = omega arith in
    let same : sum_by g (range_with_len a k) ≡ sum_by g (range_with_len b n) = λ i. sum_by g (range_with_len (here i) (all i)) in
    omega (arith, same)
sum_split g a b (suc m) n zero first second = absurd (omega arith)
sum_split g a b (suc m) n (suc k) first second =
    let rest = sum_split g (a + 1) b m n k (omega arith) (omega arith) in
    omega (arith, rest, sum_by-cons g a (range_with_len (a + 1) k), sum_by-cons g a (range_with_len (a + 1) m))

-- one term more
sum_more : (g : ℕ → ℕ) (k : ℕ) → sum_by g (range_with_len 0 (suc k)) ≡ sum_by g (range_with_len 0 k) + g k
sum_more g k = let split = sum_split g 0 k k 1 (suc k) (omega arith) (omega arith) in omega (arith, split, sum_one g k)

-- a sum over the first elements of a list
sum_taken : (h g : ℕ → ℕ) (xs : List ℕ) (k : ℕ) → k ≤ length xs → ((i : ℕ) → i < k → h (slice_index xs i) ≤ g i) → sum_by h (take k xs) ≤ sum_by g (range_with_len 0 k)
sum_taken h g xs zero within each = omega arith
sum_taken h g xs (suc k) within each =
    let one : k + 1 ≡ suc k = omega arith in
    let left : sum_by h (take (suc k) xs) ≡ sum_by h (take k xs) + h (slice_index xs k) = ap (λ (j : ℕ). sum_by h (take j xs)) (sym one) ∙ sum_by_more h xs k 0 (omega arith) in
    let here : h (slice_index xs k) ≤ g k = each k (omega arith) in
    let rest = sum_taken h g xs k (omega arith) (λ i less. each i (omega arith)) in
    omega (arith, left, sum_more g k, here, rest)

-- ---- paths

-- all names but the last, and the last
last_of : (path : Path) (i : ℕ) → i + 1 ≡ length path → path ≡ take i path ++ get_or path i [] ∷ []
last_of path i last = sym (take-length path) ∙ ap (λ (j : ℕ). take j path) (sym last) ∙ take_more i path (omega arith)

-- ---- the directories of a path

module _ (capacity : ℕ) (f : Blocks) (root : ℕ) (rooted : IsRoot capacity f root) where
  abbrev before : Tree
  before = root_tree capacity f root

  -- a directory has as many entries as the tree tells
  counts : (path : Path) (trail : List ℕ) (i : ℕ) → IsTrail f root path trail → i < length path → entry_count before (take i path) ≡ length (items_in f (slice_index trail i))
  counts path trail i way less =
      ap length ((map_law capacity f root rooted).lists (take i path) (slice_index trail i) (way.through i less))
      ∙ length-map (items_in f (slice_index trail i)) (λ (item : Item). (item.name, is_dir_place item.place))

  -- what a path does not lead to is not in the tree
  missing : (path : Path) → leads f (Dir root) path ≡ None → get before path ≡ None
  missing path none = ap (λ (t : Contents). t path) (map_law capacity f root rooted).same ∙ ap (option_map (entry_at capacity f)) none

  standing : (path : Path) → IsSome (leads f (Dir root) path) → IsSome (get before path)
  standing path some = ap (λ (t : Contents). is_some (t path)) (map_law capacity f root rooted).same ∙ on (leads f (Dir root) path) ∙ some
    where
      on : (o : Option Place) → is_some (option_map (entry_at capacity f) o) ≡ is_some o
      on None = refl
      on (Some place) = refl

  -- the directory above a path has an entry more in a later tree, if nothing stood at the path
  abbrev pub Grows : Tree → Path → ℕ → Type 0
  Grows after path i = i + 1 ≡ length path → get before path ≡ None → entry_count before (take i path) + 1 ≤ entry_count after (take i path)

  level_few : (after : Tree) (path : Path) (trail : List ℕ) (puts : Bool) (i : ℕ) → IsTrail f root path trail → i < length path → (puts ≡ true → Grows after path i)
      → edit_nodes (items_in f (slice_index trail i)) (get_or path i []) puts ≤ directory_need before after (take i path)
  level_few after path trail false i way less grows =
      let count = counts path trail i way less in
      le_first (nodes_for (length (items_in f (slice_index trail i)) + 0)) (nodes_for (entry_count before (take i path))) (nodes_for (entry_count after (take i path)))
      (nodes_for-le (length (items_in f (slice_index trail i)) + 0) (entry_count before (take i path)) (omega (arith, count)))
  level_few after path trail true i way less grows = on (named_place (items_in f (slice_index trail i)) (get_or path i [])) refl
    where
      either : (i + 1 < length path) ⊎ (i + 1 ≡ length path)
      either = grind arith

      on : (o : Option Place) → named_place (items_in f (slice_index trail i)) (get_or path i []) ≡ o → nodes_for (length (items_in f (slice_index trail i)) + cond (is_none o) 1 0) ≤ directory_need before after (take i path)
      on (Some place) is =
          let count = counts path trail i way less in
          le_first (nodes_for (length (items_in f (slice_index trail i)) + 0)) (nodes_for (entry_count before (take i path))) (nodes_for (entry_count after (take i path)))
          (nodes_for-le (length (items_in f (slice_index trail i)) + 0) (entry_count before (take i path)) (omega (arith, count)))
      on None is = last either
        where
          last : (i + 1 < length path) ⊎ (i + 1 ≡ length path) → nodes_for (length (items_in f (slice_index trail i)) + 1) ≤ directory_need before after (take i path)
          last (inl more) = absurd (let there = sym is ∙ level_child f root path trail i way more in cc)
          last (inr ends) =
              let count = counts path trail i way less in
              let more = grows refl ends (missing path (leads_last f root path trail i way ends ∙ is)) in
              le_second (nodes_for (length (items_in f (slice_index trail i)) + 1)) (nodes_for (entry_count before (take i path))) (nodes_for (entry_count after (take i path)))
              (nodes_for-le (length (items_in f (slice_index trail i)) + 1) (entry_count after (take i path)) (omega (arith, count, more)))

  levels_few : (after : Tree) (path : Path) (trail : List ℕ) (puts : Bool) (level : ℕ) → IsTrail f root path trail → level ≤ length path → ((i : ℕ) → level ≤ i → puts ≡ true → Grows after path i)
      → path_nodes f trail path puts level ≤ sum_by (λ i. directory_need before after (take i path)) (range_with_len level (length path - level))
  levels_few after path trail puts level way within grows =
      sum_below-le (λ i. edit_nodes (items_in f (slice_index trail i)) (get_or path i []) puts) (λ i. directory_need before after (take i path)) level (length path - level)
      (λ i low high. level_few after path trail puts i way (omega arith) (grows i low))

  path_few : (after : Tree) (path : Path) (trail : List ℕ) (puts : Bool) → IsTrail f root path trail → ((i : ℕ) → puts ≡ true → Grows after path i) → path_nodes f trail path puts 0 ≤ path_need before after path
  path_few after path trail puts way grows =
      let all : length path - 0 ≡ length path = omega arith in
      let few = levels_few after path trail puts 0 way (omega arith) (λ i low. grows i) in
      let same : sum_by (λ i. directory_need before after (take i path)) (range_with_len 0 (length path - 0)) ≡ path_need before after path =
      ap (λ (n : ℕ). sum_by (λ i. directory_need before after (take i path)) (range_with_len 0 n)) all in
      omega (arith, few, same)

  -- what is put at a path
  pub put_few : (path : Path) (trail : List ℕ) (x : Entry) → IsTrail f root path trail → path_nodes f trail path true 0 ≤ path_need before (put before path x) path
  put_few path trail x way = path_few (put before path x) path trail true way (λ i _. grows i)
    where
      grows : (i : ℕ) → Grows (put before path x) path i
      grows i last none =
          let is = last_of path i last in
          subst (λ (p : Path). entry_count before (take i path) + 1 ≤ entry_count (put before p x) (take i path)) (sym is)
          (put-grows before (take i path) (get_or path i []) (ap (get before) (sym is) ∙ none) x)

  -- what is taken out
  pub taken_few : (after : Tree) (path : Path) (trail : List ℕ) → IsTrail f root path trail → path_nodes f trail path false 0 ≤ path_need before after path
  taken_few after path trail way = path_few after path trail false way (λ i puts. absurd (true≢false (sym puts)))

-- ---- what is moved

module _ (capacity : ℕ) (f : Blocks) (root : ℕ) (rooted : IsRoot capacity f root) (old new : Path) (old_trail new_trail : List ℕ) (apart : Apart old new) (old_way : IsTrail f root old old_trail) (new_way : IsTrail f root new new_trail)
    (stands : IsSome (leads f (Dir root) old)) where
  abbrev from : Tree
  from = root_tree capacity f root

  abbrev moved : Tree
  moved = move (root_tree capacity f root) old new

  abbrev fork : ℕ
  fork = common old new

  abbrev old_need : ℕ → ℕ
  old_need i = directory_need from moved (take i old)

  abbrev new_need : ℕ → ℕ
  new_need i = directory_need from moved (take i new)

  -- the entries of the directory where the paths part
  abbrev here : List Item
  here = items_in f (slice_index old_trail fork)

  in_old : fork < length old
  in_old = (parted old new apart).in_first

  in_new : fork < length new
  in_new = (parted old new apart).in_second

  node_few : (i : ℕ) → i < length old → nodes_in f (slice_index old_trail i) ≤ old_need i
  node_few i less =
      let count = counts capacity f root rooted old old_trail i old_way less in
      le_first (nodes_in f (slice_index old_trail i)) (nodes_for (entry_count from (take i old))) (nodes_for (entry_count moved (take i old)))
      (nodes_for-le (length (items_in f (slice_index old_trail i))) (entry_count from (take i old)) (omega (arith, count)))

  -- it counts for both paths
  fork_few : edit_nodes here (get_or new fork []) (nat_lt (fork + 1) (length old)) ≤ old_need fork + new_need fork
  fork_few = on (nat_lt (fork + 1) (length old) && is_none (named_place here (get_or new fork [])))
    where
      on : (b : Bool) → nodes_for (length here + cond b 1 0) ≤ old_need fork + new_need fork
      on false = le_both (nodes_for (length here + 0)) (nodes_for (length here)) (old_need fork) (new_need fork) (nodes_for-le (length here + 0) (length here) (omega arith)) (node_few fork in_old)
      on true = le_more (nodes_for (length here + 1)) (nodes_for (length here)) (old_need fork) (new_need fork) (nodes_for (entry_count from (take fork new))) (nodes_for-more (length here)) (node_few fork in_old)
          (nodes_for-some (entry_count from (take fork new))) (le_first (nodes_for (entry_count from (take fork new))) (nodes_for (entry_count from (take fork new))) (nodes_for (entry_count moved (take fork new))) (omega arith))

  -- no directory of the new path below is above the old one
  elsewhere : (i : ℕ) → fork < i → i ≤ length new → plain.begins (take i new) old ≡ false
  elsewhere i below within = by_beneath (take i new) old (λ o. is_some o ≡ false) (λ r is. absurd (true≢false (same r is ∙ (parted old new apart).differs))) (λ _. refl)
    where
      long : length (take i new) ≡ i
      long = length-take-le i new within

      same : (r : Path) → old ≡ take i new ++ r → true ≡ same_name (get_or old fork []) (get_or new fork [])
      same r is =
          sym (same_name-own (get_or new fork []))
          ∙ ap (λ (name : List ℕ). same_name name (get_or new fork []))
          (sym (ap (λ (p : Path). get_or p fork []) is ∙ get_or-append (take i new) r [] fork (omega (arith, long)) ∙ get_or-take i new fork [] below))

  grows : (i : ℕ) → fork < i → Grows capacity f root rooted moved new i
  grows i low last none =
      let is = last_of new i last in
      subst (λ (p : Path). entry_count from (take i new) + 1 ≤ entry_count (move from old p) (take i new)) (sym is)
      (move-grows from (take i new) (get_or new i []) (ap (get from) (sym is) ∙ none) old (subst (Apart old) is apart) (elsewhere i low (omega arith)) (standing capacity f root rooted old stands))

  -- the directories down to the fork, it, and those below
  parts : (need : ℕ → ℕ) (n : ℕ) → fork < n → sum_by need (range_with_len 0 n) ≡ sum_by need (range_with_len 0 fork) + (need fork + sum_by need (range_with_len (fork + 1) (n - (fork + 1))))
  parts need n within =
      let first = sum_split need 0 fork fork (n - fork) n (omega arith) (omega arith) in
      let second = sum_split need fork (fork + 1) 1 (n - (fork + 1)) (n - fork) (omega arith) (omega arith) in
      omega (arith, first, second, sum_one need fork)

  pub move_few : move_nodes f old_trail old new_trail new ≤ path_need from moved old + path_need from moved new
  move_few =
      joined (sum_by (nodes_in f) (take fork old_trail)) (edit_nodes here (get_or new fork []) (nat_lt (fork + 1) (length old))) (path_nodes f old_trail old false (fork + 1)) (path_nodes f new_trail new true (fork + 1))
      (sum_by old_need (range_with_len 0 fork)) (old_need fork) (sum_by old_need (range_with_len (fork + 1) (length old - (fork + 1)))) (path_need from moved old)
      (sum_by new_need (range_with_len 0 fork)) (new_need fork) (sum_by new_need (range_with_len (fork + 1) (length new - (fork + 1)))) (path_need from moved new)
      (sum_taken (nodes_in f) old_need old_trail fork (omega (arith, old_way.counted, in_old)) (λ i less. node_few i (omega (arith, in_old))))
      fork_few
      (levels_few capacity f root rooted moved old old_trail false (fork + 1) old_way (omega (arith, in_old)) (λ i _ puts. absurd (true≢false (sym puts))))
      (levels_few capacity f root rooted moved new new_trail true (fork + 1) new_way (omega (arith, in_new)) (λ i low _. grows i (omega arith)))
      (parts old_need (length old) in_old)
      (parts new_need (length new) in_new)

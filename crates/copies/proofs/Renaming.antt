-- A version that is made by renames, and by what differs still after them.
use Rattle.std.proofs.Common.{◌≡◌, ◌≢◌, ◌∙◌, ◌⊎◌, inl, inr, ◌≤◌, ◌<◌, ◌+◌, ℕ, zero, suc, Bool, true, false, cond, Option, Some, None, IsSome, List, [], ◌∷◌, ◌++◌, length, map, take, get_or, refl, sym, ap, subst, append_assoc, append-nil, length-append, arith}
use Rattle.std.proofs.lemmas.Bool.{true≢false, leb-true, and_parts}
use Rattle.std.proofs.lemmas.Option.{same_Some}
use Rattle.std.proofs.lemmas.List.{flat_map_more, map-append, take_more}
use Rattle.std.proofs.lemmas.List.Elements.{All-append, All-cons, All-contains, All-nil, Contains-append_left, Contains-append_right, Contains-get_or, Contains-push, Contains-push_cases}
use Rattle.std.specs.Prelude.{All, Contains, filter, is_some, nat_le}
use Rattle.std.specs.List.{flat_map, list_all}
use Rattle.std.specs.FinMap.{get}
use Rattle.std.specs.Option.{option_map}
use Rattle.fs_types.specs.Names.{Path, is_name}
use Rattle.fs_types.specs.declared.call.Call.{Call}
use Rattle.fs_types.specs.declared.fault.Fault.{Fault}
use Rattle.fs_types.specs.declared.limits.TheConstants.{MAX_NAMES}
use Rattle.flash_model.specs.Device.{Device}
use Rattle.flash_model.specs.declared.flash.Flash.{Ghosts}
use Rattle.history_copies.specs.Laws.{bringing, changes_or}
use Rattle.history_machine.specs.History.{changed}
use Rattle.fs_types.specs.declared.call.Stat.{Stat}
use Rattle.fs_types.specs.declared.call.View.{View}
use Rattle.history_machine.specs.Machine.{Machine, IsMachine, mounted, present_tree, stat_of, view_tree, working_tree}
use Rattle.plain_trees.specs.Contents.{Entry, beneath, begins}
use Rattle.plain_trees.specs.Trees.{Tree, IsFileTree}
use Rattle.plain_trees.proofs.Beneath.{beneath-Some}
use Rattle.plain_trees.proofs.Lookups.{above, some-is}
use Rattle.inquiries.specs.Counterparts.{stat_there}
use Rattle.inquiries.specs.Items.{IsItemOf, item_at, items_below}
use Rattle.inquiries.specs.Pruned.{IsPruned}
use Rattle.inquiries.specs.declared.items.Item.{Item}
use Rattle.inquiries.proofs.DifferenceLemmas.{items_there}
use Rattle.inquiries.proofs.PrunedLemmas.{items_listed, kept_items, pruned_there}
use Rattle.tree_differences.specs.UpdateLaws.{Brings, Covers, IsMoved, StillCovers, moved_by, renames}
use Rattle.tree_differences.specs.Updates.{edit_paths, paths_below, paths_of}
use Rattle.tree_differences.proofs.Listed.{below_listed, contains_first, contains_later, listed}
use Rattle.tree_differences.proofs.Moved.{moved_brings, renames_law}
use Rattle.undofs.specs.declared.fs.Fs.{Fs}
use Rattle.updates.specs.Asked.{MeetsEither}
use Rattle.updates.specs.Changes.{paths_in}
use Rattle.copies.specs.Calls.{Does, Stops, WasRefused}
use Rattle.copies.specs.Causes.{NotCopied}
use Rattle.copies.specs.declared.uncopied.Uncopied.{Uncopied}
use Rattle.copies.specs.Moved.{Tries, TriesOne, after_moves, subtree_at, subtree_by, subtrees_at, there_at, there_by, there_in}
use Rattle.copies.proofs.Brought.{brought}
use Rattle.copies.proofs.Doing.{does_both}
use Rattle.copies.proofs.Stopping.{stops_among}

-- ---- the paths of lists

paths_of_items : (t : Tree) (paths : List Path) → paths_in (map (item_at t) paths) ≡ paths
paths_of_items t [] = refl
paths_of_items t (path ∷ paths) = ap (λ (l : List Path). path ∷ l) (paths_of_items t paths)

paths_below_in : (t : Tree) (levels : ℕ) (directory : Path) → paths_in (items_below t levels directory) ≡ paths_below t levels directory
paths_below_in t levels directory = ap paths_in (items_listed t levels directory) ∙ paths_of_items t (paths_below t levels directory)

filter_has : (keeps : Path → Bool) (paths : List Path) (path : Path) → Contains paths path → keeps path ≡ true → Contains (filter keeps paths) path
filter_has keeps [] path (k, below, at) kept = absurd (omega arith)
filter_has keeps (p ∷ paths) path (zero, below, at) kept = by (keeps p) (ap keeps at ∙ kept)
  where
    by : (b : Bool) → b ≡ true → Contains (cond b (p ∷ filter keeps paths) (filter keeps paths)) path
    by true is = subst (Contains (p ∷ filter keeps paths)) at (contains_first p (filter keeps paths))
    by false is = absurd (true≢false (sym is))
filter_has keeps (p ∷ paths) path (suc k, below, at) kept = by (keeps p) (filter_has keeps paths path (k, omega arith, at) kept)
  where
    by : (b : Bool) → Contains (filter keeps paths) path → Contains (cond b (p ∷ filter keeps paths) (filter keeps paths)) path
    by true has = contains_later path p (filter keeps paths) has
    by false has = has

-- what is left of the items of two trees covers what differs
pruned_has : (t other : Tree) (items : List Item) → IsFileTree t → IsFileTree other → IsPruned t other items → (q : Path) → get t q ≢ get other q → IsSome (get t q) → Contains (paths_in items) q
pruned_has t other items lawful lawful' pruned q differs there =
    subst (λ (l : List Path). Contains l q) (sym are) (filter_has pruned.keeps (paths_of t) q (listed t lawful q not_root there) (kept (pruned.keeps q) refl))
  where
    not_root : q ≢ []
    not_root root = differs (ap (get t) root ∙ lawful.shape.root ∙ sym lawful'.shape.root ∙ ap (get other) (sym root))

    kept : (b : Bool) → pruned.keeps q ≡ b → pruned.keeps q ≡ true
    kept true is = is
    kept false is = absurd (differs (pruned.alike q is))

    are : paths_in items ≡ filter pruned.keeps (paths_of t)
    are = ap paths_in (pruned.are ∙ sym (kept_items t pruned.keeps)) ∙ paths_of_items t (filter pruned.keeps (paths_of t))

pub pruned_covers : (old new : Tree) (olds news : List Item) → IsFileTree old → IsFileTree new → IsPruned old new olds → IsPruned new old news → Covers old new (paths_in olds) (paths_in news)
pruned_covers old new olds news lawful lawful' went came = record {
  from_old = λ q differs there. pruned_has old new olds lawful lawful' went q differs there;
  from_new = λ q differs there. pruned_has new old news lawful' lawful came q (λ same. differs (sym same)) there;
}

-- ---- what stands after renames

-- one more of a list
pub listed_more : {X : Type 0} (f : X → List Item) (xs : List X) (i : ℕ) (x : X) (start loop new : List Item) → i < length xs → x ≡ get_or xs i x → loop ≡ start ++ flat_map f (take i xs) → new ≡ loop ++ f x
    → new ≡ start ++ flat_map f (take (i + 1) xs)
listed_more {X = X} f xs i x start loop new within at is more =
    let taken : take (i + 1) xs ≡ take i xs ++ x ∷ [] = take_more xs i x within ∙ ap (λ (y : X). take i xs ++ y ∷ []) (sym at) in
    more ∙ ap (λ (l : List Item). l ++ f x) is ∙ flat_map_more f start (take i xs) x ∙ ap (λ (l : List X). start ++ flat_map f l) (sym taken)

here_has : (t : Tree) (path : Path) → IsSome (get t path) → Contains (paths_in (there_at t path)) path
here_has t path there = go (get t path) there
  where
    go : (o : Option Entry) → IsSome o → Contains (paths_in (there_by t path o)) path
    go None some = absurd (true≢false (sym some))
    go (Some entry) some = contains_first path []

there_has : (t : Tree) (olds : List Item) (path : Path) → Contains (paths_in olds) path → IsSome (get t path) → Contains (paths_in (there_in t olds)) path
there_has t [] path (k, below, at) there = absurd (omega arith)
there_has t (x ∷ olds) path (zero, below, at) there =
    let own : Contains (paths_in (there_at t x.path)) path = subst (λ (p : Path). Contains (paths_in (there_at t p)) path) (sym at) (here_has t path there) in
    subst (λ (l : List Path). Contains l path) (sym (map-append (λ (item : Item). item.path) (there_at t x.path) (there_in t olds)))
    (Contains-append_left (paths_in (there_at t x.path)) (paths_in (there_in t olds)) path own)
there_has t (x ∷ olds) path (suc k, below, at) there =
    subst (λ (l : List Path). Contains l path) (sym (map-append (λ (item : Item). item.path) (there_at t x.path) (there_in t olds)))
    (Contains-append_right (paths_in (there_at t x.path)) (paths_in (there_in t olds)) path (there_has t olds path (k, omega arith, at) there))

module _ (t : Tree) (lawful : IsFileTree t) where
  few_names : (p : Path) → IsSome (get t p) → length p ≤ MAX_NAMES
  few_names p there = leb-true (length p) 16 (and_parts (list_all is_name p) (nat_le (length p) 16) (lawful.paths p there)).1

  below_has : (top r : Path) → IsSome (get t (top ++ r)) → Contains (paths_in (subtree_at t top)) (top ++ r)
  below_has top [] there = go (get t top) (subst (λ (p : Path). IsSome (get t p)) (append-nil top) there)
    where
      go : (o : Option Entry) → IsSome o → Contains (paths_in (subtree_by t top o)) (top ++ [])
      go None some = absurd (true≢false (sym some))
      go (Some Entry.Dir) some = subst (Contains (top ∷ paths_in (items_below t MAX_NAMES top))) (sym (append-nil top)) (contains_first top (paths_in (items_below t MAX_NAMES top)))
      go (Some (Entry.File bytes)) some = subst (Contains (top ∷ [])) (sym (append-nil top)) (contains_first top [])
  below_has top (n ∷ rest) there =
      let dir : get t top ≡ Some Entry.Dir = above (get t) lawful.shape top rest n there in
      let all = few_names (top ++ n ∷ rest) there in
      let few : length (n ∷ rest) ≤ MAX_NAMES = omega (arith, all, length-append top (n ∷ rest)) in
      let has : Contains (paths_in (items_below t MAX_NAMES top)) (top ++ n ∷ rest) =
      subst (λ (l : List Path). Contains l (top ++ n ∷ rest)) (sym (paths_below_in t MAX_NAMES top)) (below_listed t lawful MAX_NAMES top n rest few there) in
      subst (λ (o : Option Entry). Contains (paths_in (subtree_by t top o)) (top ++ n ∷ rest)) (sym dir)
      (contains_later (top ++ n ∷ rest) top (paths_in (items_below t MAX_NAMES top)) has)

  subtree_has : (top q : Path) → begins top q ≡ true → IsSome (get t q) → Contains (paths_in (subtree_at t top)) q
  subtree_has top q under there = go (beneath top q) refl
    where
      go : (o : Option Path) → beneath top q ≡ o → Contains (paths_in (subtree_at t top)) q
      go None none = absurd (true≢false (sym under ∙ ap is_some none))
      go (Some r) is =
          let at : q ≡ top ++ r = beneath-Some top q r is in
          subst (Contains (paths_in (subtree_at t top))) (sym at) (below_has top r (subst (λ (p : Path). IsSome (get t p)) at there))

  subtrees_have : (moves : List (Path × Path)) (one : Path × Path) (q : Path) → Contains moves one → begins one.1 q ≡ true → IsSome (get t q) → Contains (paths_in (subtrees_at t moves)) q
  subtrees_have [] one q (k, below, at) under there = absurd (omega arith)
  subtrees_have (x ∷ moves) one q (zero, below, at) under there =
      let own : Contains (paths_in (subtree_at t x.1)) q = subtree_has x.1 q (subst (λ (m : Path × Path). begins m.1 q ≡ true) (sym at) under) there in
      subst (λ (l : List Path). Contains l q) (sym (map-append (λ (item : Item). item.path) (subtree_at t x.1) (subtrees_at t moves)))
      (Contains-append_left (paths_in (subtree_at t x.1)) (paths_in (subtrees_at t moves)) q own)
  subtrees_have (x ∷ moves) one q (suc k, below, at) under there =
      subst (λ (l : List Path). Contains l q) (sym (map-append (λ (item : Item). item.path) (subtree_at t x.1) (subtrees_at t moves)))
      (Contains-append_right (paths_in (subtree_at t x.1)) (paths_in (subtrees_at t moves)) q (subtrees_have moves one q (k, omega arith, at) under there))

  pub still_covers : (moves : List (Path × Path)) (olds : List Item) → StillCovers t moves (paths_in olds) (paths_in (there_in t olds ++ subtrees_at t moves))
  still_covers moves olds = record {
    others = λ path among there. subst (λ (l : List Path). Contains l path) (sym both) (Contains-append_left (paths_in (there_in t olds)) (paths_in (subtrees_at t moves)) path (there_has t olds path among there));
    moved = λ one path among under there. subst (λ (l : List Path). Contains l path) (sym both) (Contains-append_right (paths_in (there_in t olds)) (paths_in (subtrees_at t moves)) path (subtrees_have moves one path among under there));
  }
    where
      both : paths_in (there_in t olds ++ subtrees_at t moves) ≡ paths_in (there_in t olds) ++ paths_in (subtrees_at t moves)
      both = map-append (λ (item : Item). item.path) (there_in t olds) (subtrees_at t moves)

-- ---- what is listed stands there

item_stands : (t : Tree) (path : Path) (o : Option Entry) → get t path ≡ o → All (IsItemOf t) (there_by t path o)
item_stands t path None at = All-nil (IsItemOf t)
item_stands t path (Some entry) at = All-cons (IsItemOf t) (item_at t path) [] (record { there = some-is (get t path) entry at; stat = refl }) (All-nil (IsItemOf t))

items_stand : (t : Tree) (olds : List Item) → All (IsItemOf t) (there_in t olds)
items_stand t [] = All-nil (IsItemOf t)
items_stand t (x ∷ olds) = All-append (IsItemOf t) (there_at t x.path) (there_in t olds) (item_stands t x.path (get t x.path) refl) (items_stand t olds)

subtree_stands : (t : Tree) (path : Path) (o : Option Entry) → get t path ≡ o → All (IsItemOf t) (subtree_by t path o)
subtree_stands t path None at = All-nil (IsItemOf t)
subtree_stands t path (Some Entry.Dir) at = All-cons (IsItemOf t) (item_at t path) (items_below t MAX_NAMES path) (record { there = some-is (get t path) Entry.Dir at; stat = refl }) (items_there t MAX_NAMES path)
subtree_stands t path (Some (Entry.File bytes)) at = item_stands t path (Some (Entry.File bytes)) at

subtrees_stand : (t : Tree) (moves : List (Path × Path)) → All (IsItemOf t) (subtrees_at t moves)
subtrees_stand t [] = All-nil (IsItemOf t)
subtrees_stand t (x ∷ moves) = All-append (IsItemOf t) (subtree_at t x.1) (subtrees_at t moves) (subtree_stands t x.1 (get t x.1) refl) (subtrees_stand t moves)

pub rest_stands : (t : Tree) (olds : List Item) (moves : List (Path × Path)) → All (IsItemOf t) (there_in t olds ++ subtrees_at t moves)
rest_stands t olds moves = All-append (IsItemOf t) (there_in t olds) (subtrees_at t moves) (items_stand t olds) (subtrees_stand t moves)

-- ---- renames that are tried

-- what is so of all of them is so of those that are made
pub all_among : (P : Path × Path → Type 0) (moves made : List (Path × Path)) → ((one : Path × Path) → Contains made one → Contains moves one) → All P moves → All P made
all_among P moves made among all = λ k one within. All-contains P moves (get_or made k one) all (among (get_or made k one) (Contains-get_or made k one within))

pub none_tried : (m n : Machine) → Does m (Call.Begin ∷ []) n → Tries m [] [] n
none_tried m n begun = record { done = begun; among = λ one has. has; tried = λ one has. inl has }

module _ (m n k : Machine) (moves made more : List (Path × Path)) (one : Path × Path) (tries : Tries m moves made n) where
  kept : (x : Path × Path) → Contains made x ⊎ WasRefused (Call.Rename x.0 x.1) → Contains (made ++ one ∷ []) x ⊎ WasRefused (Call.Rename x.0 x.1)
  kept x (inl has) = inl (Contains-append_left made (one ∷ []) x has)
  kept x (inr refused) = inr refused

  made_among : (x : Path × Path) → Contains made x ⊎ (one ≡ x) → Contains (moves ++ one ∷ []) x
  made_among x (inl has) = Contains-append_left moves (one ∷ []) x (tries.among x has)
  made_among x (inr is) = subst (Contains (moves ++ one ∷ [])) is (Contains-push moves one)

  made_tried : (x : Path × Path) → Contains moves x ⊎ (one ≡ x) → Contains (made ++ one ∷ []) x ⊎ WasRefused (Call.Rename x.0 x.1)
  made_tried x (inl has) = kept x (tries.tried x has)
  made_tried x (inr is) = inl (subst (Contains (made ++ one ∷ [])) is (Contains-push made one))

  refused_tried : WasRefused (Call.Rename one.0 one.1) → (x : Path × Path) → Contains moves x ⊎ (one ≡ x) → Contains made x ⊎ WasRefused (Call.Rename x.0 x.1)
  refused_tried refused x (inl has) = tries.tried x has
  refused_tried refused x (inr is) = inr (subst (λ (y : Path × Path). WasRefused (Call.Rename y.0 y.1)) is refused)

  -- one more is tried
  pub one_tried : TriesOne n one made k more → Tries m (moves ++ one ∷ []) more k
  one_tried (inl (are, did)) = subst (λ (l : List (Path × Path)). Tries m (moves ++ one ∷ []) l k) (sym are) (record {
    done = subst (λ (calls : List Call). Does m calls k) (ap (λ (l : List Call). Call.Begin ∷ l) (sym (map-append (λ (x : Path × Path). Call.Rename x.0 x.1) made (one ∷ []))))
        (does_both m n k (Call.Begin ∷ renames made) (Call.Rename one.0 one.1 ∷ []) tries.done did);
    among = λ x has. made_among x (Contains-push_cases made one x has);
    tried = λ x has. made_tried x (Contains-push_cases moves one x has);
  })
  one_tried (inr (are, same, refused)) = subst (λ (l : List (Path × Path)). Tries m (moves ++ one ∷ []) l k) (sym are) (subst (Tries m (moves ++ one ∷ []) made) (sym same) (record {
    done = tries.done;
    among = λ x has. Contains-append_left moves (one ∷ []) x (tries.among x has);
    tried = λ x has. refused_tried refused x (Contains-push_cases moves one x has);
  }))

-- ---- the calls in one group

joined : (made : List (Path × Path)) (changes : List Call) (path : Path) → changes_or (renames made ++ changes) path ≡ renames made ++ after_moves made changes path
joined [] changes path = refl
joined (one ∷ made) changes path = refl

-- where something moved, the changes are what is left
pub after_some : (made : List (Path × Path)) (changes : List Call) (path : Path) → 1 ≤ length made → after_moves made changes path ≡ changes
after_some [] changes path some = absurd (omega arith)
after_some (one ∷ made) changes path some = refl

-- they are those that bring a tree
pub all_calls : (made : List (Path × Path)) (changes : List Call) (path : Path)
    → (Call.Begin ∷ renames made) ++ (after_moves made changes path ++ Call.End ∷ Call.Sync ∷ []) ≡ bringing (renames made ++ changes) path
all_calls made changes path =
    ap (λ (l : List Call). Call.Begin ∷ l)
    (sym (append_assoc (renames made) (after_moves made changes path) (Call.End ∷ Call.Sync ∷ [])) ∙ ap (λ (l : List Call). l ++ Call.End ∷ Call.Sync ∷ []) (sym (joined made changes path)))

-- what is read of the two
module _ {F G : Type 0} {flash : Ghosts F} {another : Ghosts G} where
  pub unread : (m : Machine) (a b : Fs F flash) (d e : Fs G another) (fault : Fault) → MeetsEither d a e b fault → NotCopied m (flash.device a.flash.now) (flash.device b.flash.now) (another.device e.flash.now) (Uncopied.Unread fault)
  unread m a b d e fault (inl met) = inr (another.device d.flash.now, met)
  unread m a b d e fault (inr met) = inl met

module _ (m k : Machine) (made : List (Path × Path)) (is : IsMachine m) (rests : m ≡ mounted m.history) (begun : Does m (Call.Begin ∷ renames made) k) where
  -- what the renames leave of the tree
  pub moved_tree : (new : Tree) → All (λ one. IsMoved (working_tree m) new one.0 one.1) made → working_tree k ≡ moved_by (working_tree m) made
  moved_tree new all =
      let at : Machine = mounted m.history in
      let t : Tree = present_tree at in
      let same : working_tree m ≡ t = ap working_tree rests in
      let d : Does at (Call.Begin ∷ renames made) k = subst (λ (x : Machine). Does x (Call.Begin ∷ renames made) k) rests begun in
      let leads = (moved_brings (working_tree m) new t made all).leads m.history false is.lawful d.accepted.1 in
      ap working_tree (d.leads ∙ leads) ∙ ap (λ (x : Tree). moved_by x made) (sym same)

  -- with the changes that are left they bring the tree
  pub moved_brings_all : (new : Tree) (olds news : List Item) (changes : List Call) → IsFileTree (working_tree m) → IsFileTree new → IsFileTree (working_tree k) → IsPruned (working_tree m) new olds → IsPruned new (working_tree m) news
      → All (λ one. IsMoved (working_tree m) new one.0 one.1) made → changes ≡ edit_paths (working_tree k) new (paths_in (there_in (working_tree k) olds ++ subtrees_at (working_tree k) made)) (paths_in news)
      → Brings (working_tree m) new (renames made ++ changes)
  moved_brings_all new olds news changes lawful lawful' still went came all are =
      let old : Tree = working_tree m in
      let now : Tree = working_tree k in
      let rest : List Path = paths_in (there_in now olds ++ subtrees_at now made) in
      let moved : now ≡ moved_by old made = moved_tree new all in
      let covers : StillCovers (moved_by old made) made (paths_in olds) rest = subst (λ (t : Tree). StillCovers t made (paths_in olds) rest) moved (still_covers now still made olds) in
      let brings = renames_law old new made (paths_in olds) (paths_in news) rest lawful lawful' (pruned_covers old new olds news lawful lawful' went came) all covers in
      subst (λ (calls : List Call). Brings old new (renames made ++ calls)) (sym (are ∙ ap (λ (t : Tree). edit_paths t new rest (paths_in news)) moved)) brings

  -- the version that they make
  pub moved_version : (n : Machine) (new : Tree) (changes : List Call) (path : Path) → Brings (working_tree m) new (renames made ++ changes) → Does k (after_moves made changes path ++ Call.End ∷ Call.Sync ∷ []) n
      → n ≡ mounted (changed m.history new)
  moved_version n new changes path brings ended =
      brought m m n new (renames made ++ changes) path is rests refl brings
      (subst (λ (calls : List Call). Does m calls n) (all_calls made changes path) (does_both m k n (Call.Begin ∷ renames made) (after_moves made changes path ++ Call.End ∷ Call.Sync ∷ []) begun ended))

  -- or where they stop
  pub moved_stops : (changes : List Call) (left : Device) (fault : Fault) → (path : Path) × Stops k (after_moves made changes path ++ Call.End ∷ Call.Sync ∷ []) left fault → (path : Path) × Stops m (bringing (renames made ++ changes) path) left fault
  moved_stops changes left fault (path, stops) =
      let inner : List Call = after_moves made changes path ++ Call.End ∷ Call.Sync ∷ [] in
      let among : Stops m ((Call.Begin ∷ renames made) ++ (inner ++ [])) left fault = stops_among m k (Call.Begin ∷ renames made) inner [] left fault begun stops in
      (path, subst (λ (calls : List Call). Stops m calls left fault) (ap (λ (l : List Call). (Call.Begin ∷ renames made) ++ l) (append-nil inner) ∙ all_calls made changes path) among)

-- ---- what is known of two versions

module _ (before later : Machine) (last view : View) (old : Tree) (same : later ≡ before) where
  -- what differs stands there still
  pub differing_there : (other : Tree) (found items : List Item) → items ≡ found → IsPruned (view_tree before view) other found → All (IsItemOf (view_tree later view)) items
  differing_there other found items are pruned =
      subst (λ (m : Machine). All (IsItemOf (view_tree m view)) items) (sym same) (subst (All (IsItemOf (view_tree before view))) (sym are) (pruned_there (view_tree before view) other found pruned))

  -- where the one of the two has the tree of the other machine
  module _ (there : view_tree before last ≡ old) where
    pub went_still : (found items : List Item) → items ≡ found → IsPruned (view_tree before last) (view_tree before view) found → IsPruned old (view_tree later view) items
    went_still found items are pruned =
        subst (λ (m : Machine). IsPruned old (view_tree m view) items) (sym same) (subst (λ (t : Tree). IsPruned t (view_tree before view) items) there (subst (IsPruned (view_tree before last) (view_tree before view)) (sym are) pruned))

    pub came_still : (found items : List Item) → items ≡ found → IsPruned (view_tree before view) (view_tree before last) found → IsPruned (view_tree later view) old items
    came_still found items are pruned =
        subst (λ (m : Machine). IsPruned (view_tree m view) old items) (sym same) (subst (λ (t : Tree). IsPruned (view_tree before view) t items) there (subst (IsPruned (view_tree before view) (view_tree before last)) (sym are) pruned))

    pub moved_still : (found moves : List (Path × Path)) → moves ≡ found → All (λ one. IsMoved (view_tree before last) (view_tree before view) one.0 one.1) found → All (λ one. IsMoved old (view_tree later view) one.0 one.1) moves
    moved_still found moves are all =
        subst (λ (m : Machine). All (λ (one : Path × Path). IsMoved old (view_tree m view) one.0 one.1) moves) (sym same)
        (subst (λ (t : Tree). All (λ (one : Path × Path). IsMoved t (view_tree before view) one.0 one.1) moves) there
        (subst (All (λ (one : Path × Path). IsMoved (view_tree before last) (view_tree before view) one.0 one.1)) (sym are) all))

-- ---- what stands at one path

pub nothing_there : (t : Tree) (path : Path) → None ≡ stat_there t path → there_at t path ≡ []
nothing_there t path none = go (get t path) none
  where
    go : (o : Option Entry) → None ≡ option_map (λ (entry : Entry). stat_of t path (Some entry)) o → there_by t path o ≡ []
    go None is = refl
    go (Some entry) is = absurd cc

pub one_there : (t : Tree) (path : Path) (stat : Stat) → Some stat ≡ stat_there t path → there_at t path ≡ record { path = path; stat = stat } ∷ []
one_there t path stat some = go (get t path) refl some
  where
    go : (o : Option Entry) → get t path ≡ o → Some stat ≡ option_map (λ (entry : Entry). stat_of t path (Some entry)) o → there_by t path o ≡ record { path = path; stat = stat } ∷ []
    go None at is = absurd cc
    go (Some entry) at is =
        let same : stat_of t path (get t path) ≡ stat = ap (stat_of t path) at ∙ sym (same_Some stat (stat_of t path (Some entry)) is) in
        ap (λ (s : Stat). record { path = path; stat = s } ∷ []) same

-- and below it, where that is a directory
pub directory_there : (t : Tree) (path : Path) (count : ℕ) → Some (Stat.Dir count) ≡ stat_there t path → get t path ≡ Some Entry.Dir
directory_there t path count some = go (get t path) some
  where
    go : (o : Option Entry) → Some (Stat.Dir count) ≡ option_map (λ (entry : Entry). stat_of t path (Some entry)) o → o ≡ Some Entry.Dir
    go None is = absurd cc
    go (Some Entry.Dir) is = refl
    go (Some (Entry.File bytes)) is = absurd cc

pub directory_subtree : (t : Tree) (path : Path) (count : ℕ) → Some (Stat.Dir count) ≡ stat_there t path → there_at t path ++ items_below t MAX_NAMES path ≡ subtree_at t path
directory_subtree t path count some =
    let dir : get t path ≡ Some Entry.Dir = directory_there t path count some in
    ap (λ (o : Option Entry). there_by t path o ++ items_below t MAX_NAMES path) dir ∙ ap (subtree_by t path) (sym dir)

pub other_subtree : (t : Tree) (path : Path) (o : Option Stat) → o ≡ stat_there t path → ((count : ℕ) → (o ≡ Some (Stat.Dir count)) → ⊥) → there_at t path ≡ subtree_at t path
other_subtree t path o is other = go (get t path) is
  where
    go : (e : Option Entry) → o ≡ option_map (λ (entry : Entry). stat_of t path (Some entry)) e → there_by t path e ≡ subtree_by t path e
    go None same = refl
    go (Some Entry.Dir) same = absurd (other _ same)
    go (Some (Entry.File bytes)) same = refl

-- ---- what the calls that are left did, of lists that are the same

module _ (k later : Machine) (made listed : List (Path × Path)) (changes told : List Call) (same : later ≡ k) (are : listed ≡ made) (are' : told ≡ changes) where
  pub ended_so : (n : Machine) (path : Path) → Does later (after_moves listed told path ++ Call.End ∷ Call.Sync ∷ []) n → Does k (after_moves made changes path ++ Call.End ∷ Call.Sync ∷ []) n
  ended_so n path done =
      subst (λ (m : Machine). Does m (after_moves made changes path ++ Call.End ∷ Call.Sync ∷ []) n) same
      (subst (λ (l : List (Path × Path)). Does later (after_moves l changes path ++ Call.End ∷ Call.Sync ∷ []) n) are
      (subst (λ (l : List Call). Does later (after_moves listed l path ++ Call.End ∷ Call.Sync ∷ []) n) are' done))

  pub stopped_so : (left : Device) (fault : Fault) → (path : Path) × Stops later (after_moves listed told path ++ Call.End ∷ Call.Sync ∷ []) left fault
      → (path : Path) × Stops k (after_moves made changes path ++ Call.End ∷ Call.Sync ∷ []) left fault
  stopped_so left fault (path, stops) = (
    path,
    subst (λ (m : Machine). Stops m (after_moves made changes path ++ Call.End ∷ Call.Sync ∷ []) left fault) same
        (subst (λ (l : List (Path × Path)). Stops later (after_moves l changes path ++ Call.End ∷ Call.Sync ∷ []) left fault) are
        (subst (λ (l : List Call). Stops later (after_moves listed l path ++ Call.End ∷ Call.Sync ∷ []) left fault) are' stops)),
  )

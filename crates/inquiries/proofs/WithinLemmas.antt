-- What differs below a directory, by what another tree may have otherwise anywhere.
use Rattle.std.proofs.Common.{◌≡◌, ◌∙◌, ◌+◌, ◌<◌, ◌≤◌, ◌||◌, ℕ, zero, suc, Bool, true, false, cond, Result, Ok, Err, List, [], ◌∷◌, ◌++◌, length, drop, map, append_assoc, IsSome, refl, sym, ap, subst, arith}
use Rattle.std.proofs.lemmas.Bool.{true≢false, and_from, and_parts, leb-true, lt-ltb, ltb-true, ne_eqb}
use Rattle.std.proofs.lemmas.List.{length-append}
use Rattle.std.proofs.lemmas.List.Concat.{flat_map-cons}
use Rattle.std.proofs.lemmas.List.Elements.{All-nil, All-cons, All-append, All-weaker}
use Rattle.std.proofs.lemmas.List.Folds.{Any-from_list_any, list_any_at}
use Rattle.std.proofs.lemmas.Slice.Eq.{starts_is}
use Rattle.std.specs.Bool.{Decides}
use Rattle.std.specs.Prelude.{All, Contains, IfOk, not, ◌==◌, filter, nat_le, nat_lt, if◌then◌else◌}
use Rattle.std.specs.FinMap.{get}
use Rattle.std.specs.List.{flat_map, list_all, list_any}
use Rattle.fs_types.specs.Names.{Name, Path, is_name, same_name}
use Rattle.fs_types.specs.declared.call.View.{View}
use Rattle.fs_types.specs.declared.fault.Fault.{Fault}
use Rattle.fs_types.specs.declared.limits.TheConstants.{MAX_NAMES}
use Rattle.fs_types.proofs.Orders.{same_name-is, same_name-own}
use Rattle.plain_trees.specs.Trees.{Tree, children, IsFileTree}
use Rattle.history_machine.specs.Machine.{Machine, view_tree}
use Rattle.tree_differences.specs.Updates.{paths_below}
use Rattle.tree_differences.proofs.Listed.{below_listed}
use Rattle.inquiries.specs.Differences.{difference_below, item_beside, line_beside, lines_below}
use Rattle.inquiries.specs.Items.{item_at, items_below, items_of, IsItemOf}
use Rattle.inquiries.specs.PathHistories.{is_filled}
use Rattle.inquiries.specs.Pruned.{IsPruned}
use Rattle.inquiries.specs.Within.{is_below, tells_below}
use Rattle.inquiries.specs.declared.items.Item.{Item}
use Rattle.inquiries.specs.declared.printing.Side.{Side}
use Rattle.inquiries.proofs.DifferenceLemmas.{items_there}
use Rattle.inquiries.proofs.Entries.{row}
use Rattle.inquiries.proofs.PrunedLemmas.{items_listed}
use Rattle.inquiries.proofs.Shared.{line_itself}

-- ---- texts

filled_more : (n : ℕ) → not (suc n == 0) ≡ true
filled_more n = ap not (ne_eqb (suc n) 0 (λ wrong. omega (arith, wrong)))

pub filled_append : (a b : List ℕ) → is_filled (a ++ b) ≡ (is_filled a || is_filled b)
filled_append [] b = refl
filled_append (x ∷ a) b = filled_more (length (a ++ b)) ∙ ap (λ (c : Bool). c || is_filled b) (sym (filled_more (length a)))

-- two texts have bytes where the second has, as the first has none
filled_second : (a b : List ℕ) (first second : Bool) → first ≡ is_filled a → first ≡ false → second ≡ is_filled b → second ≡ is_filled (a ++ b)
filled_second a b first second is none other = other ∙ sym (filled_append a b ∙ ap (λ (c : Bool). c || is_filled b) (sym is ∙ none))

-- texts have bytes where one of them has
filled_any : (f : Item → List ℕ) (items : List Item) → is_filled (flat_map f items) ≡ list_any (λ item. is_filled (f item)) items
filled_any f [] = refl
filled_any f (item ∷ items) = ap is_filled (flat_map-cons f item items) ∙ filled_append (f item) (flat_map f items) ∙ ap (λ (b : Bool). is_filled (f item) || b) (filled_any f items)

-- two tests that imply each other are the same
same_tests : (a b : Bool) → (a ≡ true → b ≡ true) → (b ≡ true → a ≡ true) → a ≡ b
same_tests true b to from = sym (to refl)
same_tests false true to from = from refl
same_tests false false to from = refl

contains_map : {X Y : Type 0} (f : X → Y) (xs : List X) (x : X) → Contains xs x → Contains (map f xs) (f x)
contains_map f [] x has = absurd (omega (arith, has.1))
contains_map f (y ∷ xs) x (zero, within, at) = (zero, omega arith, ap f at)
contains_map f (y ∷ xs) x (suc k, within, at) = let rest = contains_map f xs x (k, omega (arith, within), at) in (suc rest.0, omega (arith, rest.1), rest.2)

-- what a test keeps of a list
later : (x : Item) (items : List Item) (item : Item) → Contains items item → Contains (x ∷ items) item
later x items item (k, within, at) = (suc k, omega (arith, within), at)

kept_has : (keeps : Item → Bool) (items : List Item) (item : Item) → Contains (filter keeps items) item → Contains items item
kept_has keeps [] item has = has
kept_has keeps (x ∷ items) item has = by (keeps x) has (kept_has keeps items item)
  where
    by : (b : Bool) → Contains (cond b (x ∷ filter keeps items) (filter keeps items)) item → (Contains (filter keeps items) item → Contains items item) → Contains (x ∷ items) item
    by true (zero, within, at) rest = (zero, omega arith, at)
    by true (suc k, within, at) rest = later x items item (rest (k, omega (arith, within), at))
    by false there rest = later x items item (rest there)

has_kept : (keeps : Item → Bool) (items : List Item) (item : Item) → keeps item ≡ true → Contains items item → Contains (filter keeps items) item
has_kept keeps [] item kept has = has
has_kept keeps (x ∷ items) item kept (zero, within, at) = subst (λ (b : Bool). Contains (cond b (x ∷ filter keeps items) (filter keeps items)) item) (sym (ap keeps at ∙ kept)) (zero, omega arith, at)
has_kept keeps (x ∷ items) item kept (suc k, within, at) = by (keeps x) (has_kept keeps items item kept (k, omega (arith, within), at))
  where
    by : (b : Bool) → Contains (filter keeps items) item → Contains (cond b (x ∷ filter keeps items) (filter keeps items)) item
    by true rest = later x (filter keeps items) item rest
    by false rest = rest

-- ---- paths below a directory

names_decide : (n m : Name) → Decides (same_name n m) (n ≡ m)
names_decide n m = (same_name-is n m, λ same. subst (λ (x : Name). same_name n x ≡ true) same (same_name-own n))

-- a path goes on from a directory's
abbrev GoesOn : Path → Path → Type 0
GoesOn directory path = (n : Name) × (rest : Path) × (path ≡ directory ++ n ∷ rest)

on_below : (directory path : Path) → GoesOn directory path → is_below directory path ≡ true
on_below directory path (n, rest, is) =
    let long : length path ≡ length directory + length (n ∷ rest) = ap length is ∙ length-append directory (n ∷ rest) in
    and_from (nat_lt (length directory) (length path)) _ (lt-ltb (length directory) (length path) (omega (arith, long)))
    ((starts_is names_decide path directory _ refl).1 (n ∷ rest) is)

below_on : (directory path : Path) → is_below directory path ≡ true → GoesOn directory path
below_on directory path is =
    let parts = and_parts (nat_lt (length directory) (length path)) _ is in
    let longer : length directory < length path = ltb-true (length directory) (length path) parts.0 in
    let whole : path ≡ directory ++ drop (length directory) path = (starts_is names_decide path directory _ refl).0 parts.1 in
    by (drop (length directory) path) whole longer
  where
    by : (rest : Path) → path ≡ directory ++ rest → length directory < length path → GoesOn directory path
    by [] whole longer = absurd (let long = ap length whole ∙ length-append directory [] in omega (arith, long, longer))
    by (n ∷ rest) whole longer = (n, rest, whole)

further : (directory path : Path) (n : Name) → GoesOn (directory ++ n ∷ []) path → GoesOn directory path
further directory path n (m, rest, is) = (n, m ∷ rest, is ∙ append_assoc directory (n ∷ []) (m ∷ rest))

abbrev GoOn : Path → Item → Type 0
GoOn directory item = GoesOn directory item.path

module _ (t : Tree) where
  All-flat : {X : Type 0} (P : Item → Type 0) (f : X → List Item) (xs : List X) → ((x : X) → All P (f x)) → All P (flat_map f xs)
  All-flat P f [] all = All-nil P
  All-flat P f (x ∷ xs) all = All-append P (f x) (flat_map f xs) (all x) (All-flat P f xs all)

  -- an entry and what stands below it goes on from the directory
  row_on : (levels : ℕ) (directory : Path) (entry : Name × Bool) → ((d : Path) → All (GoOn d) (items_below t levels d)) → All (GoOn directory) (row t levels directory entry)
  row_on levels directory (n, b) all = All-cons (GoOn directory) (item_at t (directory ++ n ∷ [])) (if b then items_below t levels (directory ++ n ∷ []) else []) (n, [], refl) (deeper b)
    where
      deeper : (b : Bool) → All (GoOn directory) (if b then items_below t levels (directory ++ n ∷ []) else [])
      deeper true = All-weaker (GoOn (directory ++ n ∷ [])) (GoOn directory) (λ item on. further directory item.path n on) (items_below t levels (directory ++ n ∷ [])) (all (directory ++ n ∷ []))
      deeper false = All-nil (GoOn directory)

  -- what is listed below a directory goes on from it
  all_on : (levels : ℕ) (directory : Path) → All (GoOn directory) (items_below t levels directory)
  unfolding items_below
  all_on zero directory = All-nil (GoOn directory)
  all_on (suc levels) directory = All-flat (GoOn directory) (row t levels directory) (children t directory) (λ (entry : Name × Bool). row_on levels directory entry (λ d. all_on levels d))

  -- an item is what stands at its path
  itself : (item : Item) → IsItemOf t item → item ≡ item_at t item.path
  itself item is = ap (λ s. record { path = item.path; stat = s }) is.stat

  module _ (lawful : IsFileTree t) where
    short : (p : Path) → IsSome (get t p) → length p ≤ 16
    short p there = leb-true (length p) 16 (and_parts (list_all is_name p) (nat_le (length p) 16) (lawful.paths p there)).1

    below_has : (directory : Path) (item : Item) → IsItemOf t item → GoesOn directory item.path → Contains (items_below t MAX_NAMES directory) item
    below_has directory item is (n, rest, at) =
        let there : IsSome (get t (directory ++ n ∷ rest)) = subst (λ (p : Path). IsSome (get t p)) at is.there in
        let few = short (directory ++ n ∷ rest) there in
        let long = length-append directory (n ∷ rest) in
        let path = below_listed t lawful MAX_NAMES directory n rest (omega (arith, few, long)) there in
        subst (Contains (items_below t MAX_NAMES directory)) (ap (item_at t) (sym at) ∙ sym (itself item is))
        (subst (λ (l : List Item). Contains l (item_at t (directory ++ n ∷ rest))) (sym (items_listed t MAX_NAMES directory)) (contains_map (item_at t) (paths_below t MAX_NAMES directory) (directory ++ n ∷ rest) path))

-- ---- what differs below it

module _ (side : Side) (t other : Tree) (lawful : IsFileTree t) (directory : Path) (items : List Item) (is : IsPruned t other items) where
  abbrev told : Item → Bool
  told item = is_filled (item_beside side t other item)

  to_below : list_any (tells_below side t other directory) items ≡ true → list_any told (items_below t MAX_NAMES directory) ≡ true
  to_below any =
      let found = Any-from_list_any (tells_below side t other directory) items any in
      let item : Item = found.1 in
      let parts = and_parts (is_below directory item.path) (told item) found.4 in
      let listed_item : Contains (items_of t) item = kept_has (λ (x : Item). is.keeps x.path) (items_of t) item (subst (λ (l : List Item). Contains l item) is.are (found.0, found.2, found.3)) in
      let there : IsItemOf t item = subst (IsItemOf t) listed_item.2 (items_there t MAX_NAMES [] listed_item.0 item listed_item.1) in
      let has = below_has t lawful directory item there (below_on directory item.path parts.0) in
      list_any_at told (items_below t MAX_NAMES directory) has.0 item has.1 (ap told has.2 ∙ parts.1)

  from_below : list_any told (items_below t MAX_NAMES directory) ≡ true → list_any (tells_below side t other directory) items ≡ true
  from_below any =
      let found = Any-from_list_any told (items_below t MAX_NAMES directory) any in
      let item : Item = found.1 in
      let there : IsItemOf t item = subst (IsItemOf t) found.3 (items_there t MAX_NAMES directory found.0 item found.2) in
      let on : GoesOn directory item.path = subst (GoOn directory) found.3 (all_on t MAX_NAMES directory found.0 item found.2) in
      let kept : is.keeps item.path ≡ true = keeps_told item there (is.keeps item.path) refl found.4 in
      let has : Contains items item = subst (λ (l : List Item). Contains l item) (sym is.are) (has_kept (λ (x : Item). is.keeps x.path) (items_of t) item kept (below_has t lawful [] item there (from_root item.path on))) in
      list_any_at (tells_below side t other directory) items has.0 item has.1
      (ap (tells_below side t other directory) has.2 ∙ and_from (is_below directory item.path) (told item) (on_below directory item.path on) found.4)
    where
      -- what has a line is kept: else both have the same there
      keeps_told : (item : Item) → IsItemOf t item → (b : Bool) → is.keeps item.path ≡ b → told item ≡ true → b ≡ true
      keeps_told item there true left tells = refl
      keeps_told item there false left tells =
          let none : item_beside side t other item ≡ [] = ap (line_beside side item (get t item.path)) (sym (is.alike item.path left)) ∙ line_itself side item (get t item.path) there.there in
          absurd (true≢false (sym tells ∙ ap is_filled none))

      from_root : (path : Path) → GoesOn directory path → GoesOn [] path
      from_root path (n, rest, at) = by directory at
        where
          by : (d : Path) → path ≡ d ++ n ∷ rest → GoesOn [] path
          by [] at' = (n, rest, at')
          by (m ∷ d) at' = (m, d ++ n ∷ rest, at')

  -- what may differ anywhere tells whether something differs below
  pub pruned_below : list_any (tells_below side t other directory) items ≡ is_filled (lines_below side t other directory)
  pruned_below = same_tests _ _ to_below from_below ∙ sym (filled_any (item_beside side t other) (items_below t MAX_NAMES directory))

-- what came differs, where nothing went
pub differs_by_second : (m n : Machine) (old new : View) (directory : Path) (went : Bool) (r : Result Bool Fault) → n ≡ m → went ≡ is_filled (lines_below Side.Old (view_tree m old) (view_tree m new) directory) → went ≡ false
    → IfOk r (λ tells. tells ≡ is_filled (lines_below Side.New (view_tree n new) (view_tree n old) directory)) → IfOk r (λ differ. differ ≡ is_filled (difference_below (view_tree m old) (view_tree m new) directory))
differs_by_second m n old new directory went (Ok tells) same first none is =
    filled_second (lines_below Side.Old (view_tree m old) (view_tree m new) directory) (lines_below Side.New (view_tree m new) (view_tree m old) directory) went tells first none
    (subst (λ (x : Machine). tells ≡ is_filled (lines_below Side.New (view_tree x new) (view_tree x old) directory)) same is)
differs_by_second m n old new directory went (Err fault) same first none is = tt

-- What moved between two trees, as it is found.
use Rattle.std.proofs.Common.{◌≡◌, ◌≢◌, ◌∙◌, ◌+◌, ◌<◌, ℕ, zero, suc, Bool, true, false, None, List, [], ◌∷◌, ◌++◌, length, map, take, get_or, refl, sym, ap, subst, arith}
use Rattle.std.proofs.lemmas.Bool.{true≢false}
use Rattle.std.proofs.lemmas.List.{take_more, map-append}
use Rattle.std.proofs.lemmas.List.Elements.{All-cons, All-contains, All-map, All-nil, All-push, All-weaker, Contains-append_left, Contains-append_right, Contains-push}
use Rattle.std.specs.Prelude.{All, Contains, is_some, if◌then◌else◌}
use Rattle.std.specs.FinMap.{get}
use Rattle.fs_types.specs.Names.{Path}
use Rattle.fs_types.specs.declared.call.View.{View}
use Rattle.history_machine.specs.Machine.{Machine, view_tree}
use Rattle.plain_trees.specs.Contents.{begins}
use Rattle.plain_trees.specs.Trees.{Tree}
use Rattle.plain_trees.proofs.Beneath.{beneath-own}
use Rattle.inquiries.specs.Items.{IsItemOf}
use Rattle.inquiries.specs.declared.items.Item.{Item}
use Rattle.tree_differences.specs.UpdateLaws.{IsMoved}
use Rattle.updates.specs.Changes.{paths_in}
use Rattle.copies.specs.Found.{AreTops, FindsMoves, GoesAlone, IsCovered, NoneBelow, goes_at, is_below_last, look_at, looks_of, with_top}
use Rattle.copies.specs.Pairs.{IsPair, Pairs}
use Rattle.copies.specs.Shapes.{shape_at}
use Rattle.copies.specs.declared.pairs.Look.{Look}

-- ---- those that go

begins-own : (p : Path) → begins p p ≡ true
begins-own p = ap is_some (beneath-own p)

-- the last item
pub last_below : (items : List Item) (k : ℕ) (item : Item) (path : Path) → suc k ≡ length items → item ≡ get_or items k item → is_below_last items path ≡ begins item.path path
last_below [] k item path last at = absurd (omega (arith, last))
last_below (x ∷ []) zero item path last at = ap (λ (y : Item). begins y.path path) (sym at)
last_below (x ∷ []) (suc k) item path last at = absurd (omega (arith, last))
last_below (x ∷ y ∷ items) zero item path last at = absurd (omega (arith, last))
last_below (x ∷ y ∷ items) (suc k) item path last at = last_below (y ∷ items) k item path (omega (arith, last)) at

covered_more : (items more : List Item) (path : Path) → IsCovered items path → IsCovered (items ++ more) path
covered_more items more path is = record { item = is.item; among = Contains-append_left items more is.item is.among; below = is.below }

below_covered : (items : List Item) (path : Path) → is_below_last items path ≡ true → IsCovered items path
below_covered [] path is = absurd (true≢false (sym is))
below_covered (x ∷ []) path is = record { item = x; among = Contains-push [] x; below = is }
below_covered (x ∷ y ∷ items) path is =
    let rest : IsCovered (y ∷ items) path = below_covered (y ∷ items) path is in
    record { item = rest.item; among = Contains-append_right (x ∷ []) (y ∷ items) rest.item rest.among; below = rest.below }

none_below : (items : List Item) (item : Item) → NoneBelow items → is_below_last items item.path ≡ false → NoneBelow (items ++ item ∷ [])
none_below [] item none above = tt
none_below (x ∷ []) item none above = (above, tt)
none_below (x ∷ y ∷ items) item none above = (none.0, none_below (y ∷ items) item none.1 above)

pub no_tops : (t other : Tree) → AreTops t other [] []
no_tops t other = record { among = All-nil (Contains []); gone = All-nil (λ top. goes_at t other top.path ≡ true); alone = tt; covers = All-nil (λ item. goes_at t other item.path ≡ true → IsCovered [] item.path) }

module _ (t other : Tree) (items tops : List Item) (item : Item) (are : AreTops t other items tops) where
  still_among : All (Contains (items ++ item ∷ [])) tops
  still_among = All-weaker (Contains items) (Contains (items ++ item ∷ [])) (λ x has. Contains-append_left items (item ∷ []) x has) tops are.among

  -- where the item is covered, if it goes
  same_tops : (goes_at t other item.path ≡ true → IsCovered tops item.path) → AreTops t other (items ++ item ∷ []) tops
  same_tops covered = record {
    among = still_among;
    gone = are.gone;
    alone = are.alone;
    covers = All-push (λ x. goes_at t other x.path ≡ true → IsCovered tops x.path) items item are.covers covered;
  }

  -- where it is one more
  more_tops : is_below_last tops item.path ≡ false → goes_at t other item.path ≡ true → AreTops t other (items ++ item ∷ []) (tops ++ item ∷ [])
  more_tops above goes = record {
    among = All-push (Contains (items ++ item ∷ [])) tops item still_among (Contains-push items item);
    gone = All-push (λ top. goes_at t other top.path ≡ true) tops item are.gone goes;
    alone = none_below tops item are.alone above;
    covers = All-push (λ x. goes_at t other x.path ≡ true → IsCovered (tops ++ item ∷ []) x.path) items item
        (All-weaker (λ x. goes_at t other x.path ≡ true → IsCovered tops x.path) (λ x. goes_at t other x.path ≡ true → IsCovered (tops ++ item ∷ []) x.path) (λ x covers is. covered_more tops (item ∷ []) x.path (covers is)) items are.covers)
        (λ is. record { item = item; among = Contains-push tops item; below = begins-own item.path });
  }

  pushed_tops : AreTops t other (items ++ item ∷ []) (with_top t other tops item)
  pushed_tops = by (is_below_last tops item.path) refl (goes_at t other item.path) refl
    where
      by : (b : Bool) → is_below_last tops item.path ≡ b → (c : Bool) → goes_at t other item.path ≡ c → AreTops t other (items ++ item ∷ []) (if b then tops else (if c then tops ++ item ∷ [] else tops))
      by true below c goes = same_tops (λ is. below_covered tops item.path below)
      by false above true goes = more_tops above goes
      by false above false stays = same_tops (λ is. absurd (true≢false (sym is ∙ stays)))

pub tops_more : (t other : Tree) (items : List Item) (i : ℕ) (item : Item) (tops more : List Item) → i < length items → item ≡ get_or items i item → AreTops t other (take i items) tops → more ≡ with_top t other tops item
    → AreTops t other (take (i + 1) items) more
tops_more t other items i item tops more within at are is =
    let taken : take (i + 1) items ≡ take i items ++ item ∷ [] = take_more items i item within ∙ ap (λ (x : Item). take i items ++ x ∷ []) (sym at) in
    subst (λ (xs : List Item). AreTops t other xs more) (sym taken) (subst (AreTops t other (take i items ++ item ∷ [])) (sym is) (pushed_tops t other (take i items) tops item are))

-- they stand there
pub tops_there : (t other : Tree) (items tops : List Item) → All (IsItemOf t) items → AreTops t other items tops → All (IsItemOf t) tops
tops_there t other items tops all are = All-weaker (Contains items) (IsItemOf t) (λ x has. All-contains (IsItemOf t) items x all has) tops are.among

-- ---- how they look

pub looks_more : (t : Tree) (items : List Item) (i : ℕ) (item : Item) (looks more : List Look) → i < length items → item ≡ get_or items i item → looks ≡ looks_of t (take i items) → more ≡ looks ++ look_at t item ∷ []
    → more ≡ looks_of t (take (i + 1) items)
looks_more t items i item looks more within at are is =
    let taken : take (i + 1) items ≡ take i items ++ item ∷ [] = take_more items i item within ∙ ap (λ (x : Item). take i items ++ x ∷ []) (sym at) in
    is ∙ ap (λ (l : List Look). l ++ look_at t item ∷ []) are ∙ sym (map-append (look_at t) (take i items) (item ∷ [])) ∙ ap (looks_of t) (sym taken)

-- where there is nothing on one side there is no pair
pub none_gone : (come : List Look) → Pairs [] come []
none_gone come = record { alike = All-nil (IsPair [] come); found = λ from to has has' same free. absurd (let within = has.1 in omega (arith, within)) }

pub none_come : (gone : List Look) → Pairs gone [] []
none_come gone = record { alike = All-nil (IsPair gone []); found = λ from to has has' same free. absurd (let within = has'.1 in omega (arith, within)) }

-- ---- what moved

-- what is told of a list by how its items look
look_from : (t : Tree) (items : List Item) (look : Look) → Contains (looks_of t items) look → (item : Item) × Contains items item × (look_at t item ≡ look)
look_from t [] look (k, within, at) = absurd (omega (arith, within))
look_from t (x ∷ items) look (zero, within, at) = (x, Contains-append_left (x ∷ []) items x (Contains-push [] x), at)
look_from t (x ∷ items) look (suc k, within, at) =
    let rest = look_from t items look (k, omega (arith, within), at) in
    (rest.0, Contains-append_right (x ∷ []) items rest.0 rest.1, rest.2)

look_in : (t : Tree) (items : List Item) (item : Item) → Contains items item → Contains (looks_of t items) (look_at t item)
look_in t items item has = All-contains (λ x. Contains (looks_of t items) (look_at t x)) items item (each items) has
  where
    each : (xs : List Item) → All (λ x. Contains (looks_of t xs) (look_at t x)) xs
    each [] = All-nil (λ x. Contains (looks_of t []) (look_at t x))
    each (x ∷ xs) = All-cons (λ y. Contains (looks_of t (x ∷ xs)) (look_at t y)) x xs (Contains-append_left (look_at t x ∷ []) (looks_of t xs) (look_at t x) (Contains-push [] (look_at t x)))
        (All-weaker (λ y. Contains (looks_of t xs) (look_at t y)) (λ y. Contains (looks_of t (x ∷ xs)) (look_at t y)) (λ y has. Contains-append_right (look_at t x ∷ []) (looks_of t xs) (look_at t y) has) xs (each xs))

path_from : (items : List Item) (path : Path) → Contains (paths_in items) path → (item : Item) × Contains items item × (item.path ≡ path)
path_from [] path (k, within, at) = absurd (omega (arith, within))
path_from (x ∷ items) path (zero, within, at) = (x, Contains-append_left (x ∷ []) items x (Contains-push [] x), at)
path_from (x ∷ items) path (suc k, within, at) =
    let rest = path_from items path (k, omega (arith, within), at) in
    (rest.0, Contains-append_right (x ∷ []) items rest.0 rest.1, rest.2)

-- what goes alone is among those that go
goes_top : (t other : Tree) (items tops : List Item) (path : Path) → AreTops t other items tops → Contains (paths_in items) path → GoesAlone t other path → (top : Item) × Contains tops top × (top.path ≡ path)
goes_top t other items tops path are has goes =
    let item = path_from items path has in
    let gone : goes_at t other item.0.path ≡ true = ap (goes_at t other) item.2 ∙ goes.gone in
    let cover : IsCovered tops item.0.path = All-contains (λ x. goes_at t other x.path ≡ true → IsCovered tops x.path) items item.0 are.covers item.1 gone in
    let top_goes : goes_at t other cover.item.path ≡ true = All-contains (λ top. goes_at t other top.path ≡ true) tops cover.item are.gone cover.among in
    (cover.item, cover.among, goes.alone cover.item.path (ap (begins cover.item.path) (sym item.2) ∙ cover.below) top_goes)

module _ (old new : Tree) (olds news gone come : List Item) (moves : List (Path × Path)) (all : All (IsItemOf old) olds) (are : AreTops old new olds gone) (are' : AreTops new old news come)
    (pairs : Pairs (looks_of old gone) (looks_of new come) moves) where
  one_moved : (one : Path × Path) → IsPair (looks_of old gone) (looks_of new come) one → IsMoved old new one.0 one.1 × (shape_at old one.0 ≡ shape_at new one.1)
  one_moved one pair =
      let from = look_from old gone (record { path = one.0; shape = pair.shape }) pair.from in
      let to = look_from new come (record { path = one.1; shape = pair.shape }) pair.to in
      let left : from.0.path ≡ one.0 = ap (λ (l : Look). l.path) from.2 in
      let right : to.0.path ≡ one.1 = ap (λ (l : Look). l.path) to.2 in
      let goes : goes_at old new from.0.path ≡ true = All-contains (λ top. goes_at old new top.path ≡ true) gone from.0 are.gone from.1 in
      let comes : goes_at new old to.0.path ≡ true = All-contains (λ top. goes_at new old top.path ≡ true) come to.0 are'.gone to.1 in (
        record { apart = pair.apart; gone = ap (goes_at old new) (sym left) ∙ goes; come = ap (goes_at new old) (sym right) ∙ comes },
        ap (shape_at old) (sym left) ∙ ap (λ (l : Look). l.shape) from.2 ∙ sym (ap (λ (l : Look). l.shape) to.2) ∙ ap (shape_at new) right,
      )

  free_from : (to : Path) → get old to ≡ None → All (λ (look : Look). look.path ≢ to) (looks_of old gone)
  free_from to none = All-map (λ (look : Look). look.path ≢ to) (look_at old) gone (All-weaker (IsItemOf old) (λ item. item.path ≢ to) (λ item is at. true≢false (sym is.there ∙ ap is_some (ap (get old) at ∙ none))) gone (tops_there old new olds gone all are))

  all_found : (from to : Path) → Contains (paths_in olds) from → Contains (paths_in news) to → GoesAlone old new from → GoesAlone new old to → shape_at old from ≡ shape_at new to → get old to ≡ None
      → Contains (map (λ (one : Path × Path). one.1) moves) to
  all_found from to has has' goes comes same none =
      let top = goes_top old new olds gone from are has goes in
      let top' = goes_top new old news come to are' has' comes in
      let alike : shape_at old top.0.path ≡ shape_at new top'.0.path = ap (shape_at old) top.2 ∙ same ∙ ap (shape_at new) (sym top'.2) in
      subst (Contains (map (λ (one : Path × Path). one.1) moves)) top'.2
      (pairs.found (look_at old top.0) (look_at new top'.0) (look_in old gone top.0 top.1) (look_in new come top'.0 top'.1) alike (free_from top'.0.path (ap (get old) top'.2 ∙ none)))

  pub finds_moves : FindsMoves old new olds news moves
  finds_moves = record {
    moved = All-weaker (IsPair (looks_of old gone) (looks_of new come)) (λ one. IsMoved old new one.0 one.1) (λ one pair. (one_moved one pair).0) moves pairs.alike;
    alike = All-weaker (IsPair (looks_of old gone) (looks_of new come)) (λ one. shape_at old one.0 ≡ shape_at new one.1) (λ one pair. (one_moved one pair).1) moves pairs.alike;
    found = all_found;
  }

-- by the trees of two views, which a file system shows still
pub finds_later : (before later : Machine) (last view : View) (olds news gone come listed listed' : List Item) (moves : List (Path × Path)) → later ≡ before → listed ≡ gone → listed' ≡ come → All (IsItemOf (view_tree before last)) olds
    → AreTops (view_tree before last) (view_tree before view) olds gone → AreTops (view_tree before view) (view_tree before last) news come
    → Pairs (looks_of (view_tree later last) listed) (looks_of (view_tree later view) listed') moves → FindsMoves (view_tree before last) (view_tree before view) olds news moves
finds_later before later last view olds news gone come listed listed' moves same is is' all are are' pairs =
    finds_moves (view_tree before last) (view_tree before view) olds news gone come moves all are are'
    (subst (λ (m : Machine). Pairs (looks_of (view_tree m last) gone) (looks_of (view_tree m view) come) moves) same
    (subst (λ (xs : List Item). Pairs (looks_of (view_tree later last) gone) (looks_of (view_tree later view) xs) moves) is'
    (subst (λ (xs : List Item). Pairs (looks_of (view_tree later last) xs) (looks_of (view_tree later view) listed') moves) is pairs)))

pub tops_later : (before later : Machine) (view : View) (other : Tree) (items tops listed : List Item) → later ≡ before → listed ≡ tops → All (IsItemOf (view_tree before view)) items → AreTops (view_tree before view) other items tops
    → All (IsItemOf (view_tree later view)) listed
tops_later before later view other items tops listed same is all are =
    subst (λ (m : Machine). All (IsItemOf (view_tree m view)) listed) (sym same) (subst (All (IsItemOf (view_tree before view))) (sym is) (tops_there (view_tree before view) other items tops all are))

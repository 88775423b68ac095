-- A directory written anew from a list of its entries that was edited.
use Rattle.std.proofs.Common.{◌≡◌, ℕ, suc, ◌+◌, ◌%◌, ◌<◌, ◌≤◌, ◌⊎◌, inl, inr, Bool, true, false, cond, not, ◌&&◌, ◌||◌, Option, Some, None, unwrap_or, Result, Ok, Err, List, [], ◌∷◌, ◌++◌, length, append-nil, refl, sym, ap, subst, ◌∙◌, arith}
use Rattle.std.specs.Prelude.{Contains, IsSome, IfOk, nat_le}
use Rattle.std.specs.Option.{is_some, is_none}
use Rattle.std.specs.List.{list_all}
use Rattle.std.proofs.lemmas.Bool.{true≢false, leb-true}
use Rattle.std.proofs.lemmas.List.Folds.{list_all-append}
use Rattle.fs_types.specs.declared.limits.TheConstants.{NODE_ENTRIES, CHAIN_NODES, MAX_ENTRIES}
use Rattle.fs_types.specs.declared.fault.Fault.{Fault}
use Rattle.fs_types.specs.Names.{Name, same_name}
use Rattle.plain_trees.specs.Trees.{nodes_for}
use Rattle.node_format.specs.Items.{Item, named_place, is_item, is_before, are_ascending, are_entries}
use Rattle.node_format.specs.Edits.{edited_count, IsEdited}
use Rattle.node_format.specs.EntryLaws.{same_name-true, contained-named_place}
use Rattle.node_format.specs.Order.{both_true, and_true, AreParts, ascending_parts}
use Rattle.node_format.specs.declared.place.Place.{Place}
use Rattle.node_format.specs.declared.place.Place.TheVariants.{Dir}
use Rattle.nodes.specs.Bodies.{Blocks}
use Rattle.nodes.specs.Chains.{entries_in, items_in}
use Rattle.nodes.specs.Reached.{IsHeld}
use Rattle.nodes.specs.Rewritten.{IsDirectoryEdit, IsSecondEdit, IsFreshChain}
use Rattle.nodes.proofs.Chains.{by_test, first_parts}
use Rattle.nodes.proofs.Chained.{reached_chain}
use Rattle.directory.specs.Counts.{edit_nodes, written_nodes, entries_to}
use Rattle.directory.specs.Moves.{IsEditedTwice}
use Rattle.directory.specs.Reads.{IsReadTo, IsEnough}
use Rattle.directory.specs.Trails.{takes}
use Rattle.directory.specs.Written.{IsKeptAfter, PutsDirectory}
use Rattle.directory.proofs.ReadLists.{named_front, named_back, entries_to-most, entries_to-read, all_read}

-- ---- order

all_of : (q : Item → Bool) (items : List Item) → ((item : Item) → Contains items item → q item ≡ true) → list_all q items ≡ true
all_of q [] each = refl
all_of q (item ∷ items) each = and_true _ _ (each item (0, omega arith, refl)) (all_of q items (λ other (k, lt, e). each other (suc k, omega arith, e)))

-- what holds of the names of all entries holds of a name that is there
name_among : (p : Name → Bool) (items : List Item) (name : Name) → list_all (λ item. p item.name) items ≡ true → IsSome (named_place items name) → p name ≡ true
name_among p [] name all some = absurd (true≢false (sym some))
name_among p (item ∷ items) name all some =
    let parts = both_true (p item.name) (list_all (λ item. p item.name) items) all in
    by_test (same_name item.name name)
    (λ same. ap p (sym (same_name-true item.name name same)) ∙ parts.0)
    (λ differs. name_among p items name parts.1 (sym (ap (λ (t : Bool). is_some (cond t (Some item.place) (named_place items name))) differs) ∙ some))

ascending_across : (front back : List Item) → are_ascending front ≡ true → are_ascending back ≡ true → list_all (λ item. list_all (λ other. is_before item.name other.name) back) front ≡ true → are_ascending (front ++ back) ≡ true
ascending_across [] back f b across = b
ascending_across (item ∷ front) back f b across =
    let own = both_true (list_all (λ other. is_before item.name other.name) front) (are_ascending front) f in
    let first = both_true (list_all (λ other. is_before item.name other.name) back) (list_all (λ item. list_all (λ other. is_before item.name other.name) back) front) across in
    and_true _ _ (list_all-append (λ other. is_before item.name other.name) front back ∙ and_true _ _ own.0 first.0) (ascending_across front back own.1 b first.1)

pub lawful_few : (items : List Item) → are_entries items ≡ true → length items ≤ MAX_ENTRIES
lawful_few items lawful = leb-true _ _ (both_true (nat_le (length items) MAX_ENTRIES) (list_all is_item items && are_ascending items) lawful).0

lawful_order : (items : List Item) → are_entries items ≡ true → are_ascending items ≡ true
lawful_order items lawful = (both_true (list_all is_item items) (are_ascending items) (both_true (nat_le (length items) MAX_ENTRIES) (list_all is_item items && are_ascending items) lawful).1).1

-- entries with the same names stay before those that come after them
order_stays : (old new more : List Item) (name : Name) (place : Option Place) → are_ascending (old ++ more) ≡ true → IsSome (named_place old name) → IsEdited old name place new → are_ascending (new ++ more) ≡ true
order_stays old new more name place order some edited =
    ascending_across new more ascends parts.back_ascends (all_of (λ item. list_all (λ other. is_before item.name other.name) more) new among)
  where
    parts : AreParts old more
    parts = ascending_parts old more order

    ascends : are_ascending new ≡ true
    ascends = lawful_order new edited.lawful

    there : (n : Name) → IsSome (named_place new n) → IsSome (named_place old n)
    there n here = by_test (same_name name n)
        (λ same. subst (λ (m : Name). IsSome (named_place old m)) (same_name-true name n same) some)
        (λ differs. ap is_some (sym (edited.leads n ∙ rw differs refl)) ∙ here)

    among : (item : Item) → Contains new item → list_all (λ other. is_before item.name other.name) more ≡ true
    among item inside = name_among (λ n. list_all (λ other. is_before n other.name) more) old item.name parts.across (there item.name (ap is_some (contained-named_place new item ascends inside)))

-- ---- what an edit of the whole directory asks, the entries that were read take too

pub still_takes : (f : Blocks) (block left : ℕ) (items : List Item) (tail : ℕ) (name : Name) (place : Option Place) → IsReadTo f block left items tail → IsEnough items tail name (is_some place) → takes (entries_in f block) name place ≡ true → takes (Some items) name place ≡ true
still_takes f block left items tail name None r e taken = refl
still_takes f block left items tail name (Some place) r e taken = elim e.ends [
  | inl none ↦ ap (λ (o : Option (List Item)). takes o name (Some place)) (sym (all_read f block left items tail r none)) ∙ taken
  | inr there ↦ ap (λ (b : Bool). b || not (nat_le MAX_ENTRIES (length items))) there.1
]

pub takes_some : (o : Option (List Item)) (name : Name) (place : Option Place) → takes o name place ≡ true → IsSome o
takes_some None name place taken = absurd (true≢false (sym taken))
takes_some (Some items) name place taken = refl

-- ---- the new directory

items_are : (f : Blocks) (block : ℕ) (items : List Item) → entries_in f block ≡ Some items → items_in f block ≡ items
items_are f block items is = ap (λ (o : Option (List Item)). unwrap_or o []) is

same_count : (was place : Option Place) (count : ℕ) → is_some place ≡ true → is_some was ≡ true → edited_count was place count ≡ count
same_count (Some was) (Some place) count puts there = refl
same_count None place count puts there = absurd (true≢false (sym there))
same_count (Some was) None count puts there = absurd (true≢false (sym puts))

-- nothing stands after the last node
none_kept : (f : Blocks) (kept : ℕ → Bool) (tail : ℕ) → tail ≡ 0 → IsKeptAfter f kept 0 tail []
none_kept f kept tail last = record { entries = rw last refl; held = λ b (k, lt, is). absurd (omega (arith, lt)) }

-- the new entries stand in place of those that were read
pub record IsPutBack (old new : Blocks) (kept kept' : ℕ → Bool) (block left : ℕ) (items changed : List Item) (tail to : ℕ) : Type 0 where
  pub more : List Item
  pub was : entries_in old block ≡ Some (items ++ more)
  pub now : entries_in new to ≡ Some (changed ++ more)
  pub nodes : IsFreshChain old new kept kept' block to

-- all were read
pub put_all : (old new : Blocks) (kept kept' : ℕ → Bool) (block left : ℕ) (items changed : List Item) (tail to : ℕ) → IsReadTo old block left items tail → tail ≡ 0 → are_entries changed ≡ true → PutsDirectory old kept new kept' tail to changed
    → IsPutBack old new kept kept' block left items changed tail to
put_all old new kept kept' block left items changed tail to r last lawful puts =
    let few : 0 + nodes_for (length changed) ≤ CHAIN_NODES = omega (arith, lawful_few changed lawful) in
    let order : are_ascending (changed ++ []) ≡ true = ap are_ascending (append-nil changed) ∙ lawful_order changed lawful in
    let put = puts 0 [] few order (none_kept old kept tail last) in
    record {
      more = [];
      was = all_read old block left items tail r last ∙ ap (λ (xs : List Item). Some xs) (sym (append-nil items));
      now = put.entries;
      nodes = λ b inside. let n = put.nodes b inside in (n.0, elim n.1 [ inl fresh ↦ inl fresh | inr (k, lt, is) ↦ absurd (omega (arith, lt)) ]);
    }

-- the nodes after them stay
put_some : (old new : Blocks) (kept kept' : ℕ → Bool) (block left : ℕ) (items changed : List Item) (tail to : ℕ) (name : Name) (place : Option Place) → IsHeld old kept (Dir block) → IsReadTo old block left items tail → is_some place ≡ true → IsSome (named_place items name)
    → IsEdited items name place changed → PutsDirectory old kept new kept' tail to changed → IsPutBack old new kept kept' block left items changed tail to
put_some old new kept kept' block left items changed tail to name place held r putting some edited puts =
    let counted : length changed ≡ length items = edited.counted ∙ same_count (named_place items name) place (length items) putting some in
    let few : left + nodes_for (length changed) ≤ CHAIN_NODES = omega (arith, r.few, ap nodes_for counted) in
    let order = order_stays items changed r.more name place (first_parts old block (items ++ r.more) r.all).order some edited in
    let put = puts left r.more few order (record { entries = r.rest; held = λ b inside. held block refl b (reached_chain old block b (r.within b inside)) }) in
    record {
      more = r.more;
      was = r.all;
      now = put.entries;
      nodes = λ b inside. let n = put.nodes b inside in (n.0, elim n.1 [ inl fresh ↦ inl fresh | inr stood ↦ inr (r.within b stood) ]);
    }

-- the edit of a list is one of the directory
leads_on : (items changed more : List Item) (name : Name) (place : Option Place) → (m : Name) → (place ≡ None → more ≡ []) → named_place changed m ≡ cond (same_name name m) place (named_place items m)
    → named_place (changed ++ more) m ≡ cond (same_name name m) place (named_place (items ++ more) m)
leads_on items changed more name place m only led = by_test (same_name name m) here other
  where
    whole : (xs : List Item) → more ≡ [] → xs ++ more ≡ xs
    whole xs none = ap (λ (ys : List Item). xs ++ ys) none ∙ append-nil xs

    joined : (xs : List Item) (o : Option Place) → named_place xs m ≡ o → (o ≡ None → named_place (xs ++ more) m ≡ named_place more m) × (IsSome o → named_place (xs ++ more) m ≡ o)
    joined xs o is = (λ none. named_back xs more m (is ∙ none), λ some. named_front xs more m (ap is_some is ∙ some) ∙ is)

    here : same_name name m ≡ true → named_place (changed ++ more) m ≡ cond (same_name name m) place (named_place (items ++ more) m)
    here same = rw same (on place refl)
      where
        led_here : named_place changed m ≡ place
        led_here = led ∙ ap (λ (t : Bool). cond t place (named_place items m)) same

        on : (o : Option Place) → place ≡ o → named_place (changed ++ more) m ≡ place
        on None is = ap (λ (xs : List Item). named_place xs m) (whole changed (only is)) ∙ led_here
        on (Some p) is = (joined changed place led_here).1 (ap is_some is)

    other : same_name name m ≡ false → named_place (changed ++ more) m ≡ cond (same_name name m) place (named_place (items ++ more) m)
    other differs = rw differs (on (named_place items m) refl)
      where
        led_other : named_place changed m ≡ named_place items m
        led_other = led ∙ ap (λ (t : Bool). cond t place (named_place items m)) differs

        on : (o : Option Place) → named_place items m ≡ o → named_place (changed ++ more) m ≡ named_place (items ++ more) m
        on None is = (joined changed None (led_other ∙ is)).0 refl ∙ sym ((joined items None is).0 refl)
        on (Some p) is = (joined changed (Some p) (led_other ∙ is)).1 refl ∙ sym ((joined items (Some p) is).1 refl)

-- what an edited list that was put back makes
pub edit_written : (old new : Blocks) (kept kept' : ℕ → Bool) (block left : ℕ) (items changed : List Item) (tail to : ℕ) (name : Name) (place : Option Place) → IsHeld old kept (Dir block) → IsReadTo old block left items tail → IsEnough items tail name (is_some place)
    → IsEdited items name place changed → PutsDirectory old kept new kept' tail to changed → IsDirectoryEdit old new block to name place × IsFreshChain old new kept kept' block to
edit_written old new kept kept' block left items changed tail to name place held r e edited puts = elim e.ends [
  | inl last ↦ made (put_all old new kept kept' block left items changed tail to r last edited.lawful puts) (all last)
  | inr there ↦ made (put_some old new kept kept' block left items changed tail to name place held r there.0 there.1 edited puts) (λ p none. absurd (true≢false (sym there.0 ∙ ap is_some none)))
]
  where
    all : tail ≡ 0 → (p : IsPutBack old new kept kept' block left items changed tail to) → place ≡ None → p.more ≡ []
    all last p none = same_rest items p.more (some_is (items ++ p.more) items (sym p.was ∙ all_read old block left items tail r last))
      where
        some_is : (xs ys : List Item) → (let o : Option (List Item) = Some xs in o ≡ Some ys) → xs ≡ ys
        some_is xs ys e = cc

        same_rest : (xs ys : List Item) → xs ++ ys ≡ xs → ys ≡ []
        same_rest [] ys e = e
        same_rest (x ∷ xs) ys e = same_rest xs ys (let tails : xs ++ ys ≡ xs = cc in tails)

    made : (p : IsPutBack old new kept kept' block left items changed tail to) → ((q : IsPutBack old new kept kept' block left items changed tail to) → place ≡ None → q.more ≡ []) → IsDirectoryEdit old new block to name place × IsFreshChain old new kept kept' block to
    made p only = ((changed ++ p.more, p.now, λ m. leads_on items changed p.more name place m (only p) (edited.leads m) ∙ ap (λ (xs : List Item). cond (same_name name m) place (named_place xs m)) (sym (items_are old block (items ++ p.more) p.was))), p.nodes)

-- the same of a call: the state at first (0), with the entries read (1), and with the new directory written (2)
pub edit_done : (f0 f1 f2 : Blocks) (k0 k1 k2 : ℕ → Bool) (block left : ℕ) (items changed listed : List Item) (tail : ℕ) (name : Name) (place : Option Place) (r : Result ℕ Fault) → f1 ≡ f0 → k1 ≡ k0 → listed ≡ changed → IsHeld f0 k0 (Dir block) → IsReadTo f0 block left items tail
    → IsEnough items tail name (is_some place) → IsEdited items name place changed → IfOk r (λ to. PutsDirectory f1 k1 f2 k2 tail to listed) → IfOk r (λ to. IsDirectoryEdit f0 f2 block to name place × IsFreshChain f0 f2 k0 k2 block to)
edit_done f0 f1 f2 k0 k1 k2 block left items changed listed tail name place (Err fault) same_nodes same_kept same held read enough edited puts = tt
edit_done f0 f1 f2 k0 k1 k2 block left items changed listed tail name place (Ok to) same_nodes same_kept same held read enough edited puts =
    edit_written f0 f2 k0 k2 block left items changed tail to name place held read enough edited
    (subst (λ (f : Blocks). PutsDirectory f k0 f2 k2 tail to changed) same_nodes (subst (λ (k : ℕ → Bool). PutsDirectory f1 k f2 k2 tail to changed) same_kept (subst (PutsDirectory f1 k1 f2 k2 tail to) same puts)))

-- where nodes come after them, the new entries fill theirs
pub full_tail : (f : Blocks) (block left : ℕ) (items changed : List Item) (tail : ℕ) (name : Name) (place : Option Place) → IsReadTo f block left items tail → IsEnough items tail name (is_some place) → IsEdited items name place changed
    → (tail ≡ 0) ⊎ ((0 < length changed) × (length changed % NODE_ENTRIES ≡ 0))
full_tail f block left items changed tail name place r e edited = elim e.ends [
  | inl last ↦ inl last
  | inr there ↦ elim r.full [
    | inl last ↦ inl last
    | inr full ↦
        let same : length changed ≡ length items = edited.counted ∙ same_count (named_place items name) place (length items) there.0 there.1 in
        inr (omega (arith, same, full), omega (arith, same, full))
  ]
]

-- ---- how many nodes it has written

pub nodes_written : (f : Blocks) (block left : ℕ) (items changed : List Item) (tail : ℕ) (name : Name) (place : Option Place) → IsReadTo f block left items tail → IsEnough items tail name (is_some place) → IsEdited items name place changed
    → nodes_for (length changed) ≡ written_nodes (items_in f block) name place
nodes_written f block left items changed tail name place r e edited = elim e.ends [ inl last ↦ whole last | inr there ↦ part there.0 there.1 ]
  where
    part : is_some place ≡ true → IsSome (named_place items name) → nodes_for (length changed) ≡ written_nodes (items_in f block) name place
    part putting some =
        let there : is_some (named_place (items_in f block) name) ≡ true = ap (λ (xs : List Item). is_some (named_place xs name)) (items_are f block (items ++ r.more) r.all) ∙ ap is_some (named_front items r.more name some) ∙ some in
        ap nodes_for (edited.counted ∙ same_count (named_place items name) place (length items) putting some)
        ∙ e.needed putting
        ∙ ap nodes_for (sym (entries_to-read f block left items tail name r (inr some)))
        ∙ rw (putting, there) refl

    whole : tail ≡ 0 → nodes_for (length changed) ≡ written_nodes (items_in f block) name place
    whole last = by_test (is_some place && is_some (named_place items name)) both either
      where
        same : items_in f block ≡ items
        same = items_are f block items (all_read f block left items tail r last)

        both : (is_some place && is_some (named_place items name)) ≡ true → nodes_for (length changed) ≡ written_nodes (items_in f block) name place
        both is = let t = both_true (is_some place) (is_some (named_place items name)) is in part t.0 t.1

        either : (is_some place && is_some (named_place items name)) ≡ false → nodes_for (length changed) ≡ written_nodes (items_in f block) name place
        either is = ap nodes_for edited.counted ∙ rw (same, is) refl

count_most : (was place : Option Place) (count : ℕ) → edited_count was place count ≤ count + cond (is_some place && is_none was) 1 0
count_most None None count = omega arith
count_most None (Some place) count = omega arith
count_most (Some was) None count = omega arith
count_most (Some was) (Some place) count = omega arith

-- at most the greater number of nodes before and after
pub written_most : (items : List Item) (name : Name) (place : Option Place) → written_nodes items name place ≤ edit_nodes items name (is_some place)
written_most items name place = on (is_some place && is_some (named_place items name))
  where
    on : (b : Bool) → cond b (nodes_for (entries_to items name)) (nodes_for (edited_count (named_place items name) place (length items))) ≤ edit_nodes items name (is_some place)
    on true = omega (arith, entries_to-most items name)
    on false = omega (arith, count_most (named_place items name) place (length items))

-- ---- two edits of one list

pub second_written : (old new : Blocks) (kept kept' : ℕ → Bool) (block left : ℕ) (items changed : List Item) (tail to : ℕ) (name : Name) (gone : Option Place) (other : Name) (here : Option Place) → IsReadTo old block left items tail → tail ≡ 0
    → IsEditedTwice items name gone other here changed → PutsDirectory old kept new kept' tail to changed → IsSecondEdit old new block to name gone other here × IsFreshChain old new kept kept' block to
second_written old new kept kept' block left items changed tail to name gone other here r last edited puts =
    let p = put_all old new kept kept' block left items changed tail to r last edited.lawful puts in
    let same : items_in old block ≡ items = items_are old block items (all_read old block left items tail r last) in (
      (
        changed ++ p.more,
        p.now,
        λ m. ap (λ (xs : List Item). named_place (changed ++ xs) m) (nothing p) ∙ ap (λ (xs : List Item). named_place xs m) (append-nil changed) ∙ edited.leads m
            ∙ ap (λ (xs : List Item). cond (same_name other m) here (cond (same_name name m) gone (named_place xs m))) (sym same),
      ),
      p.nodes,
    )
  where
    some_is : (xs ys : List Item) → (let o : Option (List Item) = Some xs in o ≡ Some ys) → xs ≡ ys
    some_is xs ys e = cc

    same_rest : (xs ys : List Item) → xs ++ ys ≡ xs → ys ≡ []
    same_rest [] ys e = e
    same_rest (x ∷ xs) ys e = same_rest xs ys (let tails : xs ++ ys ≡ xs = cc in tails)

    nothing : (p : IsPutBack old new kept kept' block left items changed tail to) → p.more ≡ []
    nothing p = same_rest items p.more (some_is (items ++ p.more) items (sym p.was ∙ all_read old block left items tail r last))

-- where all is read, no name is wanted
pub last_read : (items : List Item) (tail : ℕ) (name : Name) → IsEnough items tail name false → tail ≡ 0
last_read items tail name e = elim e.ends [ inl last ↦ last | inr there ↦ absurd (true≢false (sym there.0)) ]

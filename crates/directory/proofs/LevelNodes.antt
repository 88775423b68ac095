-- The nodes of the directories of a level, read once each.
use Rattle.std.proofs.Common.{◌≡◌, ℕ, zero, suc, ◌⊎◌, inl, inr, ◌+◌, ◌-◌, ◌<◌, ◌≤◌, Bool, true, false, cond, not, ◌&&◌, ◌||◌, eqb, Option, Some, None, List, [], ◌∷◌, refl, sym, ap, subst, ◌∙◌, arith}
use Rattle.std.specs.Prelude.{nat_lt, Contains, unwrap_or}
use Rattle.std.specs.List.{list_any}
use Rattle.std.specs.FinSet.{FinSet, contains, insert, empty, contains-empty}
use Rattle.std.specs.Ordering.{nat_cmp}
use Rattle.std.proofs.lemmas.Bool.{true≢false, eqb-true, ltb-true, ltb-false, lt-ltb}
use Rattle.block_ring.specs.BlockSet.{BlockSet}
use Rattle.node_format.specs.Items.{Item}
use Rattle.node_format.specs.Order.{both_true}
use Rattle.nodes.specs.Bodies.{Blocks}
use Rattle.nodes.specs.Chains.{link_of, link_items, next_of, most_after, entries_in, blocks_after, chain}
use Rattle.nodes.proofs.Chains.{by_test, head_of, either_of, next_is, items_are}
use Rattle.nodes.proofs.Chained.{among_chain, held_chain}
use Rattle.directory.specs.Depths.{count_below, is_directory_at, names_directory, is_left, IsSeen, AreFoundBelow, NamesWhole, AreOf, AreAmong, AreNamedBy, HasDirectories, is_loud}
use Rattle.directory.proofs.Counting.{count_put, count_most, loud_put}
use Rattle.directory.proofs.Levels.{any_contains, contains_insert}

-- ---- what nodes name

contains_any : (p : Item → Bool) (items : List Item) (item : Item) → Contains items item → p item ≡ true → list_any p items ≡ true
contains_any p [] item (k, lt, is) passes = absurd (omega (arith, lt))
contains_any p (first ∷ items) item (zero, lt, is) passes = ap (λ (t : Bool). t || list_any p items) (ap p is ∙ passes)
contains_any p (first ∷ items) item (suc k, lt, is) passes = late (p first) (list_any p items) (contains_any p items item (k, omega arith, is) passes)
  where
    late : (s t : Bool) → t ≡ true → (s || t) ≡ true
    late true t e = refl
    late false t e = e

no_next : (f : Blocks) (b : ℕ) → f b ≡ None → next_of (f b) ≡ 0
no_next f b none = ap next_of none

no_items : (f : Blocks) (b : ℕ) → f b ≡ None → link_items (f b) ≡ []
no_items f b none = ap link_items none

-- ---- sets with one block more

either_in : (s : FinSet nat_cmp) (x b : ℕ) → contains (insert s x) b ≡ true → (b ≡ x) ⊎ (contains s b ≡ true)
either_in s x b here = on (eqb b x) refl (sym (contains_insert s x b) ∙ here)
  where
    on : (t : Bool) → eqb b x ≡ t → (t || contains s b) ≡ true → (b ≡ x) ⊎ (contains s b ≡ true)
    on true same e = inl (eqb-true b x same)
    on false differs e = inr e

stays_in : (s : FinSet nat_cmp) (x b : ℕ) → contains s b ≡ true → contains (insert s x) b ≡ true
stays_in s x b here = contains_insert s x b ∙ late (eqb b x) (contains s b) here
  where
    late : (s t : Bool) → t ≡ true → (s || t) ≡ true
    late true t e = refl
    late false t e = e

own_in : (s : FinSet nat_cmp) (x : ℕ) → contains (insert s x) x ≡ true
own_in s x = contains_insert s x x ∙ ap (λ (t : Bool). t || contains s x) (same x)
  where
    same : (x : ℕ) → eqb x x ≡ true
    same x = grind arith

-- ---- what a test of a block tells

pub record IsLeft (blocks : ℕ) (seen : FinSet nat_cmp) (block : ℕ) : Type 0 where
  pub some : 0 < block
  pub below : block < blocks
  pub new : contains seen block ≡ false

not_false : (b : Bool) → not b ≡ true → b ≡ false
not_false true e = absurd cc
not_false false e = refl

pub left_is : (blocks : ℕ) (seen : FinSet nat_cmp) (block : ℕ) → is_left blocks seen block ≡ true → IsLeft blocks seen block
left_is blocks seen block e =
    let outer = both_true (not (eqb block 0) && nat_lt block blocks) (not (contains seen block)) e in
    let inner = both_true (not (eqb block 0)) (nat_lt block blocks) outer.0 in
    record { some = positive block (not_false (eqb block 0) inner.0); below = ltb-true block blocks inner.1; new = not_false (contains seen block) outer.1 }
  where
    positive : (n : ℕ) → eqb n 0 ≡ false → 0 < n
    positive n e = grind arith

-- where it is none that is left, it was seen, or holds no node
pub left_not : (f : Blocks) (blocks : ℕ) (seen : FinSet nat_cmp) (block : ℕ) → f 0 ≡ None → ((b : ℕ) → blocks ≤ b → f b ≡ None) → is_left blocks seen block ≡ false → IsSeen f seen block
left_not f blocks seen block none beyond e = by_test (eqb block 0)
    (λ zero_is. inl (ap f (eqb-true block 0 zero_is) ∙ none))
    (λ some. by_test (nat_lt block blocks)
    (λ below. inr (seen_is (contains seen block) (sym (λ i. (not (some i) && below i) && not (contains seen block)) ∙ e)))
    (λ past. inl (beyond block (ltb-false block blocks past))))
  where
    seen_is : (b : Bool) → not b ≡ false → b ≡ true
    seen_is true e = refl
    seen_is false e = absurd cc

-- ---- the nodes of one directory, read to a block

pub record IsReadTo (f : Blocks) (blocks at : ℕ) (seen found : FinSet nat_cmp) : Type 0 where
  pub on : (b : ℕ) → contains seen b ≡ true → (next_of (f b) ≡ at) ⊎ IsSeen f seen (next_of (f b))
  pub named : (parent b : ℕ) → contains seen parent ≡ true → b < blocks → names_directory (link_items (f parent)) b ≡ true → contains found b ≡ true

pub record IsOnWay (f : Blocks) (blocks block at : ℕ) (seen0 found0 seen found : FinSet nat_cmp) : Type 0 where
  pub read : AreFoundBelow f blocks seen0 found0 → IsReadTo f blocks at seen found
  pub here : (at ≡ block) ⊎ (contains seen block ≡ true)
  pub chained : (items : List Item) → entries_in f block ≡ Some items → 0 < at → Contains (chain f block) at
  pub named : AreOf f blocks block found0 found
  pub stays : (b : ℕ) → contains seen0 b ≡ true → contains seen b ≡ true
  pub next : (roots list : List ℕ) → HasDirectories f blocks roots list → Contains list block → 0 < at → at < blocks → Contains list at
  pub seen_in : (roots list : List ℕ) → HasDirectories f blocks roots list → Contains list block → AreAmong list seen0 seen
  pub found_in : (roots list : List ℕ) → HasDirectories f blocks roots list → Contains list block → AreAmong list found0 found

pub way_begins : (f : Blocks) (blocks block : ℕ) (seen found : FinSet nat_cmp) → IsOnWay f blocks block block seen found seen found
way_begins f blocks block seen found = record {
  read = λ r. record { on = λ b here. inr (r.on b here); named = r.named };
  here = inl refl;
  chained = λ items e some. head_of block (blocks_after most_after f (next_of (f block)));
  named = λ b here. inl here;
  stays = λ b here. here;
  next = λ roots list has within some below. within;
  seen_in = λ roots list has within b here. inl here;
  found_in = λ roots list has within b here. inl here;
}

or_cases : (x y z : Bool) → (x || (y && z)) ≡ true → (x ≡ true) ⊎ ((y ≡ true) × (z ≡ true))
or_cases true y z e = inl refl
or_cases false true true e = inr (refl, refl)
or_cases false true false e = absurd cc
or_cases false false z e = absurd cc

or_late : (x y z : Bool) → y ≡ true → z ≡ true → (x || (y && z)) ≡ true
or_late true y z a b = refl
or_late false y z a b = λ i. a i && b i

or_first : (x r : Bool) → x ≡ true → (x || r) ≡ true
or_first x r e = ap (λ (t : Bool). t || r) e

-- one node more was read
module _ (f : Blocks) (blocks block at at' : ℕ) (seen0 found0 seen found found' : FinSet nat_cmp) (way : IsOnWay f blocks block at seen0 found0 seen found) (left : IsLeft blocks seen at) (to : next_of (f at) ≡ at')
    (added : (b : ℕ) → contains found' b ≡ (contains found b || (nat_lt b blocks && names_directory (link_items (f at)) b))) where
  split : (b : ℕ) → contains found' b ≡ true → (contains found b ≡ true) ⊎ ((nat_lt b blocks ≡ true) × (names_directory (link_items (f at)) b ≡ true))
  split b here = or_cases (contains found b) (nat_lt b blocks) (names_directory (link_items (f at)) b) (sym (added b) ∙ here)

  read_on : AreFoundBelow f blocks seen0 found0 → IsReadTo f blocks at' (insert seen at) found'
  read_on r = record {
    on = λ b here. elim (either_in seen at b here) [
      | inl same ↦ inl (ap (λ (c : ℕ). next_of (f c)) same ∙ to)
      | inr was ↦ elim (before.on b was) [
        | inl is ↦ inr (inr (subst (λ (c : ℕ). contains (insert seen at) c ≡ true) (sym is) (own_in seen at)))
        | inr known ↦ inr (elim known [ inl none ↦ inl none | inr seen_is ↦ inr (stays_in seen at (next_of (f b)) seen_is) ])
      ]
    ];
    named = λ parent b here below names. elim (either_in seen at parent here) [
      | inl same ↦ added b ∙ or_late (contains found b) (nat_lt b blocks) (names_directory (link_items (f at)) b) (lt-ltb b blocks below) (ap (λ (c : ℕ). names_directory (link_items (f c)) b) (sym same) ∙ names)
      | inr was ↦ added b ∙ or_first (contains found b) _ (before.named parent b was below names)
    ];
  }
    where
      before : IsReadTo f blocks at seen found
      before = way.read r

  whole : (b : ℕ) → names_directory (link_items (f at)) b ≡ true → NamesWhole f block b
  whole b names items e =
      let a = among_chain f block items e at (way.chained items e left.some) in
      let found_item = any_contains (λ item. is_directory_at item.place b) (link_items (f at)) names in
      let inside : Contains items found_item.0 = a.entries found_item.0 (subst (λ (xs : List Item). Contains xs found_item.0) (items_are f at a.l a.is) found_item.1) in
      contains_any (λ item. is_directory_at item.place b) items found_item.0 inside found_item.2

  chained_on : (items : List Item) → entries_in f block ≡ Some items → 0 < at' → Contains (chain f block) at'
  chained_on items e some =
      let a = among_chain f block items e at (way.chained items e left.some) in
      let next : a.l.next ≡ at' = sym (next_is f at a.l a.is) ∙ to in
      subst (Contains (chain f block)) next (a.on (subst (λ (n : ℕ). 0 < n) (sym next) some))

  pub way_on : IsOnWay f blocks block at' seen0 found0 (insert seen at) found'
  way_on = record {
    read = read_on;
    here = inr (elim way.here [ inl same ↦ subst (λ (c : ℕ). contains (insert seen at) c ≡ true) same (own_in seen at) | inr was ↦ stays_in seen at block was ]);
    chained = chained_on;
    named = λ b here. elim (split b here) [ inl was ↦ way.named b was | inr new ↦ inr (ltb-true b blocks new.0, whole b new.1) ];
    stays = λ b here. stays_in seen at b (way.stays b here);
    next = λ roots list has within some below.
        subst (Contains list) to (has.on at (way.next roots list has within left.some left.below) (subst (λ (n : ℕ). 0 < n) (sym to) some) (subst (λ (n : ℕ). n < blocks) (sym to) below));
    seen_in = λ roots list has within b here. elim (either_in seen at b here) [
      | inl same ↦ inr (subst (Contains list) (sym same) (way.next roots list has within left.some left.below))
      | inr was ↦ way.seen_in roots list has within b was
    ];
    found_in = λ roots list has within b here. elim (split b here) [
      | inl was ↦ way.found_in roots list has within b was
      | inr new ↦ inr (has.next at b (way.next roots list has within left.some left.below) (ltb-true b blocks new.0) new.1)
    ];
  }

-- a block more among those seen, of a list
pub seen_more : (f : Blocks) (blocks block at : ℕ) (seen0 found0 seen found : FinSet nat_cmp) → IsOnWay f blocks block at seen0 found0 seen found → IsLeft blocks seen at
    → (roots list : List ℕ) → HasDirectories f blocks roots list → Contains list block → AreAmong list seen0 (insert seen at)
seen_more f blocks block at seen0 found0 seen found way left roots list has within b here = elim (either_in seen at b here) [
  | inl same ↦ inr (subst (Contains list) (sym same) (way.next roots list has within left.some left.below))
  | inr was ↦ way.seen_in roots list has within b was
]

pub stays_more : (f : Blocks) (blocks block at : ℕ) (seen0 found0 seen found : FinSet nat_cmp) → IsOnWay f blocks block at seen0 found0 seen found → (b : ℕ) → contains seen0 b ≡ true → contains (insert seen at) b ≡ true
stays_more f blocks block at seen0 found0 seen found way b here = stays_in seen at b (way.stays b here)

pub way_read : (f : Blocks) (blocks block at : ℕ) (seen0 found0 seen found : FinSet nat_cmp) → IsOnWay f blocks block at seen0 found0 seen found → IsSeen f seen at → AreFoundBelow f blocks seen0 found0 → AreFoundBelow f blocks seen found
way_read f blocks block at seen0 found0 seen found way ends r =
    let to = way.read r in
    record {
      on = λ b here. elim (to.on b here) [ inl is ↦ subst (IsSeen f seen) (sym is) ends | inr known ↦ known ];
      named = to.named;
    }

pub way_here : (f : Blocks) (blocks block at : ℕ) (seen0 found0 seen found : FinSet nat_cmp) → IsOnWay f blocks block at seen0 found0 seen found → IsSeen f seen at → IsSeen f seen block
way_here f blocks block at seen0 found0 seen found way ends = elim way.here [ inl same ↦ subst (IsSeen f seen) same ends | inr was ↦ inr was ]

-- one more is counted
pub counted_more : (seen : FinSet nat_cmp) (at blocks : ℕ) → at < blocks → contains seen at ≡ false → count_below (contains (insert seen at)) blocks ≡ count_below (contains seen) blocks + 1
counted_more seen at blocks below new = (count_put (contains seen) (contains (insert seen at)) at (contains_insert seen at) new blocks).1 below

-- ---- the directories of a level, block by block

pub record IsLevelRead (f : Blocks) (blocks i : ℕ) (level seen next : FinSet nat_cmp) : Type 0 where
  pub read : AreFoundBelow f blocks seen next
  pub heads : (b : ℕ) → b < i → contains level b ≡ true → IsSeen f seen b
  pub named : (b : ℕ) → contains next b ≡ true → (b < blocks) × (parent : ℕ) × (contains level parent ≡ true) × NamesWhole f parent b
  pub seen_in : (roots list : List ℕ) → HasDirectories f blocks roots list → ((b : ℕ) → contains level b ≡ true → Contains list b) → (b : ℕ) → contains seen b ≡ true → Contains list b
  pub next_in : (roots list : List ℕ) → HasDirectories f blocks roots list → ((b : ℕ) → contains level b ≡ true → Contains list b) → (b : ℕ) → contains next b ≡ true → Contains list b

pub level_begins : (f : Blocks) (blocks : ℕ) (level seen next : FinSet nat_cmp) → seen ≡ empty → next ≡ empty → IsLevelRead f blocks 0 level seen next
level_begins f blocks level seen next no_seen no_next = record {
  read = record { on = λ b here. absurd (none seen no_seen b here); named = λ parent b here below names. absurd (none seen no_seen parent here) };
  heads = λ b less here. absurd (omega arith);
  named = λ b here. absurd (none next no_next b here);
  seen_in = λ roots list has among b here. absurd (none seen no_seen b here);
  next_in = λ roots list has among b here. absurd (none next no_next b here);
}
  where
    none : (s : FinSet nat_cmp) → s ≡ empty → (b : ℕ) → contains s b ≡ true → ⊥
    none s is b here = true≢false (sym here ∙ ap (λ (t : FinSet nat_cmp). contains t b) is ∙ contains-empty nat_cmp b)

below_more : (i b : ℕ) → b < i + 1 → (b < i) ⊎ (b ≡ i)
below_more i b less = grind arith

-- a block that is none of the level
pub level_skips : (f : Blocks) (blocks i : ℕ) (level seen next : FinSet nat_cmp) → IsLevelRead f blocks i level seen next → contains level i ≡ false → IsLevelRead f blocks (i + 1) level seen next
level_skips f blocks i level seen next is none = record {
  read = is.read;
  heads = λ b less here. elim (below_more i b less) [
    | inl before ↦ is.heads b before here
    | inr same ↦ absurd (true≢false (sym here ∙ ap (contains level) same ∙ none))
  ];
  named = is.named;
  seen_in = is.seen_in;
  next_in = is.next_in;
}

-- the nodes of a directory of the level were read
pub level_on : (f : Blocks) (blocks i : ℕ) (level seen next seen' next' : FinSet nat_cmp) → IsLevelRead f blocks i level seen next → contains level i ≡ true → (AreFoundBelow f blocks seen next → AreFoundBelow f blocks seen' next') → IsSeen f seen' i → AreOf f blocks i next next'
    → ((b : ℕ) → contains seen b ≡ true → contains seen' b ≡ true) → ((roots list : List ℕ) → HasDirectories f blocks roots list → Contains list i → AreAmong list seen seen' × AreAmong list next next') → IsLevelRead f blocks (i + 1) level seen' next'
level_on f blocks i level seen next seen' next' is in_level read here of stays among = record {
  read = read is.read;
  heads = λ b less headed. elim (below_more i b less) [
    | inl before ↦ elim (is.heads b before headed) [ inl none ↦ inl none | inr was ↦ inr (stays b was) ]
    | inr same ↦ subst (IsSeen f seen') (sym same) here
  ];
  named = λ b found. elim (of b found) [ inl was ↦ is.named b was | inr new ↦ (new.0, i, in_level, new.1) ];
  seen_in = λ roots list has within b found. elim ((among roots list has (within i in_level)).0 b found) [ inl was ↦ is.seen_in roots list has within b was | inr new ↦ new ];
  next_in = λ roots list has within b found. elim ((among roots list has (within i in_level)).1 b found) [ inl was ↦ is.next_in roots list has within b was | inr new ↦ new ];
}

-- the nodes after one that was seen were seen too
after_seen : (f : Blocks) (blocks : ℕ) (seen found : FinSet nat_cmp) → AreFoundBelow f blocks seen found → (n next : ℕ) → (0 < next → IsSeen f seen next) → (x : ℕ) → Contains (blocks_after n f next) x → IsSeen f seen x
after_seen f blocks seen found read zero next known x (k, lt, is) = absurd (omega (arith, lt))
after_seen f blocks seen found read (suc n) next known x inside = by_test (eqb next 0)
    (λ none. absurd (nothing (subst (λ (t : Bool). Contains (cond t [] (next ∷ blocks_after n f (next_of (f next)))) x) none inside)))
    (λ some. goes (known (positive next some)) (either_of next x (blocks_after n f (next_of (f next))) (subst (λ (t : Bool). Contains (cond t [] (next ∷ blocks_after n f (next_of (f next)))) x) some inside)) (after_seen f blocks seen found read n (next_of (f next))))
  where
    nothing : Contains [] x → ⊥
    nothing (k, lt, is) = omega (arith, lt)

    positive : (n : ℕ) → eqb n 0 ≡ false → 0 < n
    positive n e = grind arith

    on : IsSeen f seen next → 0 < next_of (f next) → IsSeen f seen (next_of (f next))
    on (inl none) some = absurd (omega (arith, no_next f next none, some))
    on (inr here) some = read.on next here

    goes : IsSeen f seen next → (next ≡ x) ⊎ Contains (blocks_after n f (next_of (f next))) x → ((0 < next_of (f next) → IsSeen f seen (next_of (f next))) → (x : ℕ) → Contains (blocks_after n f (next_of (f next))) x → IsSeen f seen x) → IsSeen f seen x
    goes here (inl same) again = subst (IsSeen f seen) same here
    goes here (inr later) again = again (on here) x later

chain_seen : (f : Blocks) (blocks : ℕ) (seen found : FinSet nat_cmp) → AreFoundBelow f blocks seen found → (block : ℕ) → IsSeen f seen block → (x : ℕ) → Contains (chain f block) x → IsSeen f seen x
chain_seen f blocks seen found read block here x inside = elim (either_of block x (blocks_after most_after f (next_of (f block))) inside) [
  | inl same ↦ subst (IsSeen f seen) same here
  | inr later ↦ after_seen f blocks seen found read most_after (next_of (f block)) (next here) x later
]
  where
    next : IsSeen f seen block → 0 < next_of (f block) → IsSeen f seen (next_of (f block))
    next (inl none) some = absurd (omega (arith, no_next f block none, some))
    next (inr here) some = read.on block here

-- all that the level names was found
pub all_named : (f : Blocks) (blocks n : ℕ) (level seen next : FinSet nat_cmp) → IsLevelRead f blocks n level seen next → ((b : ℕ) → contains level b ≡ true → b < n) → AreNamedBy f blocks (contains level) next
all_named f blocks n level seen next is within = record {
  within = λ b here. (is.named b here).0;
  named = λ b here. let by = is.named b here in (by.1, by.2, by.3);
  all = λ parent b headed below names. all_of parent b headed below (entries_in f parent) refl names;
}
  where
    all_of : (parent b : ℕ) → contains level parent ≡ true → b < blocks → (o : Option (List Item)) → entries_in f parent ≡ o → names_directory (unwrap_or o []) b ≡ true → contains next b ≡ true
    all_of parent b headed below None e names = absurd cc
    all_of parent b headed below (Some items) e names =
        let item = any_contains (λ item. is_directory_at item.place b) items names in
        let held = held_chain f parent items e item.0 item.1 in
        let known = chain_seen f blocks seen next is.read parent (is.heads parent (within parent headed) headed) held.node held.listed in
        elim known [
          | inl none ↦ absurd (empty item.0 (subst (λ (xs : List Item). Contains xs item.0) (no_items f held.node none) held.holds))
          | inr seen_is ↦ is.read.named held.node b seen_is below (contains_any (λ item. is_directory_at item.place b) (link_items (f held.node)) item.0 held.holds item.2)
        ]
      where
        empty : (item : Item) → Contains [] item → ⊥
        empty item (k, lt, is) = omega (arith, lt)

-- ---- the steps of the code

-- a block that is put into the set of those seen
abbrev pub with_block : BlockSet → ℕ → BlockSet
with_block s at = record s { members = insert s.members at }

pub left_here : (blocks at : ℕ) (seen : BlockSet) (left : Bool) → seen.blocks ≡ blocks → left ≡ is_left seen.blocks seen.members at → left ≡ true → IsLeft blocks seen.members at
left_here blocks at seen left size is holds = left_is blocks seen.members at (ap (λ (n : ℕ). is_left n seen.members at) (sym size) ∙ sym is ∙ holds)

pub way_step : (f f2 : Blocks) (blocks block at at' : ℕ) (seen0 found0 seen seen' found found' : BlockSet) → f2 ≡ f → found.blocks ≡ blocks → IsOnWay f blocks block at seen0.members found0.members seen.members found.members → IsLeft blocks seen.members at → seen' ≡ with_block seen at
    → next_of (f2 at) ≡ at' → ((b : ℕ) → contains found'.members b ≡ (contains found.members b || (nat_lt b found.blocks && names_directory (link_items (f2 at)) b))) → IsOnWay f blocks block at' seen0.members found0.members seen'.members found'.members
way_step f f2 blocks block at at' seen0 found0 seen seen' found found' same size way left put to added =
    subst (λ (s : BlockSet). IsOnWay f blocks block at' seen0.members found0.members s.members found'.members) (sym put)
    (way_on f blocks block at at' seen0.members found0.members seen.members found.members found'.members way left (subst (λ (g : Blocks). next_of (g at) ≡ at') same to)
    (λ b. added b ∙ (λ i. contains found.members b || (nat_lt b (size i) && names_directory (link_items (same i at)) b))))

pub loud_step : (quiet : FinSet nat_cmp) (blocks at n : ℕ) (seen seen' : BlockSet) → n ≡ blocks → IsLeft blocks seen.members at → seen' ≡ with_block seen at
    → count_below (is_loud quiet seen'.members) n ≡ count_below (is_loud quiet seen.members) n + cond (contains quiet at) 0 1
loud_step quiet blocks at n seen seen' size left put =
    let below : at < n = omega (arith, size, left.below) in
    ap (λ (s : BlockSet). count_below (is_loud quiet s.members) n) put ∙ loud_put quiet (contains seen.members) (contains (insert seen.members at)) at (contains_insert seen.members at) left.new n below

pub measure_falls : (blocks at : ℕ) (seen seen' : BlockSet) → seen.blocks ≡ blocks → IsLeft blocks seen.members at → seen' ≡ with_block seen at → seen'.blocks - count_below (contains seen'.members) seen'.blocks < seen.blocks - count_below (contains seen.members) seen.blocks
measure_falls blocks at seen seen' size left put =
    let below : at < seen.blocks = omega (arith, size, left.below) in
    let same : seen'.blocks ≡ seen.blocks = ap (λ (s : BlockSet). s.blocks) put in
    let more : count_below (contains seen'.members) seen.blocks ≡ count_below (contains seen.members) seen.blocks + 1 =
    ap (λ (s : BlockSet). count_below (contains s.members) seen.blocks) put ∙ counted_more seen.members at seen.blocks below left.new in
    let most : count_below (contains seen'.members) seen.blocks ≤ seen.blocks = count_most (contains seen'.members) seen.blocks in
    subst (λ (n : ℕ). n - count_below (contains seen'.members) n < seen.blocks - count_below (contains seen.members) seen.blocks) (sym same) (omega (arith, more, most))

pub later_has : (f h : Blocks) (blocks blocks' : ℕ) (roots list : List ℕ) → h ≡ f → blocks' ≡ blocks → HasDirectories f blocks roots list → HasDirectories h blocks' roots list
later_has f h blocks blocks' roots list same size all = subst (λ (e : Blocks). HasDirectories e blocks' roots list) (sym same) (subst (λ (n : ℕ). HasDirectories f n roots list) (sym size) all)

-- the nodes of a directory of the level were read, as the call says of the nodes that it was given
pub level_step : (f f2 : Blocks) (blocks blocks2 i : ℕ) (level seen next seen' next' : FinSet nat_cmp) → f2 ≡ f → blocks2 ≡ blocks → IsLevelRead f blocks i level seen next → contains level i ≡ true → (AreFoundBelow f2 blocks2 seen next → AreFoundBelow f2 blocks2 seen' next') → IsSeen f2 seen' i → AreOf f2 blocks2 i next next'
    → ((b : ℕ) → contains seen b ≡ true → contains seen' b ≡ true) → ((roots list : List ℕ) → HasDirectories f2 blocks2 roots list → Contains list i → AreAmong list seen seen' × AreAmong list next next') → IsLevelRead f blocks (i + 1) level seen' next'
level_step f f2 blocks blocks2 i level seen next seen' next' same size is in_level read here of stays among =
    level_on f blocks i level seen next seen' next' is in_level
    (subst (λ (h : Blocks). AreFoundBelow h blocks seen next → AreFoundBelow h blocks seen' next') same (subst (λ (n : ℕ). AreFoundBelow f2 n seen next → AreFoundBelow f2 n seen' next') size read))
    (subst (λ (h : Blocks). IsSeen h seen' i) same here)
    (subst (λ (h : Blocks). AreOf h blocks i next next') same (subst (λ (n : ℕ). AreOf f2 n i next next') size of))
    stays
    (λ roots list has within. among roots list (later_has f f2 blocks blocks2 roots list same size has) within)

-- a block without a directory node names nothing
pub no_link : (f : Blocks) (block : ℕ) → f block ≡ None → link_of (f block) ≡ None
no_link f block none = ap link_of none

pub level_more : (list : List ℕ) (seen seen' : FinSet nat_cmp) → ((b : ℕ) → contains seen b ≡ true → Contains list b) → AreAmong list seen seen' → (b : ℕ) → contains seen' b ≡ true → Contains list b
level_more list seen seen' within more b here = elim (more b here) [ inl was ↦ within b was | inr new ↦ new ]

pub ends_here : (f : Blocks) (blocks at : ℕ) (seen : BlockSet) (left : Bool) → f 0 ≡ None → ((b : ℕ) → blocks ≤ b → f b ≡ None) → seen.blocks ≡ blocks → left ≡ is_left seen.blocks seen.members at → left ≡ false → IsSeen f seen.members at
ends_here f blocks at seen left none beyond size is over = left_not f blocks seen.members at none beyond (ap (λ (n : ℕ). is_left n seen.members at) (sym size) ∙ sym is ∙ over)

-- the same, where the block was put into the set and its node not read
pub stays_put : (f : Blocks) (blocks block at : ℕ) (seen0 found0 seen seen' found : BlockSet) → IsOnWay f blocks block at seen0.members found0.members seen.members found.members → seen' ≡ with_block seen at → (b : ℕ) → contains seen0.members b ≡ true → contains seen'.members b ≡ true
stays_put f blocks block at seen0 found0 seen seen' found way put b here =
    subst (λ (s : BlockSet). contains s.members b ≡ true) (sym put) (stays_more f blocks block at seen0.members found0.members seen.members found.members way b here)

pub among_put : (f : Blocks) (blocks block at : ℕ) (seen0 found0 seen seen' found found' : BlockSet) → IsOnWay f blocks block at seen0.members found0.members seen.members found.members → IsLeft blocks seen.members at → seen' ≡ with_block seen at → found' ≡ found
    → (roots list : List ℕ) → HasDirectories f blocks roots list → Contains list block → AreAmong list seen0.members seen'.members × AreAmong list found0.members found'.members
among_put f blocks block at seen0 found0 seen seen' found found' way left put same roots list has within = (
  subst (λ (s : BlockSet). AreAmong list seen0.members s.members) (sym put) (seen_more f blocks block at seen0.members found0.members seen.members found.members way left roots list has within),
  subst (λ (s : BlockSet). AreAmong list found0.members s.members) (sym same) (way.found_in roots list has within),
)

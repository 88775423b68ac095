-- Nodes of a directory written before others, one after the other from the last on.
use Rattle.std.proofs.Common.{◌≡◌, ℕ, zero, suc, ◌+◌, ◌-◌, ◌*◌, ◌%◌, ◌<◌, ◌≤◌, ◌⊎◌, inl, inr, Bool, true, false, eqb, Option, Some, None, Result, Ok, Err, List, [], ◌∷◌, ◌++◌, length, take, drop, append_assoc, sym, ap, subst, refl, ◌∙◌, arith}
use Rattle.std.specs.Prelude.{IfOk, Contains, min}
use Rattle.plain_trees.specs.Trees.{nodes_for}
use Rattle.std.specs.Option.{option_map_or}
use Rattle.std.proofs.lemmas.Bool.{lt-ltb, cases_lt}
use Rattle.std.proofs.lemmas.List.{take-append-drop, take_all, length-take, length-drop, length-append, drop-drop}
use Rattle.fs_types.specs.declared.limits.TheConstants.{ANCHORS, NODE_ENTRIES}
use Rattle.fs_types.specs.declared.fault.Fault.{Fault}
use Rattle.node_format.specs.Items.{Item, are_ascending}
use Rattle.node_format.specs.Links.{Link, link, link_at}
use Rattle.nodes.specs.Bodies.{Blocks}
use Rattle.nodes.specs.Chains.{link_of, is_chained, next_of, is_later, entries_after, blocks_after, most_after, entries_in, chain}
use Rattle.nodes.specs.Rewritten.{IsFreshNode}
use Rattle.nodes.proofs.Chains.{after_same, step_law, first_law, none_after, AfterParts, after_parts, listed_after, chain_is, after_raise}
use Rattle.directory.specs.Written.{IsOneMore, IsKeptAfter, IsPut, PutsBefore, IsDirectoryPut, PutsDirectory}

none_some : (bytes : List ℕ) (found : Option (List ℕ)) → found ≡ None → found ≡ Some bytes → ⊥
none_some bytes found none some = let e : None ≡ Some bytes = sym none ∙ some in cc

some_block : (f : Blocks) (to : ℕ) (bytes : List ℕ) → ((b : ℕ) → b < ANCHORS → f b ≡ None) → f to ≡ Some bytes → 0 < to
some_block f zero bytes below is = absurd (none_some bytes (f zero) (below zero (omega arith)) is)
some_block f (suc to) bytes below is = omega arith

-- what was written is one node more
pub one_more : (new : Blocks) (kept kept' : ℕ → Bool) (next : ℕ) (bytes : List ℕ) (items : List Item) (r : Result ℕ Fault) → link_at bytes ≡ Some (link true next items) → ((b : ℕ) → b < ANCHORS → new b ≡ None)
    → IfOk r (λ to. kept to ≡ false) → IfOk r (λ to. kept' to ≡ true) → IfOk r (λ to. new to ≡ Some bytes) → IfOk r (λ to. IsOneMore kept new kept' next to items)
one_more new kept kept' next bytes items (Err fault) read below fresh held written = tt
one_more new kept kept' next bytes items (Ok to) read below fresh held written = record { fresh = fresh; is_kept = held; some = some_block new to bytes below written; node = ap link_of written ∙ read }

-- ---- nodes that were written stay while others are written

later_kept : (f0 f1 : Blocks) (k0 k1 : ℕ → Bool) → ((b : ℕ) → k0 b ≡ true → f1 b ≡ f0 b) → ((b : ℕ) → k0 b ≡ true → k1 b ≡ true) → (n next : ℕ) (items : List Item) → IsKeptAfter f0 k0 n next items → IsKeptAfter f1 k1 n next items
later_kept f0 f1 k0 k1 same stays n next items was =
    let frame = after_same f0 f1 n next (λ b inside. same b (was.held b inside)) in
    record { entries = frame.0 ∙ was.entries; held = λ b inside. stays b (was.held b (subst (λ (bs : List ℕ). Contains bs b) frame.1 inside)) }

-- one node before others
put_before : (f0 f1 : Blocks) (k0 k1 : ℕ → Bool) (n next to : ℕ) (items more : List Item) → ((b : ℕ) → k0 b ≡ true → f1 b ≡ f0 b) → ((b : ℕ) → k0 b ≡ true → k1 b ≡ true)
    → 0 < length items → IsOneMore k0 f1 k1 next to items → IsKeptAfter f0 k0 n next more → IsKeptAfter f1 k1 (suc n) to (items ++ more)
put_before f0 f1 k0 k1 n next to items more same stays some one was =
    let rest = later_kept f0 f1 k0 k1 same stays n next more was in
    let not_zero : eqb to 0 ≡ false = let more = one.some in grind arith in
    let good : is_later (link true next items) ≡ true = lt-ltb 0 (length items) some in
    record {
      entries = step_law f1 n to (link true next items) more one.some one.node good rest.entries;
      held = λ b inside. among b (subst (λ (bs : List ℕ). Contains bs b) (blocks_are not_zero) inside) rest.held;
    }
  where
    to_is : next_of (f1 to) ≡ next
    to_is = ap (λ (o : Option Link). option_map_or (λ x. x.next) o 0) one.node

    blocks_are : eqb to 0 ≡ false → blocks_after (suc n) f1 to ≡ to ∷ blocks_after n f1 next
    blocks_are some = rw some (ap (λ (b : ℕ). to ∷ blocks_after n f1 b) to_is)

    among : (b : ℕ) → Contains (to ∷ blocks_after n f1 next) b → ((c : ℕ) → Contains (blocks_after n f1 next) c → k1 c ≡ true) → k1 b ≡ true
    among b (zero, lt, e) held = ap k1 (sym e) ∙ one.is_kept
    among b (suc k, lt, e) held = held b (k, omega (arith, lt), e)

-- which blocks it has then
put_blocks : (f0 f1 : Blocks) (k0 k1 : ℕ → Bool) (n next to : ℕ) (items more : List Item) → ((b : ℕ) → k0 b ≡ true → f1 b ≡ f0 b) → IsOneMore k0 f1 k1 next to items → IsKeptAfter f0 k0 n next more → blocks_after (suc n) f1 to ≡ to ∷ blocks_after n f0 next
put_blocks f0 f1 k0 k1 n next to items more same one was =
    let frame = after_same f0 f1 n next (λ b inside. same b (was.held b inside)) in
    let some = one.some in
    let not_zero : eqb to 0 ≡ false = grind arith in
    let to_is : next_of (f1 to) ≡ next = ap (λ (o : Option Link). option_map_or (λ x. x.next) o 0) one.node in
    rw not_zero (ap (λ (b : ℕ). to ∷ blocks_after n f1 b) to_is ∙ ap (λ (bs : List ℕ). to ∷ bs) frame.1)

-- the entries of a group, as they are cut out
pub group_part : (list part : List Item) (group held : ℕ) → held ≡ min (length list - NODE_ENTRIES * group) NODE_ENTRIES → part ≡ take held (drop (NODE_ENTRIES * group) list) → part ≡ take NODE_ENTRIES (drop (NODE_ENTRIES * group) list)
group_part list part group held size is = is ∙ elim (cases_lt (length list - NODE_ENTRIES * group) NODE_ENTRIES) [
  | inl few ↦ take_all held (drop (NODE_ENTRIES * group) list) (omega (arith, left, few, size)) ∙ sym (take_all NODE_ENTRIES (drop (NODE_ENTRIES * group) list) (omega (arith, left, few)))
  | inr many ↦ let all : held ≡ NODE_ENTRIES = omega (arith, many, size) in ap (λ (n : ℕ). take n (drop (NODE_ENTRIES * group) list)) all
]
  where
    left : length (drop (NODE_ENTRIES * group) list) ≡ length list - NODE_ENTRIES * group
    left = length-drop (NODE_ENTRIES * group) list

-- a node that was written is one of a chain
pub chained_is : (f : Blocks) (to next : ℕ) (items : List Item) → link_of (f to) ≡ Some (link true next items) → is_chained (f to) ≡ true
chained_is f to next items is = ap (λ (o : Option Link). option_map_or (λ x. x.chained) o false) is

-- so it is a fresh one
one_fresh : (kept was : ℕ → Bool) (new : Blocks) (kept' : ℕ → Bool) (next to b : ℕ) (items : List Item) → ((b : ℕ) → was b ≡ false → kept b ≡ false) → IsOneMore was new kept' next to items → to ≡ b → IsFreshNode kept new b
one_fresh kept was new kept' next to b items was_free one is = subst (IsFreshNode kept new) is (was_free to one.fresh, chained_is new to next items one.node)

-- a group more before others: the state at first (0), with the groups after it written (1), and with it too (2)
pub one_group : (f0 f1 f2 : Blocks) (k0 k1 k2 : ℕ → Bool) (groups group n tail next to : ℕ) (items more : List Item) → ((b : ℕ) → k1 b ≡ true → f2 b ≡ f1 b) → ((b : ℕ) → k1 b ≡ true → k2 b ≡ true) → ((b : ℕ) → k1 b ≡ false → k0 b ≡ false)
    → 0 < group → group ≤ groups → NODE_ENTRIES * (group - 1) < length items → IsOneMore k1 f2 k2 next to (take NODE_ENTRIES (drop (NODE_ENTRIES * (group - 1)) items)) → IsPut f0 k0 n tail f1 k1 (groups - group + n) next (drop (NODE_ENTRIES * group) items ++ more)
    → IsPut f0 k0 n tail f2 k2 (groups - (group - 1) + n) to (drop (NODE_ENTRIES * (group - 1)) items ++ more)
one_group f0 f1 f2 k0 k1 k2 groups group n tail next to items more same stays was_free some within less one was =
    let part = take NODE_ENTRIES (drop (NODE_ENTRIES * (group - 1)) items) in
    let begins : 0 < length part = omega (arith, length-take NODE_ENTRIES (drop (NODE_ENTRIES * (group - 1)) items), length-drop (NODE_ENTRIES * (group - 1)) items) in
    let put = put_before f1 f2 k1 k2 (groups - group + n) next to part (drop (NODE_ENTRIES * group) items ++ more) same stays begins one was.here in
    let blocks = put_blocks f1 f2 k1 k2 (groups - group + n) next to part (drop (NODE_ENTRIES * group) items ++ more) same one was.here in
    let fuel : suc (groups - group + n) ≡ groups - (group - 1) + n = omega arith in
    let at : NODE_ENTRIES * (group - 1) + NODE_ENTRIES ≡ NODE_ENTRIES * group = omega arith in
    let rest : drop NODE_ENTRIES (drop (NODE_ENTRIES * (group - 1)) items) ≡ drop (NODE_ENTRIES * group) items = drop-drop NODE_ENTRIES (NODE_ENTRIES * (group - 1)) items ∙ ap (λ (k : ℕ). drop k items) at in
    let all : part ++ (drop (NODE_ENTRIES * group) items ++ more) ≡ drop (NODE_ENTRIES * (group - 1)) items ++ more =
    sym (append_assoc part (drop (NODE_ENTRIES * group) items) more) ∙ ap (λ (xs : List Item). xs ++ more) (ap (λ (xs : List Item). part ++ xs) (sym rest) ∙ take-append-drop NODE_ENTRIES (drop (NODE_ENTRIES * (group - 1)) items)) in
    let made : IsPut f0 k0 n tail f2 k2 (suc (groups - group + n)) to (drop (NODE_ENTRIES * (group - 1)) items ++ more) = record {
      here = subst (IsKeptAfter f2 k2 (suc (groups - group + n)) to) all put;
      fresh = λ b inside. among b (subst (λ (bs : List ℕ). Contains bs b) blocks inside);
    } in
    subst (λ (k : ℕ). IsPut f0 k0 n tail f2 k2 k to (drop (NODE_ENTRIES * (group - 1)) items ++ more)) fuel made
  where
    among : (b : ℕ) → Contains (to ∷ blocks_after (groups - group + n) f1 next) b → IsFreshNode k0 f2 b ⊎ Contains (blocks_after n f0 tail) b
    among b (zero, lt, e) = inl (one_fresh k0 k1 f2 k2 next to b (take NODE_ENTRIES (drop (NODE_ENTRIES * (group - 1)) items)) was_free one e)
    among b (suc k, lt, e) =
        let inside : Contains (blocks_after (groups - group + n) f1 next) b = (k, omega (arith, lt), e) in
        elim (was.fresh b inside) [ inl free ↦ inl (free.0, ap is_chained (same b (was.here.held b inside)) ∙ free.1) | inr stood ↦ inr stood ]

pub no_items : (items : List Item) → length items ≡ 0 → items ≡ []
no_items [] none = refl
no_items (item ∷ items) none = absurd (omega arith)

-- no group is written yet
pub no_group : (f : Blocks) (kept : ℕ → Bool) (groups group tail : ℕ) (items : List Item) → group ≡ groups → length items ≤ NODE_ENTRIES * group → PutsBefore f kept f kept (groups - group) tail tail (drop (NODE_ENTRIES * group) items)
no_group f kept groups group tail items all long n more was =
    let none : drop (NODE_ENTRIES * group) items ≡ [] = no_items (drop (NODE_ENTRIES * group) items) (omega (arith, long, length-drop (NODE_ENTRIES * group) items)) in
    let left : n ≡ groups - group + n = omega arith in
    let put : IsPut f kept n tail f kept n tail more = record { here = was; fresh = λ b inside. inr inside } in
    subst (λ (j : ℕ). IsPut f kept n tail f kept j tail (drop (NODE_ENTRIES * group) items ++ more)) left (subst (λ (xs : List Item). IsPut f kept n tail f kept n tail (xs ++ more)) (sym none) put)

-- ---- nodes as a directory

-- more nodes than there are may be allowed
blocks_more : (f : Blocks) (n next : ℕ) (items : List Item) → entries_after n f next ≡ Some items → blocks_after (suc n) f next ≡ blocks_after n f next
blocks_more f zero next items e = rw (none_after f next items e).0 refl
blocks_more f (suc n) next items e = on (after_parts f n next items e) (blocks_more f n)
  where
    on : AfterParts f n next items → ((c : ℕ) (more : List Item) → entries_after n f c ≡ Some more → blocks_after (suc n) f c ≡ blocks_after n f c) → blocks_after (suc (suc n)) f next ≡ blocks_after (suc n) f next
    on (inl none) again = rw none.0 refl
    on (inr p) again = listed_after f (suc n) next p.some p.l p.is ∙ ap (λ (bs : List ℕ). next ∷ bs) (again p.l.next p.more p.rest) ∙ sym (listed_after f n next p.some p.l p.is)

blocks_raise : (f : Blocks) (n k next : ℕ) (items : List Item) → entries_after n f next ≡ Some items → blocks_after (k + n) f next ≡ blocks_after n f next
blocks_raise f n zero next items is = let e : 0 + n ≡ n = omega arith in ap (λ (j : ℕ). blocks_after j f next) e
blocks_raise f n (suc k) next items is =
    let e : suc k + n ≡ suc (k + n) = omega arith in
    ap (λ (j : ℕ). blocks_after j f next) e ∙ blocks_more f (k + n) next items (after_raise f n k next items is) ∙ blocks_raise f n k next items is

directory_put : (old new : Blocks) (kept kept' : ℕ → Bool) (n tail all to : ℕ) (items : List Item) → all ≤ most_after → 0 < length items → are_ascending items ≡ true → IsPut old kept n tail new kept' (suc all) to items → IsDirectoryPut old kept n tail new kept' to items
directory_put old new kept kept' n tail all to items few some order put = on (after_parts new all to items put.here.entries)
  where
    on : AfterParts new all to items → IsDirectoryPut old kept n tail new kept' to items
    on (inl none) = absurd (omega (arith, some, ap length none.1))
    on (inr p) =
        let enough : (most_after - all) + all ≡ most_after = omega arith in
        let rest : blocks_after most_after new p.l.next ≡ blocks_after all new p.l.next = subst (λ (j : ℕ). blocks_after j new p.l.next ≡ blocks_after all new p.l.next) enough (blocks_raise new all (most_after - all) p.l.next p.more p.rest) in
        let same : chain new to ≡ blocks_after (suc all) new to = chain_is new to p.l p.is ∙ ap (λ (bs : List ℕ). to ∷ bs) rest ∙ sym (listed_after new all to p.some p.l p.is) in
        record {
          entries = first_law new all to p.l p.more few p.is p.rest (ap are_ascending (sym p.parts) ∙ order) ∙ ap (λ (xs : List Item). Some xs) (sym p.parts);
          nodes = λ b inside. let here = subst (λ (bs : List ℕ). Contains bs b) same inside in (put.here.held b here, put.fresh b here);
        }

pub last_tail : (tail count : ℕ) → (tail ≡ 0) ⊎ ((0 < count) × (count % NODE_ENTRIES ≡ 0)) → count ≡ 0 → tail ≡ 0
last_tail tail count (inl last) none = last
last_tail tail count (inr (some, whole)) none = absurd (omega (arith, some, none))

-- entries, one or more, as a directory
pub puts_directory : (old new : Blocks) (kept kept' : ℕ → Bool) (tail to : ℕ) (items : List Item) → 0 < length items → PutsBefore old kept new kept' (nodes_for (length items)) tail to items → PutsDirectory old kept new kept' tail to items
puts_directory old new kept kept' tail to items some put n more few order was =
    let groups = nodes_for (length items) in
    let nodes : groups + n ≡ suc (groups - 1 + n) = omega arith in
    directory_put old new kept kept' n tail (groups - 1 + n) to (items ++ more) (omega (arith, few)) (omega (arith, some, length-append items more)) order
    (subst (λ (j : ℕ). IsPut old kept n tail new kept' j to (items ++ more)) nodes (put n more was))

-- a node of a chain that has no entries is a directory without entries
pub empty_written : (f : Blocks) (block : ℕ) → link_of (f block) ≡ Some (link true 0 []) → entries_in f block ≡ Some []
empty_written f block is = first_law f 0 block (link true 0 []) [] (omega arith) is refl refl

-- no entries, in one node
pub puts_empty : (old new : Blocks) (kept was kept' : ℕ → Bool) (tail to : ℕ) (items none : List Item) → ((b : ℕ) → was b ≡ false → kept b ≡ false) → tail ≡ 0 → items ≡ [] → none ≡ [] → IsOneMore was new kept' 0 to none → PutsDirectory old kept new kept' tail to items
puts_empty old new kept was kept' tail to items none was_free last is_none none_is one n more few order stood =
    let no_more : more ≡ [] = nothing n stood.entries in
    let nothing_left : items ++ more ≡ [] = (λ i. is_none i ++ no_more i) in
    let node : link_of (new to) ≡ Some (link true 0 []) = one.node ∙ ap (λ (xs : List Item). Some (link true 0 xs)) none_is in
    let alone : chain new to ≡ to ∷ [] = chain_is new to (link true 0 []) node ∙ ap (λ (bs : List ℕ). to ∷ bs) (end most_after) in
    record {
      entries = empty_written new to node ∙ ap (λ (xs : List Item). Some xs) (sym nothing_left);
      nodes = λ b inside. only b (subst (λ (bs : List ℕ). Contains bs b) alone inside);
    }
  where
    end : (n : ℕ) → blocks_after n new 0 ≡ []
    end zero = refl
    end (suc n) = refl

    nothing : (n : ℕ) → entries_after n old tail ≡ Some more → more ≡ []
    nothing n is = last_one n (subst (λ (b : ℕ). entries_after n old b ≡ Some more) last is)
      where
        last_one : (n : ℕ) → entries_after n old 0 ≡ Some more → more ≡ []
        last_one zero is = (none_after old 0 more is).1
        last_one (suc n) is = cc

    only : (b : ℕ) → Contains (to ∷ []) b → (kept' b ≡ true) × (IsFreshNode kept new b ⊎ Contains (blocks_after n old tail) b)
    only b (zero, lt, e) = (ap kept' (sym e) ∙ one.is_kept, inl (one_fresh kept was new kept' 0 to b none was_free one e))
    only b (suc k, lt, e) = absurd (omega (arith, lt))

-- the first group, before the others, or the node without entries
pub first_group : (f0 f1 f2 : Blocks) (k0 k1 k2 : ℕ → Bool) (group tail next : ℕ) (items : List Item) (r : Result ℕ Fault) → ((b : ℕ) → k1 b ≡ true → f2 b ≡ f1 b) → ((b : ℕ) → k1 b ≡ true → k2 b ≡ true) → ((b : ℕ) → k1 b ≡ false → k0 b ≡ false)
    → group ≡ 1 → (next ≡ 0) ⊎ (NODE_ENTRIES ≤ length items) → (tail ≡ 0) ⊎ ((0 < length items) × (length items % NODE_ENTRIES ≡ 0)) → PutsBefore f0 k0 f1 k1 (nodes_for (length items) - group) tail next (drop (NODE_ENTRIES * group) items)
    → IfOk r (λ to. IsOneMore k1 f2 k2 next to (take NODE_ENTRIES items)) → IfOk r (λ to. PutsDirectory f0 k0 f2 k2 tail to items)
first_group f0 f1 f2 k0 k1 k2 group tail next items (Err fault) same stays was_free last full fills put one = tt
first_group f0 f1 f2 k0 k1 k2 group tail next items (Ok to) same stays was_free last full fills put one = elim (cases_lt 0 (length items)) [
  | inl some ↦ puts_directory f0 f2 k0 k2 tail to items some (λ n more was.
      let groups = nodes_for (length items) in
      let here = subst (λ (k : ℕ). IsPut f0 k0 n tail f1 k1 (groups - k + n) next (drop (NODE_ENTRIES * k) items ++ more)) last (put n more was) in
      let all : groups - (1 - 1) + n ≡ groups + n = omega arith in
      subst (λ (k : ℕ). IsPut f0 k0 n tail f2 k2 k to (items ++ more)) all (one_group f0 f1 f2 k0 k1 k2 groups 1 n tail next to items more same stays was_free (omega arith) (omega arith) some one here))
  | inr none ↦
      let nothing : items ≡ [] = no_items items (omega (arith, none)) in
      let ends : next ≡ 0 = elim full [ inl ends ↦ ends | inr many ↦ absurd (omega (arith, none, many)) ] in
      puts_empty f0 f2 k0 k1 k2 tail to items (take NODE_ENTRIES items) was_free (last_tail tail (length items) fills (omega (arith, none))) nothing (ap (take NODE_ENTRIES) nothing) (subst (λ (n : ℕ). IsOneMore k1 f2 k2 n to (take NODE_ENTRIES items)) ends one)
]

-- The entries of a directory read node by node, as far as an edit wants them.
use Rattle.std.proofs.Common.{◌≡◌, ℕ, zero, suc, ◌+◌, ◌-◌, ◌*◌, ◌<◌, ◌≤◌, ◌⊎◌, inl, inr, Bool, true, false, cond, ◌&&◌, ◌||◌, eqb, Option, Some, None, unwrap_or, List, [], ◌∷◌, ◌++◌, length, append_assoc, append-nil, refl, sym, ap, subst, ◌∙◌, arith}
use Rattle.std.specs.Prelude.{Contains, IsSome, nat_lt}
use Rattle.std.specs.Option.{is_some}
use Rattle.std.proofs.lemmas.Bool.{true≢false, eqb-true, ltb-true}
use Rattle.std.proofs.lemmas.List.{length-append}
use Rattle.fs_types.specs.declared.limits.TheConstants.{NODE_ENTRIES}
use Rattle.fs_types.specs.Names.{Name, same_name}
use Rattle.plain_trees.specs.Trees.{nodes_for}
use Rattle.node_format.specs.Items.{Item, named_place, are_ascending}
use Rattle.node_format.specs.Links.{Link}
use Rattle.node_format.specs.Order.{both_true, ascending_parts}
use Rattle.node_format.specs.declared.place.Place.{Place}
use Rattle.nodes.specs.Bodies.{Blocks}
use Rattle.nodes.specs.Chains.{link_of, entries_after, blocks_after, most_after, is_later, entries_in, items_in}
use Rattle.nodes.proofs.Chains.{by_test, tail_of, none_after, HasNodeAfter, after_parts, first_parts, listed_after, chain_is}
use Rattle.nodes.proofs.ChainCounts.{linked_filled, most_of}
use Rattle.directory.specs.Counts.{entries_to, read_nodes}
use Rattle.directory.specs.Reads.{IsReadTo, MayAppend, IsAppended, is_enough, IsEnough}

-- ---- names in two lists

pub named_front : (front back : List Item) (name : Name) → IsSome (named_place front name) → named_place (front ++ back) name ≡ named_place front name
named_front [] back name some = absurd (true≢false (sym some))
named_front (item ∷ front) back name some = by_test (same_name item.name name)
    (λ same. rw same refl)
    (λ differs. rw differs (named_front front back name (sym (ap (λ (t : Bool). is_some (cond t (Some item.place) (named_place front name))) differs) ∙ some)))

pub named_back : (front back : List Item) (name : Name) → named_place front name ≡ None → named_place (front ++ back) name ≡ named_place back name
named_back [] back name none = refl
named_back (item ∷ front) back name none = by_test (same_name item.name name)
    (λ same. absurd (let e : Some item.place ≡ None = sym (ap (λ (t : Bool). cond t (Some item.place) (named_place front name)) same) ∙ none in cc))
    (λ differs. rw differs (named_back front back name (sym (ap (λ (t : Bool). cond t (Some item.place) (named_place front name)) differs) ∙ none)))

pub entries_to-front : (front back : List Item) (name : Name) → IsSome (named_place front name) → entries_to (front ++ back) name ≡ entries_to front name
entries_to-front [] back name some = absurd (true≢false (sym some))
entries_to-front (item ∷ front) back name some = by_test (same_name item.name name)
    (λ same. rw same refl)
    (λ differs. rw differs (ap suc (entries_to-front front back name (sym (ap (λ (t : Bool). is_some (cond t (Some item.place) (named_place front name))) differs) ∙ some))))

pub entries_to-back : (front back : List Item) (name : Name) → named_place front name ≡ None → entries_to (front ++ back) name ≡ length front + entries_to back name
entries_to-back [] back name none = omega arith
entries_to-back (item ∷ front) back name none = by_test (same_name item.name name)
    (λ same. absurd (let e : Some item.place ≡ None = sym (ap (λ (t : Bool). cond t (Some item.place) (named_place front name)) same) ∙ none in cc))
    (λ differs. rw differs (let rest = entries_to-back front back name (sym (ap (λ (t : Bool). cond t (Some item.place) (named_place front name)) differs) ∙ none) in omega (arith, rest)))

pub entries_to-most : (items : List Item) (name : Name) → entries_to items name ≤ length items
entries_to-most [] name = omega arith
entries_to-most (item ∷ items) name = by_test (same_name item.name name) (λ same. rw same (omega arith)) (λ differs. rw differs (omega (arith, entries_to-most items name)))

entries_to-some : (items : List Item) (name : Name) → 0 < length items → 0 < entries_to items name
entries_to-some [] name some = absurd (omega arith)
entries_to-some (item ∷ items) name some = by_test (same_name item.name name) (λ same. rw same (omega arith)) (λ differs. rw differs (omega arith))

-- ---- the first node, and the next one

length_later : (l : Link) → is_later l ≡ true → 0 < length l.items
length_later l good = ltb-true _ _ (both_true l.chained (nat_lt 0 (length l.items)) good).1

-- what a directory's first node says may be read
pub may_begin : (f : Blocks) (block : ℕ) → IsSome (entries_in f block) → MayAppend (link_of (f block)) []
may_begin f block some = on (entries_in f block) refl some
  where
    on : (o : Option (List Item)) → entries_in f block ≡ o → IsSome o → MayAppend (link_of (f block)) []
    on None is some = absurd (true≢false (sym some))
    on (Some all) is some =
        let p = first_parts f block all is in
        let filled = linked_filled (f block) p.l p.is in
        subst (λ (o : Option Link). MayAppend o []) (sym p.is) ((ascending_parts p.l.items p.more (ap are_ascending (sym p.parts) ∙ p.order)).front_ascends, omega (arith, filled.few))

-- reading that goes on: the entries so far, in so many nodes, and what is known of the name
pub record GoesOn (f : Blocks) (block left nodes : ℕ) (items : List Item) (tail : ℕ) (name : Name) (puts has_name : Bool) : Type 0 where
  pub read : IsReadTo f block left items tail
  pub counted : nodes_for (length items) ≡ nodes
  pub needed : puts ≡ true → nodes_for (length items) ≡ nodes_for (entries_to items name)
  pub seen : puts ≡ true → has_name ≡ is_some (named_place items name)

appended_some : (o : Option Link) (l : Link) (name : Name) (old new : List Item) (has_name : Bool) (next : ℕ) → o ≡ Some l → IsAppended o name old new has_name next → (new ≡ old ++ l.items) × (has_name ≡ is_some (named_place l.items name)) × (next ≡ l.next)
appended_some o l name old new has_name next is added = subst (λ (o : Option Link). IsAppended o name old new has_name next) is added

pub begins : (f : Blocks) (block : ℕ) (old new : List Item) (tail : ℕ) (name : Name) (puts has_name : Bool) → old ≡ [] → IsSome (entries_in f block) → IsAppended (link_of (f block)) name old new has_name tail → GoesOn f block most_after 1 new tail name puts has_name
begins f block old new tail name puts has_name none some added = on (entries_in f block) refl some
  where
    on : (o : Option (List Item)) → entries_in f block ≡ o → IsSome o → GoesOn f block most_after 1 new tail name puts has_name
    on None is some = absurd (true≢false (sym some))
    on (Some all) is some =
        let p = first_parts f block all is in
        let filled = linked_filled (f block) p.l p.is in
        let a = appended_some (link_of (f block)) p.l name old new has_name tail p.is added in
        let new_is : new ≡ p.l.items = a.0 ∙ ap (λ (xs : List Item). xs ++ p.l.items) none in
        let size : length new ≡ length p.l.items = ap length new_is in
        record {
          read = record {
            more = p.more;
            all = is ∙ ap (λ (xs : List Item). Some xs) (p.parts ∙ ap (λ (xs : List Item). xs ++ p.more) (sym new_is));
            rest = ap (entries_after most_after f) a.2 ∙ p.rest;
            within = λ b inside. subst (λ (bs : List ℕ). Contains bs b) (sym (chain_is f block p.l p.is)) (tail_of block b (blocks_after most_after f p.l.next) (subst (λ (next : ℕ). Contains (blocks_after most_after f next) b) a.2 inside));
            full = elim filled.full [ inl last ↦ inl (a.2 ∙ last) | inr full ↦ inr (omega (arith, size, full)) ];
            few = omega (arith, size, filled.few);
          };
          counted = omega (arith, size, filled.few);
          needed = λ puts. omega (arith, size, filled.few, entries_to-most new name);
          seen = λ puts. a.1 ∙ ap (λ (xs : List Item). is_some (named_place xs name)) (sym new_is);
        }

-- ---- whether more is wanted

pub not_last : (puts has_name : Bool) (next : ℕ) → is_enough puts has_name next ≡ false → eqb next 0 ≡ false
not_last puts has_name next e = on (eqb next 0) e
  where
    on : (t : Bool) → (t || (puts && has_name)) ≡ false → t ≡ false
    on true e = absurd (true≢false e)
    on false e = refl

not_found : (puts has_name : Bool) (next : ℕ) → is_enough puts has_name next ≡ false → puts ≡ true → has_name ≡ false
not_found puts has_name next e is = on (eqb next 0) (ap (λ (p : Bool). eqb next 0 || (p && has_name)) (sym is) ∙ e)
  where
    on : (t : Bool) → (t || (true && has_name)) ≡ false → has_name ≡ false
    on true e = absurd (true≢false e)
    on false e = e

none_of : {A : Type 0} (o : Option A) → is_some o ≡ false → o ≡ None
none_of None e = refl
none_of (Some x) e = absurd (true≢false e)

missing : (puts has_name : Bool) (next : ℕ) (items : List Item) (name : Name) → is_enough puts has_name next ≡ false → (puts ≡ true → has_name ≡ is_some (named_place items name)) → puts ≡ true → named_place items name ≡ None
missing puts has_name next items name more seen is = none_of (named_place items name) (sym (seen is) ∙ not_found puts has_name next more is)

-- the node after those that were read
abbrev pub HasMore : Blocks → ℕ → ℕ → List Item → ℕ → Type 0
HasMore f block left items tail = (n : ℕ) × (more : List Item) × (left ≡ suc n) × (entries_in f block ≡ Some (items ++ more)) × HasNodeAfter f n tail more

has_more : (f : Blocks) (block left : ℕ) (items : List Item) (tail : ℕ) → IsReadTo f block left items tail → eqb tail 0 ≡ false → HasMore f block left items tail
has_more f block zero items tail r some = absurd (true≢false (sym (none_after f tail r.more r.rest).0 ∙ some))
has_more f block (suc n) items tail r some = elim (after_parts f n tail r.more r.rest) [
  | inl none ↦ absurd (true≢false (sym none.0 ∙ some))
  | inr p ↦ (n, r.more, refl, r.all, p)
]

whole_entries : (f : Blocks) (block : ℕ) (items : List Item) → entries_in f block ≡ Some items → items_in f block ≡ items
whole_entries f block items is = ap (λ (o : Option (List Item)). unwrap_or o []) is

pub may_go_on : (f : Blocks) (block left nodes : ℕ) (items : List Item) (tail : ℕ) (name : Name) (puts has_name : Bool) → GoesOn f block left nodes items tail name puts has_name → is_enough puts has_name tail ≡ false → MayAppend (link_of (f tail)) items
may_go_on f block left nodes items tail name puts has_name goes more =
    let m = has_more f block left items tail goes.read (not_last puts has_name tail more) in
    let p = m.4 in
    let whole = m.3 in
    let e : items ++ m.1 ≡ (items ++ p.l.items) ++ p.more = ap (λ (xs : List Item). items ++ xs) p.parts ∙ sym (append_assoc items p.l.items p.more) in
    let order : are_ascending ((items ++ p.l.items) ++ p.more) ≡ true = ap are_ascending (sym e) ∙ (first_parts f block (items ++ m.1) whole).order in
    subst (λ (o : Option Link). MayAppend o items) (sym p.is) (
      (ascending_parts (items ++ p.l.items) p.more order).front_ascends,
      omega (arith, most_of f block, ap length (whole_entries f block (items ++ m.1) whole), ap length e, length-append (items ++ p.l.items) p.more, length-append items p.l.items),
    )

pub goes_on : (f : Blocks) (block left nodes : ℕ) (items : List Item) (tail : ℕ) (name : Name) (puts has_name : Bool) (new : List Item) (next : ℕ) (has_name' : Bool) → GoesOn f block left nodes items tail name puts has_name → is_enough puts has_name tail ≡ false
    → IsAppended (link_of (f tail)) name items new has_name' next → GoesOn f block (left - 1) (nodes + 1) new next name puts has_name'
goes_on f block left nodes items tail name puts has_name new next has_name' goes more added =
    let m = has_more f block left items tail goes.read (not_last puts has_name tail more) in
    let n = m.0 in
    let p = m.4 in
    let left_is : left - 1 ≡ n = let is = m.2 in omega arith in
    let filled = linked_filled (f tail) p.l p.is in
    let a = appended_some (link_of (f tail)) p.l name items new has_name' next p.is added in
    let size : length new ≡ length items + length p.l.items = ap length a.0 ∙ length-append items p.l.items in
    let before = full_before in
    let some = length_later p.l p.good in
    subst (λ (k : ℕ). GoesOn f block k (nodes + 1) new next name puts has_name') (sym left_is) (record {
      read = record {
        more = p.more;
        all = m.3 ∙ ap (λ (xs : List Item). Some xs) (ap (λ (xs : List Item). items ++ xs) p.parts ∙ sym (append_assoc items p.l.items p.more) ∙ ap (λ (xs : List Item). xs ++ p.more) (sym a.0));
        rest = ap (entries_after n f) a.2 ∙ p.rest;
        within = λ b inside. goes.read.within b (subst (λ (k : ℕ). Contains (blocks_after k f tail) b) (sym m.2)
            (subst (λ (bs : List ℕ). Contains bs b) (sym (listed_after f n tail p.some p.l p.is)) (tail_of tail b (blocks_after n f p.l.next) (subst (λ (k : ℕ). Contains (blocks_after n f k) b) a.2 inside))));
        full = elim filled.full [ inl last ↦ inl (a.2 ∙ last) | inr full ↦ inr (omega (arith, size, full, before)) ];
        few = let few = goes.read.few in let is = m.2 in omega (arith, size, filled.few, before);
      };
      counted = omega (arith, size, filled.few, before, some, goes.counted);
      needed = λ is.
          let none = missing puts has_name tail items name more goes.seen is in
          let to : entries_to new name ≡ length items + entries_to p.l.items name = ap (λ (xs : List Item). entries_to xs name) a.0 ∙ entries_to-back items p.l.items name none in
          omega (arith, size, filled.few, before, some, to, entries_to-most p.l.items name, entries_to-some p.l.items name some);
      seen = λ is. a.1 ∙ ap (λ (o : Option Place). is_some o) (sym (named_back items p.l.items name (missing puts has_name tail items name more goes.seen is)) ∙ ap (λ (xs : List Item). named_place xs name) (sym a.0));
    })
  where
    full_before : length items ≡ NODE_ENTRIES * nodes_for (length items)
    full_before = elim goes.read.full [
      | inl last ↦ absurd (true≢false (sym (let e : eqb tail 0 ≡ true = rw last refl in e) ∙ not_last puts has_name tail more))
      | inr full ↦ full
    ]

-- ---- where reading ends

pub ends_enough : (f : Blocks) (block left nodes : ℕ) (items : List Item) (tail : ℕ) (name : Name) (puts has_name : Bool) → GoesOn f block left nodes items tail name puts has_name → is_enough puts has_name tail ≡ true → IsEnough items tail name puts
ends_enough f block left nodes items tail name puts has_name goes enough = record {
  ends = on (eqb tail 0) refl enough;
  needed = goes.needed;
}
  where
    both : (p h : Bool) → (p && h) ≡ true → (p ≡ true) × (h ≡ true)
    both true h e = (refl, e)
    both false h e = absurd (true≢false (sym e))

    on : (t : Bool) → eqb tail 0 ≡ t → (t || (puts && has_name)) ≡ true → (tail ≡ 0) ⊎ ((puts ≡ true) × IsSome (named_place items name))
    on true is e = inl (eqb-true tail 0 is)
    on false is e = let b = both puts has_name e in inr (b.0, sym (goes.seen b.0) ∙ b.1)

pub ends_last : (f : Blocks) (block left nodes : ℕ) (items : List Item) (tail : ℕ) (name : Name) (puts has_name : Bool) → GoesOn f block left nodes items tail name puts has_name → left ≡ 0 → IsEnough items tail name puts
ends_last f block left nodes items tail name puts has_name goes none = record {
  ends = inl (eqb-true tail 0 (none_after f tail goes.read.more (subst (λ (k : ℕ). entries_after k f tail ≡ Some goes.read.more) none goes.read.rest)).0);
  needed = goes.needed;
}

-- ---- how many nodes are read

rest_none : (f : Blocks) (left tail : ℕ) (more : List Item) → tail ≡ 0 → entries_after left f tail ≡ Some more → more ≡ []
rest_none f left tail more none is = on left (subst (λ (b : ℕ). entries_after left f b ≡ Some more) none is)
  where
    on : (left : ℕ) → entries_after left f 0 ≡ Some more → more ≡ []
    on zero is = (none_after f 0 more is).1
    on (suc n) is = cc

-- all entries were read where no node is left
pub all_read : (f : Blocks) (block left : ℕ) (items : List Item) (tail : ℕ) → IsReadTo f block left items tail → tail ≡ 0 → entries_in f block ≡ Some items
all_read f block left items tail r none =
    r.all ∙ ap (λ (xs : List Item). Some xs) (ap (λ (xs : List Item). items ++ xs) (rest_none f left tail r.more none r.rest) ∙ append-nil items)

-- the entries up to the name are among those that were read, or none has the name
pub entries_to-read : (f : Blocks) (block left : ℕ) (items : List Item) (tail : ℕ) (name : Name) → IsReadTo f block left items tail → (tail ≡ 0) ⊎ IsSome (named_place items name) → entries_to (items_in f block) name ≡ entries_to items name
entries_to-read f block left items tail name r (inl none) = ap (λ (xs : List Item). entries_to xs name) (whole_entries f block items (all_read f block left items tail r none))
entries_to-read f block left items tail name r (inr some) = ap (λ (xs : List Item). entries_to xs name) (whole_entries f block (items ++ r.more) r.all) ∙ entries_to-front items r.more name some

-- no node was read but those that are wanted
pub nodes_read : (f : Blocks) (block left : ℕ) (items : List Item) (tail : ℕ) (name : Name) (puts : Bool) → IsReadTo f block left items tail → IsEnough items tail name puts → nodes_for (length items) ≡ read_nodes (items_in f block) name puts
nodes_read f block left items tail name true r e = e.needed refl ∙ ap nodes_for (sym (entries_to-read f block left items tail name r (elim e.ends [ inl none ↦ inl none | inr some ↦ inr some.1 ])))
nodes_read f block left items tail name false r e = elim e.ends [
  | inl none ↦ ap (λ (xs : List Item). nodes_for (length xs)) (sym (whole_entries f block items (all_read f block left items tail r none)))
  | inr some ↦ absurd (true≢false (sym some.0))
]

-- and one more is wanted where it is not enough
pub one_more_read : (f : Blocks) (block left nodes : ℕ) (items : List Item) (tail : ℕ) (name : Name) (puts has_name : Bool) → GoesOn f block left nodes items tail name puts has_name → is_enough puts has_name tail ≡ false → nodes + 1 ≤ read_nodes (items_in f block) name puts
one_more_read f block left nodes items tail name puts has_name goes more = on puts refl
  where
    m : HasMore f block left items tail
    m = has_more f block left items tail goes.read (not_last puts has_name tail more)

    some : 0 < length m.1
    some = omega (arith, ap length m.4.parts, length-append m.4.l.items m.4.more, length_later m.4.l m.4.good)

    whole : items_in f block ≡ items ++ m.1
    whole = whole_entries f block (items ++ m.1) m.3

    full_before : length items ≡ NODE_ENTRIES * nodes_for (length items)
    full_before = elim goes.read.full [
      | inl last ↦ absurd (true≢false (sym (let e : eqb tail 0 ≡ true = rw last refl in e) ∙ not_last puts has_name tail more))
      | inr full ↦ full
    ]

    on : (p : Bool) → puts ≡ p → nodes + 1 ≤ read_nodes (items_in f block) name p
    on true is =
        let none = missing puts has_name tail items name more goes.seen is in
        let to : entries_to (items_in f block) name ≡ length items + entries_to m.1 name = ap (λ (xs : List Item). entries_to xs name) whole ∙ entries_to-back items m.1 name none in
        omega (arith, to, entries_to-some m.1 name some, goes.counted, full_before)
    on false is = omega (arith, ap length whole, length-append items m.1, some, goes.counted, full_before)

-- so is the first
pub first_read : (items : List Item) (name : Name) (puts : Bool) → 1 ≤ read_nodes items name puts
first_read items name true = omega arith
first_read items name false = omega arith

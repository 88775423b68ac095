-- Chains of nodes taken apart and put together: what stays, one node more, the first node, and what follows a node.
use Rattle.std.proofs.Common.{◌≡◌, ℕ, zero, suc, ◌+◌, ◌-◌, ◌≤◌, ◌⊎◌, inl, inr, Bool, true, false, cond, eqb, Option, Some, None, List, [], ◌∷◌, ◌++◌, refl, sym, ap, subst, ◌∙◌, arith}
use Rattle.std.specs.Prelude.{Contains}
use Rattle.std.specs.Option.{option_map, option_map_or, option_and_then}
use Rattle.node_format.specs.Items.{Item, are_ascending}
use Rattle.node_format.specs.Order.{ascending_parts}
use Rattle.node_format.specs.Links.{Link}
use Rattle.nodes.specs.Bodies.{Blocks}
use Rattle.nodes.specs.Chains.{link_of, next_of, is_later, and_after, later, entries_after, most_after, link_items, in_order, entries_in, blocks_after, chain}
use Rattle.nodes.specs.ChainLaws.{ChainFrameLaw, StepLaw, FirstLaw, BeginsIn, TailLaw}

pub by_test : (test : Bool) {P : Type 0} → (test ≡ true → P) → (test ≡ false → P) → P
by_test true is differs = is refl
by_test false is differs = differs refl

pub head_of : (x : ℕ) (xs : List ℕ) → Contains (x ∷ xs) x
head_of x xs = (0, omega arith, refl)

pub tail_of : (x b : ℕ) (xs : List ℕ) → Contains xs b → Contains (x ∷ xs) b
tail_of x b xs (k, lt, e) = (suc k, omega arith, e)

-- a member is the first or one of the others
pub either_of : (x b : ℕ) (xs : List ℕ) → Contains (x ∷ xs) b → (x ≡ b) ⊎ Contains xs b
either_of x b xs (zero, lt, e) = inl e
either_of x b xs (suc k, lt, e) = inr (k, omega arith, e)

-- ---- what stays

abbrev pub StaysAfter : Blocks → Blocks → ℕ → ℕ → Type 0
StaysAfter old new n next = (entries_after n new next ≡ entries_after n old next) × (blocks_after n new next ≡ blocks_after n old next)

-- where the nodes from a block on stay, their entries do, and their blocks
pub after_same : (old new : Blocks) (n next : ℕ) → ((b : ℕ) → Contains (blocks_after n old next) b → new b ≡ old b) → StaysAfter old new n next
after_same old new zero next same = (refl, refl)
after_same old new (suc n) next same = by_test (eqb next 0) ends (λ some. goes_on some (after_same old new n (next_of (old next))))
  where
    ends : eqb next 0 ≡ true → StaysAfter old new (suc n) next
    ends none = (rw none refl, rw none refl)

    goes_on : eqb next 0 ≡ false → (((b : ℕ) → Contains (blocks_after n old (next_of (old next))) b → new b ≡ old b) → StaysAfter old new n (next_of (old next))) → StaysAfter old new (suc n) next
    goes_on some again =
        let listed : (b : ℕ) → Contains (next ∷ blocks_after n old (next_of (old next))) b → new b ≡ old b =
        λ b inside. same b (subst (λ (t : Bool). Contains (cond t [] (next ∷ blocks_after n old (next_of (old next)))) b) (sym some) inside) in
        let here : new next ≡ old next = listed next (head_of next (blocks_after n old (next_of (old next)))) in
        let others = again (λ b inside. listed b (tail_of next b (blocks_after n old (next_of (old next))) inside)) in (
          rw some (ap (λ (node : Option (List ℕ)). later (entries_after n new) (link_of node)) here ∙ on (link_of (old next)) refl others.0),
          rw some (ap (λ (node : Option (List ℕ)). next ∷ blocks_after n new (next_of node)) here ∙ ap (λ (bs : List ℕ). next ∷ bs) others.1),
        )
      where
        on : (o : Option Link) → link_of (old next) ≡ o → entries_after n new (next_of (old next)) ≡ entries_after n old (next_of (old next)) → later (entries_after n new) o ≡ later (entries_after n old) o
        on None is rest = refl
        on (Some l) is rest =
            let at : next_of (old next) ≡ l.next = ap (λ (o : Option Link). option_map_or (λ x. x.next) o 0) is in
            ap (λ (r : Option (List Item)). cond (is_later l) (option_map (λ more. l.items ++ more) r) None) (subst (λ (b : ℕ). entries_after n new b ≡ entries_after n old b) at rest)

-- where the nodes of a directory stay, it stays, and so do its blocks
pub chain_frame : ChainFrameLaw
chain_frame old new block same = (
  ap (λ (node : Option (List ℕ)). option_and_then in_order (option_and_then (and_after (entries_after most_after new)) (link_of node))) here ∙ ap (option_and_then in_order) (on (link_of (old block)) refl others.0),
  ap (λ (node : Option (List ℕ)). block ∷ blocks_after most_after new (next_of node)) here ∙ ap (λ (bs : List ℕ). block ∷ bs) others.1,
)
  where
    here : new block ≡ old block
    here = same block (head_of block (blocks_after most_after old (next_of (old block))))

    others : StaysAfter old new most_after (next_of (old block))
    others = after_same old new most_after (next_of (old block)) (λ b inside. same b (tail_of block b (blocks_after most_after old (next_of (old block))) inside))

    on : (o : Option Link) → link_of (old block) ≡ o → entries_after most_after new (next_of (old block)) ≡ entries_after most_after old (next_of (old block)) → option_and_then (and_after (entries_after most_after new)) o ≡ option_and_then (and_after (entries_after most_after old)) o
    on None is rest = refl
    on (Some l) is rest =
        let at : next_of (old block) ≡ l.next = ap (λ (o : Option Link). option_map_or (λ x. x.next) o 0) is in
        ap (option_map (λ more. l.items ++ more)) (subst (λ (b : ℕ). entries_after most_after new b ≡ entries_after most_after old b) at rest)

-- ---- the parts of a chain

pub kept : {A : Type 0} (b : Bool) (x : Option A) (z : A) → cond b x None ≡ Some z → (b ≡ true) × (x ≡ Some z)
kept true x z e = (refl, e)
kept false x z e = absurd cc

abbrev pub some_items : List Item → Option (List Item)
some_items items = Some items

pub same_items : (xs ys : List Item) → some_items xs ≡ some_items ys → xs ≡ ys
same_items xs ys e = cc

mapped : (front : List Item) (o : Option (List Item)) (z : List Item) → option_map (λ more. front ++ more) o ≡ Some z → (m : List Item) × (o ≡ Some m) × (z ≡ front ++ m)
mapped front None z e = absurd cc
mapped front (Some m) z e = (m, refl, sym (same_items (front ++ m) z e))

-- the entries of a node and of the nodes after it
pub record HasNodeAfter (f : Blocks) (n next : ℕ) (items : List Item) : Type 0 where
  pub l : Link
  pub more : List Item
  pub some : eqb next 0 ≡ false
  pub is : link_of (f next) ≡ Some l
  pub good : is_later l ≡ true
  pub rest : entries_after n f l.next ≡ Some more
  pub parts : items ≡ l.items ++ more

abbrev pub AfterParts : Blocks → ℕ → ℕ → List Item → Type 0
AfterParts f n next items = ((eqb next 0 ≡ true) × (items ≡ [])) ⊎ HasNodeAfter f n next items

pub none_after : (f : Blocks) (next : ℕ) (items : List Item) → entries_after zero f next ≡ Some items → (eqb next 0 ≡ true) × (items ≡ [])
none_after f next items e = let k = kept (eqb next 0) (Some []) items e in (k.0, sym (same_items [] items k.1))

pub after_parts : (f : Blocks) (n next : ℕ) (items : List Item) → entries_after (suc n) f next ≡ Some items → AfterParts f n next items
after_parts f n next items e = by_test (eqb next 0)
    (λ none. inl (none, sym (same_items [] items (sym (ap (λ (t : Bool). cond t (Some []) (later (entries_after n f) (link_of (f next)))) none) ∙ e))))
    (λ some. inr (on some (link_of (f next)) refl (sym (ap (λ (t : Bool). cond t (Some []) (later (entries_after n f) (link_of (f next)))) some) ∙ e)))
  where
    on : eqb next 0 ≡ false → (o : Option Link) → link_of (f next) ≡ o → later (entries_after n f) o ≡ Some items → HasNodeAfter f n next items
    on some None is e = absurd cc
    on some (Some l) is e =
        let k = kept (is_later l) (and_after (entries_after n f) l) items e in
        let m = mapped l.items (entries_after n f l.next) items k.1 in
        record { l = l; more = m.0; some = some; is = is; good = k.0; rest = m.1; parts = m.2 }

pub record HasFirstNode (f : Blocks) (block : ℕ) (items : List Item) : Type 0 where
  pub l : Link
  pub more : List Item
  pub is : link_of (f block) ≡ Some l
  pub rest : entries_after most_after f l.next ≡ Some more
  pub parts : items ≡ l.items ++ more
  pub order : are_ascending items ≡ true

pub first_parts : (f : Blocks) (block : ℕ) (items : List Item) → entries_in f block ≡ Some items → HasFirstNode f block items
first_parts f block items e = on (link_of (f block)) refl e
  where
    all : (l : Link) (o : Option (List Item)) → link_of (f block) ≡ Some l → entries_after most_after f l.next ≡ o → option_and_then in_order (option_map (λ more. l.items ++ more) o) ≡ Some items → HasFirstNode f block items
    all l None is rest e = absurd cc
    all l (Some more) is rest e =
        let k = kept (are_ascending (l.items ++ more)) (Some (l.items ++ more)) items e in
        let same = same_items (l.items ++ more) items k.1 in
        record { l = l; more = more; is = is; rest = rest; parts = sym same; order = ap are_ascending (sym same) ∙ k.0 }

    on : (o : Option Link) → link_of (f block) ≡ o → option_and_then in_order (option_and_then (and_after (entries_after most_after f)) o) ≡ Some items → HasFirstNode f block items
    on None is e = absurd cc
    on (Some l) is e = all l (entries_after most_after f l.next) is refl e

pub next_is : (f : Blocks) (block : ℕ) (l : Link) → link_of (f block) ≡ Some l → next_of (f block) ≡ l.next
next_is f block l is = ap (λ (o : Option Link). option_map_or (λ x. x.next) o 0) is

pub items_are : (f : Blocks) (block : ℕ) (l : Link) → link_of (f block) ≡ Some l → link_items (f block) ≡ l.items
items_are f block l is = ap (λ (o : Option Link). option_map_or (λ x. x.items) o []) is

pub listed_after : (f : Blocks) (n next : ℕ) → eqb next 0 ≡ false → (l : Link) → link_of (f next) ≡ Some l → blocks_after (suc n) f next ≡ next ∷ blocks_after n f l.next
listed_after f n next some l is = rw some (ap (λ (b : ℕ). next ∷ blocks_after n f b) (next_is f next l is))

-- the blocks of a directory, by what its first node says
pub chain_is : (f : Blocks) (block : ℕ) (l : Link) → link_of (f block) ≡ Some l → chain f block ≡ block ∷ blocks_after most_after f l.next
chain_is f block l is = ap (λ (c : ℕ). block ∷ blocks_after most_after f c) (next_is f block l is)

-- ---- one node more, and the first one

pub step_law : StepLaw
step_law f n next l more some is good rest =
    let not_zero : eqb next 0 ≡ false = grind arith in
    rw (not_zero, is, good) (ap (option_map (λ more. l.items ++ more)) rest)

-- more nodes than there are may be allowed
after_more : (f : Blocks) (n next : ℕ) (items : List Item) → entries_after n f next ≡ Some items → entries_after (suc n) f next ≡ Some items
after_more f zero next items e =
    let k = kept (eqb next 0) (Some []) items e in
    rw k.0 k.1
after_more f (suc n) next items e = on (after_parts f n next items e) (after_more f n)
  where
    on : AfterParts f n next items → ((c : ℕ) (more : List Item) → entries_after n f c ≡ Some more → entries_after (suc n) f c ≡ Some more) → entries_after (suc (suc n)) f next ≡ Some items
    on (inl none) again = rw none.0 (ap some_items (sym none.1))
    on (inr p) again = rw (p.some, p.is, p.good) (ap (option_map (λ more. p.l.items ++ more)) (again p.l.next p.more p.rest) ∙ ap some_items (sym p.parts))

pub after_raise : (f : Blocks) (n k next : ℕ) (items : List Item) → entries_after n f next ≡ Some items → entries_after (k + n) f next ≡ Some items
after_raise f n zero next items is = let e : n ≡ 0 + n = omega arith in subst (λ (k : ℕ). entries_after k f next ≡ Some items) e is
after_raise f n (suc k) next items is = let e : suc k + n ≡ suc (k + n) = omega arith in rw e (after_more f (k + n) next items (after_raise f n k next items is))

pub first_law : FirstLaw
first_law f n block l more few is rest order =
    let e : (most_after - n) + n ≡ most_after = omega arith in
    let rest_is : entries_after most_after f l.next ≡ Some more = subst (λ (k : ℕ). entries_after k f l.next ≡ Some more) e (after_raise f n (most_after - n) l.next more rest) in
    rw is (ap (option_and_then in_order) (ap (option_map (λ more. l.items ++ more)) rest_is) ∙ rw order refl)

-- ---- each tail of a directory is a directory

tail_after : (f : Blocks) (n next : ℕ) (items : List Item) → n ≤ most_after → entries_after n f next ≡ Some items → are_ascending items ≡ true → (b : ℕ) → Contains (blocks_after n f next) b → BeginsIn f b
tail_after f zero next items few e order b (k, lt, is) = absurd (omega (arith, lt))
tail_after f (suc n) next items few e order b inside = on (after_parts f n next items e) (tail_after f n)
  where
    empty : Contains [] b → ⊥
    empty (k, lt, is) = omega (arith, lt)

    on : AfterParts f n next items → ((c : ℕ) (more : List Item) → n ≤ most_after → entries_after n f c ≡ Some more → are_ascending more ≡ true → (b : ℕ) → Contains (blocks_after n f c) b → BeginsIn f b) → BeginsIn f b
    on (inl none) again = absurd (empty (subst (λ (t : Bool). Contains (cond t [] (next ∷ blocks_after n f (next_of (f next)))) b) none.0 inside))
    on (inr p) again =
        let whole : are_ascending (p.l.items ++ p.more) ≡ true = ap are_ascending (sym p.parts) ∙ order in
        let all = listed_after f n next p.some p.l p.is in
        elim (either_of next b (blocks_after n f p.l.next) (subst (λ (bs : List ℕ). Contains bs b) all inside)) [
          | inl here ↦ subst (BeginsIn f) here (p.l.items ++ p.more, first_law f n next p.l p.more (omega (arith, few)) p.is p.rest whole)
          | inr later ↦ again p.l.next p.more (omega (arith, few)) p.rest (ascending_parts p.l.items p.more whole).back_ascends b later
        ]

pub tail_law : TailLaw
tail_law f block items b e inside =
    let p = first_parts f block items e in
    let all = chain_is f block p.l p.is in
    elim (either_of block b (blocks_after most_after f p.l.next) (subst (λ (bs : List ℕ). Contains bs b) all inside)) [
      | inl here ↦ subst (BeginsIn f) here (items, e)
      | inr later ↦ tail_after f most_after p.l.next p.more (omega arith) p.rest (ascending_parts p.l.items p.more (ap are_ascending (sym p.parts) ∙ p.order)).back_ascends b later
    ]

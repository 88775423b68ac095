-- What counts by the first root that reaches a block tell.
use Rattle.std.proofs.Common.{◌≡◌, ◌≢◌, ◌↔◌, ◌⊎◌, inl, inr, ℕ, zero, suc, ◌+◌, ◌-◌, ◌<◌, ◌≤◌, Bool, true, false, cond, ◌&&◌, ◌||◌, not, eqb, ltb, leb, List, [], ◌∷◌, length, take, reverse, get_or, count_by, refl, sym, ap, subst, ◌∙◌, arith}
use Rattle.std.proofs.lemmas.Bool.{true≢false, cases_Bool, cases_lt, cases_order, lt-ltb, le-ltb, le-leb, lt-leb, ltb-true, leb-true, eq-eqb, eqb-true, and_parts, and_from}
use Rattle.std.proofs.lemmas.Grind.{get_or_default_zero}
use Rattle.std.proofs.lemmas.List.{get_or-take, get_or_past, take_all, length-take-le, length-reverse, get_or-reverse}
use Rattle.std.proofs.lemmas.List.Elements.{Contains-get_or}
use Rattle.std.proofs.lemmas.List.Sums.{sum_by-cons}
use Rattle.std.specs.FinMap.{nat_cmp-IsAntisymmetric}
use Rattle.std.specs.FinSet as set
use Rattle.std.specs.List.{range_with_len}
use Rattle.std.specs.Ordering.{nat_cmp}
use Rattle.std.specs.Prelude.{slice_index, Contains}
use Rattle.block_ring.specs.Ring.{data_blocks}
use Rattle.block_ring.proofs.SetBits.{contains-range}
use Rattle.nodes.specs.Bodies.{Blocks}
use Rattle.nodes.specs.Reached.{Reached, IsFirst, IsNamed}
use Rattle.tree_counts.specs.Counts.{CountsFree, CountsFreed, IsAlone, CountsAlone}
use Rattle.tree_counts.specs.FirstRoots.{AreFirstRoots, is_reached, is_free, is_freed, is_only, is_alone}

-- ---- the blocks that pass a test

abbrev passing : ℕ → (ℕ → Bool) → set.FinSet nat_cmp
passing n p = set.retain (set.from_list (range_with_len 0 n)) p

-- where it passes no block past the last one
passes : (n : ℕ) (p : ℕ → Bool) → ((b : ℕ) → p b ≡ true → b < n) → (b : ℕ) → set.contains (passing n p) b ≡ p b
passes n p below b =
    set.contains-retain (set.from_list (range_with_len 0 n)) p b (λ x tie. ap p (sym (nat_cmp-IsAntisymmetric b x tie)))
    ∙ ap (λ t. t && p b) (contains-range n b)
    ∙ on (p b) refl
  where
    on : (t : Bool) → p b ≡ t → (ltb b n && p b) ≡ p b
    on true is = ap (λ t. t && p b) (lt-ltb b n (below b is))
    on false is = ap (λ t. ltb b n && t) is ∙ none (ltb b n) ∙ sym is
      where
        none : (t : Bool) → (t && false) ≡ false
        none true = refl
        none false = refl

-- ---- free blocks

module _ (f : Blocks) (roots firsts : List ℕ) (bad : set.FinSet nat_cmp) (blocks kept : ℕ) (are : AreFirstRoots f roots firsts) (sized : length firsts ≡ blocks) (few : kept ≤ length roots) where
  pub counts_free : CountsFree f blocks bad (take kept roots) (count_by (is_free firsts bad kept) (data_blocks blocks))
  counts_free = record {
    reached = passing blocks (is_reached firsts kept);
    are_reached = λ b. (
      λ is. let parts = and_parts (ltb 0 (slice_index firsts b)) (leb (slice_index firsts b) kept) (sym (same b) ∙ is) in (are.reached b kept few).0 (ltb-true 0 (slice_index firsts b) parts.0, leb-true (slice_index firsts b) kept parts.1),
      λ reached. let x = (are.reached b kept few).1 reached in same b ∙ and_from (ltb 0 (slice_index firsts b)) (leb (slice_index firsts b) kept) (lt-ltb 0 (slice_index firsts b) x.0) (le-leb (slice_index firsts b) kept x.1),
    );
    free = λ i. count_by (λ b. not (set.contains bad b || sym (same b) i)) (data_blocks blocks);
  }
    where
      below : (b : ℕ) → is_reached firsts kept b ≡ true → b < blocks
      below b is = elim (cases_lt b (length firsts)) [
        | inl less ↦ omega (arith, sized)
        | inr past ↦
            let parts = and_parts (ltb 0 (slice_index firsts b)) (leb (slice_index firsts b) kept) is in
            absurd (omega (arith, ltb-true 0 (slice_index firsts b) parts.0, get_or_past firsts b 0 past))
      ]

      same : (b : ℕ) → set.contains (passing blocks (is_reached firsts kept)) b ≡ is_reached firsts kept b
      same = passes blocks (is_reached firsts kept) below

-- what passes one test passes one of two others, and not both
count_two : (p q r : ℕ → Bool) (xs : List ℕ) → ((b : ℕ) → cond (p b) 1 0 ≡ cond (q b) 1 0 + cond (r b) 1 0) → count_by p xs ≡ count_by q xs + count_by r xs
count_two p q r [] each = refl
count_two p q r (x ∷ xs) each =
    omega (arith, each x, count_two p q r xs each, sum_by-cons (λ b. cond (p b) 1 0) x xs, sum_by-cons (λ b. cond (q b) 1 0) x xs, sum_by-cons (λ b. cond (r b) 1 0) x xs)

module _ (f : Blocks) (roots firsts : List ℕ) (bad : set.FinSet nat_cmp) (blocks kept : ℕ) (are : AreFirstRoots f roots firsts) (sized : length firsts ≡ blocks) (few : kept ≤ length roots) where
  pub counts_freed : CountsFreed f blocks bad roots kept (count_by (is_freed firsts bad kept) (data_blocks blocks))
  counts_freed = record {
    before = count_by (is_free firsts bad (length roots)) (data_blocks blocks);
    after = count_by (is_free firsts bad kept) (data_blocks blocks);
    was = subst (λ (l : List ℕ). CountsFree f blocks bad l (count_by (is_free firsts bad (length roots)) (data_blocks blocks))) (take_all (length roots) roots (omega arith))
        (counts_free f roots firsts bad blocks (length roots) are sized (omega arith));
    is = counts_free f roots firsts bad blocks kept are sized few;
    more = count_two (is_free firsts bad kept) (is_free firsts bad (length roots)) (is_freed firsts bad kept) (data_blocks blocks) (λ b. each b (set.contains bad b) (cases_lt kept (slice_index firsts b)) (cases_lt 0 (slice_index firsts b)));
  }
    where
      each : (b : ℕ) (t : Bool) → (kept < slice_index firsts b) ⊎ (slice_index firsts b ≤ kept) → (0 < slice_index firsts b) ⊎ (slice_index firsts b ≤ 0)
          → cond (not (t || is_reached firsts kept b)) 1 0 ≡ cond (not (t || is_reached firsts (length roots) b)) 1 0 + cond (not t && ltb kept (slice_index firsts b)) 1 0
      each b true past some = refl
      each b false (inl past) (inl some) = rw (lt-ltb 0 (slice_index firsts b) some, lt-leb (slice_index firsts b) kept past, le-leb (slice_index firsts b) (length roots) (are.within b), lt-ltb kept (slice_index firsts b) past) refl
      each b false (inl past) (inr none) = absurd (omega arith)
      each b false (inr within) (inl some) = rw (lt-ltb 0 (slice_index firsts b) some, le-leb (slice_index firsts b) kept within, le-leb (slice_index firsts b) (length roots) (are.within b), le-ltb kept (slice_index firsts b) within) refl
      each b false (inr within) (inr none) = rw (le-ltb 0 (slice_index firsts b) none, le-ltb kept (slice_index firsts b) within) refl

-- ---- blocks of one root alone

one_of : (f : Blocks) (roots : List ℕ) (b : ℕ) → Reached f roots b → (place : ℕ) × (place < length roots) × Reached f (slice_index roots place ∷ []) b
one_of f roots b (IsFirst (place, below, at)) = (place, below, IsFirst (0, omega arith, sym (get_or_default_zero roots place b below) ∙ at))
one_of f roots b (IsNamed {block = c} reached names) = let from = one_of f roots c reached in (from.0, from.1, IsNamed from.2 names)

of_one : (f : Blocks) (roots : List ℕ) (place b : ℕ) → place < length roots → Reached f (slice_index roots place ∷ []) b → Reached f roots b
of_one f roots place b below (IsFirst has) = IsFirst (subst (Contains roots) (only has) (Contains-get_or roots place 0 below))
  where
    only : {b : ℕ} → Contains (slice_index roots place ∷ []) b → slice_index roots place ≡ b
    only (zero, low, is) = is
    only (suc k, low, is) = absurd (omega arith)
of_one f roots place b below (IsNamed {block = c} reached names) = IsNamed (of_one f roots place c below reached) names

-- one of the first k roots reaches the block, by its place
among_first : (f : Blocks) (roots : List ℕ) (k b : ℕ) → k ≤ length roots → Reached f (take k roots) b → (place : ℕ) × (place < k) × Reached f (slice_index roots place ∷ []) b
among_first f roots k b few reached =
    let (place, below, own) = one_of f (take k roots) b reached in
    let low : place < k = omega (arith, length-take-le k roots few) in
    (place, low, subst (λ (r : ℕ). Reached f (r ∷ []) b) (get_or-take k roots place 0 low) own)

first_among : (f : Blocks) (roots : List ℕ) (k place b : ℕ) → k ≤ length roots → place < k → Reached f (slice_index roots place ∷ []) b → Reached f (take k roots) b
first_among f roots k place b few low own =
    of_one f (take k roots) place b (omega (arith, length-take-le k roots few)) (subst (λ (r : ℕ). Reached f (r ∷ []) b) (sym (get_or-take k roots place 0 low)) own)

-- the first root that reaches a block is at a place
module _ (f : Blocks) (roots numbers : List ℕ) (are : AreFirstRoots f roots numbers) (place b : ℕ) (within : place < length roots) where
  pub is_first : slice_index numbers b ≡ place + 1 → Reached f (slice_index roots place ∷ []) b × ((other : ℕ) → other < place → Reached f (slice_index roots other ∷ []) b → ⊥)
  is_first number =
      let (at, low, own) = among_first f roots (place + 1) b (omega arith) ((are.reached b (place + 1) (omega arith)).0 (omega arith, omega arith)) in (
        subst (λ (k : ℕ). Reached f (slice_index roots k ∷ []) b) (let e : at ≡ place = on at low own (cases_lt at place) in e) own,
        before,
      )
    where
      before : (other : ℕ) → other < place → Reached f (slice_index roots other ∷ []) b → ⊥
      before other low own = let x = (are.reached b place (omega arith)).1 (first_among f roots place other b (omega arith) low own) in omega (arith, x.1, number)

      on : (at : ℕ) → at < place + 1 → Reached f (slice_index roots at ∷ []) b → (at < place) ⊎ (place ≤ at) → at ≡ place
      on at low own (inl less) = absurd (before at less own)
      on at low own (inr more) = omega arith

  pub first_is : Reached f (slice_index roots place ∷ []) b → ((other : ℕ) → other < place → Reached f (slice_index roots other ∷ []) b → ⊥) → slice_index numbers b ≡ place + 1
  first_is own before =
      let x = (are.reached b (place + 1) (omega arith)).1 (first_among f roots (place + 1) place b (omega arith) (omega arith) own) in
      elim (cases_lt place (slice_index numbers b)) [
        | inl more ↦ omega (arith, x.1)
        | inr less ↦
            let (at, low, other) = among_first f roots place b (omega arith) ((are.reached b place (omega arith)).0 (x.0, less)) in
            absurd (before at low other)
      ]

module _ (f : Blocks) (roots firsts lasts : List ℕ) (bad : set.FinSet nat_cmp) (blocks place count : ℕ) (many : length roots ≡ count) (within : place < count) (are : AreFirstRoots f roots firsts) (lasting : AreFirstRoots f (reverse roots) lasts) (sized : length firsts ≡ blocks) where
  turned : (k : ℕ) → k < length roots → slice_index (reverse roots) k ≡ slice_index roots (length roots - 1 - k)
  turned k below = get_or-reverse roots k 0 below

  -- the place from the other end
  abbrev back : ℕ → ℕ
  back k = length roots - 1 - k

  turned_back : (k : ℕ) → k < length roots → slice_index (reverse roots) (back k) ≡ slice_index roots k
  turned_back k below = turned (back k) (omega arith) ∙ ap (slice_index roots) (let e : length roots - 1 - back k ≡ k = omega arith in e)

  long : length (reverse roots) ≡ length roots
  long = length-reverse roots

  alone_is : (b : ℕ) → is_only firsts lasts (place + 1) count b ≡ true → IsAlone f roots place b
  alone_is b is =
      let parts = and_parts (eqb (slice_index firsts b) (place + 1)) (eqb (slice_index lasts b + (place + 1)) (count + 1)) is in
      let front = is_first f roots firsts are place b (omega arith) (eqb-true _ _ parts.0) in
      let last = eqb-true _ _ parts.1 in
      let end = is_first f (reverse roots) lasts lasting (back place) b (omega (arith, long)) (omega (arith, last)) in
      record {
        own = front.0;
        others = λ other low apart own. elim (cases_order other place) [
          | inl same ↦ apart same
          | inr (inl less) ↦ front.1 other less own
          | inr (inr more) ↦ end.1 (back other) (omega arith) (subst (λ (r : ℕ). Reached f (r ∷ []) b) (sym (turned_back other low)) own)
        ];
      }

  is_alone_at : (b : ℕ) → IsAlone f roots place b → is_only firsts lasts (place + 1) count b ≡ true
  is_alone_at b alone =
      let first = first_is f roots firsts are place b (omega arith) alone.own (λ other low own. alone.others other (omega arith) (λ same. absurd (omega (arith, same))) own) in
      let last = first_is f (reverse roots) lasts lasting (back place) b (omega (arith, long)) (subst (λ (r : ℕ). Reached f (r ∷ []) b) (sym (turned_back place (omega arith))) alone.own)
      (λ other low own. alone.others (back other) (omega arith) (λ same. absurd (omega (arith, same))) (subst (λ (r : ℕ). Reached f (r ∷ []) b) (turned other (omega arith)) own)) in
      and_from (eqb (slice_index firsts b) (place + 1)) (eqb (slice_index lasts b + (place + 1)) (count + 1)) (eq-eqb _ _ first) (eq-eqb _ _ (omega (arith, last)))

  pub counts_alone : CountsAlone f blocks bad roots place (count_by (is_alone firsts lasts bad (place + 1) count) (data_blocks blocks))
  counts_alone = record {
    alone = passing blocks (is_only firsts lasts (place + 1) count);
    are_alone = λ b. (λ is. alone_is b (sym (same b) ∙ is), λ alone. same b ∙ is_alone_at b alone);
    kept = λ i. count_by (λ b. not (set.contains bad b) && sym (same b) i) (data_blocks blocks);
  }
    where
      below : (b : ℕ) → is_only firsts lasts (place + 1) count b ≡ true → b < blocks
      below b is = elim (cases_lt b (length firsts)) [
        | inl less ↦ omega (arith, sized)
        | inr past ↦
            let parts = and_parts (eqb (slice_index firsts b) (place + 1)) (eqb (slice_index lasts b + (place + 1)) (count + 1)) is in
            absurd (omega (arith, eqb-true (slice_index firsts b) (place + 1) parts.0, get_or_past firsts b 0 past))
      ]

      same : (b : ℕ) → set.contains (passing blocks (is_only firsts lasts (place + 1) count)) b ≡ is_only firsts lasts (place + 1) count b
      same = passes blocks (is_only firsts lasts (place + 1) count) below

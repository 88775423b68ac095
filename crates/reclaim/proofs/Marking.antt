-- What marking names does to the list of marked blocks.
use Rattle.std.proofs.Common.{◌≡◌, ◌≢◌, ◌↔◌, ◌⊎◌, inl, inr, ℕ, suc, ◌+◌, ◌<◌, ◌≤◌, Result, Ok, Bool, true, false, ◌||◌, Option, None, List, [], ◌∷◌, ◌++◌, length, get_or, refl, sym, ap, subst, ◌∙◌, arith}
use Rattle.std.specs.Prelude.{slice_index, Contains, nat_eq}
use Rattle.std.specs.FinMap.{nat_cmp-IsAntisymmetric}
use Rattle.std.specs.FinSet as set
use Rattle.std.specs.List.{list_any}
use Rattle.std.specs.Ordering.{nat_cmp}
use Rattle.std.proofs.lemmas.Bool.{true≢false, eq-eqb, eqb-true, cases_lt}
use Rattle.std.proofs.lemmas.Cmp.{nat_cmp_total}
use Rattle.std.proofs.lemmas.Grind.{get_or_default_zero}
use Rattle.std.proofs.lemmas.List.{append_assoc, append-nil, length-append, get_or_append_left, get_or-append-add}
use Rattle.std.proofs.lemmas.List.Elements.{Contains-append_left, Contains-append_right, Contains-append_cases, Contains-push, Contains-push_cases, Contains-get_or}
use Rattle.std.proofs.lemmas.List.Folds.{list_any_at}
use Rattle.fs_types.specs.declared.fault.Fault.{Fault}
use Rattle.fs_types.specs.declared.fault.Fault.TheVariants.{NoMemory, Damaged}
use Rattle.fs_types.specs.declared.limits.TheConstants.{ANCHORS}
use Rattle.block_ring.specs.BlockSet.{BlockSet}
use Rattle.block_ring.specs.Ring.{IsDataBlock}
use Rattle.nodes.specs.Bodies.{Blocks}
use Rattle.nodes.specs.Reached.{Reached, IsFirst, IsNamed, Names, Agrees}
use Rattle.reclaim.specs.Passes.{Pass, IsOrder, AreDistinct, Begins, IsMarked, IsPass, IsFinished, IsMarkFault, PassStays, PassMarks}

-- ---- lists that begin alike

pub begins_itself : (xs : List ℕ) → Begins xs xs
begins_itself xs = ([], append-nil xs)

pub begins_on : (xs ys zs : List ℕ) → Begins xs ys → Begins ys zs → Begins xs zs
begins_on xs ys zs (r, is) (s, is') = (r ++ s, sym (append_assoc xs r s) ∙ ap (λ l. l ++ s) is ∙ is')

pub begins_has : (xs ys : List ℕ) (b : ℕ) → Begins xs ys → Contains xs b → Contains ys b
begins_has xs ys b (r, is) h = subst (λ (l : List ℕ). Contains l b) is (Contains-append_left xs r b h)

pub begins_at : (xs ys : List ℕ) (k : ℕ) → Begins xs ys → k < length xs → slice_index ys k ≡ slice_index xs k
begins_at xs ys k (r, is) below = ap (λ (l : List ℕ). get_or l k 0) (sym is) ∙ get_or_append_left xs r 0 k below

pub begins_length : (xs ys : List ℕ) → Begins xs ys → length xs ≤ length ys
begins_length xs ys (r, is) = omega (arith, length-append xs r, ap length is)

-- ---- marking

pub only_one : (x b : ℕ) → Contains (x ∷ []) b → x ≡ b
only_one x b h = one (Contains-push_cases [] x b h)
  where
    one : Contains [] b ⊎ (x ≡ b) → x ≡ b
    one (inl (k, lt, is)) = absurd (omega arith)
    one (inr same) = same

-- nothing was marked
pub marked_none : (xs : List ℕ) → IsMarked xs [] xs
marked_none xs = record {
  begins = begins_itself xs;
  each = λ b h. absurd (omega (arith, h.1));
  only = λ b h. inl h;
  distinct = λ d. d;
}

-- one marking after the other
pub marked_on : (xs ys zs first then : List ℕ) → IsMarked xs first ys → IsMarked ys then zs → IsMarked xs (first ++ then) zs
marked_on xs ys zs first then a b = record {
  begins = begins_on xs ys zs a.begins b.begins;
  each = λ c h. each c (Contains-append_cases first then c h);
  only = λ c h. only c (b.only c h);
  distinct = λ d. b.distinct (a.distinct d);
}
  where
    each : (c : ℕ) → Contains first c ⊎ Contains then c → Contains zs c
    each c (inl h) = begins_has ys zs c b.begins (a.each c h)
    each c (inr h) = b.each c h

    first_or : (c : ℕ) → Contains xs c ⊎ Contains first c → Contains xs c ⊎ Contains (first ++ then) c
    first_or c (inl h) = inl h
    first_or c (inr h) = inr (Contains-append_left first then c h)

    only : (c : ℕ) → Contains ys c ⊎ Contains then c → Contains xs c ⊎ Contains (first ++ then) c
    only c (inl h) = first_or c (a.only c h)
    only c (inr h) = inr (Contains-append_right first then c h)

-- the block was marked
pub marked_again : (xs : List ℕ) (x : ℕ) → Contains xs x → IsMarked xs (x ∷ []) xs
marked_again xs x there = record {
  begins = begins_itself xs;
  each = λ b h. subst (Contains xs) (only_one x b h) there;
  only = λ b h. inl h;
  distinct = λ d. d;
}

-- the block is marked now
pub marked_new : (xs : List ℕ) (x : ℕ) → (Contains xs x → ⊥) → IsMarked xs (x ∷ []) (xs ++ x ∷ [])
marked_new xs x absent = record {
  begins = (x ∷ [], refl);
  each = λ b h. Contains-append_right xs (x ∷ []) b h;
  only = λ b h. Contains-append_cases xs (x ∷ []) b h;
  distinct = distinct;
}
  where
    distinct : AreDistinct xs → AreDistinct (xs ++ x ∷ [])
    distinct d i j less below same =
        let size : length (xs ++ x ∷ []) ≡ length xs + 1 = length-append xs (x ∷ []) in
        let low : slice_index (xs ++ x ∷ []) i ≡ slice_index xs i = get_or_append_left xs (x ∷ []) 0 i (omega arith) in
        elim (cases_lt j (length xs)) [
          | inl inside ↦ d i j less inside (sym low ∙ same ∙ get_or_append_left xs (x ∷ []) 0 j inside)
          | inr last ↦
              let at : j ≡ length xs + 0 = omega arith in
              let is : slice_index (xs ++ x ∷ []) j ≡ x = ap (λ (k : ℕ). get_or (xs ++ x ∷ []) k 0) at ∙ get_or-append-add xs (x ∷ []) 0 0 in
              absent (subst (Contains xs) (sym low ∙ same ∙ is) (Contains-get_or xs i 0 (omega arith)))
        ]

-- ---- the set of marks and the list

has_to : (xs : List ℕ) (x : ℕ) → list_any (λ y. nat_eq y x) xs ≡ true → Contains xs x
has_to [] x some = absurd cc
has_to (y ∷ xs) x some = on (nat_eq y x) refl some (has_to xs x)
  where
    on : (b : Bool) → nat_eq y x ≡ b → (b || list_any (λ y. nat_eq y x) xs) ≡ true → (list_any (λ y. nat_eq y x) xs ≡ true → Contains xs x) → Contains (y ∷ xs) x
    on true is some again = (0, omega arith, eqb-true y x is)
    on false is some again = let found = again some in (suc found.0, omega (arith, found.1), found.2)

has_from : (xs : List ℕ) (x : ℕ) → Contains xs x → list_any (λ y. nat_eq y x) xs ≡ true
has_from xs x (k, lt, is) = list_any_at (λ y. nat_eq y x) xs k x lt (eq-eqb _ _ is)

pub listed_to : (order : List ℕ) (b : ℕ) → set.contains (set.from_list {R = nat_cmp} order) b ≡ true → Contains order b
listed_to order b h = has_to order b (sym (set.contains-from_list_nat order b) ∙ h)

pub listed_from : (order : List ℕ) (b : ℕ) → Contains order b → set.contains (set.from_list {R = nat_cmp} order) b ≡ true
listed_from order b h = set.contains-from_list_nat order b ∙ has_from order b h

-- a marked block is listed, and one that is not marked is not
pub is_listed : (marks : BlockSet) (order : List ℕ) (next b : ℕ) → IsOrder marks order next → set.contains marks.members b ≡ true → Contains order b
is_listed marks order next b o is = listed_to order b (ap (λ s. set.contains s b) (sym o.members) ∙ is)

pub not_listed : (marks : BlockSet) (order : List ℕ) (next b : ℕ) → IsOrder marks order next → set.contains marks.members b ≡ false → Contains order b → ⊥
not_listed marks order next b o is h =
    true≢false (sym (listed_from order b h) ∙ ap (λ s. set.contains s b) (sym o.members) ∙ is)

pub order_push : (marks : BlockSet) (order : List ℕ) (next b : ℕ) → IsOrder marks order next
    → IsOrder (record { blocks = marks.blocks; members = set.insert marks.members b }) (order ++ b ∷ []) next
order_push marks order next b o = record {
  members = ap (λ s. set.insert s b) o.members ∙ sym (set.from_list_push nat_cmp_total nat_cmp-IsAntisymmetric order b);
  within = omega (arith, o.within, length-append order (b ∷ []));
}

-- what marking a block leaves
pub marked_push : (held p : Pass) (marks : BlockSet) (b : ℕ) (new : List ℕ) → held ≡ p → IsOrder marks held.order held.next
    → set.contains marks.members b ≡ false → new ≡ held.order ++ b ∷ [] → IsMarked p.order (b ∷ []) new
marked_push held p marks b new is o absent pushed =
    subst (λ (l : List ℕ). IsMarked p.order (b ∷ []) l) (sym pushed)
    (subst (λ (q : Pass). IsMarked q.order (b ∷ []) (held.order ++ b ∷ [])) is
    (marked_new held.order b (not_listed marks held.order held.next b o absent)))

pub marked_there : (held p : Pass) (marks : BlockSet) (b : ℕ) → held ≡ p → IsOrder marks held.order held.next
    → set.contains marks.members b ≡ true → IsMarked p.order (b ∷ []) p.order
marked_there held p marks b is o there =
    subst (λ (q : Pass). IsMarked q.order (b ∷ []) q.order) is (marked_again held.order b (is_listed marks held.order held.next b o there))

-- a block that is no data block
pub outside_low : (blocks b : ℕ) → b < ANCHORS → IsMarkFault blocks (b ∷ []) Damaged
outside_low blocks b low = inr (refl, (b, Contains-push [] b, λ at. omega (arith, at.0)))

pub outside_high : (blocks b : ℕ) → blocks ≤ b → IsMarkFault blocks (b ∷ []) Damaged
outside_high blocks b high = inr (refl, (b, Contains-push [] b, λ at. omega (arith, at.1)))

pub fault_among : (blocks b : ℕ) (names : List ℕ) (fault : Fault) → Contains names b → IsMarkFault blocks (b ∷ []) fault → IsMarkFault blocks names fault
fault_among blocks b names fault there (inl memory) = inl memory
fault_among blocks b names fault there (inr (damaged, (c, within, outside))) =
    inr (damaged, (c, subst (Contains names) (only_one b c within) there, outside))

-- ---- passes

-- one block more was read
pub read_one : (f : Blocks) (p q : Pass) (held : Option (List ℕ)) (names : List ℕ) → IsPass f p → p.next < length p.order
    → f (slice_index p.order p.next) ≡ held → ((b : ℕ) → Contains names b ↔ Names held b) → IsMarked p.order names q.order
    → q.roots ≡ p.roots → q.next ≡ p.next + 1 → held ≢ None → IsPass f q
read_one f p q held names pass below is named marked roots next there = record {
  rooted = λ b h. begins_has p.order q.order b marked.begins (pass.rooted b (subst (λ (l : List ℕ). Contains l b) roots h));
  reached = λ b h. subst (λ (l : List ℕ). Reached f l b) (sym roots) (reached b (marked.only b h));
  named = λ k b lt h. elim (cases_lt k p.next) [
    | inl before ↦
        let at : slice_index q.order k ≡ slice_index p.order k = begins_at p.order q.order k marked.begins (omega arith) in
        begins_has p.order q.order b marked.begins (pass.named k b before (subst (λ (c : ℕ). Names (f c) b) at h))
    | inr after ↦
        let same : k ≡ p.next = omega arith in
        let at : slice_index q.order k ≡ slice_index p.order p.next =
        ap (slice_index q.order) same ∙ begins_at p.order q.order p.next marked.begins below in
        marked.each b ((named b).1 (subst (λ (o : Option (List ℕ)). Names o b) (ap f at ∙ is) h))
  ];
  whole = λ k lt none. elim (cases_lt k p.next) [
    | inl before ↦ pass.whole k before (ap f (sym (begins_at p.order q.order k marked.begins (omega arith))) ∙ none)
    | inr after ↦
        let same : k ≡ p.next = omega arith in
        let at : slice_index q.order k ≡ slice_index p.order p.next =
        ap (slice_index q.order) same ∙ begins_at p.order q.order p.next marked.begins below in
        there (sym (ap f at ∙ is) ∙ none)
  ];
  distinct = marked.distinct pass.distinct;
  within = omega (arith, begins_length p.order q.order marked.begins);
}
  where
    reached : (b : ℕ) → Contains p.order b ⊎ Contains names b → Reached f p.roots b
    reached b (inl h) = pass.reached b h
    reached b (inr h) =
        let own : Reached f p.roots (slice_index p.order p.next) = pass.reached _ (Contains-get_or p.order p.next 0 below) in
        IsNamed own (subst (λ (o : Option (List ℕ)). Names o b) (sym is) ((named b).0 h))

-- nothing was read
pub pass_begun : (f : Blocks) (p : Pass) → IsMarked [] p.roots p.order → p.next ≡ 0 → IsPass f p
pass_begun f p marked none = record {
  rooted = λ b h. marked.each b h;
  reached = λ b h. IsFirst (first b (marked.only b h));
  named = λ k b lt h. absurd (omega arith);
  whole = λ k lt. absurd (omega arith);
  distinct = marked.distinct (λ i j less below same. omega arith);
  within = omega arith;
}
  where
    first : (b : ℕ) → Contains [] b ⊎ Contains p.roots b → Contains p.roots b
    first b (inl (k, lt, is)) = absurd (omega arith)
    first b (inr h) = h

-- a pass with this list
abbrev pub with_order : Pass → List ℕ → Pass
with_order p order = record { blocks = p.blocks; roots = p.roots; order = order; next = p.next; bodies = p.bodies }

-- the roots were marked
pub begun : (f : Blocks) (p : Pass) (order names : List ℕ) → order ≡ [] → p.roots ≡ names → IsMarked order names p.order → p.next ≡ 0 → IsPass f p
begun f p order names none roots marked next =
    pass_begun f p (subst (λ (l : List ℕ). IsMarked [] l p.order) (sym roots) (subst (λ (l : List ℕ). IsMarked l names p.order) none marked)) next

-- the roots alone were
pub first_marked : (old names new : List ℕ) → old ≡ [] → IsMarked old names new → (b : ℕ) → Contains new b ↔ Contains names b
first_marked old names new none marked b = (λ h. named (marked.only b h), marked.each b)
  where
    named : Contains old b ⊎ Contains names b → Contains names b
    named (inl h) = let size : length old ≡ 0 = ap length none in absurd (omega (arith, h.1))
    named (inr h) = h

-- the block that is read next
pub at_next : (held p : Pass) (block : ℕ) → held ≡ p → block ≡ get_or held.order held.next block → p.next < length p.order
    → block ≡ slice_index p.order p.next
at_next held p block is at below =
    at ∙ ap (λ (q : Pass). get_or q.order q.next block) is ∙ get_or_default_zero p.order p.next block below

-- a pass that noted these bodies, and one with a block more as read
abbrev pub with_bodies : Pass → set.FinSet nat_cmp → Pass
with_bodies p bodies = record { blocks = p.blocks; roots = p.roots; order = p.order; next = p.next; bodies = bodies }

abbrev pub stepped : Pass → Pass
stepped p = record { blocks = p.blocks; roots = p.roots; order = p.order; next = p.next + 1; bodies = p.bodies }

-- the pass after its names are marked and its bodies noted, with one block more as read
pub record IsStepped (p m n held : Pass) : Type 0 where
  pub blocks : (stepped held).blocks ≡ p.blocks
  pub roots : (stepped held).roots ≡ p.roots
  pub order : (stepped held).order ≡ m.order
  pub next : (stepped held).next ≡ p.next + 1
  pub bodies : (stepped held).bodies ≡ n.bodies

pub is_stepped : (p m n held : Pass) → m ≡ with_order p m.order → n ≡ with_bodies m n.bodies → held ≡ n → IsStepped p m n held
is_stepped p m n held others noted seen =
    let all = seen ∙ noted in
    record {
      blocks = ap (λ (q : Pass). q.blocks) all ∙ ap (λ (q : Pass). q.blocks) others;
      roots = ap (λ (q : Pass). q.roots) all ∙ ap (λ (q : Pass). q.roots) others;
      order = ap (λ (q : Pass). q.order) all;
      next = ap (λ (q : Pass). q.next + 1) all ∙ ap (λ (q : Pass). q.next + 1) others;
      bodies = ap (λ (q : Pass). q.bodies) seen;
    }

pub read_and_marked : (f g : Blocks) (p m n held : Pass) (block : ℕ) (names : List ℕ) → IsPass f p → p.next < length p.order
    → g ≡ f → block ≡ slice_index p.order p.next → ((b : ℕ) → Contains names b ↔ Names (f block) b)
    → IsMarked p.order names m.order → IsStepped p m n held → f block ≢ None
    → IsPass g (stepped held)
read_and_marked f g p m n held block names pass below same at named marked is there =
    subst (λ (f : Blocks). IsPass f (stepped held)) (sym same)
    (read_one f p (stepped held) (f block) names pass below (ap f (sym at)) named
    (subst (λ (l : List ℕ). IsMarked p.order names l) (sym is.order) marked) is.roots is.next there)

-- ---- the laws

pub reached_same : (old new : Blocks) (roots : List ℕ) → Agrees roots old new → {b : ℕ} → Reached old roots b → Reached new roots b
reached_same old new roots same {b} (IsFirst first) = IsFirst first
reached_same old new roots same {b} (IsNamed {block = block} reached names) =
    IsNamed (reached_same old new roots same reached) (subst (λ (o : Option (List ℕ)). Names o b) (sym (same block reached)) names)

-- and back: what is reached later was reached before
pub reached_back : (old new : Blocks) (roots : List ℕ) → Agrees roots old new → {b : ℕ} → Reached new roots b → Reached old roots b
reached_back old new roots same {b} (IsFirst first) = IsFirst first
reached_back old new roots same {b} (IsNamed {block = block} reached names) =
    let there = reached_back old new roots same reached in
    IsNamed there (subst (λ (o : Option (List ℕ)). Names o b) (same block there) names)

pub pass_stays : PassStays
pass_stays old new p same pass = record {
  rooted = pass.rooted;
  reached = λ b h. reached_same old new p.roots same (pass.reached b h);
  named = λ k b lt h.
      pass.named k b lt
      (subst (λ (o : Option (List ℕ)). Names o b) (same (slice_index p.order k) (pass.reached _ (Contains-get_or p.order k 0 (omega (arith, pass.within))))) h);
  whole = λ k lt none. pass.whole k lt (sym (same (slice_index p.order k) (pass.reached _ (Contains-get_or p.order k 0 (omega (arith, pass.within))))) ∙ none);
  distinct = pass.distinct;
  within = pass.within;
}

marked_all : (f : Blocks) (p : Pass) → IsPass f p → IsFinished p → {b : ℕ} → Reached f p.roots b → Contains p.order b
marked_all f p pass end {b} (IsFirst first) = pass.rooted b first
marked_all f p pass end {b} (IsNamed {block = block} reached names) =
    let found = marked_all f p pass end reached in
    let at : slice_index p.order found.0 ≡ block = sym (get_or_default_zero p.order found.0 block found.1) ∙ found.2 in
    pass.named found.0 b (omega (arith, found.1)) (subst (λ (c : ℕ). Names (f c) b) (sym at) names)

pub pass_marks : PassMarks
pass_marks f p pass end b = (pass.reached b, λ h. marked_all f p pass end h)

-- the marks of a finished pass
pub marks_exact : (f : Blocks) (held p : Pass) (marks : BlockSet) → held ≡ p → IsOrder marks held.order held.next → IsFinished p → IsPass f p
    → (b : ℕ) → (set.contains marks.members b ≡ true) ↔ Reached f p.roots b
marks_exact f held p marks is o end pass b =
    let same : held.order ≡ p.order = ap (λ (q : Pass). q.order) is in (
      λ there. pass.reached b (subst (λ (l : List ℕ). Contains l b) same (is_listed marks held.order held.next b o there)),
      λ reached.
          ap (λ s. set.contains s b) o.members
          ∙ listed_from held.order b (subst (λ (l : List ℕ). Contains l b) (sym same) ((pass_marks f p pass end b).1 reached)),
    )

-- ---- refusals

-- names that are data blocks are refused for memory alone
pub only_memory : (held blocks : ℕ) (names : List ℕ) (fault : Fault) → held ≡ blocks → ((b : ℕ) → Contains names b → IsDataBlock blocks b)
    → IsMarkFault held names fault → fault ≡ NoMemory
only_memory held blocks names fault same all (inl memory) = memory
only_memory held blocks names fault same all (inr (damaged, (b, within, outside))) =
    let at = all b within in absurd (outside (at.0, omega (arith, at.1)))

-- a name that is no data block has no node
pub no_node : (f : Blocks) (p : Pass) (held : Option (List ℕ)) (names : List ℕ) (blocks : ℕ) (fault : Fault) → IsPass f p → p.next < length p.order
    → f (slice_index p.order p.next) ≡ held → ((b : ℕ) → Contains names b ↔ Names held b)
    → ((b : ℕ) → b < ANCHORS → f b ≡ None) → ((b : ℕ) → blocks ≤ b → f b ≡ None) → IsMarkFault blocks names fault → fault ≡ Damaged
    → (b : ℕ) × Reached f p.roots b × (f b ≡ None)
no_node f p held names blocks fault pass below is named low high (inl memory) damaged = absurd cc
no_node f p held names blocks fault pass below is named low high (inr (same, (b, within, outside))) damaged =
    let own : Reached f p.roots (slice_index p.order p.next) = pass.reached _ (Contains-get_or p.order p.next 0 below) in
    (b, IsNamed own (subst (λ (o : Option (List ℕ)). Names o b) (sym is) ((named b).0 within)), none (cases_lt b ANCHORS) (cases_lt b blocks))
  where
    none : (b < ANCHORS) ⊎ (ANCHORS ≤ b) → (b < blocks) ⊎ (blocks ≤ b) → f b ≡ None
    none (inl before) other = low b before
    none (inr after) (inr past) = high b past
    none (inr after) (inl inside) = absurd (outside (after, inside))

-- a step that may read more than can be marked ends the pass
pub all_read : (after : Pass) (most : ℕ) (answer : Result Bool Fault) (done : Bool) → answer ≡ Ok done
    → (answer ≡ Ok true → (after.next ≤ most) × IsFinished after) → (answer ≡ Ok false → ⊥) → IsFinished after
all_read after most answer true is end not_all = (end is).1
all_read after most answer false is end not_all = absurd (not_all is)

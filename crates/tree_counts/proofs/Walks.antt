-- A walk over what roots reach goes on from one root more.
use Rattle.std.proofs.Common.{◌≡◌, ◌≢◌, ◌↔◌, ◌⊎◌, inl, inr, ℕ, suc, ◌+◌, ◌-◌, ◌<◌, ◌≤◌, true, false, None, List, [], ◌∷◌, ◌++◌, length, take, drop, replicate, get_or, refl, sym, ap, subst, ◌∙◌, arith}
use Rattle.std.proofs.lemmas.Bool.{true≢false, cases_Bool, cases_lt}
use Rattle.std.proofs.lemmas.Grind.{get_or_default_zero}
use Rattle.std.proofs.lemmas.List.{length-append, get_or_append_left, get_or-append-add, get_or-replicate, get_or_past, length-replicate, take_more, take_rest, take_at, take_all, take-append-le, drop_at, take-append-drop, length-take-le}
use Rattle.std.proofs.lemmas.List.Elements.{Contains-append_left, Contains-append_right, Contains-append_cases, Contains-get_or}
use Rattle.std.specs.FinSet as set
use Rattle.std.specs.Ordering.{nat_cmp}
use Rattle.std.specs.Prelude.{slice_index, Contains}
use Rattle.fs_types.specs.declared.fault.Fault.{Fault}
use Rattle.fs_types.specs.declared.fault.Fault.TheVariants.{Damaged}
use Rattle.fs_types.specs.declared.limits.TheConstants.{ANCHORS}
use Rattle.block_ring.specs.Ring.{IsDataBlock}
use Rattle.node_format.specs.Headers.{body_header}
use Rattle.nodes.specs.Faults.{IsReadFault, IsLookFault}
use Rattle.nodes.specs.Bodies.{Blocks}
use Rattle.nodes.specs.Reached.{Reached, IsFirst, IsNamed}
use Rattle.nodes.specs.Trees.{IsRoot}
use Rattle.reclaim.specs.Kinds.{Knows}
use Rattle.reclaim.specs.Passes.{Pass, AreReached, Begins, HasRead, IsFinished, IsPass}
use Rattle.reclaim.specs.MoreRoots.{AddsRoot}
use Rattle.reclaim.specs.Verified.{AreRoots}
use Rattle.reclaim.proofs.KnownPasses.{begins_known}
use Rattle.reclaim.proofs.Marking.{begins_has, begins_itself, listed_to, listed_from, only_one, pass_marks}
use Rattle.reclaim.proofs.MoreRoots.{reached_more}
use Rattle.reclaim.proofs.Soundness.{trees_hold_nodes}
use Rattle.tree_counts.specs.FirstRoots.{AreFirstRoots}
use Rattle.tree_counts.specs.RootWalks.{IsWalked, ReadsOn}

-- whether a list has a number can be told
is_there : (xs : List ℕ) (b : ℕ) → Contains xs b ⊎ (Contains xs b → ⊥)
is_there xs b = elim (cases_Bool (set.contains (set.from_list {R = nat_cmp} xs) b)) [
  | inl there ↦ inl (listed_to xs b there)
  | inr absent ↦ inr (λ has. true≢false (sym (listed_from xs b has) ∙ absent))
]

-- no root reaches anything yet
pub none_first : (f : Blocks) (numbers : List ℕ) → ((b : ℕ) → slice_index numbers b ≡ 0) → AreFirstRoots f [] numbers
none_first f numbers none = record {
  within = λ b. omega (arith, none b);
  reached = λ b k few. (λ x. absurd (omega (arith, x.0, none b)), λ reached. absurd (unreached (subst (λ (l : List ℕ). Reached f l b) (take_all k [] (omega arith)) reached)));
}
  where
    unreached : {b : ℕ} → Reached f [] b → ⊥
    unreached {b} (IsFirst first) = omega (arith, first.1)
    unreached {b} (IsNamed {block = block} reached names) = unreached reached

-- what was marked since is what the new root reaches and none before it
module _ (f : Blocks) (p q : Pass) (root : ℕ) (was : IsPass f p) (ended : IsFinished p) (is : IsPass f q) (ends : IsFinished q) (roots : q.roots ≡ p.roots ++ root ∷ []) (begins : Begins p.order q.order) where
  rest : List ℕ
  rest = begins.0

  abbrev whole : p.order ++ begins.0 ≡ q.order
  whole = begins.1

  -- a block is marked once
  apart : (b : ℕ) → Contains p.order b → Contains begins.0 b → ⊥
  apart b (i, low, at) (j, high, at') =
      let size : length q.order ≡ length p.order + length begins.0 = ap length (sym begins.1) ∙ length-append p.order begins.0 in
      let first : slice_index q.order i ≡ b = ap (λ (l : List ℕ). get_or l i 0) (sym begins.1) ∙ get_or_append_left p.order begins.0 0 i low ∙ sym (get_or_default_zero p.order i b low) ∙ at in
      let later : slice_index q.order (length p.order + j) ≡ b = ap (λ (l : List ℕ). get_or l (length p.order + j) 0) (sym begins.1) ∙ get_or-append-add p.order begins.0 j 0 ∙ sym (get_or_default_zero begins.0 j b high) ∙ at' in
      is.distinct i (length p.order + j) (omega arith) (omega arith) (first ∙ sym later)

  before : (b : ℕ) → Contains p.order b ↔ Reached f p.roots b
  before = pass_marks f p was ended

  after : (b : ℕ) → Contains q.order b ↔ Reached f q.roots b
  after = pass_marks f q is ends

  more : (b : ℕ) → Reached f p.roots b → Reached f q.roots b
  more b reached = reached_more f p.roots q.roots (λ r has. subst (λ (l : List ℕ). Contains l r) (sym roots) (Contains-append_left p.roots (root ∷ []) r has)) reached

  fewer : (b k : ℕ) → Reached f (take k p.roots) b → Reached f p.roots b
  fewer b k reached = reached_more f (take k p.roots) p.roots (λ r has. subst (λ (l : List ℕ). Contains l r) (take-append-drop k p.roots) (Contains-append_left (take k p.roots) (drop k p.roots) r has)) reached

  count : length q.roots ≡ length p.roots + 1
  count = ap length roots ∙ length-append p.roots (root ∷ [])

  same_take : (k : ℕ) → k ≤ length p.roots → take k q.roots ≡ take k p.roots
  same_take k few = ap (take k) roots ∙ take-append-le k p.roots (root ∷ []) few

  pub first_on : (old new : List ℕ) → AreFirstRoots f p.roots old → ((b : ℕ) → Contains (drop (length p.order) q.order) b → slice_index new b ≡ length p.roots + 1)
      → ((b : ℕ) → (Contains (drop (length p.order) q.order) b → ⊥) → slice_index new b ≡ slice_index old b) → AreFirstRoots f q.roots new
  first_on old new firsts given others = record {
    within = λ b. elim (is_there begins.0 b) [
      | inl fresh ↦ omega (arith, count, given b (among b fresh))
      | inr older ↦ omega (arith, count, others b (λ has. older (among_rest b has)), firsts.within b)
    ];
    reached = λ b k few. elim (is_there begins.0 b) [
      | inl fresh ↦ newly b k (given b (among b fresh)) fresh few (cases_lt (length p.roots) k)
      | inr older ↦ as_before b k (others b (λ has. older (among_rest b has))) older few (cases_lt (length p.roots) k)
    ];
  }
    where
      since : drop (length p.order) q.order ≡ begins.0
      since = ap (drop (length p.order)) (sym begins.1) ∙ drop_at p.order begins.0 (length p.order) refl

      among : (b : ℕ) → Contains begins.0 b → Contains (drop (length p.order) q.order) b
      among b has = subst (λ (l : List ℕ). Contains l b) (sym since) has

      among_rest : (b : ℕ) → Contains (drop (length p.order) q.order) b → Contains begins.0 b
      among_rest b has = subst (λ (l : List ℕ). Contains l b) since has

      all : (b k : ℕ) → length p.roots < k → k ≤ length q.roots → Reached f (take k q.roots) b ↔ Reached f q.roots b
      all b k past few =
          let same : take k q.roots ≡ q.roots = take_all k q.roots (omega (arith, count)) in
          (λ r. subst (λ (l : List ℕ). Reached f l b) same r, λ r. subst (λ (l : List ℕ). Reached f l b) (sym same) r)

      newly : (b k : ℕ) → slice_index new b ≡ length p.roots + 1 → Contains begins.0 b → k ≤ length q.roots → (length p.roots < k) ⊎ (k ≤ length p.roots)
          → ((0 < slice_index new b) × (slice_index new b ≤ k)) ↔ Reached f (take k q.roots) b
      newly b k number fresh few (inl past) = (
        λ _. (all b k past few).1 ((after b).0 (subst (λ (l : List ℕ). Contains l b) begins.1 (Contains-append_right p.order begins.0 b fresh))),
        λ _. (omega arith, omega arith),
      )
      newly b k number fresh few (inr within) = (
        λ x. absurd (omega (arith, x.1)),
        λ reached. absurd (apart b ((before b).1 (fewer b k (subst (λ (l : List ℕ). Reached f l b) (same_take k within) reached))) fresh),
      )

      as_before : (b k : ℕ) → slice_index new b ≡ slice_index old b → (Contains begins.0 b → ⊥) → k ≤ length q.roots → (length p.roots < k) ⊎ (k ≤ length p.roots)
          → ((0 < slice_index new b) × (slice_index new b ≤ k)) ↔ Reached f (take k q.roots) b
      as_before b k number older few (inr within) =
          let is_old = firsts.reached b k within in (
            λ x. subst (λ (l : List ℕ). Reached f l b) (sym (same_take k within)) (is_old.0 (omega (arith, x.0, number), omega (arith, x.1, number))),
            λ reached. let x = is_old.1 (subst (λ (l : List ℕ). Reached f l b) (same_take k within) reached) in (omega (arith, x.0, number), omega (arith, x.1, number)),
          )
      as_before b k number older few (inl past) =
          let is_old = firsts.reached b (length p.roots) (omega arith) in
          let at_all : take (length p.roots) p.roots ≡ p.roots = take_all (length p.roots) p.roots (omega arith) in (
            λ x. (all b k past few).1 (more b (subst (λ (l : List ℕ). Reached f l b) at_all (is_old.0 (omega (arith, x.0, number), omega (arith, firsts.within b))))),
            λ reached.
                let x = is_old.1 (subst (λ (l : List ℕ). Reached f l b) (sym at_all) ((before b).0 (by (Contains-append_cases p.order begins.0 b (subst (λ (l : List ℕ). Contains l b) (sym begins.1) ((after b).1 ((all b k past few).0 reached))))))) in
                (omega (arith, x.0, number), omega (arith, x.1, number)),
          )
        where
          by : Contains p.order b ⊎ Contains begins.0 b → Contains p.order b
          by (inl has) = has
          by (inr has) = absurd (older has)

-- a root with a tree is a data block
pub root_is_data : (capacity : ℕ) (f : Blocks) (root blocks : ℕ) → ((b : ℕ) → b < ANCHORS → f b ≡ None) → ((b : ℕ) → blocks ≤ b → f b ≡ None) → IsRoot capacity f root → IsDataBlock blocks root
root_is_data capacity f root blocks low high tree =
    let some = trees_hold_nodes capacity f (root ∷ []) (λ r has. subst (IsRoot capacity f) (only_one root r has) tree) root (IsFirst (0, omega arith, refl)) in
    (from_low (cases_lt root ANCHORS) some, from_high (cases_lt root blocks) some)
  where
    from_low : (root < ANCHORS) ⊎ (ANCHORS ≤ root) → f root ≢ None → ANCHORS ≤ root
    from_low (inl below) some = absurd (some (low root below))
    from_low (inr is) some = is

    from_high : (root < blocks) ⊎ (blocks ≤ root) → f root ≢ None → root < blocks
    from_high (inl is) some = is
    from_high (inr beyond) some = absurd (some (high root beyond))

-- ---- a walk

pub not_damaged : (limit : ℕ) (f : Blocks) (p : Pass) (fault : Fault) → Knows limit f p → (fault ≡ Damaged → (b : ℕ) × Reached f p.roots b × (f b ≡ None)) → fault ≢ Damaged
not_damaged limit f p fault known damaged is = let (b, reached, none) = damaged is in known (λ k. trees_hold_nodes (limit - body_header) f p.roots k.trees b reached none)

pub look_fault : (fault : Fault) → IsReadFault fault → fault ≢ Damaged → IsLookFault fault
look_fault Damaged is apart = absurd (apart refl)
look_fault _ is apart = is

pub part_has : (xs : List ℕ) (n k b : ℕ) → Contains (take n (drop k xs)) b → Contains xs b
part_has xs n k b has =
    subst (λ (l : List ℕ). Contains l b) (take-append-drop k xs)
    (Contains-append_right (take k xs) (drop k xs) b (subst (λ (l : List ℕ). Contains l b) (take-append-drop n (drop k xs)) (Contains-append_left (take n (drop k xs)) (drop n (drop k xs)) b has)))

-- what a slice has that goes from one list's end to the end of another
pub rest_is : (m s : List ℕ) (order last : List ℕ) → m ≡ last → s ≡ order → take (length m - length s) (drop (length s) m) ≡ drop (length order) last
rest_is m s order last is was = take_rest m (length s) ∙ (λ i. drop (length (was i)) (is i))

none_listed : (xs : List ℕ) → ((b : ℕ) → Contains xs b → ⊥) → length xs ≡ 0
none_listed [] none = refl
none_listed (x ∷ xs) none = absurd (none x (0, omega arith, refl))

pub zeros : (n b : ℕ) → slice_index (replicate n 0) b ≡ 0
zeros n b = elim (cases_lt b n) [
  | inl below ↦ get_or-replicate n b 0 0 below
  | inr past ↦ get_or_past (replicate n 0) b 0 (omega (arith, length-replicate {A = ℕ} n 0))
]

-- a walk from no root
pub walk_begins : (limit blocks : ℕ) (f : Blocks) (p : Pass) (numbers roots : List ℕ) → IsPass f p → (p.blocks ≡ blocks) × (p.roots ≡ roots) × (p.next ≡ 0) → p.bodies ≡ set.empty → ((b : ℕ) → Contains p.order b ↔ Contains roots b) → roots ≡ []
    → numbers ≡ replicate blocks 0 → IsWalked limit f p numbers
walk_begins limit blocks f p numbers roots pass begun noted first none are =
    let empty : (b : ℕ) → Contains roots b → ⊥ = λ b has. let gone : Contains [] b = subst (λ (l : List ℕ). Contains l b) none has in omega (arith, gone.1) in
    let no_order = none_listed p.order (λ b has. empty b ((first b).0 has)) in
    record {
      pass = pass;
      finished = omega (arith, no_order, begun.2);
      known = begins_known limit f p (λ r has. absurd (empty r (subst (λ (l : List ℕ). Contains l r) begun.1 has))) pass (λ b has. absurd (empty b ((first b).0 has))) noted;
      numbered = subst (λ (l : List ℕ). AreFirstRoots f l numbers) (sym (begun.1 ∙ none)) (none_first f numbers (λ b. ap (λ (l : List ℕ). slice_index l b) are ∙ zeros blocks b));
      sized = ap length are ∙ length-replicate {A = ℕ} blocks 0 ∙ sym begun.0;
    }

pub same_root : (limit limit' root : ℕ) (f g : Blocks) → limit' ≡ limit → g ≡ f → IsRoot (limit - body_header) f root → IsRoot (limit' - body_header) g root
same_root limit limit' root f g same is tree = subst (λ (n : ℕ). IsRoot (n - body_header) g root) (sym same) (subst (λ (h : Blocks). IsRoot (limit - body_header) h root) (sym is) tree)

-- a slice of a whole vector that is given back
pub given_back : (n : ℕ) (now rest : List ℕ) → length now ≡ n → take n (now ++ rest) ≡ now
given_back n now rest same = take_at now rest n same

-- the first roots and the one after them are among all
pub first_among_all : (all some : List ℕ) (k : ℕ) → k < length all → some ≡ take k all → (r : ℕ) → Contains (some ++ get_or all k 0 ∷ []) r → Contains all r
first_among_all all some k below are r has =
    let more : some ++ get_or all k 0 ∷ [] ≡ take (k + 1) all = ap (λ (l : List ℕ). l ++ get_or all k 0 ∷ []) are ∙ sym (take_more all k 0 below) in
    subst (λ (l : List ℕ). Contains l r) (take-append-drop (k + 1) all) (Contains-append_left (take (k + 1) all) (drop (k + 1) all) r (subst (λ (l : List ℕ). Contains l r) more has))

-- ---- reads

-- nothing was read, and no root more was marked
pub reads_still : (f : Blocks) (p : Pass) (root before : ℕ) → IsPass f p → ReadsOn f (p.roots ++ root ∷ []) p.next before before
reads_still f p root before pass = record {
  blocks = p.order;
  are = record { distinct = pass.distinct; reached = λ b has. reached_more f p.roots (p.roots ++ root ∷ []) (λ r there. Contains-append_left p.roots (root ∷ []) r there) (pass.reached b has) };
  most = omega (arith, pass.within);
}

-- a pass went on
pub reads_on : (f : Blocks) (p q : Pass) (root before after : ℕ) → AddsRoot p root q → HasRead f q before after → ReadsOn f (p.roots ++ root ∷ []) p.next before after
reads_on f p q root before after adds read = record {
  blocks = read.seen;
  are = subst (λ (l : List ℕ). AreReached f l read.seen) adds.roots read.are;
  most = omega (arith, read.most, adds.next);
}

-- the reads of all roots are those before and those of one more
pub reads_all : (f : Blocks) (roots some : List ℕ) (seen first before after : ℕ) → ((r : ℕ) → Contains some r → Contains roots r) → before ≤ first + seen → ReadsOn f some seen before after → ReadsOn f roots 0 first after
reads_all f roots some seen first before after among so_far read = record {
  blocks = read.blocks;
  are = record { distinct = read.are.distinct; reached = λ b has. reached_more f some roots among (read.are.reached b has) };
  most = omega (arith, read.most);
}

-- all reads so far
pub reads_so_far : (f : Blocks) (p : Pass) (roots : List ℕ) (first after : ℕ) → ((r : ℕ) → Contains p.roots r → Contains roots r) → IsPass f p → after ≤ first + p.next → ReadsOn f roots 0 first after
reads_so_far f p roots first after among pass few = record {
  blocks = p.order;
  are = record { distinct = pass.distinct; reached = λ b has. reached_more f p.roots roots among (pass.reached b has) };
  most = omega (arith, pass.within);
}

-- The space that a try of a call takes, counted by data blocks.
use Rattle.std.proofs.Common.{◌≡◌, ◌≢◌, ℕ, zero, suc, ◌+◌, ◌-◌, ◌<◌, ◌≤◌, Bool, true, false, cond, not, ◌||◌, ◌&&◌, Result, Err, List, [], ◌∷◌, count_by, eqb, refl, sym, ap, subst, ◌∙◌, inl, inr, arith}
use Rattle.std.proofs.lemmas.Bool.{both_ways, true≢false, and_parts, eq-eqb, ne_eqb}
use Rattle.std.proofs.lemmas.Cmp.{nat_cmp_total}
use Rattle.std.proofs.lemmas.List.Sums.{sum_by-cons}
use Rattle.std.specs.Cmp.{unsigned_tied}
use Rattle.std.specs.FinMap.{nat_cmp-IsAntisymmetric}
use Rattle.std.specs.FinSet as set
use Rattle.std.specs.Ordering.{nat_cmp}
use Rattle.block_ring.specs.FreeCount.{count_less}
use Rattle.block_ring.specs.Ring.{IsDataBlock, data_blocks, free_count}
use Rattle.fs_types.specs.declared.call.Call.{Call}
use Rattle.fs_types.specs.declared.call.Reply.{Reply}
use Rattle.fs_types.specs.declared.fault.Fault.{Fault}
use Rattle.fs_types.specs.declared.fault.Fault.TheVariants.{FlashFull}
use Rattle.fs_types.specs.declared.limits.TheConstants.{ANCHORS}
use Rattle.flash_model.specs.declared.geometry.Geometry.{Geometry}
use Rattle.flash_model.specs.Device.{Device}
use Rattle.history_machine.specs.Machine.{need}
use Rattle.working_state.specs.Seen.{capacity_of, seen_on, machine_on, showing, shown_on}
use Rattle.working_state.specs.Steps.{is_sync}
use Rattle.working_state.specs.Steps as once_only
use Rattle.working_state.specs.declared.state.State.{State}
use Rattle.working_state.proofs.BadCounts.{IsWithin, some-block, fewer, len-within, within-back, count-by}
use Rattle.working_state.proofs.CutCalls.{own_says}
use Rattle.system.specs.Commits.{Saves, TriesOnce}
use Rattle.system.specs.Steps.{bad_data, Takes}
use Rattle.system.specs.Systems.{IsSystem}
use Rattle.system.specs.declared.systems.System.{System}
use Rattle.system.proofs.Syncs.{same_count, same_data}

abbrev Blocks : Type 0
Blocks = set.FinSet nat_cmp

-- the blocks of a set that are data blocks
abbrev data_in : ℕ → Blocks → ℕ
data_in n s = count_by (set.contains s) (data_blocks n)

-- ---- a set with one block less

removed : (t : Blocks) (b c : ℕ) → set.contains (set.remove t b) c ≡ (not (eqb c b) && set.contains t c)
removed t b c = set.contains-remove nat_cmp_total t b c ∙ ap (λ x. not x && set.contains t c) (unsigned_tied c b)

is_removed : (t : Blocks) (b : ℕ) → set.contains (set.remove t b) b ≡ false
is_removed t b = removed t b b ∙ ap (λ x. not x && set.contains t b) (eq-eqb b b refl)

others_stay : (t : Blocks) (b c : ℕ) → c ≢ b → set.contains t c ≡ set.contains (set.remove t b) c
others_stay t b c apart = sym (removed t b c ∙ ap (λ x. not x && set.contains t c) (ne_eqb c b apart))

one_less : (n : ℕ) (t : Blocks) (b : ℕ) → IsDataBlock n b → set.contains t b ≡ true → data_in n (set.remove t b) + 1 ≡ data_in n t
one_less n t b is has = count_less (set.contains t) (set.contains (set.remove t b)) ANCHORS (n - ANCHORS) b is.0 (let below = is.1 in let least = is.0 in omega arith) has (is_removed t b) (others_stay t b)

-- ---- a set that grew by data blocks

is_not : (x : Bool) → not x ≡ true → x ≡ false
is_not true h = absurd (true≢false (sym h))
is_not false h = refl

alike : (x y : Bool) → (x ≡ true → y ≡ true) → (y ≡ true → x ≡ true) → x ≡ y
alike true y to from = sym (to refl)
alike false true to from = from refl
alike false false to from = refl

-- a block of the one set that the other has not
record HasNew (s t : Blocks) : Type 0 where
  block : ℕ
  there : set.contains t block ≡ true
  is_new : set.contains s block ≡ false

has_new : (s t : Blocks) → set.len s < set.len t → HasNew s t
has_new s t more = by (set.len (set.difference t s)) refl
  where
    none : set.len (set.difference t s) ≡ 0 → IsWithin t s
    none is b has = by (set.contains s b) refl
      where
        by : (x : Bool) → set.contains s b ≡ x → set.contains s b ≡ true
        by true there = there
        by false gone = absurd (true≢false (
            sym (set.contains-difference nat_cmp_total t s b ∙ (λ i. has i && not (gone i)))
            ∙ ap (λ u. set.contains u b) (set.empty_of_len (set.difference t s) is) ∙ set.contains-empty nat_cmp b
            ))

    by : (n : ℕ) → set.len (set.difference t s) ≡ n → HasNew s t
    by zero is = absurd (let few = len-within t s (none is) in omega arith)
    by (suc n) is =
        let some = some-block (set.difference t s) n is in
        let parts = and_parts (set.contains t some.0) (not (set.contains s some.0)) (sym (set.contains-difference nat_cmp_total t s some.0) ∙ some.1) in
        record { block = some.0; there = parts.0; is_new = is_not (set.contains s some.0) parts.1 }

grown_by : (k n : ℕ) (s t : Blocks) → set.len t ≡ set.len s + k → IsWithin s t → ((b : ℕ) → set.contains t b ≡ true → set.contains s b ≡ false → IsDataBlock n b) → set.len t + data_in n s ≡ set.len s + data_in n t
grown_by zero n s t more within only =
    let same : t ≡ s = set.same_set nat_cmp_total nat_cmp-IsAntisymmetric t s (λ b. alike (set.contains t b) (set.contains s b) (within-back s t within (omega arith) b) (within b)) in
    ap (λ u. set.len u + data_in n s) same ∙ ap (λ u. set.len s + data_in n u) (sym same)
grown_by (suc k) n s t more within only =
    let extra = has_new s t (omega arith) in
    let b = extra.block in
    let less = fewer t b extra.there in
    let counted = one_less n t b (only b extra.there extra.is_new) extra.there in
    let rest = grown_by k n s (set.remove t b) (omega arith)
    (λ c has. sym (others_stay t b c (λ same. both_ways (set.contains s c) (ap (set.contains s) same ∙ extra.is_new) has)) ∙ within c has)
    (λ c has gone. only c (let parts = and_parts (not (eqb c b)) (set.contains t c) (sym (removed t b c) ∙ has) in parts.1) gone) in
    omega arith

-- where only data blocks came into a set, it is as much longer as it has data blocks more
grown : (n : ℕ) (s t : Blocks) → IsWithin s t → ((b : ℕ) → set.contains t b ≡ true → set.contains s b ≡ false → IsDataBlock n b) → set.len t + data_in n s ≡ set.len s + data_in n t
grown n s t within only = let more = len-within s t within in grown_by (set.len t - set.len s) n s t (omega arith) within only

-- ---- blocks that are neither bad nor reached

one_covered : (a b r u : Bool) → (a ≡ true → b ≡ true) → (u ≡ true → r ≡ true) → cond (not (a || r)) 1 0 + cond a 1 0 ≤ cond (not (u || b)) 1 0 + cond b 1 0
one_covered true false r u bad reached = absurd (true≢false (sym (bad refl)))
one_covered true true r u bad reached = omega arith
one_covered false true true u bad reached = omega arith
one_covered false true false u bad reached = omega arith
one_covered false false true u bad reached = omega arith
one_covered false false false true bad reached = absurd (true≢false (sym (reached refl)))
one_covered false false false false bad reached = omega arith

-- where what is used is reached, and the bad list grew
covered : (a b r u : ℕ → Bool) (xs : List ℕ) → ((x : ℕ) → a x ≡ true → b x ≡ true) → ((x : ℕ) → u x ≡ true → r x ≡ true)
    → count_by (λ x. not (a x || r x)) xs + count_by a xs ≤ count_by (λ x. not (u x || b x)) xs + count_by b xs
covered a b r u [] bad reached = omega arith
covered a b r u (x ∷ xs) bad reached =
    let rest = covered a b r u xs bad reached in
    let one = one_covered (a x) (b x) (r x) (u x) (bad x) (reached x) in
    let free_before = sum_by-cons (λ y. cond (not (a y || r y)) 1 0) x xs in
    let bad_before = sum_by-cons (λ y. cond (a y) 1 0) x xs in
    let free_after = sum_by-cons (λ y. cond (not (u y || b y)) 1 0) x xs in
    let bad_after = sum_by-cons (λ y. cond (b y) 1 0) x xs in
    omega arith

-- ---- one try

pub same_bad_data : (d e : Device) (s : State) → e.geometry ≡ d.geometry → bad_data e s ≡ bad_data d s
same_bad_data d e s same = ap (λ (g : Geometry). count_by (set.contains s.storage.bad) (data_blocks g.blocks)) same

pub more_bad : (d : Device) (s t : State) → ((b : ℕ) → set.contains s.storage.bad b ≡ true → set.contains t.storage.bad b ≡ true) → bad_data d s ≤ bad_data d t
more_bad d s t within = count-by (set.contains s.storage.bad) (set.contains t.storage.bad) (data_blocks d.geometry.blocks) within

-- a commit takes no block, and no data block goes bad
pub committed_data : {T : Type 0} (d e : Device) (m n : System) (result : Result T Fault) → Saves d m result e n → bad_data d n.state ≡ bad_data d m.state
committed_data d e m n result saves = same_count (set.contains n.state.storage.bad) (set.contains m.state.storage.bad) ANCHORS (d.geometry.blocks - ANCHORS) (same_data d e m.state.storage.bad n.state.storage.bad saves.only_anchors)

pub committed_takes : {T : Type 0} (d e : Device) (m n : System) (result : Result T Fault) → Saves d m result e n → n.state.storage.ring.takes ≡ m.state.storage.ring.takes
committed_takes d e m n result saves = ap (λ (t : State). t.storage.ring.takes) saves.state

module _ (d e : Device) (m n : System) (call : Call) (result : Result Reply Fault) (s : IsSystem d m) (once : TriesOnce d m call result e n) where
  once_listed : is_sync call ≡ false → set.len n.state.storage.bad + bad_data d m.state ≡ set.len m.state.storage.bad + bad_data d n.state
  once_listed other =
      let evolved = (once.leaves other).written.evolved in
      grown d.geometry.blocks m.state.storage.bad n.state.storage.bad evolved.stays_bad
      (λ b bad good. subst (λ (k : ℕ). IsDataBlock k b) s.mounted.ring_blocks (evolved.bad_data b bad good))

  pub once_takes : Takes d m.state (need (capacity_of d) (machine_on d m.state) call) n.state
  once_takes = by (is_sync call) refl
    where
      by : (x : Bool) → is_sync call ≡ x → Takes d m.state (need (capacity_of d) (machine_on d m.state) call) n.state
      by true is =
          let same = committed_data d e m n result (once.saves is) in
          let takes = committed_takes d e m n result (once.saves is) in
          omega arith
      by false is =
          let paid = (once.leaves is).written.paid in
          let listed = once_listed is in
          omega arith

-- a try that found the flash full: fewer blocks of the ring were free
module _ (d e : Device) (m n : System) (call : Call) (s : IsSystem d m) (once : TriesOnce d m call (Err FlashFull) e n) (other : is_sync call ≡ false) where
  pub full_once : free_count m.state.storage.ring m.state.storage.bad + bad_data d m.state < bad_data d n.state + need (capacity_of d) (machine_on d m.state) call
  full_once =
      let listed = once_listed d e m n call (Err FlashFull) s once other in
      let few = by m.state.is_off once.step.answers in
      omega arith
    where
      by : (off : Bool) → once_only.AnswersOnce (showing (seen_on d m.state) (machine_on d m.state) off) call (Err FlashFull) (shown_on e n.state)
          → free_count m.state.storage.ring m.state.storage.bad + set.len m.state.storage.bad < set.len n.state.storage.bad + need (capacity_of d) (machine_on d m.state) call
      by true h = absurd (let wrong = h.0 in cc)
      by false (inl says, _, _) = absurd (true≢false (own_says (machine_on d m.state) call FlashFull says))
      by false (inr why, _, _) = why.3.few_free

-- the free blocks of a ring that has only what is reached as used
pub free_of_reached : (blocks : ℕ) (bad later used reached : Blocks) → ((b : ℕ) → set.contains bad b ≡ true → set.contains later b ≡ true) → ((b : ℕ) → set.contains used b ≡ true → set.contains reached b ≡ true)
    → count_by (λ b. not (set.contains bad b || set.contains reached b)) (data_blocks blocks) + count_by (set.contains bad) (data_blocks blocks)
    ≤ count_by (λ b. not (set.contains used b || set.contains later b)) (data_blocks blocks) + count_by (set.contains later) (data_blocks blocks)
free_of_reached blocks bad later used reached within is = covered (set.contains bad) (set.contains later) (set.contains reached) (set.contains used) (data_blocks blocks) within is

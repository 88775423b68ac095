-- What a search in ring order finds, and what a block more leaves of a ring's facts.
use Rattle.std.proofs.Common.{◌≡◌, ◌≢◌, ℕ, zero, suc, ◌+◌, ◌-◌, ◌<◌, ◌≤◌, Bool, true, false, not, cond, ◌||◌, List, [], ◌∷◌, ◌++◌, Option, Some, None, find, refl, sym, ap, ◌∙◌, subst, inl, inr, arith}
use Rattle.std.proofs.lemmas.Bool.{true≢false, or_parts, eq-eqb, ne_eqb, cases_lt, cases_order}
use Rattle.std.proofs.lemmas.Cmp.{nat_cmp_total}
use Rattle.std.specs.Cmp.{unsigned_tied}
use Rattle.std.specs.FinSet as set
use Rattle.std.specs.List.{range_with_len}
use Rattle.std.specs.Option.{option_or}
use Rattle.std.specs.Ordering.{nat_cmp, eq_by_cmp}
use Rattle.fs_types.specs.declared.limits.TheConstants.{ANCHORS}
use Rattle.block_ring.specs.FreeCount.{free_count-less}
use Rattle.block_ring.specs.BlockSet.{BlockSet}
use Rattle.block_ring.specs.RingLaws.{distance_later, distance_earlier}
use Rattle.block_ring.specs.Ring.{Ring, IsDataBlock, AreDataBlocks, IsRing, IsNote, is_busy, free_count, distance, ring_order, IsNext, IsFirstFree, IsTaken}

-- the first number from a up to m at which `busy` is false
abbrev pub FirstIn : (ℕ → Bool) → ℕ → ℕ → Option ℕ → Type 0
FirstIn busy a m None = (c : ℕ) → a ≤ c → c < m → busy c ≡ true
FirstIn busy a m (Some b) = (a ≤ b) × (b < m) × (busy b ≡ false) × ((c : ℕ) → a ≤ c → c < b → busy c ≡ true)

-- one number more in front
first_more : (busy : ℕ → Bool) (a m : ℕ) (t : Bool) (r : Option ℕ) → busy a ≡ t → a < m → FirstIn busy (a + 1) m r
    → FirstIn busy a m (cond (not t) (Some a) r)
first_more busy a m false r is lt rest = (omega arith, lt, is, λ c low high. absurd (omega arith))
first_more busy a m true None is lt rest = λ c low high.
    elim (cases_order a c) [
      | inl here ↦ ap busy (sym here) ∙ is
      | inr (inl past) ↦ rest c (omega arith) high
      | inr (inr before) ↦ absurd (omega arith)
    ]
first_more busy a m true (Some b) is lt rest = (
  omega arith,
  rest.1,
  rest.2,
  λ c low high.
      elim (cases_order a c) [
        | inl here ↦ ap busy (sym here) ∙ is
        | inr (inl past) ↦ rest.3 c (omega arith) high
        | inr (inr before) ↦ absurd (omega arith)
      ],
)

first_in : (busy : ℕ → Bool) (a n m : ℕ) → a + n ≡ m → FirstIn busy a m (find (λ b. not (busy b)) (range_with_len a n))
first_in busy a zero m end = λ c low high. absurd (omega arith)
first_in busy a (suc n) m end =
    first_more busy a m (busy a) _ refl (omega arith) (first_in busy (a + 1) n m (omega arith))

find-append : (p : ℕ → Bool) (xs ys : List ℕ) → find p (xs ++ ys) ≡ option_or (find p xs) (find p ys)
find-append p [] ys = refl
find-append p (x ∷ xs) ys =
    elim (p x) as (λ b. cond b (Some x) (find p (xs ++ ys)) ≡ option_or (cond b (Some x) (find p xs)) (find p ys)) [
      | true ↦ refl
      | false ↦ find-append p xs ys
    ]

-- the first one after `last`, or else the first one up to it, is the first in ring order
first_of_both : (busy : ℕ → Bool) (n last : ℕ) (r s : Option ℕ) → IsDataBlock n last
    → FirstIn busy (last + 1) n r → FirstIn busy ANCHORS (last + 1) s → IsFirstFree busy n last (option_or r s)
first_of_both busy n last (Some b) s at after before =
    let near : distance n last b ≡ b - last = distance_later n last b (omega arith) in
    record {
      data_block = (omega arith, after.1);
      free = after.2;
      first = λ c data_c less. elim (cases_lt last c) [
        | inl later ↦ after.3 c (omega arith) (omega (arith, distance_later n last c later))
        | inr earlier ↦ absurd (omega (arith, distance_earlier n last c earlier))
      ];
    }
first_of_both busy n last None (Some b) at after before =
    let far : distance n last b ≡ b + (n - ANCHORS) - last = distance_earlier n last b (omega arith) in
    record {
      data_block = (before.0, omega arith);
      free = before.2;
      first = λ c data_c less. elim (cases_lt last c) [
        | inl later ↦ after c (omega arith) data_c.1
        | inr earlier ↦ before.3 c data_c.0 (omega (arith, distance_earlier n last c earlier))
      ];
    }
first_of_both busy n last None None at after before = λ c data_c. elim (cases_lt last c) [
  | inl later ↦ after c (omega arith) data_c.1
  | inr earlier ↦ before c data_c.0 (omega arith)
]

-- what the search in ring order finds is the first free block
pub first_found : (busy : ℕ → Bool) (n last : ℕ) (r : Option ℕ) → IsDataBlock n last
    → r ≡ find (λ b. not (busy b)) (ring_order n last) → IsFirstFree busy n last r
first_found busy n last r at found =
    subst (IsFirstFree busy n last)
    (sym (found ∙ find-append (λ b. not (busy b)) (range_with_len (last + 1) (n - (last + 1))) (range_with_len ANCHORS (last + 1 - ANCHORS))))
    (first_of_both busy n last _ _ at (first_in busy (last + 1) (n - (last + 1)) n (omega arith)) (first_in busy ANCHORS (last + 1 - ANCHORS) (last + 1) (omega arith)))

or_true : (t : Bool) → (t || true) ≡ true
or_true true = refl
or_true false = refl

-- what is used beside a new block was used before
still : (used : set.FinSet nat_cmp) (b c : ℕ) → c ≢ b → set.contains (set.insert used b) c ≡ true → set.contains used c ≡ true
still used b c other is_used =
    ap (λ t. t || set.contains used c) (sym (unsigned_tied c b ∙ ne_eqb c b other))
    ∙ sym (set.contains-insert nat_cmp_total used b c) ∙ is_used

pub contains-insert_same : (used : set.FinSet nat_cmp) (b : ℕ) → set.contains (set.insert used b) b ≡ true
contains-insert_same used b =
    set.contains-insert nat_cmp_total used b b
    ∙ ap (λ t. t || set.contains used b) (unsigned_tied b b ∙ eq-eqb b b refl)

-- a used block stays used
pub contains-kept : (used : set.FinSet nat_cmp) (b c : ℕ) → set.contains used c ≡ true → set.contains (set.insert used b) c ≡ true
contains-kept used b c is_used =
    set.contains-insert nat_cmp_total used b c ∙ ap (λ t. eq_by_cmp nat_cmp c b || t) is_used ∙ or_true (eq_by_cmp nat_cmp c b)

-- sets of data blocks: with one more, of two sets, and the empty one
pub AreDataBlocks-insert : (n : ℕ) (s : set.FinSet nat_cmp) (b : ℕ) → AreDataBlocks n s → IsDataBlock n b → AreDataBlocks n (set.insert s b)
AreDataBlocks-insert n s b all at = λ c is_in. elim (cases_order c b) [
  | inl same ↦ (omega (arith, at.0), omega (arith, at.1))
  | inr (inl less) ↦ all c (still s b c (omega arith) is_in)
  | inr (inr more) ↦ all c (still s b c (omega arith) is_in)
]

either_data : (n : ℕ) (s t : set.FinSet nat_cmp) (c : ℕ) (b : Bool) → set.contains s c ≡ b → AreDataBlocks n s → AreDataBlocks n t
    → (b || set.contains t c) ≡ true → IsDataBlock n c
either_data n s t c true is all all' both = all c is
either_data n s t c false is all all' both = all' c both

pub AreDataBlocks-union : (n : ℕ) (s t : set.FinSet nat_cmp) → AreDataBlocks n s → AreDataBlocks n t → AreDataBlocks n (set.union s t)
AreDataBlocks-union n s t all all' = λ c is_in.
    either_data n s t c (set.contains s c) refl all all' (sym (set.contains-union nat_cmp_total s t c) ∙ is_in)

pub AreDataBlocks-empty : (n : ℕ) → AreDataBlocks n set.empty
AreDataBlocks-empty n = λ b is_in. absurd (true≢false (sym is_in ∙ set.contains-empty nat_cmp b))

-- a note with one more data block, and an empty one
pub IsNote-insert : (n : ℕ) (note : BlockSet) (b : ℕ) → IsNote n note → IsDataBlock n b
    → IsNote n (record { blocks = note.blocks; members = set.insert note.members b })
IsNote-insert n note b noted at = record {
  same_blocks = noted.same_blocks;
  noted_blocks = AreDataBlocks-insert n note.members b noted.noted_blocks at;
}

pub IsNote-empty : (n m : ℕ) → m ≡ n → IsNote n (record { blocks = m; members = set.empty })
IsNote-empty n m same = record { same_blocks = same; noted_blocks = AreDataBlocks-empty n }

-- a ring whose used blocks are the marked and the noted ones
pub installed : (n last : ℕ) (used : set.FinSet nat_cmp) (note marks : BlockSet) → IsRing n used last → IsNote n note → marks.blocks ≡ n
    → AreDataBlocks marks.blocks marks.members → IsRing marks.blocks (set.union marks.members note.members) last × IsNote marks.blocks note
installed n last used note marks ring noted same all = (
  record {
    size = (omega (arith, ring.size.0), omega (arith, ring.size.1));
    last_block = (ring.last_block.0, omega (arith, ring.last_block.1));
    used_blocks = AreDataBlocks-union marks.blocks marks.members note.members all
        (λ b is_in. let at = noted.noted_blocks b is_in in (at.0, omega (arith, at.1)));
  },
  record {
    same_blocks = noted.same_blocks ∙ sym same;
    noted_blocks = λ b is_in. let at = noted.noted_blocks b is_in in (at.0, omega (arith, at.1));
  },
)

-- a ring with one more data block used
pub IsRing-insert : (n : ℕ) (used : set.FinSet nat_cmp) (last b new_last : ℕ) → IsRing n used last → IsDataBlock n b → IsDataBlock n new_last
    → IsRing n (set.insert used b) new_last
IsRing-insert n used last b new_last ring at new = record {
  size = ring.size;
  last_block = new;
  used_blocks = AreDataBlocks-insert n used b ring.used_blocks at;
}

-- an empty ring
pub IsRing-empty : (n last : ℕ) → (16 ≤ n) × (n ≤ 65536) → IsDataBlock n last → IsRing n set.empty last
IsRing-empty n last size at = record {
  size = size;
  last_block = at;
  used_blocks = AreDataBlocks-empty n;
}

-- a ring after block b was taken
abbrev pub after_take : Ring → ℕ → Ring
after_take r b = record { blocks = r.blocks; used = set.insert r.used b; note = set.insert r.note b; last = b; takes = r.takes + 1 }

-- the search of a ring finds the block that is next
pub next_found : (held r : Ring) (bad : set.FinSet nat_cmp) (o : Option ℕ) (b : ℕ) → held ≡ r → IsRing held.blocks held.used held.last
    → o ≡ find (λ b. not (is_busy r bad b)) (ring_order r.blocks r.last) → o ≡ Some b → IsNext (is_busy r bad) r.blocks r.last b
next_found held r bad o b seen ring found some =
    let seen_ring : IsRing r.blocks r.used r.last = subst (λ (r : Ring). IsRing r.blocks r.used r.last) seen ring in
    first_found (is_busy r bad) r.blocks r.last (Some b) seen_ring.last_block (sym some ∙ found)

pub none_found : (held r : Ring) (bad : set.FinSet nat_cmp) (o : Option ℕ) → held ≡ r → IsRing held.blocks held.used held.last
    → o ≡ find (λ b. not (is_busy r bad b)) (ring_order r.blocks r.last) → IsFirstFree (is_busy r bad) r.blocks r.last o
none_found held r bad o seen ring found =
    let seen_ring : IsRing r.blocks r.used r.last = subst (λ (r : Ring). IsRing r.blocks r.used r.last) seen ring in
    first_found (is_busy r bad) r.blocks r.last o seen_ring.last_block found

-- a block that is not busy is neither used nor bad
pub not_used : (r : Ring) (bad : set.FinSet nat_cmp) (b : ℕ) → is_busy r bad b ≡ false → set.contains r.used b ≡ false
not_used r bad b free = (or_parts (set.contains r.used b) (set.contains bad b) free).0

pub not_bad : (r : Ring) (bad : set.FinSet nat_cmp) (b : ℕ) → is_busy r bad b ≡ false → set.contains bad b ≡ false
not_bad r bad b free = (or_parts (set.contains r.used b) (set.contains bad b) free).1

-- what a take makes used is the block taken
pub only_taken : (r s : Ring) (b c : ℕ) → s ≡ after_take r b → set.contains s.used c ≡ true → set.contains r.used c ≡ false → c ≡ b
only_taken r s b c taken now before =
    elim (cases_order c b) [
      | inl same ↦ same
      | inr (inl less) ↦ absurd (true≢false (sym (still r.used b c (omega arith) (sym (ap (λ (t : Ring). set.contains t.used c) taken) ∙ now)) ∙ before))
      | inr (inr more) ↦ absurd (true≢false (sym (still r.used b c (omega arith) (sym (ap (λ (t : Ring). set.contains t.used c) taken) ∙ now)) ∙ before))
    ]

pub taken_noted : (r s : Ring) (b c : ℕ) → s ≡ after_take r b → set.contains s.used c ≡ true → set.contains r.used c ≡ false
    → set.contains s.note c ≡ true
taken_noted r s b c taken now before =
    ap (λ (t : Ring). set.contains t.note c) taken ∙ ap (set.contains (set.insert r.note b)) (only_taken r s b c taken now before)
    ∙ contains-insert_same r.note b

-- a take is paid for by a free block
pub free_count-taken : (r s : Ring) (bad : set.FinSet nat_cmp) (b : ℕ) → s ≡ after_take r b → IsDataBlock r.blocks b → is_busy r bad b ≡ false
    → free_count s bad + s.takes ≡ free_count r bad + r.takes
free_count-taken r s bad b taken at free =
    let less = free_count-less r s bad b (ap (λ (t : Ring). t.blocks) taken) (ap (λ (t : Ring). t.used) taken) at free in
    let more : s.takes ≡ r.takes + 1 = ap (λ (t : Ring). t.takes) taken in
    omega arith

-- what a take leaves, by the ring that it leaves
pub is_taken : (old new : Ring) (bad : set.FinSet nat_cmp) (b : ℕ) → new ≡ after_take old b → IsDataBlock old.blocks old.last → IsNext (is_busy old bad) old.blocks old.last b → IsTaken old bad b new
is_taken r s bad b ring last next = record {
  last_block = last;
  next = next;
  fresh = not_used r bad b next.free;
  good = not_bad r bad b next.free;
  ring = ring;
  used = ap (λ (t : Ring). set.contains t.used b) ring ∙ contains-insert_same r.used b;
  kept = λ d is_used. ap (λ (t : Ring). set.contains t.used d) ring ∙ contains-kept r.used b d is_used;
  noted = λ d now before. taken_noted r s b d ring now before;
  note_stays = λ d is_noted. ap (λ (t : Ring). set.contains t.note d) ring ∙ contains-kept r.note b d is_noted;
  paid = free_count-taken r s bad b ring next.data_block next.free;
}

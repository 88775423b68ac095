-- How far blocks lie in ring order, and the next free block from a later one on.
use Rattle.std.specs.Prelude.{◌≡◌, ℕ, ◌+◌, ◌-◌, ◌<◌, ◌≤◌, ◌≢◌, Bool, true}
use Rattle.std.proofs.Common.{ap, ◌∙◌, inl, inr, arith}
use Rattle.std.proofs.lemmas.Bool.{lt-ltb, le-ltb, cases_lt, cases_order, cases_Bool, both_ways}
use Rattle.fs_types.specs.declared.limits.TheConstants.{ANCHORS}
use Rattle.block_ring.specs.Ring.{IsDataBlock, distance, IsNext}

-- a later block is nearer, and the blocks up to `last` come after those
pub distance_later : (n last b : ℕ) → last < b → distance n last b ≡ b - last
distance_later n last b later = rw (lt-ltb last b later)

pub distance_earlier : (n last b : ℕ) → b ≤ last → distance n last b ≡ b + (n - ANCHORS) - last
distance_earlier n last b earlier = rw (le-ltb last b earlier)

-- what is farther than c from `last` is as much farther from `last` as it is far from c
pub farther : (n last c b : ℕ) → IsDataBlock n last → IsDataBlock n c → IsDataBlock n b
    → distance n last c < distance n last b → distance n c b + distance n last c ≡ distance n last b
farther n last c b data_last data_c data_b less =
    elim (cases_lt last c) [
      | inl c_later ↦ elim (cases_lt last b) [
        | inl b_later ↦
            let at_c = distance_later n last c c_later in
            let at_b = distance_later n last b b_later in
            omega (arith, distance_later n c b (omega arith))
        | inr b_earlier ↦
            let at_c = distance_later n last c c_later in
            let at_b = distance_earlier n last b b_earlier in
            omega (arith, distance_earlier n c b (omega arith))
      ]
      | inr c_earlier ↦ elim (cases_lt last b) [
        | inl b_later ↦
            let at_c = distance_earlier n last c c_earlier in
            let at_b = distance_later n last b b_later in
            absurd (omega arith)
        | inr b_earlier ↦
            let at_c = distance_earlier n last c c_earlier in
            let at_b = distance_earlier n last b b_earlier in
            omega (arith, distance_later n c b (omega arith))
      ]
    ]

-- two blocks are not as far
pub as_far : (n last c b : ℕ) → IsDataBlock n last → IsDataBlock n c → IsDataBlock n b → distance n last c ≡ distance n last b → b ≡ c
as_far n last c b data_last data_c data_b same =
    elim (cases_lt last c) [
      | inl c_later ↦ elim (cases_lt last b) [
        | inl b_later ↦ omega (arith, distance_later n last c c_later, distance_later n last b b_later)
        | inr b_earlier ↦ absurd (omega (arith, distance_later n last c c_later, distance_earlier n last b b_earlier))
      ]
      | inr c_earlier ↦ elim (cases_lt last b) [
        | inl b_later ↦ absurd (omega (arith, distance_earlier n last c c_earlier, distance_later n last b b_later))
        | inr b_earlier ↦ omega (arith, distance_earlier n last c c_earlier, distance_earlier n last b b_earlier)
      ]
    ]

-- c is the next block after `last`, and b the next one after c. Where c is busy, and all that was, then b is the next one
-- after `last`
pub next_on : (was later busy : ℕ → Bool) (n last c b : ℕ) → IsDataBlock n last → IsNext was n last c → IsNext later n c b
    → ((d : ℕ) → was d ≡ true → busy d ≡ true) → busy c ≡ true → ((d : ℕ) → busy d ≡ true → later d ≡ true)
    → ((d : ℕ) → d ≢ c → later d ≡ true → busy d ≡ true) → IsNext busy n last b
next_on was later busy n last c b data_last at_c at_b stays here busy_later only = record {
  data_block = at_b.data_block;
  free = elim (cases_Bool (busy b)) [
    | inl is ↦ absurd (both_ways (later b) at_b.free (busy_later b is))
    | inr is_not ↦ is_not
  ];
  first = λ d data_d less. elim (cases_order (distance n last c) (distance n last d)) [
    | inl same ↦ ap busy (as_far n last c d data_last at_c.data_block data_d same) ∙ here
    | inr (inl past) ↦
        let far_d = farther n last c d data_last at_c.data_block data_d past in
        let far_b = farther n last c b data_last at_c.data_block at_b.data_block (omega arith) in
        only d (λ same. absurd (omega (arith, ap (distance n last) same))) (at_b.first d data_d (omega arith))
    | inr (inr before) ↦ stays d (at_c.first d data_d before)
  ];
}

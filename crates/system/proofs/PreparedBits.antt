-- The set that the bits of words show, with a block taken out.
use Rattle.std.proofs.Common.{◌≡◌, ◌≢◌, ℕ, ◌*◌, ◌/◌, ◌%◌, ◌^◌, ◌<◌, ◌≤◌, Bool, true, false, ◌&&◌, eqb, ltb, List, length, get_or, set, refl, sym, ap, ◌∙◌, inl, inr, arith, w64}
use Rattle.std.proofs.lemmas.Bool.{eq-eqb, ne_eqb, cases_order}
use Rattle.std.proofs.lemmas.Cmp.{nat_cmp_total}
use Rattle.std.proofs.lemmas.Grind.{get_or_default_zero}
use Rattle.std.proofs.lemmas.List.{get_or-set_same, get_or-set_other}
use Rattle.std.proofs.lemmas.Nat.Bits.{bit_at_clear_same, bit_at_clear_other}
use Rattle.std.specs.Cmp.{unsigned_tied}
use Rattle.std.specs.FinMap.{nat_cmp-IsAntisymmetric}
use Rattle.std.specs.FinSet as fin
use Rattle.std.specs.Int.{bit_at, bit_not}
use Rattle.std.specs.Int.RustNames.{bit_and}
use Rattle.std.specs.Prelude.{not}
use Rattle.block_ring.specs.Bits.{is_set, members_of}
use Rattle.block_ring.specs.BlockSet.{BlockSet}
use Rattle.block_ring.proofs.SetBits.{contains-members_of, seen, with_members}

-- the word in which a block's bit is cleared
abbrev pub cleared : ℕ → ℕ → ℕ
cleared word b = bit_and word (bit_not w64 (1 * 2 ^ (b % 64) % 2 ^ 64))

is_set_same : (words : List ℕ) (word b : ℕ) → b / 64 < length words → is_set (set words (b / 64) (cleared word b)) b ≡ false
is_set_same words word b within =
    ap (λ w. eqb (bit_at w (b % 64)) 1) (get_or-set_same words (b / 64) (cleared word b) 0 within)
    ∙ ap (λ x. eqb x 1) (bit_at_clear_same w64 word (b % 64) (omega arith))

other_word : (words : List ℕ) (word b q : ℕ) → q / 64 ≢ b / 64 → is_set (set words (b / 64) (cleared word b)) q ≡ is_set words q
other_word words word b q apart = ap (λ w. eqb (bit_at w (q % 64)) 1) (get_or-set_other words (b / 64) (q / 64) (cleared word b) 0 apart)

is_set_other : (words : List ℕ) (word b q : ℕ) → word ≡ get_or words (b / 64) 0 → q ≢ b → b / 64 < length words → is_set (set words (b / 64) (cleared word b)) q ≡ is_set words q
is_set_other words word b q at other within =
    elim (cases_order (q / 64) (b / 64)) [
      | inl same ↦
          let apart : q % 64 ≢ b % 64 = λ e. other (omega (arith, e)) in
          ap (λ i. eqb (bit_at (get_or (set words (b / 64) (cleared word b)) i 0) (q % 64)) 1) same
          ∙ ap (λ w. eqb (bit_at w (q % 64)) 1) (get_or-set_same words (b / 64) (cleared word b) 0 within)
          ∙ ap (λ x. eqb x 1) (bit_at_clear_other w64 word (b % 64) (omega arith) (q % 64) (omega arith) apart)
          ∙ ap (λ w. eqb (bit_at w (q % 64)) 1) at
          ∙ ap (λ i. eqb (bit_at (get_or words i 0) (q % 64)) 1) (sym same)
      | inr (inl less) ↦ other_word words word b q (omega arith)
      | inr (inr more) ↦ other_word words word b q (omega arith)
    ]

and_none : (b : Bool) → (b && false) ≡ false
and_none true = refl
and_none false = refl

kept : (n : ℕ) (words : List ℕ) (word b q : ℕ) → word ≡ get_or words (b / 64) 0 → q ≢ b → b / 64 < length words
    → (ltb q n && is_set (set words (b / 64) (cleared word b)) q) ≡ fin.contains (fin.remove (members_of n words) b) q
kept n words word b q at other within =
    ap (λ t. ltb q n && t) (is_set_other words word b q at other within)
    ∙ sym (fin.contains-remove nat_cmp_total _ b q
    ∙ ap (λ t. not t && fin.contains (members_of n words) q) (unsigned_tied q b ∙ ne_eqb q b other)
    ∙ contains-members_of n words q)

-- to clear a block's bit is to take the block out of the set
members_of-cleared : (n : ℕ) (words : List ℕ) (m b word : ℕ) → n ≤ 64 * m → m ≡ length words → b < n → word ≡ get_or words (b / 64) word
    → members_of n (set words (b / 64) (cleared word b)) ≡ fin.remove (members_of n words) b
members_of-cleared n words m b word room long below read =
    let at : word ≡ get_or words (b / 64) 0 = read ∙ get_or_default_zero words (b / 64) word (omega arith) in
    let within : b / 64 < length words = omega arith in
    fin.same_set nat_cmp_total nat_cmp-IsAntisymmetric _ _ (λ q.
    contains-members_of n (set words (b / 64) (cleared word b)) q ∙ elim (cases_order q b) [
      | inl same ↦
          ap (λ k. ltb q n && is_set (set words (b / 64) (cleared word b)) k) same
          ∙ ap (λ t. ltb q n && t) (is_set_same words word b within)
          ∙ and_none (ltb q n)
          ∙ sym (fin.contains-remove nat_cmp_total _ b q ∙ ap (λ t. not t && fin.contains (members_of n words) q) (unsigned_tied q b ∙ eq-eqb q b same))
      | inr (inl less) ↦ kept n words word b q at (omega arith) within
      | inr (inr more) ↦ kept n words word b q at (omega arith) within
    ])

abbrev pub without_block : BlockSet → ℕ → BlockSet
without_block s b = record { blocks = s.blocks; members = fin.remove s.members b }

pub seen-cleared : (n : ℕ) (words : List ℕ) (s : BlockSet) (m b word : ℕ) → seen n words ≡ s
    → n ≤ 64 * m → m ≡ length words → b < s.blocks → word ≡ get_or words (b / 64) word
    → seen n (set words (b / 64) (cleared word b)) ≡ without_block s b
seen-cleared n words s m b word is room long below read =
    let count : n ≡ s.blocks = ap (λ (t : BlockSet). t.blocks) is in
    ap (with_members n) (members_of-cleared n words m b word room long (omega arith) read) ∙ ap (λ t. without_block t b) is

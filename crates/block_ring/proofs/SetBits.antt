-- The set that the bits of words show: its members, one member more, and none.
use Rattle.std.proofs.Common.{◌≡◌, ◌≢◌, ℕ, ◌+◌, ◌*◌, ◌/◌, ◌%◌, ◌^◌, ◌<◌, ◌≤◌, ◌⊎◌, max, Bool, true, false, ◌&&◌, ◌||◌, eqb, ltb, List, length, replicate, get_or, set, refl, sym, ap, ◌∙◌, subst, inl, inr, arith, w64}
use Rattle.std.proofs.lemmas.Bool.{true≢false, eq-eqb, ne_eqb, lt-ltb, le-ltb, cases_lt, cases_order}
use Rattle.std.proofs.lemmas.Cmp.{nat_cmp_total}
use Rattle.std.proofs.lemmas.Grind.{get_or_default_zero}
use Rattle.std.proofs.lemmas.List.{get_or-set_same, get_or-set_other, get_or-replicate, get_or_past, length-replicate}
use Rattle.std.proofs.lemmas.List.Elements.{All-from_get_or}
use Rattle.std.proofs.lemmas.List.Folds.{list_any_none, list_any_at}
use Rattle.std.proofs.lemmas.List.FromFn.{length-range_with_len, get_or-range_with_len}
use Rattle.std.proofs.lemmas.Nat.Bits.{bit_at-zero, bit_at_set_same, bit_at_set_other, bit_at_or, bit_at-lt, bit_at-trailing_zeros, shr_and_one}
use Rattle.std.specs.Cmp.{unsigned_tied}
use Rattle.std.specs.FinMap.{nat_cmp-IsAntisymmetric}
use Rattle.std.specs.FinSet as fin
use Rattle.std.specs.Int.{bit_at, trailing_zeros}
use Rattle.std.specs.Int.RustNames.{bit_or, bit_and}
use Rattle.std.specs.List.{range_with_len}
use Rattle.std.specs.Ordering.{nat_cmp}
use Rattle.block_ring.specs.Bits.{is_set, members_of}
use Rattle.block_ring.specs.BlockSet.{BlockSet}

pub contains-range : (n q : ℕ) → fin.contains (fin.from_list {R = nat_cmp} (range_with_len 0 n)) q ≡ ltb q n
contains-range n q =
    let long : length (range_with_len 0 n) ≡ n = length-range_with_len 0 n in
    fin.contains-from_list_nat (range_with_len 0 n) q ∙ elim (cases_lt q n) [
      | inl below ↦
          let at : get_or (range_with_len 0 n) q 0 ≡ q = get_or-range_with_len 0 n q 0 below ∙ omega arith in
          list_any_at (λ y. eqb y q) (range_with_len 0 n) q 0 (omega arith) (eq-eqb _ _ at) ∙ sym (lt-ltb q n below)
      | inr past ↦
          let other : (k : ℕ) → k < length (range_with_len 0 n) → eqb (get_or (range_with_len 0 n) k 0) q ≡ false =
          λ k lt. ne_eqb _ _ (let at : get_or (range_with_len 0 n) k 0 ≡ 0 + k = get_or-range_with_len 0 n k 0 (omega arith) in omega arith) in
          list_any_none (λ y. eqb y q) _ (All-from_get_or (λ y. eqb y q ≡ false) (range_with_len 0 n) 0 other) ∙ sym (le-ltb q n past)
    ]

pub contains-members_of : (n : ℕ) (words : List ℕ) (q : ℕ) → fin.contains (members_of n words) q ≡ (ltb q n && is_set words q)
unfolding members_of
contains-members_of n words q =
    fin.contains-retain _ (is_set words) q (λ x tie. ap (is_set words) (sym (nat_cmp-IsAntisymmetric q x tie)))
    ∙ ap (λ b. b && is_set words q) (contains-range n q)

-- what is read at a block of the flash
pub is_member : (n : ℕ) (words : List ℕ) (m q word : ℕ) → n ≤ 64 * m → m ≡ length words → q < n → word ≡ get_or words (q / 64) word
    → eqb (bit_and (word / 2 ^ (q % 64)) 1) 1 ≡ fin.contains (members_of n words) q
is_member n words m q word room long below read =
    let at : word ≡ get_or words (q / 64) 0 = read ∙ get_or_default_zero words (q / 64) word (omega arith) in
    ap (λ x. eqb x 1) (shr_and_one word (q % 64) ∙ ap (λ x. bit_at x (q % 64)) at)
    ∙ sym (contains-members_of n words q ∙ ap (λ b. b && is_set words q) (lt-ltb q n below))

pub no_member : (n : ℕ) (words : List ℕ) (q : ℕ) → n ≤ q → fin.contains (members_of n words) q ≡ false
no_member n words q past = contains-members_of n words q ∙ ap (λ b. b && is_set words q) (le-ltb q n past)

and_none : (b : Bool) → (b && false) ≡ false
and_none true = refl
and_none false = refl

-- no bit of words that are 0 is set
pub members_of-replicate : (n k : ℕ) → members_of n (replicate k 0) ≡ fin.empty
members_of-replicate n k =
    fin.same_set nat_cmp_total nat_cmp-IsAntisymmetric _ _ (λ q.
    let zero_word : get_or (replicate k 0) (q / 64) 0 ≡ 0 = elim (cases_lt (q / 64) k) [
      | inl within ↦ get_or-replicate k (q / 64) 0 0 within
      | inr past ↦ get_or_past (replicate k 0) (q / 64) 0 (omega (arith, length-replicate {A = ℕ} k 0))
    ] in
    let clear : is_set (replicate k 0) q ≡ false = ap (λ w. eqb (bit_at w (q % 64)) 1) zero_word ∙ ap (λ b. eqb b 1) (bit_at-zero (q % 64)) in
    contains-members_of n (replicate k 0) q ∙ ap (λ b. ltb q n && b) clear ∙ and_none (ltb q n) ∙ sym (fin.contains-empty nat_cmp q))

-- the word in which a block's bit is set
abbrev pub marked : List ℕ → ℕ → ℕ
marked words b = bit_or (get_or words (b / 64) 0) (1 * 2 ^ (b % 64) % 2 ^ 64)

is_set_same : (words : List ℕ) (b : ℕ) → b / 64 < length words → is_set (set words (b / 64) (marked words b)) b ≡ true
is_set_same words b within =
    ap (λ w. eqb (bit_at w (b % 64)) 1) (get_or-set_same words (b / 64) (marked words b) 0 within)
    ∙ ap (λ x. eqb x 1) (bit_at_set_same w64 (get_or words (b / 64) 0) (b % 64) (omega arith))

other_word : (words : List ℕ) (b q : ℕ) → q / 64 ≢ b / 64 → is_set (set words (b / 64) (marked words b)) q ≡ is_set words q
other_word words b q apart = ap (λ w. eqb (bit_at w (q % 64)) 1) (get_or-set_other words (b / 64) (q / 64) (marked words b) 0 apart)

is_set_other : (words : List ℕ) (b q : ℕ) → q ≢ b → b / 64 < length words → is_set (set words (b / 64) (marked words b)) q ≡ is_set words q
is_set_other words b q other within =
    elim (cases_order (q / 64) (b / 64)) [
      | inl same ↦
          let apart : q % 64 ≢ b % 64 = λ e. other (omega (arith, e)) in
          ap (λ i. eqb (bit_at (get_or (set words (b / 64) (marked words b)) i 0) (q % 64)) 1) same
          ∙ ap (λ w. eqb (bit_at w (q % 64)) 1) (get_or-set_same words (b / 64) (marked words b) 0 within)
          ∙ ap (λ x. eqb x 1) (bit_at_set_other w64 (get_or words (b / 64) 0) (b % 64) (omega arith) (q % 64) apart)
          ∙ ap (λ i. eqb (bit_at (get_or words i 0) (q % 64)) 1) (sym same)
      | inr (inl less) ↦ other_word words b q (omega arith)
      | inr (inr more) ↦ other_word words b q (omega arith)
    ]

kept : (n : ℕ) (words : List ℕ) (b q : ℕ) → q ≢ b → b / 64 < length words
    → (ltb q n && is_set (set words (b / 64) (marked words b)) q) ≡ fin.contains (fin.insert (members_of n words) b) q
kept n words b q other within =
    ap (λ t. ltb q n && t) (is_set_other words b q other within)
    ∙ sym (fin.contains-insert nat_cmp_total _ b q
    ∙ ap (λ t. t || fin.contains (members_of n words) q) (unsigned_tied q b ∙ ne_eqb q b other)
    ∙ contains-members_of n words q)

-- to set a block's bit is to put the block into the set
pub members_of-set : (n : ℕ) (words : List ℕ) (m b word : ℕ) → n ≤ 64 * m → m ≡ length words → b < n → word ≡ get_or words (b / 64) word
    → members_of n (set words (b / 64) (bit_or word (1 * 2 ^ (b % 64) % 2 ^ 64))) ≡ fin.insert (members_of n words) b
members_of-set n words m b word room long below read =
    let at : word ≡ get_or words (b / 64) 0 = read ∙ get_or_default_zero words (b / 64) word (omega arith) in
    let within : b / 64 < length words = omega arith in
    let marks : bit_or word (1 * 2 ^ (b % 64) % 2 ^ 64) ≡ marked words b = ap (λ w. bit_or w (1 * 2 ^ (b % 64) % 2 ^ 64)) at in
    ap (λ w. members_of n (set words (b / 64) w)) marks
    ∙ fin.same_set nat_cmp_total nat_cmp-IsAntisymmetric _ _ (λ q.
    contains-members_of n (set words (b / 64) (marked words b)) q ∙ elim (cases_order q b) [
      | inl same ↦
          ap (λ k. ltb k n && is_set (set words (b / 64) (marked words b)) k) same
          ∙ ap (λ t. t && is_set (set words (b / 64) (marked words b)) b) (lt-ltb b n below)
          ∙ is_set_same words b within
          ∙ sym (fin.contains-insert nat_cmp_total _ b q ∙ ap (λ t. t || fin.contains (members_of n words) q) (unsigned_tied q b ∙ eq-eqb q b same))
      | inr (inl less) ↦ kept n words b q (omega arith) within
      | inr (inr more) ↦ kept n words b q (omega arith) within
    ])

-- a word that is 0 sets no bit of its blocks
pub zero_word : (words : List ℕ) (place word q : ℕ) → word ≡ get_or words place word → place < length words → word ≡ 0 → q / 64 ≡ place → is_set words q ≡ false
zero_word words place word q read within zero at =
    let here : get_or words (q / 64) 0 ≡ 0 = ap (λ k. get_or words k 0) at ∙ sym (read ∙ get_or_default_zero words place word within) ∙ zero in
    ap (λ w. eqb (bit_at w (q % 64)) 1) here ∙ ap (λ b. eqb b 1) (bit_at-zero (q % 64))

-- the lowest bit of a word that is not 0 is set, and those of the blocks before are not
pub lowest_is_set : (words : List ℕ) (place word : ℕ) → word ≡ get_or words place word → place < length words → 0 < word → word < 2 ^ 64
    → is_set words (64 * place + trailing_zeros w64 word) ≡ true
lowest_is_set words place word read within some fits =
    let low = bit_at-trailing_zeros w64 word some fits in
    let at : (64 * place + trailing_zeros w64 word) / 64 ≡ place = omega (arith, low.0) in
    let bit : (64 * place + trailing_zeros w64 word) % 64 ≡ trailing_zeros w64 word = omega (arith, low.0) in
    let here : get_or words ((64 * place + trailing_zeros w64 word) / 64) 0 ≡ word = ap (λ k. get_or words k 0) at ∙ sym (read ∙ get_or_default_zero words place word within) in
    ap (λ w. eqb (bit_at w ((64 * place + trailing_zeros w64 word) % 64)) 1) here ∙ ap (λ i. eqb (bit_at word i) 1) bit ∙ ap (λ b. eqb b 1) low.1

pub below_lowest : (words : List ℕ) (place word q : ℕ) → word ≡ get_or words place word → place < length words → 0 < word → word < 2 ^ 64
    → q / 64 ≡ place → q < 64 * place + trailing_zeros w64 word → is_set words q ≡ false
below_lowest words place word q read within some fits at below =
    let low = bit_at-trailing_zeros w64 word some fits in
    let here : get_or words (q / 64) 0 ≡ word = ap (λ k. get_or words k 0) at ∙ sym (read ∙ get_or_default_zero words place word within) in
    ap (λ w. eqb (bit_at w (q % 64)) 1) here ∙ ap (λ b. eqb b 1) (low.2 (q % 64) (omega arith))

-- a set with a member is not empty, and one whose bits are none is
pub not_empty : (n : ℕ) (words : List ℕ) (q : ℕ) → q < n → is_set words q ≡ true → members_of n words ≢ fin.empty
not_empty n words q below is none =
    true≢false (sym (contains-members_of n words q ∙ ap (λ b. b && is_set words q) (lt-ltb q n below) ∙ is) ∙ ap (λ s. fin.contains s q) none ∙ fin.contains-empty nat_cmp q)

pub members_of-none : (n : ℕ) (words : List ℕ) → ((q : ℕ) → q < n → is_set words q ≡ false) → members_of n words ≡ fin.empty
members_of-none n words none =
    fin.same_set nat_cmp_total nat_cmp-IsAntisymmetric _ _ (λ q.
    contains-members_of n words q ∙ elim (cases_lt q n) [
      | inl below ↦ ap (λ b. ltb q n && b) (none q below) ∙ and_none (ltb q n)
      | inr past ↦ ap (λ b. b && is_set words q) (le-ltb q n past)
    ] ∙ sym (fin.contains-empty nat_cmp q))

zero_or_one : (a : ℕ) → a < 2 → (a ≡ 0) ⊎ (a ≡ 1)
zero_or_one a few =
    elim (cases_lt a 1) [
      | inl none ↦ inl (omega arith)
      | inr some ↦ inr (omega arith)
    ]

abbrev MaxIsOne : ℕ → ℕ → Type 0
MaxIsOne a b = eqb (max a b) 1 ≡ (eqb a 1 || eqb b 1)

max_is_one : (a b : ℕ) → a < 2 → b < 2 → MaxIsOne a b
max_is_one a b few few' =
    elim (zero_or_one a few) [
      | inl none ↦
          subst (λ x. MaxIsOne x b) (sym none) (elim (zero_or_one b few') [
            | inl none' ↦ subst (λ y. MaxIsOne 0 y) (sym none') refl
            | inr one' ↦ subst (λ y. MaxIsOne 0 y) (sym one') refl
          ])
      | inr one ↦
          subst (λ x. MaxIsOne x b) (sym one) (elim (zero_or_one b few') [
            | inl none' ↦ subst (λ y. MaxIsOne 1 y) (sym none') refl
            | inr one' ↦ subst (λ y. MaxIsOne 1 y) (sym one') refl
          ])
    ]

and_or : (a b c : Bool) → (a && (b || c)) ≡ ((a && b) || (a && c))
and_or true b c = refl
and_or false b c = refl

-- the words of either set
abbrev pub AreJoined : List ℕ → List ℕ → List ℕ → Type 0
AreJoined xs ys zs = (k : ℕ) → k < length xs → k < length ys → get_or zs k 0 ≡ bit_or (get_or xs k 0) (get_or ys k 0)

pub AreJoined-same : (xs xs' ys ys' zs zs' : List ℕ) → xs' ≡ xs → ys' ≡ ys → zs ≡ zs' → AreJoined xs' ys' zs' → AreJoined xs ys zs
AreJoined-same xs xs' ys ys' zs zs' same same' same'' joined =
    subst (λ x. AreJoined x ys zs) same (subst (λ y. AreJoined xs' y zs) same' (subst (λ z. AreJoined xs' ys' z) (sym same'') joined))

joined_bit : (n : ℕ) (xs ys zs : List ℕ) → n ≤ 64 * length xs → n ≤ 64 * length ys → AreJoined xs ys zs
    → (q : ℕ) → q < n → is_set zs q ≡ (is_set xs q || is_set ys q)
joined_bit n xs ys zs room room' joined q below =
    ap (λ w. eqb (bit_at w (q % 64)) 1) (joined (q / 64) (omega arith) (omega arith))
    ∙ ap (λ b. eqb b 1) (bit_at_or (get_or xs (q / 64) 0) (get_or ys (q / 64) 0) (q % 64))
    ∙ max_is_one _ _ (bit_at-lt (get_or xs (q / 64) 0) (q % 64)) (bit_at-lt (get_or ys (q / 64) 0) (q % 64))

-- the bits of both words are those of both sets
pub members_of-union : (n : ℕ) (xs ys zs : List ℕ) → n ≤ 64 * length xs → n ≤ 64 * length ys → AreJoined xs ys zs
    → members_of n zs ≡ fin.union (members_of n xs) (members_of n ys)
members_of-union n xs ys zs room room' joined =
    fin.same_set nat_cmp_total nat_cmp-IsAntisymmetric _ _ (λ q.
    let both : fin.contains (fin.union (members_of n xs) (members_of n ys)) q ≡ ((ltb q n && is_set xs q) || (ltb q n && is_set ys q)) =
    fin.contains-union nat_cmp_total (members_of n xs) (members_of n ys) q
    ∙ ap (λ t. t || fin.contains (members_of n ys) q) (contains-members_of n xs q)
    ∙ ap (λ t. (ltb q n && is_set xs q) || t) (contains-members_of n ys q) in
    contains-members_of n zs q ∙ elim (cases_lt q n) [
      | inl below ↦ ap (λ t. ltb q n && t) (joined_bit n xs ys zs room room' joined q below) ∙ and_or (ltb q n) (is_set xs q) (is_set ys q) ∙ sym both
      | inr past ↦
          ap (λ t. t && is_set zs q) (le-ltb q n past)
          ∙ sym (both ∙ ap (λ t. (t && is_set xs q) || (t && is_set ys q)) (le-ltb q n past))
    ])

-- the value that callers see, and one with a block more
abbrev pub seen : ℕ → List ℕ → BlockSet
seen n words = record { blocks = n; members = members_of n words }

abbrev pub with_block : BlockSet → ℕ → BlockSet
with_block s b = record { blocks = s.blocks; members = fin.insert s.members b }

abbrev pub with_members : ℕ → fin.FinSet nat_cmp → BlockSet
with_members n members = record { blocks = n; members = members }

pub seen-set : (n : ℕ) (words : List ℕ) (s : BlockSet) (m b word : ℕ) → seen n words ≡ s
    → n ≤ 64 * m → m ≡ length words → b < s.blocks → word ≡ get_or words (b / 64) word
    → seen n (set words (b / 64) (bit_or word (1 * 2 ^ (b % 64) % 2 ^ 64))) ≡ with_block s b
seen-set n words s m b word is room long below read =
    let count : n ≡ s.blocks = ap (λ (t : BlockSet). t.blocks) is in
    ap (with_members n) (members_of-set n words m b word room long (omega arith) read) ∙ ap (λ t. with_block t b) is

-- words that are all 0 show the empty set
pub seen-cleared : (n k : ℕ) (old words : List ℕ) (s : BlockSet) → seen n old ≡ s → words ≡ replicate k 0
    → seen n words ≡ with_members s.blocks fin.empty
seen-cleared n k old words s is zeros =
    ap (λ m. with_members n m) (ap (members_of n) zeros ∙ members_of-replicate n k) ∙ ap (λ (t : BlockSet). with_members t.blocks fin.empty) is

-- the words of two sets of one flash, joined, show the blocks of both
pub seen-joined : (n m j k : ℕ) (xs ys zs : List ℕ) (s t : BlockSet) → seen n xs ≡ s → seen m ys ≡ t → t.blocks ≡ s.blocks
    → n ≤ 64 * j → j ≡ length xs → m ≤ 64 * k → k ≡ length ys → AreJoined xs ys zs
    → seen n zs ≡ with_members s.blocks (fin.union s.members t.members)
seen-joined n m j k xs ys zs s t is is' same room long room' long' joined =
    let count : n ≡ s.blocks = ap (λ (r : BlockSet). r.blocks) is in
    let count' : m ≡ t.blocks = ap (λ (r : BlockSet). r.blocks) is' in
    let alike : m ≡ n = omega arith in
    let theirs : members_of n ys ≡ t.members = ap (λ i. members_of i ys) (sym alike) ∙ ap (λ (r : BlockSet). r.members) is' in
    ap (with_members n) (members_of-union n xs ys zs (omega arith) (omega arith) joined)
    ∙ ap (λ u. with_members n (fin.union (members_of n xs) u)) theirs
    ∙ ap (λ (r : BlockSet). with_members r.blocks (fin.union r.members t.members)) is

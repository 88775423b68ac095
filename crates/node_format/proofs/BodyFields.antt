-- The fields of bytes that are added piece by piece, and the slots of an index.
use Rattle.std.proofs.Common.{◌≡◌, ◌↔◌, ℕ, suc, ◌+◌, ◌*◌, ◌/◌, ◌%◌, ◌^◌, ◌<◌, ◌≤◌, inl, inr, List, [], ◌++◌, length, get_or, Some, sym, ap, subst, ◌∙◌, arith}
use Rattle.std.specs.Prelude.{codes, IsTrue, true, nat_eq, nat_lt, nat_le}
use Rattle.std.proofs.Math.Nat.{div-add-mod', mod-eq_of_lt, mul-mod_left, one-mul}
use Rattle.std.proofs.Math.Pow.{pow_mono}
use Rattle.std.proofs.lemmas.Bool.{cases_lt, le-leb, lt-ltb, eqb-true, eq-eqb}
use Rattle.std.proofs.lemmas.List.{get_or_append_left, get_or-append-add, length-append, drop_at}
use Rattle.byteorder.specs.Endian.{little_bytes}
use Rattle.byteorder.specs.Numbers.{little_number-reads_back}
use Rattle.node_format.specs.Headers.{field, body_header, IsNode}
use Rattle.node_format.specs.BodyNodes.{HasSlot, IsSlot, IsBodySpelling}
use Rattle.node_format.specs.declared.headers.TheConstants.{SLOTS}

-- a field of the front
pub field_front : (xs ys : List ℕ) (place : ℕ) → place + 4 ≤ length xs → field (xs ++ ys) place ≡ field xs place
field_front xs ys place within =
    let e0 = get_or_append_left xs ys 0 place (omega arith) in
    let e1 = get_or_append_left xs ys 0 (suc place) (omega arith) in
    let e2 = get_or_append_left xs ys 0 (suc (suc place)) (omega arith) in
    let e3 = get_or_append_left xs ys 0 (suc (suc (suc place))) (omega arith) in
    omega (arith, e0, e1, e2, e3)

-- a field of what follows
pub field_after : (xs ys : List ℕ) (place k : ℕ) → place ≡ length xs + k → field (xs ++ ys) place ≡ field ys k
field_after xs ys place k e =
    let at : (i j : ℕ) → length xs + i ≡ j → get_or (xs ++ ys) j 0 ≡ get_or ys i 0 = λ i j e. ap (λ (n : ℕ). get_or (xs ++ ys) n 0) (sym e) ∙ get_or-append-add xs ys i 0 in
    let e0 = at k place (omega arith) in
    let e1 = at (suc k) (suc place) (omega arith) in
    let e2 = at (suc (suc k)) (suc (suc place)) (omega arith) in
    let e3 = at (suc (suc (suc k))) (suc (suc (suc place))) (omega arith) in
    omega (arith, e0, e1, e2, e3)

-- a number that was added at the end
field_last : (xs : List ℕ) (n place : ℕ) → n < 2 ^ 32 → place ≡ length xs → field (xs ++ little_bytes 4 n) place ≡ n
field_last xs n place lt e = field_after xs (little_bytes 4 n) place 0 (omega arith) ∙ little_number-reads_back 4 n [] (omega arith)

-- the first slots of the node of an index were added, each with its pointer or 0
pub record HasSlots (old : List ℕ) (index : ℕ) (pointers : List ℕ) (count : ℕ) (new : List ℕ) : Type 0 where
  pub before : (place : ℕ) → place + 4 ≤ length old → field new place ≡ field old place
  pub slots : (x : ℕ) → x < count → IsSlot index pointers x (field new (length old + 4 * x))
  pub size : length new ≡ length old + 4 * count

pub one_place : (old : List ℕ) (index : ℕ) (pointers new : List ℕ) (count n : ℕ) → HasSlots old index pointers count new → n < 2 ^ 32 → IsSlot index pointers count n → HasSlots old index pointers (count + 1) (new ++ little_bytes 4 n)
one_place old index pointers new count n has lt is = record {
  before = λ place within. field_front new (little_bytes 4 n) place (omega (arith, has.size)) ∙ has.before place within;
  slots = λ x below. elim (cases_lt x count) [
    | inl lower ↦ subst (IsSlot index pointers x) (sym (field_front new (little_bytes 4 n) (length old + 4 * x) (omega (arith, has.size)))) (has.slots x lower)
    | inr upper ↦ last x below upper
  ];
  size = omega (arith, length-append new (little_bytes 4 n), has.size);
}
  where
    last : (x : ℕ) → x < count + 1 → count ≤ x → IsSlot index pointers x (field (new ++ little_bytes 4 n) (length old + 4 * x))
    last x below upper =
        let same : count ≡ x = omega arith in
        subst (IsSlot index pointers x) (sym (field_last new n (length old + 4 * x) lt (omega (arith, has.size)))) (subst (λ (y : ℕ). IsSlot index pointers y n) same is)

-- the header of a body node
abbrev pub header_bytes : ℕ → ℕ → List ℕ
header_bytes index used = codes "UFNB" ++ (little_bytes 4 index ++ (little_bytes 4 used ++ little_bytes 4 0))

pub spelled : (index : ℕ) (pointers bytes placed : List ℕ) → index < 2 ^ 32 → 1 ≤ length bytes → body_header + length bytes < 2 ^ 32
    → HasSlots (header_bytes index (length bytes)) index pointers 16 placed → IsBodySpelling (placed ++ bytes) index pointers bytes
spelled index pointers bytes placed fits some capacity has =
    let header = header_bytes index (length bytes) in
    let long : length placed ≡ 80 = has.size in
    let at : (place : ℕ) → place + 4 ≤ 16 → field (placed ++ bytes) place ≡ field header place =
    λ place within. field_front placed bytes place (omega arith) ∙ has.before place within in
    let used : field (placed ++ bytes) 8 ≡ length bytes = at 8 (omega arith) ∙ little_number-reads_back 4 (length bytes) (little_bytes 4 0) (omega arith) in
    let size : length (placed ++ bytes) ≡ 80 + length bytes = omega (arith, length-append placed bytes) in
    record {
      node = record { magic = at 0 (omega arith); some = omega arith; size = omega arith };
      index_is = at 4 (omega arith) ∙ little_number-reads_back 4 index (little_bytes 4 (length bytes) ++ little_bytes 4 0) (omega arith);
      used = used;
      unread = at 12 (omega arith);
      slots = λ x below. subst (IsSlot index pointers x) (sym (field_front placed bytes (16 + 4 * x) (omega arith))) (has.slots x below);
      size = size;
      data_is = drop_at placed bytes 80 long;
    }

pub spelled_node : (block index : ℕ) (pointers bytes node : List ℕ) → body_header + length bytes ≤ block → IsBodySpelling node index pointers bytes → IsNode block node
spelled_node block index pointers bytes node capacity s =
    let some : nat_lt 0 (length bytes) ≡ true = lt-ltb _ _ (omega (arith, s.node.some, s.used)) in
    let fits : nat_le (80 + length bytes) block ≡ true = le-leb _ _ capacity in
    rw (s.node.magic, s.used, some, fits) (ap (λ (n : ℕ). Some n) (sym s.size))

-- ---- slots

pub slot_divides : (index place : ℕ) → 0 < index → place < SLOTS → IsTrue (nat_eq (index % (1 * 2 ^ place % 4294967296)) 0) ↔ HasSlot index place
slot_divides index place some few =
    let low : 2 ^ place ≤ 2 ^ 15 = pow_mono {i = place} {j = 15} (omega arith) in
    let same : 1 * 2 ^ place % 4294967296 ≡ 2 ^ place = ap (λ (n : ℕ). n % 4294967296) (one-mul (2 ^ place)) ∙ mod-eq_of_lt (omega arith) in
    let to : index % 2 ^ place ≡ 0 → HasSlot index place = λ e. (few, some, (index / 2 ^ place, (omega (arith, e, div-add-mod' index (2 ^ place))))) in
    let from : HasSlot index place → index % 2 ^ place ≡ 0 = λ h. ap (λ (n : ℕ). n % 2 ^ place) h.2.1 ∙ mul-mod_left h.2.0 (2 ^ place) in (
      λ t. to (ap (λ (n : ℕ). index % n) (sym same) ∙ eqb-true _ _ t),
      λ h. eq-eqb _ _ (ap (λ (n : ℕ). index % n) same ∙ from h),
    )

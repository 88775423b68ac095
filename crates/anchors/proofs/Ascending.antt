-- The list of bad blocks in a record.
use Rattle.std.proofs.Common.{◌≡◌, ℕ, suc, ◌+◌, ◌<◌, ◌≤◌, true, eqb, ltb, List, [], ◌∷◌, length, get_or, Ok, refl, sym, ap, ◌∙◌, arith}
use Rattle.std.specs.FinSet as set
use Rattle.std.specs.Ordering.{nat_cmp}
use Rattle.std.specs.List.{list_all, list_any}
use Rattle.std.specs.List.Sorted.{IsStrictlyIncreasing}
use Rattle.std.proofs.lemmas.Bool.{lt-ltb, le-leb, eq-eqb, or_right}
use Rattle.std.proofs.lemmas.List.Kept.{AllPairs-from_increasing}
use Rattle.record_format.specs.declared.record.Record.{Record}
use Rattle.record_format.specs.Payloads.{numbers_ascend, is_record, written, FitsFields, payload_bytes, payload_at}
use Rattle.record_format.specs.Laws.{WrittenIsRead}

ascend : (least : ℕ) (xs : List ℕ) → ((i j : ℕ) → i < j → j < length xs → get_or xs i 0 < get_or xs j 0) → (0 < length xs → least ≤ get_or xs 0 0) → numbers_ascend least xs ≡ true
ascend least [] pairs low = refl
ascend least (x ∷ xs) pairs low =
    rw (le-leb least x (low (omega arith))) (ascend (x + 1) xs (λ i j lt below. pairs (suc i) (suc j) (omega arith) (omega arith))
    (λ some. let h : x < get_or xs 0 0 = pairs 0 (suc 0) (omega arith) (omega arith) in omega arith))

below_all : (most : ℕ) (xs : List ℕ) → ((b : ℕ) → list_any (λ y. eqb y b) xs ≡ true → b < most) → list_all (λ b. ltb b most) xs ≡ true
below_all most [] each = refl
below_all most (x ∷ xs) each =
    let lt : x < most = each x (rw (eq-eqb x x refl) refl) in
    rw (lt-ltb x most lt) (below_all most xs (λ b is. each b (or_right (eqb x b) (list_any (λ y. eqb y b) xs) is)))

-- a record is lawful with another list that ascends
pub lawful_with : (r : Record) (list : List ℕ) (bad : set.FinSet nat_cmp) → is_record (written r []) ≡ true → IsStrictlyIncreasing list → set.from_list list ≡ bad → length list ≤ 256
    → ((b : ℕ) → set.contains bad b ≡ true → b < r.geometry.blocks) → is_record (written r list) ≡ true
lawful_with r list bad lawful increasing is short below =
    let pairs = AllPairs-from_increasing list increasing in
    let up : numbers_ascend 0 list ≡ true = ascend 0 list (λ i j lt under. pairs i j 0 lt under) (λ some. omega arith) in
    let on : list_all (λ b. ltb b r.geometry.blocks) list ≡ true = below_all r.geometry.blocks list (λ b has. below b (ap (λ s. set.contains s b) (sym is) ∙ set.contains-from_list_nat list b ∙ has)) in
    rw (le-leb (length list) 256 short, up, on) lawful

-- the payload means the record with a sequence
pub means_with : WrittenIsRead → (r : Record) (list : List ℕ) (sequence : ℕ) (bytes : List ℕ) → is_record (written r list) ≡ true → FitsFields (written r list) → bytes ≡ payload_bytes (written r list)
    → payload_at r.geometry sequence bytes ≡ Ok (record (written r list) { sequence = sequence })
means_with law r list sequence bytes lawful fits spelled =
    ap (payload_at r.geometry sequence) spelled
    ∙ law (record (written r list) { sequence = sequence }) lawful (record { sizes = fits.sizes; next = fits.next; roots = fits.roots; checkpoints = fits.checkpoints })

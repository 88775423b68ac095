-- Lists that hold a number for each block.
use Rattle.std.proofs.Common.{◌≡◌, ◌≢◌, inl, inr, ℕ, ◌<◌, ◌≤◌, List, ◌++◌, length, take, drop, replicate, sym, ap, ◌∙◌, arith}
use Rattle.std.specs.Prelude.{map, slice_index, slice_set}
use Rattle.std.specs.List.{range_with_len}
use Rattle.std.proofs.Math.Seq.{take-append_seam}
use Rattle.std.proofs.lemmas.Bool.{cases_eq, cases_lt}
use Rattle.std.proofs.lemmas.List.{ext_get_or, get_or_past, get_or-replicate, get_or-set_same, get_or-set_other, length-set, length-replicate}
use Rattle.std.proofs.lemmas.List.FromFn.{length-map-range_with_len, get_or-map-range_with_len}

-- the number of a block
pub listed_get : (f : ℕ → ℕ) (n b : ℕ) → b < n → slice_index (map f (range_with_len 0 n)) b ≡ f b
listed_get f n b within = get_or-map-range_with_len f 0 n b b 0 within (omega arith)

pub listed_past : (f : ℕ → ℕ) (n b : ℕ) → n ≤ b → slice_index (map f (range_with_len 0 n)) b ≡ 0
listed_past f n b past = get_or_past (map f (range_with_len 0 n)) b 0 (omega (arith, length-map-range_with_len f 0 n, past))

-- no number is another
pub listed_same : (f g : ℕ → ℕ) (n : ℕ) → ((b : ℕ) → g b ≡ f b) → map g (range_with_len 0 n) ≡ map f (range_with_len 0 n)
listed_same f g n same =
    ext_get_or 0 (map g (range_with_len 0 n)) (map f (range_with_len 0 n)) (length-map-range_with_len g 0 n ∙ sym (length-map-range_with_len f 0 n))
    (λ b within. let below : b < n = omega (arith, within, length-map-range_with_len g 0 n) in listed_get g n b below ∙ same b ∙ sym (listed_get f n b below))

-- all numbers are 0
pub listed_none : (f : ℕ → ℕ) (n : ℕ) → ((b : ℕ) → f b ≡ 0) → map f (range_with_len 0 n) ≡ replicate n 0
listed_none f n none =
    ext_get_or 0 (map f (range_with_len 0 n)) (replicate n 0) (length-map-range_with_len f 0 n ∙ sym (length-replicate n 0))
    (λ b within. let below : b < n = omega (arith, within, length-map-range_with_len f 0 n) in listed_get f n b below ∙ none b ∙ sym (get_or-replicate n b 0 0 below))

-- the number of one block was put
pub listed_set : (f g : ℕ → ℕ) (n block number : ℕ) → block < n → g block ≡ number → ((b : ℕ) → b ≢ block → g b ≡ f b) → map g (range_with_len 0 n) ≡ slice_set (map f (range_with_len 0 n)) block number
listed_set f g n block number inside here others =
    ext_get_or 0 (map g (range_with_len 0 n)) (slice_set old block number) (length-map-range_with_len g 0 n ∙ sym (length-set old block number ∙ length-map-range_with_len f 0 n))
    (λ b within. let below : b < n = omega (arith, within, length-map-range_with_len g 0 n) in listed_get g n b below ∙ at b below)
  where
    old : List ℕ
    old = map f (range_with_len 0 n)

    at : (b : ℕ) → b < n → g b ≡ slice_index (slice_set old block number) b
    at b below = elim (cases_eq b block) [
      | inl same ↦ ap g same ∙ here ∙ sym (get_or-set_same old block number 0 (omega (arith, inside, length-map-range_with_len f 0 n))) ∙ ap (slice_index (slice_set old block number)) (sym same)
      | inr other ↦ others b other ∙ sym (listed_get f n b below) ∙ sym (get_or-set_other old block b number 0 other)
    ]

-- all elements of a list were written
pub all_written : (old new : List ℕ) → length new ≡ length old → take (length old) (new ++ drop (length new) old) ≡ new
all_written old new same = ap (λ n. take n (new ++ drop (length new) old)) (sym same) ∙ take-append_seam new (drop (length new) old)

-- all are 0
pub zeros_get : (n b : ℕ) → slice_index (replicate n 0) b ≡ 0
zeros_get n b = elim (cases_lt b n) [ inl within ↦ get_or-replicate n b 0 0 within | inr past ↦ get_or_past (replicate n 0) b 0 (omega (arith, length-replicate {A = ℕ} n 0, past)) ]

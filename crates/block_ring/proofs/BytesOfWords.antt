-- Bytes that are put into words.
use Rattle.std.proofs.Common.{◌≡◌, ◌≢◌, inl, inr, ℕ, zero, suc, ◌/◌, ◌%◌, ◌<◌, List, length, replicate, sym, ap, subst, ◌∙◌, arith}
use Rattle.std.specs.Prelude.{slice_index, slice_set}
use Rattle.std.specs.Int.{w32, to_le_bytes, from_le_bytes}
use Rattle.std.proofs.lemmas.Bool.{cases_eq}
use Rattle.std.proofs.lemmas.List.{get_or-set_same, get_or-set_other, length-set}
use Rattle.std.proofs.lemmas.Nat.{le_bytes_4}
use Rattle.block_ring.specs.SparseBytes.{byte_in}
use Rattle.block_ring.proofs.SparseLists.{zeros_get}

-- the bytes of a word are small, and those of 0 are 0
pub low_small : (n i : ℕ) → slice_index (to_le_bytes w32 n) i < 256
low_small n zero = omega arith
low_small n (suc zero) = omega arith
low_small n (suc (suc zero)) = omega arith
low_small n (suc (suc (suc zero))) = omega arith
low_small n (suc (suc (suc (suc i)))) = omega arith

pub zero_byte : (words : List ℕ) (n b : ℕ) → words ≡ replicate n 0 → byte_in words b ≡ 0
zero_byte words n b zeros = ap (λ (l : List ℕ). byte_in l b) zeros ∙ ap (λ (w : ℕ). slice_index (to_le_bytes w32 w) (b % 4)) (zeros_get n (b / 4)) ∙ zeros_get 4 (b % 4)

-- so are they where one was put
pub bytes_small : (n k byte : ℕ) → byte < 256 → (i : ℕ) → slice_index (slice_set (to_le_bytes w32 n) k byte) i < 256
bytes_small n k byte small i = elim (cases_eq i k) [
  | inl same ↦ subst (λ (j : ℕ). slice_index (slice_set (to_le_bytes w32 n) k byte) j < 256) (sym same) (here k)
  | inr other ↦ omega (arith, low_small n i, get_or-set_other (to_le_bytes w32 n) k i byte 0 other)
]
  where
    here : (k : ℕ) → slice_index (slice_set (to_le_bytes w32 n) k byte) k < 256
    here zero = small
    here (suc zero) = small
    here (suc (suc zero)) = small
    here (suc (suc (suc zero))) = small
    here (suc (suc (suc (suc k)))) = omega arith

-- four bytes of which one was put
module _ (words : List ℕ) (block byte word : ℕ) (within : block / 4 < length words) (small : (i : ℕ) → slice_index (slice_set (to_le_bytes w32 (slice_index words (block / 4))) (block % 4) byte) i < 256)
    (is : word ≡ from_le_bytes w32 (slice_set (to_le_bytes w32 (slice_index words (block / 4))) (block % 4) byte)) where
  abbrev bytes : List ℕ
  bytes = to_le_bytes w32 (slice_index words (block / 4))

  told : to_le_bytes w32 (slice_index (slice_set words (block / 4) word) (block / 4)) ≡ slice_set bytes (block % 4) byte
  told = ap (to_le_bytes w32) (get_or-set_same words (block / 4) word 0 within) ∙ le_bytes_4 (slice_set bytes (block % 4) byte) word (length-set bytes (block % 4) byte) small is

  pub byte_here : byte_in (slice_set words (block / 4) word) block ≡ byte
  byte_here = ap (λ (l : List ℕ). slice_index l (block % 4)) told ∙ get_or-set_same bytes (block % 4) byte 0 (omega arith)

  pub byte_other : (b : ℕ) → b ≢ block → byte_in (slice_set words (block / 4) word) b ≡ byte_in words b
  byte_other b other = elim (cases_eq (b / 4) (block / 4)) [
    | inl same ↦
        let apart : b % 4 ≢ block % 4 = λ equal. other (omega (arith, same, equal)) in
        ap (λ (i : ℕ). slice_index (to_le_bytes w32 (slice_index (slice_set words (block / 4) word) i)) (b % 4)) same ∙ ap (λ (l : List ℕ). slice_index l (b % 4)) told
        ∙ get_or-set_other bytes (block % 4) (b % 4) byte 0 apart ∙ ap (λ (i : ℕ). slice_index (to_le_bytes w32 (slice_index words i)) (b % 4)) (sym same)
    | inr far ↦ ap (λ (n : ℕ). slice_index (to_le_bytes w32 n) (b % 4)) (get_or-set_other words (block / 4) (b / 4) word 0 far)
  ]

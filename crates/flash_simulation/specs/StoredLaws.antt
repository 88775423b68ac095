-- The room for the bytes of each page in the one piece of all.
use Rattle.std.specs.Prelude.{◌≡◌, ◌≢◌, ℕ, ◌+◌, ◌-◌, ◌*◌, ◌<◌, ◌≤◌, List, length, take, drop}
use Rattle.std.specs.Fork.{slice_chunk}
use Rattle.std.proofs.Common.{inl, inr, sym, ap, ◌∙◌, arith, length-drop}
use borrow.Rule.Slice.PartMut.{put_mid}
use Rattle.std.proofs.lemmas.Bool.{cases_lt}
use Rattle.std.proofs.lemmas.List.{length-take-le, drop-take}
use Rattle.std.proofs.lemmas.Nat.{mul-le}
use Rattle.std.proofs.lemmas.Slice.{drop-put_mid, between-put_mid, take-put_mid_below}

-- the room of a page ends where that of the next one begins
pub chunk-ends : (p n size : ℕ) → p < n → p * size + size ≤ n * size
chunk-ends p n size below = let most : (p + 1) * size ≤ n * size = mul-le (p + 1) size n size (omega arith) (omega arith) in omega (arith, most)

-- it has as many bytes as a page
pub length-chunk : (xs : List ℕ) (size count p : ℕ) → length xs ≡ count * size → p < count → length (slice_chunk xs size p) ≡ size
length-chunk xs size count p long below =
    let end = chunk-ends p count size below in
    length-take-le size (drop (p * size) xs) (omega (arith, end, long, length-drop (p * size) xs))

-- what is put into it stands in it
pub chunk-put : (xs ys : List ℕ) (size n k : ℕ) → k ≡ size → length ys ≡ size → n * size + size ≤ length xs
    → slice_chunk (put_mid (n * size) k xs ys) size n ≡ ys
chunk-put xs ys size n k same long fits =
    let count : size ≡ n * size + size - n * size = omega arith in
    ap (λ (m : ℕ). take m (drop (n * size) (put_mid (n * size) k xs ys))) count
    ∙ between-put_mid (n * size) k xs ys (n * size + size) (omega arith) (omega (arith, long))

-- and the room of each other page has the bytes that it had
pub chunk-kept : (xs ys : List ℕ) (size n k p : ℕ) → k ≡ size → length ys ≡ size → n * size + size ≤ length xs → p ≢ n
    → slice_chunk (put_mid (n * size) k xs ys) size p ≡ slice_chunk xs size p
chunk-kept xs ys size n k p same long fits apart = elim (cases_lt p n) [
  | inl before ↦
      let end = chunk-ends p n size before in
      sym (drop-take (p * size) size (put_mid (n * size) k xs ys))
      ∙ ap (drop (p * size)) (take-put_mid_below (n * size) k xs ys (p * size + size) end (omega arith))
      ∙ drop-take (p * size) size xs
  | inr not_before ↦
      let end = chunk-ends n p size (omega (arith, not_before, apart)) in
      ap (take size) (drop-put_mid (n * size) k xs ys (p * size) (omega (arith, end, same)) (omega arith) (long ∙ sym same))
]

-- Where pages stand on the part: no two share a page of data or a place of marks.
use Rattle.std.proofs.Common.{◌≡◌, ◌≢◌, ℕ, ◌+◌, ◌-◌, ◌*◌, ◌/◌, ◌%◌, ◌<◌, ◌≤◌, ap, inl, inr, arith}
use Rattle.std.proofs.lemmas.Bool.{cases_lt}
use Rattle.std.proofs.Math.Nat.{mul-le-mul_left, div-add-mod, mod-lt}
use Rattle.dense_nor.specs.Layout.{IsDense, mark_pages, data_pages, blocks_of, data_at, mark_at, place_of}
use Rattle.dense_nor.specs.Blocks.{IsOfBlock, IsOfMarks}

-- a page of the part is one of one block
pub split : (w b c x y : ℕ) → x < w → y < w → w * b + x ≡ w * c + y → (b ≡ c) × (x ≡ y)
split w b c x y first second same = elim (cases_lt b c) [
  | inl less ↦ let over : w * (b + 1) ≤ w * c = mul-le-mul_left w (omega arith) in absurd (omega (arith, over, same, first))
  | inr more ↦ elim (cases_lt c b) [
    | inl less ↦ let over : w * (c + 1) ≤ w * b = mul-le-mul_left w (omega arith) in absurd (omega (arith, over, same, second))
    | inr least ↦
        let is : b ≡ c = omega arith in
        let products : w * b ≡ w * c = ap (λ (k : ℕ). w * k) is in
        (is, omega (arith, products, same))
  ]
]

-- the pages of a block: there are marks for each page of data
pub pages_fit : (n : ℕ) → IsDense n → (data_pages n + mark_pages n ≡ 16 * n) × (data_pages n ≤ 32 * mark_pages n) × (0 < data_pages n)
unfolding data_pages mark_pages
pages_fit n dense = (omega arith, omega arith, omega arith)

pub in_block : (n p : ℕ) → IsDense n → p % data_pages n < data_pages n
in_block n p dense = let fit : 0 < data_pages n = (pages_fit n dense).2 in mod-lt p fit

-- a place of marks is past the pages of data
mark_place : (n p : ℕ) → IsDense n → data_pages n + p % data_pages n / 32 < 16 * n
mark_place n p dense =
    let fit = pages_fit n dense in
    let low : p % data_pages n < data_pages n = in_block n p dense in
    omega (arith, fit.0, fit.1, low)

-- of block and place follows the page
same_page : (k p q : ℕ) → p / k ≡ q / k → p % k ≡ q % k → p ≡ q
same_page k p q blocks places =
    let products : k * (p / k) ≡ k * (q / k) = ap (λ (b : ℕ). k * b) blocks in
    let one = div-add-mod p k in
    let two = div-add-mod q k in
    omega (arith, products, places, one, two)

pub data_of_block : (n p : ℕ) → IsDense n → IsOfBlock n (p / data_pages n) (data_at n p)
unfolding data_at
data_of_block n p dense =
    let fit = pages_fit n dense in
    let low : p % data_pages n < data_pages n = in_block n p dense in
    (omega arith, omega (arith, fit.0, low))

pub data_unmarked : (n p : ℕ) → IsDense n → ¬ IsOfMarks n (p / data_pages n) (data_at n p)
unfolding data_at
data_unmarked n p dense of =
    let low : p % data_pages n < data_pages n = in_block n p dense in
    absurd (omega (arith, of.0, low))

pub mark_of_block : (n p : ℕ) → IsDense n → IsOfMarks n (p / data_pages n) (mark_at n p)
unfolding mark_at
mark_of_block n p dense =
    let high : data_pages n + p % data_pages n / 32 < 16 * n = mark_place n p dense in
    (omega arith, omega (arith, high))

-- pages of marks are pages of the block
pub marks_within : (n b x : ℕ) → IsOfMarks n b x → IsOfBlock n b x
marks_within n b x of = (omega (arith, of.0), of.1)

-- a page of one block is none of another
pub one_block : (n b c x : ℕ) → IsOfBlock n b x → IsOfBlock n c x → b ≡ c
one_block n b c x first second =
    let here : 16 * n * b + (x - 16 * n * b) ≡ 16 * n * c + (x - 16 * n * c) = omega (arith, first.0, second.0) in
    (split (16 * n) b c (x - 16 * n * b) (x - 16 * n * c) (omega (arith, first.0, first.1)) (omega (arith, second.0, second.1)) here).0

-- two pages have their data apart
pub data_apart : (n p q : ℕ) → IsDense n → q ≢ p → data_at n q ≢ data_at n p
unfolding data_at
data_apart n p q dense apart same =
    let fit = pages_fit n dense in
    let one : q % data_pages n < data_pages n = in_block n q dense in
    let two : p % data_pages n < data_pages n = in_block n p dense in
    let is = split (16 * n) (q / data_pages n) (p / data_pages n) (q % data_pages n) (p % data_pages n) (omega (arith, fit.0, one)) (omega (arith, fit.0, two)) same in
    apart (same_page (data_pages n) q p is.0 is.1)

-- data and marks too
pub data_not_mark : (n p q : ℕ) → IsDense n → data_at n q ≢ mark_at n p
data_not_mark n p q dense same =
    let marks : IsOfMarks n (p / data_pages n) (data_at n q) = (omega (arith, (mark_of_block n p dense).0, same), omega (arith, (mark_of_block n p dense).1, same)) in
    let blocks : q / data_pages n ≡ p / data_pages n = one_block n (q / data_pages n) (p / data_pages n) (data_at n q) (data_of_block n q dense) (marks_within n (p / data_pages n) (data_at n q) marks) in
    let products : 16 * n * (q / data_pages n) ≡ 16 * n * (p / data_pages n) = ap (λ (b : ℕ). 16 * n * b) blocks in
    data_unmarked n q dense (omega (arith, marks.0, products), omega (arith, marks.1, products))

-- and two pages whose marks are on one page have them at two places
pub marks_apart : (n p q : ℕ) → IsDense n → q ≢ p → mark_at n q ≡ mark_at n p → place_of n q ≢ place_of n p
unfolding mark_at place_of
marks_apart n p q dense apart same places =
    let one : data_pages n + q % data_pages n / 32 < 16 * n = mark_place n q dense in
    let two : data_pages n + p % data_pages n / 32 < 16 * n = mark_place n p dense in
    let is = split (16 * n) (q / data_pages n) (p / data_pages n) (data_pages n + q % data_pages n / 32) (data_pages n + p % data_pages n / 32) one two (omega (arith, same)) in
    apart (same_page (data_pages n) q p is.0 (omega (arith, is.1, places)))

-- the data of a page stand before its mark
pub data_first : (n p : ℕ) → IsDense n → data_at n p < mark_at n p
unfolding data_at mark_at
data_first n p dense = let low : p % data_pages n < data_pages n = in_block n p dense in omega (arith, low)

pub block_below : (k p blocks : ℕ) → p < blocks * k → p / k < blocks
block_below k p blocks below = elim (cases_lt (p / k) blocks) [
  | inl less ↦ less
  | inr more ↦ let over : k * blocks ≤ k * (p / k) = mul-le-mul_left k more in absurd (omega (arith, over, below, div-add-mod p k))
]

-- a page of a flash is on the part
pub in_part : (n p count : ℕ) → IsDense n → p < blocks_of n count * data_pages n → mark_at n p < count
unfolding blocks_of
in_part n p count dense below =
    let fit = pages_fit n dense in
    let low : 0 < 16 * n = omega (arith, fit.0, fit.2) in
    let whole : 16 * n * (count / (16 * n)) ≤ count = omega (arith, div-add-mod count (16 * n)) in
    let block : p / data_pages n < count / (16 * n) = block_below (data_pages n) p (count / (16 * n)) below in
    let over : 16 * n * (p / data_pages n + 1) ≤ 16 * n * (count / (16 * n)) = mul-le-mul_left (16 * n) (omega (arith, block)) in
    omega (arith, (mark_of_block n p dense).1, over, whole)

-- a block of a flash too
pub block_in_part : (n b count : ℕ) → b < blocks_of n count → 16 * n * b + 16 * n ≤ count
unfolding blocks_of
block_in_part n b count below =
    let whole : 16 * n * (count / (16 * n)) ≤ count = omega (arith, div-add-mod count (16 * n)) in
    let over : 16 * n * (b + 1) ≤ 16 * n * (count / (16 * n)) = mul-le-mul_left (16 * n) (omega (arith, below)) in
    omega (arith, over, whole)

pub place_low : (n p : ℕ) → place_of n p < 32
unfolding place_of
place_low n p = omega arith

-- the last pages of a block have marks
pub of_marks : (n b x : ℕ) → IsDense n → 16 * n * b + 16 * n - mark_pages n ≤ x → x < 16 * n * b + 16 * n → IsOfMarks n b x
of_marks n b x dense low high = let fit : data_pages n + mark_pages n ≡ 16 * n = (pages_fit n dense).0 in (omega (arith, fit, low), high)

pub marks_from : (n b x : ℕ) → IsDense n → IsOfMarks n b x → 16 * n * b + 16 * n - mark_pages n ≤ x
marks_from n b x dense of = let fit : data_pages n + mark_pages n ≡ 16 * n = (pages_fit n dense).0 in omega (arith, fit, of.0)

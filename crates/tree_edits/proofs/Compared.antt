-- Bytes that are compared part by part.
use Rattle.std.proofs.Common.{◌≡◌, ℕ, ◌+◌, ◌-◌, ◌*◌, ◌/◌, ◌<◌, ◌≤◌, true, false, List, ◌++◌, length, take, drop, sym, ap, ◌∙◌, inl, inr, arith}
use Rattle.std.specs.Int.{div_ceil}
use Rattle.std.proofs.lemmas.Bool.{cases_Bool, true≢false}
use Rattle.std.proofs.lemmas.List.{take-take, drop-take}
use Rattle.std.proofs.lemmas.Grind.{div_ceil_times}
use Rattle.std.proofs.lemmas.Nat.{mul-le, le-div}
use Rattle.std.proofs.lemmas.Slice.Eq.{bytes_eq-Decides}
use Rattle.std.proofs.Math.Nat.{lt_of_mul-lt-mul_right, lt-div-mul-add}
use Rattle.std.proofs.Math.Seq.{take-add, take-length}
use Rattle.plain_trees.specs.Contents.{same_bytes}
use Rattle.nodes.specs.PageCounts.{pages_for, pages_of_range}
use Rattle.nodes.proofs.PageCountLaws.{fewer_pages}

-- what was the same up to a place is so up to the end of a part that is the same
pub so_far : (from to : ℕ) (xs ys part : List ℕ) → from ≤ to → take from xs ≡ take from ys → part ≡ take (to - from) (drop from xs) → same_bytes part (take (to - from) (drop from ys)) ≡ true → take to xs ≡ take to ys
so_far from to xs ys part le same is equal =
    let more : take (to - from) (drop from xs) ≡ take (to - from) (drop from ys) = sym is ∙ (bytes_eq-Decides part (take (to - from) (drop from ys))).0 equal in
    let e : from + (to - from) ≡ to = omega arith in
    ap (λ (n : ℕ). take n xs) (sym e) ∙ take-add from (to - from) xs
    ∙ ap (λ (l : List ℕ). l ++ take (to - from) (drop from xs)) same ∙ ap (λ (l : List ℕ). take from ys ++ l) more
    ∙ sym (take-add from (to - from) ys) ∙ ap (λ (n : ℕ). take n ys) e

-- a part that is another one makes others of the whole
pub others : (n from to : ℕ) (xs ys part : List ℕ) → n ≡ length ys → from ≤ to → to ≤ n → part ≡ take (to - from) (drop from xs) → same_bytes part (take (to - from) (drop from ys)) ≡ false → same_bytes (take n xs) ys ≡ false
others n from to xs ys part all le within is other = elim (cases_Bool (same_bytes (take n xs) ys)) [
  | inl same ↦
      let whole : take n xs ≡ ys = (bytes_eq-Decides (take n xs) ys).0 same in
      let rest : from + (n - from) ≡ n = omega arith in
      let inside : take (to - from) (drop from (take n xs)) ≡ take (to - from) (drop from xs) =
      ap (λ (k : ℕ). take (to - from) (drop from (take k xs))) (sym rest) ∙ ap (take (to - from)) (drop-take from (n - from) xs) ∙ take-take (to - from) (n - from) (drop from xs) (omega arith) in
      let equal : part ≡ take (to - from) (drop from ys) = is ∙ sym inside ∙ ap (λ (l : List ℕ). take (to - from) (drop from l)) whole in
      absurd (true≢false (sym ((bytes_eq-Decides part (take (to - from) (drop from ys))).1 equal) ∙ other))
  | inr differ ↦ differ
]

-- where all parts are the same, the whole is
pub all_same : (n : ℕ) (xs ys : List ℕ) → n ≡ length ys → take n xs ≡ take n ys → same_bytes (take n xs) ys ≡ true
all_same n xs ys all same = (bytes_eq-Decides (take n xs) ys).1 (same ∙ ap (λ (k : ℕ). take k ys) all ∙ take-length ys)

-- as many bytes as there are
pub whole : (xs ys : List ℕ) → length xs ≡ length ys → take (length ys) xs ≡ xs
whole xs ys same = ap (λ (k : ℕ). take k xs) (sym same) ∙ take-length xs

-- a page before the last of those that hold some bytes begins within them
pub begins_before : (page place end : ℕ) → 0 < page → place < div_ceil end page → place * page < end
begins_before page place end some h =
    let times = div_ceil_times end page some in
    let more : (place + 1) * page ≤ div_ceil end page * page = mul-le (place + 1) page (div_ceil end page) page (omega arith) (omega arith) in
    let parts : (place + 1) * page ≡ place * page + page = grind arith in
    omega (arith, times.1)

-- and the last one ends behind them
pub ends_behind : (page place end : ℕ) → 0 < page → div_ceil end page ≤ place → end ≤ place * page
ends_behind page place end some h =
    let times = div_ceil_times end page some in
    let more : div_ceil end page * page ≤ place * page = mul-le (div_ceil end page) page place page h (omega arith) in
    omega (arith, times.0)

-- what lies within one page asks for that page alone
pub one_page : (page place from count : ℕ) → 0 < page → place * page ≤ from → from + count ≤ place * page + page → pages_of_range page from count ≤ 1
one_page page place from count some begins ends =
    let times = div_ceil_times (from + count) page some in
    let parts : (place + 1) * page ≡ place * page + page = grind arith in
    let two : (place + 2) * page ≡ place * page + page + page = grind arith in
    let below : pages_for page (from + count) * page < (place + 2) * page = omega (arith, times.1) in
    let few : pages_for page (from + count) < place + 2 = lt_of_mul-lt-mul_right page below in
    let least : place ≤ from / page = le_place page place from some begins in
    omega arith
  where
    le_place : (page place from : ℕ) → 0 < page → place * page ≤ from → place ≤ from / page
    le_place page place from some begins = le-div place from page some begins

-- one read more, of a page at most
pub page_more : (page size place from many count a0 r0 a1 r1 a2 r2 : ℕ) → page ≡ size → many ≡ count → 0 < size → place * size ≤ from → from + count ≤ place * size + size
    → a1 + r0 ≤ a0 + r1 → a2 ≤ a1 + pages_of_range page from many → r2 ≡ r1 + 1 → a2 + r0 ≤ a0 + r2
page_more page size place from many count a0 r0 a1 r1 a2 r2 same as_many some begins ends so_far asks more =
    let one = one_page size place from count some begins ends in
    let pages : pages_of_range page from many ≡ pages_of_range size from count = λ j. pages_of_range (same j) from (as_many j) in
    omega (arith, pages, one)

-- the reads for one node more
pub node_more : (index last way pages most r0 r1 r2 r3 : ℕ) → index ≤ last → r1 ≤ r0 + index * (most + way) → r2 ≤ r1 + way → r3 ≤ r2 + pages → pages ≤ most
    → (r3 ≤ r0 + (index + 1) * (most + way)) × (r3 ≤ r0 + (last + 1) * (most + way))
node_more index last way pages most r0 r1 r2 r3 le so_far by_way by_pages few =
    let parts : (index + 1) * (most + way) ≡ index * (most + way) + (most + way) = grind arith in
    let rows : (index + 1) * (most + way) ≤ (last + 1) * (most + way) = mul-le (index + 1) (most + way) (last + 1) (most + way) (omega arith) (omega arith) in
    (omega arith, omega arith)

-- the nodes up to the last one have all bytes
pub ends_all : (capacity index size : ℕ) → 0 < capacity → (size - 1) / capacity + 1 ≤ index → size ≤ index * capacity
ends_all capacity index size some le =
    let more : ((size - 1) / capacity + 1) * capacity ≤ index * capacity = mul-le ((size - 1) / capacity + 1) capacity index capacity le (omega arith) in
    let parts : ((size - 1) / capacity + 1) * capacity ≡ (size - 1) / capacity * capacity + capacity = grind arith in
    let below = lt-div-mul-add {a = size - 1} {b = capacity} some in
    omega arith

-- the same, where the pages of a part of a node are counted in a later state
pub pages_more : (index last way page page' count limit r0 r1 r2 r3 : ℕ) → 0 < page → page' ≡ page → count ≤ limit → index ≤ last → r1 ≤ r0 + index * (pages_for page limit + way) → r2 ≤ r1 + way → r3 ≤ r2 + pages_for page' count
    → (r3 ≤ r0 + (index + 1) * (pages_for page limit + way)) × (r3 ≤ r0 + (last + 1) * (pages_for page limit + way))
pages_more index last way page page' count limit r0 r1 r2 r3 some same fits le so_far by_way by_pages =
    node_more index last way (pages_for page' count) (pages_for page limit) r0 r1 r2 r3 le so_far by_way by_pages (omega (arith, fewer_pages page count limit some fits, ap (λ (p : ℕ). pages_for p count) same))

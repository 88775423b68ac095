-- Copying a part of a node page by page.
use Rattle.std.proofs.Common.{◌≡◌, ℕ, suc, ◌+◌, ◌-◌, ◌*◌, ◌<◌, ◌≤◌, List, ◌++◌, length, take, drop, Some, sym, ap, subst, ◌∙◌, inl, inr, arith, length-append, length-drop}
use Rattle.std.specs.Prelude.{min}
use Rattle.std.specs.Int.{div_ceil}
use borrow.Rule.Slice.PartMut.{put_mid}
use Rattle.std.proofs.lemmas.Bool.{cases_lt}
use Rattle.std.proofs.lemmas.List.{take_all, take-take, drop-take, drop-drop, length-take-le}
use Rattle.std.proofs.lemmas.Nat.{mul-le}
use Rattle.std.proofs.lemmas.Slice.{take-put_mid}
use Rattle.std.proofs.lemmas.Grind.{div_ceil_times}
use Rattle.std.proofs.Math.Nat.{lt_of_mul-lt-mul_right}
use Rattle.std.proofs.Math.Seq.{take-add}
use Rattle.flash_model.specs.Device.{Page, bytes_of}
use Rattle.node_store.specs.NodePages.{joined}
use Rattle.node_store.specs.NodeLaws.{AreWhole, joined-length, joined-page}

-- a part of a list that begins within the first bytes of it, and ends within them
pub part_of_first : (all : List ℕ) (from count first : ℕ) → from + count ≤ first → take count (drop from (take first all)) ≡ take count (drop from all)
part_of_first all from count first h =
    let rest : from + (first - from) ≡ first = omega arith in
    ap (λ (n : ℕ). take count (drop from (take n all))) (sym rest) ∙ ap (take count) (drop-take from (first - from) all)
    ∙ take-take count (first - from) (drop from all) (omega arith)

-- the bytes that a page adds to what was copied
module _ (begin offset done skip count mid : ℕ) (shown out ys all : List ℕ)
    (done_is : done ≡ begin - offset) (skip_is : skip ≡ offset - begin) (count_is : count ≡ min (length shown - skip) (length out - done))
    (mid_is : mid ≡ count) (copied : ys ≡ take count (drop skip shown)) (before : begin ≤ offset + length out) (behind : offset ≤ begin + length shown)
    (page : shown ≡ take (length shown) (drop begin all)) (fits : offset + length out ≤ length all) where
  target : List ℕ
  target = take (length out) (drop offset all)

  long : length target ≡ length out
  unfolding target
  long = length-take-le (length out) (drop offset all) (omega (arith, length-drop offset all))

  more : take count (drop done target) ≡ ys
  unfolding target
  more =
      let same : offset + done ≡ begin + skip = omega arith in
      part_of_first (drop offset all) done count (length out) (omega arith)
      ∙ ap (take count) (drop-drop done offset all ∙ ap (λ (n : ℕ). drop n all) same ∙ sym (drop-drop skip begin all))
      ∙ sym (part_of_first (drop begin all) skip count (length shown) (omega arith))
      ∙ ap (λ (l : List ℕ). take count (drop skip l)) (sym page) ∙ sym copied

  size : length ys ≡ count
  size = ap length copied ∙ length-take-le count (drop skip shown) (omega (arith, length-drop skip shown))

  joined_now : take done out ≡ take done target → take (done + count) (put_mid done mid out ys) ≡ take (done + count) target
  joined_now so_far =
      take-put_mid done mid out ys (done + count) (omega (arith, size)) (omega arith)
      ∙ ap (λ (l : List ℕ). l ++ ys) so_far ∙ ap (λ (l : List ℕ). take done target ++ l) (sym more)
      ∙ sym (take-add done count target)

  same_length : length (put_mid done mid out ys) ≡ length out
  same_length =
      omega (
        arith,
        size,
        length-append (take done out) (ys ++ drop mid (drop done out)),
        length-append ys (drop mid (drop done out)),
        length-take-le done out (omega arith),
        length-drop mid (drop done out),
        length-drop done out,
      )

  pub copied_page : take (begin - offset) out ≡ take (begin - offset) (take (length out) (drop offset all))
      → take (begin + length shown - offset) (put_mid done mid out ys) ≡ take (begin + length shown - offset) (take (length out) (drop offset all))
  unfolding target
  copied_page so_far =
      let same = same_length in
      let now = joined_now (subst (λ (n : ℕ). take n out ≡ take n target) (sym done_is) so_far) in
      elim (cases_lt (begin + length shown - offset) (length out)) [
        | inl short ↦
            let is : done + count ≡ begin + length shown - offset = omega arith in
            subst (λ (n : ℕ). take n (put_mid done mid out ys) ≡ take n target) is now
        | inr past ↦
            let is : done + count ≡ length out = omega arith in
            let whole = subst (λ (n : ℕ). take n (put_mid done mid out ys) ≡ take n target) is now in
            take_all (begin + length shown - offset) (put_mid done mid out ys) (omega arith)
            ∙ sym (take_all (length out) (put_mid done mid out ys) (omega arith)) ∙ whole
            ∙ take_all (length out) target (omega (arith, long))
            ∙ sym (take_all (begin + length shown - offset) target (omega (arith, long)))
      ]

-- a page before the last one of a part begins within it
begins_before : (page place end : ℕ) → 0 < page → place < div_ceil end page → place * page < end
begins_before page place end some h =
    let times = div_ceil_times end page some in
    let more : suc place * page ≤ div_ceil end page * page = mul-le (suc place) page (div_ceil end page) page h (omega arith) in
    omega (arith, times.1)

-- one page more is copied
pub next_page : (pages : ℕ → Page) (size first n place offset count : ℕ) (all shown out new : List ℕ) → AreWhole size pages → 0 < size
    → pages (first + place) ≡ bytes_of shown → joined pages first n ≡ Some all → offset + count ≤ length all → length out ≡ count
    → place < div_ceil (offset + count) size
    → take (place * size - offset) out ≡ take (place * size - offset) (take count (drop offset all))
    → ((source : List ℕ) → shown ≡ take (length shown) (drop (place * size) source) → offset + length out ≤ length source
    → take (place * size - offset) out ≡ take (place * size - offset) (take (length out) (drop offset source))
    → take (place * size + length shown - offset) new ≡ take (place * size + length shown - offset) (take (length out) (drop offset source)))
    → take ((place + 1) * size - offset) new ≡ take ((place + 1) * size - offset) (take count (drop offset all))
next_page pages size first n place offset count all shown out new whole some is joins fits same below so_far copied =
    let begins = begins_before size place (offset + count) some below in
    let long = joined-length pages size first n all whole joins in
    let within : place * size < n * size = omega arith in
    let inside : place < n = lt_of_mul-lt-mul_right size within in
    let at = joined-page pages size first n place all shown whole inside is joins in
    let len = whole (first + place) shown is in
    let more = copied all at (omega arith)
    (subst (λ (k : ℕ). take (place * size - offset) out ≡ take (place * size - offset) (take k (drop offset all))) (sym same) so_far) in
    let next : place * size + length shown - offset ≡ (place + 1) * size - offset = omega arith in
    subst (λ (k : ℕ). take k new ≡ take k (take count (drop offset all))) next
    (subst (λ (k : ℕ). take (place * size + length shown - offset) new ≡ take (place * size + length shown - offset) (take k (drop offset all))) same more)

-- the pages up to the last of a part cover it
pub all_copied : (size place offset count : ℕ) (all out : List ℕ) → 0 < size → length out ≡ count → offset + count ≤ length all
    → div_ceil (offset + count) size ≤ place
    → take (place * size - offset) out ≡ take (place * size - offset) (take count (drop offset all)) → out ≡ take count (drop offset all)
all_copied size place offset count all out some same fits last so_far =
    let times = div_ceil_times (offset + count) size some in
    let more : div_ceil (offset + count) size * size ≤ place * size = mul-le (div_ceil (offset + count) size) size place size last (omega arith) in
    let covers : offset + count ≤ place * size = omega (arith, times.0) in
    let long : length (take count (drop offset all)) ≡ count = length-take-le count (drop offset all) (omega (arith, length-drop offset all)) in
    sym (take_all (place * size - offset) out (omega arith)) ∙ so_far ∙ take_all (place * size - offset) (take count (drop offset all)) (omega arith)

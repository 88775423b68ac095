-- What stands at a place of bytes that others were written over.
use Rattle.std.proofs.Common.{◌≡◌, ◌⊎◌, ℕ, ◌+◌, ◌-◌, ◌≤◌, List, ◌++◌, length, take, drop, sym, ap, ◌∙◌, inl, inr, arith, append_assoc}
use Rattle.std.proofs.lemmas.List.{length-append, length-take-le, length-drop, take-append-le, drop_at, drop-append-le, drop-drop, drop-take, take-take}
use Rattle.host_interface.specs.Steps.{overwritten}

-- as many bytes as before
pub overwritten-length : (a : ℕ) (ys xs : List ℕ) → a + length ys ≤ length xs → length (overwritten a ys xs) ≡ length xs
overwritten-length a ys xs fits =
    omega (arith, length-append (take a xs) (ys ++ drop (a + length ys) xs), length-take-le a xs (omega arith), length-append ys (drop (a + length ys) xs), length-drop (a + length ys) xs)

-- what ends before them
before : (a k n : ℕ) (ys xs : List ℕ) → a ≤ length xs → k + n ≤ a → take n (drop k (overwritten a ys xs)) ≡ take n (drop k xs)
before a k n ys xs fits early =
    let front : length (take a xs) ≡ a = length-take-le a xs fits in
    let rest = ys ++ drop (a + length ys) xs in
    let split : drop k (take a xs ++ rest) ≡ drop k (take a xs) ++ rest = drop-append-le k (take a xs) rest (omega (arith, front)) in
    let left : length (drop k (take a xs)) ≡ a - k = omega (arith, length-drop k (take a xs), front) in
    let short : take n (drop k (take a xs) ++ rest) ≡ take n (drop k (take a xs)) = take-append-le n (drop k (take a xs)) rest (omega (arith, left)) in
    let sum : a ≡ k + (a - k) = omega arith in
    let inner : drop k (take a xs) ≡ take (a - k) (drop k xs) = ap (λ (i : ℕ). drop k (take i xs)) sum ∙ drop-take k (a - k) xs in
    ap (take n) split ∙ short ∙ ap (take n) inner ∙ take-take n (a - k) (drop k xs) (omega arith)

-- what begins after them
after : (a k n : ℕ) (ys xs : List ℕ) → a ≤ length xs → a + length ys ≤ k → take n (drop k (overwritten a ys xs)) ≡ take n (drop k xs)
after a k n ys xs fits late =
    let m = a + length ys in
    let front : length (take a xs ++ ys) ≡ m = omega (arith, length-append (take a xs) ys, length-take-le a xs fits) in
    let whole : drop m (overwritten a ys xs) ≡ drop m xs = ap (drop m) (sym (append_assoc (take a xs) ys (drop m xs))) ∙ drop_at (take a xs ++ ys) (drop m xs) m front in
    let sum : m + (k - m) ≡ k = omega arith in
    let same : drop k (overwritten a ys xs) ≡ drop k xs =
    sym (drop-drop (k - m) m (overwritten a ys xs) ∙ ap (λ (i : ℕ). drop i (overwritten a ys xs)) sum) ∙ ap (drop (k - m)) whole ∙ drop-drop (k - m) m xs ∙ ap (λ (i : ℕ). drop i xs) sum in
    ap (take n) same

-- what stands apart from them stays
pub apart : (a k n : ℕ) (ys xs : List ℕ) → a ≤ length xs → (k + n ≤ a) ⊎ (a + length ys ≤ k) → take n (drop k (overwritten a ys xs)) ≡ take n (drop k xs)
apart a k n ys xs fits (inl early) = before a k n ys xs fits early
apart a k n ys xs fits (inr late) = after a k n ys xs fits late

-- what stands within them is theirs
pub within : (a j n : ℕ) (ys xs : List ℕ) → a ≤ length xs → j + n ≤ length ys → take n (drop (a + j) (overwritten a ys xs)) ≡ take n (drop j ys)
within a j n ys xs fits inside =
    let rest = drop (a + length ys) xs in
    let whole : drop a (overwritten a ys xs) ≡ ys ++ rest = drop_at (take a xs) (ys ++ rest) a (length-take-le a xs fits) in
    let split : drop j (ys ++ rest) ≡ drop j ys ++ rest = drop-append-le j ys rest (omega arith) in
    let left : length (drop j ys) ≡ length ys - j = length-drop j ys in
    ap (take n) (sym (drop-drop j a (overwritten a ys xs)) ∙ ap (drop j) whole ∙ split) ∙ take-append-le n (drop j ys) rest (omega (arith, left))

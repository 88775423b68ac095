-- The bytes of an edited body, one by one.
use Rattle.std.proofs.Common.{◌≡◌, ℕ, zero, suc, ◌+◌, ◌-◌, ◌<◌, ◌≤◌, ◌⊎◌, inl, inr, ◌&&◌, if◌then◌else◌, List, [], ◌++◌, length, get_or, take, drop, replicate, refl, sym, ap, ◌∙◌, arith, length-append, length-drop}
use Rattle.std.proofs.lemmas.List.{length-take, length-take-le, length-replicate, get_or_append_left, get_or-append_right, get_or-take, get_or-drop, get_or_past, ext_get_or}
use Rattle.std.proofs.lemmas.Bool.{cases_lt}
use Rattle.std.specs.Prelude.{nat_le, nat_lt}
use Rattle.std.proofs.lemmas.Bool.Decides.{nat_tests}
use Rattle.plain_trees.specs.Contents.{resized, overwritten}
use Rattle.tree_edits.specs.Writing.{edited}

-- ---- bytes cut or filled up with zeros

pub resized_length : (old : List ℕ) (n : ℕ) → length (resized old n) ≡ n
resized_length old n = omega (arith, length-append (take n old) (replicate (n - length old) 0), length-take n old, length-replicate {A = ℕ} (n - length old) 0)

abbrev zeros : ℕ → List ℕ
zeros n = replicate n 0

zeros_at : (n i : ℕ) → get_or (zeros n) i 0 ≡ 0
zeros_at zero i = refl
zeros_at (suc n) zero = refl
zeros_at (suc n) (suc i) = zeros_at n i

pub resized_at : (old : List ℕ) (n i : ℕ) → i < n → get_or (resized old n) i 0 ≡ get_or old i 0
resized_at old n i lt = on (cases_lt i (length (take n old)))
  where
    on : (i < length (take n old)) ⊎ (length (take n old) ≤ i) → get_or (resized old n) i 0 ≡ get_or old i 0
    on (inl within) = get_or_append_left (take n old) (replicate (n - length old) 0) 0 i within ∙ get_or-take n old i 0 lt
    on (inr past) =
        get_or-append_right (take n old) (replicate (n - length old) 0) (length (take n old)) i 0 refl past
        ∙ zeros_at (n - length old) (i - length (take n old))
        ∙ sym (get_or_past old i 0 (omega (arith, length-take n old)))

pub resized_own : (old : List ℕ) (n : ℕ) → n ≡ length old → resized old n ≡ old
resized_own old n e = ext_get_or 0 (resized old n) old (resized_length old n ∙ e) (λ i lt. resized_at old n i (omega (arith, resized_length old n)))

pub resized_cut : (old : List ℕ) (n : ℕ) → n ≤ length old → resized old n ≡ take n old
resized_cut old n le = ext_get_or 0 (resized old n) (take n old) (resized_length old n ∙ sym (length-take-le n old le)) (λ i lt. each i (omega (arith, resized_length old n)))
  where
    each : (i : ℕ) → i < n → get_or (resized old n) i 0 ≡ get_or (take n old) i 0
    each i lt = resized_at old n i lt ∙ sym (get_or-take n old i 0 lt)

-- ---- bytes with others put over them

pub overwritten_length : (old : List ℕ) (offset : ℕ) (bytes : List ℕ) → length (overwritten old offset bytes) ≡ offset + length bytes + (length old - (offset + length bytes))
overwritten_length old offset bytes =
    omega (arith, length-append (resized old offset ++ bytes) (drop (offset + length bytes) old), length-append (resized old offset) bytes, resized_length old offset, length-drop (offset + length bytes) old)

pub before_offset : (old : List ℕ) (offset : ℕ) (bytes : List ℕ) (i : ℕ) → i < offset → get_or (overwritten old offset bytes) i 0 ≡ get_or old i 0
before_offset old offset bytes i lt =
    let start = resized_length old offset in
    get_or_append_left (resized old offset ++ bytes) (drop (offset + length bytes) old) 0 i (omega (arith, length-append (resized old offset) bytes))
    ∙ get_or_append_left (resized old offset) bytes 0 i (omega arith)
    ∙ resized_at old offset i lt

pub at_offset : (old : List ℕ) (offset : ℕ) (bytes : List ℕ) (i : ℕ) → offset ≤ i → i < offset + length bytes → get_or (overwritten old offset bytes) i 0 ≡ get_or bytes (i - offset) 0
at_offset old offset bytes i le lt =
    let start = resized_length old offset in
    get_or_append_left (resized old offset ++ bytes) (drop (offset + length bytes) old) 0 i (omega (arith, length-append (resized old offset) bytes))
    ∙ get_or-append_right (resized old offset) bytes offset i 0 start le

pub past_offset : (old : List ℕ) (offset : ℕ) (bytes : List ℕ) (i : ℕ) → offset + length bytes ≤ i → get_or (overwritten old offset bytes) i 0 ≡ get_or old i 0
past_offset old offset bytes i le =
    let there : offset + length bytes + (i - (offset + length bytes)) ≡ i = omega arith in
    get_or-append_right (resized old offset ++ bytes) (drop (offset + length bytes) old) (offset + length bytes) i 0 (omega (arith, length-append (resized old offset) bytes, resized_length old offset)) le
    ∙ get_or-drop (offset + length bytes) old (i - (offset + length bytes)) 0
    ∙ ap (λ (j : ℕ). get_or old j 0) there

pub overwritten_none : (old : List ℕ) → overwritten old (length old) [] ≡ old
overwritten_none old =
    let none : length old + 0 + (length old - (length old + 0)) ≡ length old = omega arith in
    let count : length (overwritten old (length old) []) ≡ length old = overwritten_length old (length old) [] ∙ none in
    ext_get_or 0 (overwritten old (length old) []) old count (λ i lt. before_offset old (length old) [] i (omega arith))

-- ---- what an edit makes

pub edited_length : (old : List ℕ) (offset : ℕ) (bytes : List ℕ) (n : ℕ) → length (edited old offset bytes n) ≡ n
edited_length old offset bytes n = resized_length (overwritten old offset bytes) n

-- what lies before the edit stays
pub edited_front : (old : List ℕ) (offset : ℕ) (bytes : List ℕ) (n m : ℕ) → m ≤ offset → m ≤ length old → m ≤ n → take m (edited old offset bytes n) ≡ take m old
edited_front old offset bytes n m by_offset by_old by_size =
    let left : length (take m (edited old offset bytes n)) ≡ m = length-take-le m (edited old offset bytes n) (omega (arith, edited_length old offset bytes n)) in
    ext_get_or 0 (take m (edited old offset bytes n)) (take m old) (left ∙ sym (length-take-le m old by_old)) (λ i lt. each i (omega arith))
  where
    each : (i : ℕ) → i < m → get_or (take m (edited old offset bytes n)) i 0 ≡ get_or (take m old) i 0
    each i lt =
        get_or-take m (edited old offset bytes n) i 0 lt ∙ resized_at (overwritten old offset bytes) n i (omega (arith, by_size)) ∙ before_offset old offset bytes i (omega (arith, by_offset))
        ∙ sym (get_or-take m old i 0 lt)

-- the byte at a place
abbrev pub byte_of : List ℕ → ℕ → List ℕ → ℕ → ℕ
byte_of old offset bytes i = if nat_le offset i && nat_lt i (offset + length bytes) then get_or bytes (i - offset) 0 else get_or old i 0

pub edited_at : (old : List ℕ) (offset : ℕ) (bytes : List ℕ) (n i : ℕ) → i < n → get_or (edited old offset bytes n) i 0 ≡ byte_of old offset bytes i
edited_at old offset bytes n i lt = resized_at (overwritten old offset bytes) n i lt ∙ on (cases_lt i offset) (cases_lt i (offset + length bytes))
  where
    on : (i < offset) ⊎ (offset ≤ i) → (i < offset + length bytes) ⊎ (offset + length bytes ≤ i) → get_or (overwritten old offset bytes) i 0 ≡ byte_of old offset bytes i
    on (inl before) other = before_offset old offset bytes i before ∙ grind (arith, nat_tests)
    on (inr from) (inl within) = at_offset old offset bytes i from within ∙ grind (arith, nat_tests)
    on (inr from) (inr past) = past_offset old offset bytes i past ∙ grind (arith, nat_tests)

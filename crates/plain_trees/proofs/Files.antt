-- A file's bytes after pwrite and ftruncate, byte by byte.
use Rattle.std.proofs.Common.{◌≡◌, ℕ, ◌+◌, ◌-◌, ◌<◌, ◌≤◌, Bool, true, false, cond, ◌&&◌, List, ◌++◌, length, get_or, take, drop, replicate, max, sym, ap, refl, ◌∙◌, arith}
use Rattle.std.proofs.lemmas.Bool.{ltb-true, ltb-false, leb-true, leb-false}
use Rattle.std.proofs.lemmas.List.{length-take, length-drop, length-append, length-replicate, get_or_append_left, get_or-append_right, get_or-take, get_or-drop, get_or-replicate, get_or_past}
use Rattle.std.specs.Prelude.{nat_lt, nat_le}
use Rattle.plain_trees.specs.Contents.{overwritten, resized}
use Rattle.plain_trees.specs.Laws.{OverwrittenLaw, ResizedLaw}

-- the first n bytes, with zeros where the list is shorter
pub length-resized : (old : List ℕ) (n : ℕ) → length (resized old n) ≡ n
length-resized old n = omega (arith, length-append (take n old) (replicate (n - length old) 0), length-take n old, length-replicate {A = ℕ} (n - length old) 0)

pub get_or-resized : (old : List ℕ) (n i : ℕ) → i < n → get_or (resized old n) i 0 ≡ get_or old i 0
get_or-resized old n i h = go (nat_lt i (length old)) refl
  where
    go : (b : Bool) → nat_lt i (length old) ≡ b → get_or (resized old n) i 0 ≡ get_or old i 0
    go true e =
        let within : i < length old = ltb-true _ _ e in
        let l : i < length (take n old) = omega (arith, length-take n old) in
        get_or_append_left (take n old) (replicate (n - length old) 0) 0 i l ∙ get_or-take n old i 0 h
    go false e =
        let past : length old ≤ i = ltb-false _ _ e in
        let l : length (take n old) ≡ length old = omega (arith, length-take n old) in
        let r : i - length old < n - length old = omega arith in
        get_or-append_right (take n old) (replicate (n - length old) 0) (length old) i 0 l past ∙ get_or-replicate (n - length old) (i - length old) 0 0 r ∙ sym (get_or_past old i 0 past)

pub resized_law : ResizedLaw
resized_law = record { long = length-resized; each = get_or-resized }

pub length-overwritten : (old bytes : List ℕ) (offset : ℕ) → length (overwritten old offset bytes) ≡ max (length old) (offset + length bytes)
length-overwritten old bytes offset = omega (arith, length-append (resized old offset ++ bytes) (drop (offset + length bytes) old), length-append (resized old offset) bytes, length-resized old offset, length-drop (offset + length bytes) old)

pub get_or-overwritten : (old bytes : List ℕ) (offset i : ℕ) → get_or (overwritten old offset bytes) i 0 ≡ cond (nat_le offset i && nat_lt i (offset + length bytes)) (get_or bytes (i - offset) 0) (get_or old i 0)
get_or-overwritten old bytes offset i = go (nat_le offset i) refl (nat_lt i (offset + length bytes)) refl
  where
    long : length (resized old offset ++ bytes) ≡ offset + length bytes
    long = omega (arith, length-append (resized old offset) bytes, length-resized old offset)

    rest : List ℕ
    rest = drop (offset + length bytes) old

    go : (a : Bool) → nat_le offset i ≡ a → (b : Bool) → nat_lt i (offset + length bytes) ≡ b → get_or (overwritten old offset bytes) i 0 ≡ cond (a && b) (get_or bytes (i - offset) 0) (get_or old i 0)
    go false e b e' =
        let before : i < offset = leb-false _ _ e in
        let l : i < length (resized old offset ++ bytes) = omega (arith, long) in
        let l' : i < length (resized old offset) = omega (arith, length-resized old offset) in
        get_or_append_left (resized old offset ++ bytes) rest 0 i l ∙ get_or_append_left (resized old offset) bytes 0 i l' ∙ get_or-resized old offset i before
    go true e true e' =
        let from : offset ≤ i = leb-true _ _ e in
        let below : i < offset + length bytes = ltb-true _ _ e' in
        let l : i < length (resized old offset ++ bytes) = omega (arith, long) in
        get_or_append_left (resized old offset ++ bytes) rest 0 i l ∙ get_or-append_right (resized old offset) bytes offset i 0 (length-resized old offset) from
    go true e false e' =
        let past : offset + length bytes ≤ i = ltb-false _ _ e' in
        let same : offset + length bytes + (i - (offset + length bytes)) ≡ i = omega arith in
        get_or-append_right (resized old offset ++ bytes) rest (offset + length bytes) i 0 long past ∙ get_or-drop (offset + length bytes) old (i - (offset + length bytes)) 0 ∙ ap (λ k. get_or old k 0) same

pub overwritten_law : OverwrittenLaw
overwritten_law = record { long = length-overwritten; each = get_or-overwritten }

-- The serials of a log, one after the other.
use Rattle.std.proofs.Common.{◌≡◌, ℕ, ◌+◌, ◌<◌, ◌≤◌, List, [], ◌∷◌, ◌++◌, length, take, get_or, sym, ap, ◌∙◌, arith, zero-add}
use Rattle.std.specs.List.{flat_map, enumerate_from}
use Rattle.std.proofs.lemmas.Grind.{common_steps}
use Rattle.std.proofs.lemmas.List.{flat_map_more, take_more}
use Rattle.std.proofs.lemmas.List.FromFn.{length-enumerate_from, get_or-enumerate_from}
use Rattle.script.specs.Replies.{serial_text}

-- the rows so far, and the one at a place
rows_more : (xs : List ℕ) (i : ℕ) → i < length xs → take (i + 1) (enumerate_from 0 xs) ≡ take i (enumerate_from 0 xs) ++ (i, get_or xs i 0) ∷ []
rows_more xs i l =
    let within : i < length (enumerate_from 0 xs) = omega (arith, length-enumerate_from 0 xs) in
    let row : get_or (enumerate_from 0 xs) i (0, 0) ≡ (i, get_or xs i 0) = get_or-enumerate_from 0 xs i (0, 0) l ∙ ap (λ n. (n, get_or xs i 0)) (zero-add i) in
    rw (take_more (enumerate_from 0 xs) i (0, 0) within, row)

pub serials_more : (cursor : ℕ) (xs : List ℕ) (i : ℕ) (start mid new : List ℕ) → i < length xs
    → mid ≡ start ++ flat_map (serial_text cursor) (take i (enumerate_from 0 xs))
    → new ≡ mid ++ serial_text cursor (i, get_or xs i 0)
    → new ≡ start ++ flat_map (serial_text cursor) (take (i + 1) (enumerate_from 0 xs))
serials_more cursor xs i start mid new l so_far grown =
    grown ∙ ap (λ ys. ys ++ serial_text cursor (i, get_or xs i 0)) so_far
    ∙ flat_map_more (serial_text cursor) start (take i (enumerate_from 0 xs)) (i, get_or xs i 0)
    ∙ ap (λ rows. start ++ flat_map (serial_text cursor) rows) (sym (rows_more xs i l))

pub serials_all : (cursor : ℕ) (xs : List ℕ) (i : ℕ) (start new : List ℕ) → length xs ≤ i
    → new ≡ start ++ flat_map (serial_text cursor) (take i (enumerate_from 0 xs))
    → new ≡ start ++ flat_map (serial_text cursor) (enumerate_from 0 xs)
serials_all cursor xs i start new past e =
    let within : length (enumerate_from 0 xs) ≤ i = omega (arith, length-enumerate_from 0 xs) in
    let all : take i (enumerate_from 0 xs) ≡ enumerate_from 0 xs = grind (arith, common_steps) in
    e ∙ ap (λ rows. start ++ flat_map (serial_text cursor) rows) all

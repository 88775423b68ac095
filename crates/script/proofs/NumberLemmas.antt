-- The value of the digits read so far.
use Rattle.std.proofs.Common.{◌≡◌, ℕ, ◌+◌, ◌-◌, ◌*◌, ◌^◌, ◌<◌, ◌≤◌, Bool, true, false, ◌&&◌, List, length, take, get_or, Some, None, refl, sym, ap, ◌∙◌, arith, ltb}
use Rattle.std.specs.Char.{digit_value}
use Rattle.std.specs.List.{list_all}
use Rattle.std.specs.Str.Parse.{digits_value}
use Rattle.std.proofs.lemmas.Bool.Decides.{nat_tests}
use Rattle.std.proofs.lemmas.Grind.{common_steps}
use Rattle.std.proofs.lemmas.Int.Digits.{digits_value_more}
use Rattle.std.proofs.lemmas.List.Folds.{list_all_at}
use Rattle.std.proofs.lemmas.Str.Parse.{digits_value-take-le}
use Rattle.script.specs.Words.{is_digit, is_number, number_from}

both_true : (a b c : Bool) → (a && b && c) ≡ true → b ≡ true
both_true true true c h = refl
both_true true false c h = h
both_true false b c h = cc

-- a number's bytes are digits
pub all_digits : (w : List ℕ) → is_number w ≡ true → list_all is_digit w ≡ true
all_digits w h = both_true _ _ _ h

digit_go : (w : List ℕ) (i : ℕ) (b : Bool) → is_digit (get_or w i 0) ≡ b → list_all is_digit w ≡ true → i < length w → b ≡ true
digit_go w i true e h l = refl
digit_go w i false e h l = sym (list_all_at is_digit w i 0 l e) ∙ h

pub digit_at : (w : List ℕ) (i : ℕ) → is_number w ≡ true → i < length w → is_digit (get_or w i 0) ≡ true
digit_at w i h l = digit_go w i (is_digit (get_or w i 0)) refl (all_digits w h) l

digit_is : (c : ℕ) → is_digit c ≡ true → digit_value c ≡ c - 48
digit_is c h = grind (arith, nat_tests)

pub value_more : (w : List ℕ) (i : ℕ) → is_number w ≡ true → i < length w → digits_value 10 (take (i + 1) w) ≡ digits_value 10 (take i w) * 10 + (get_or w i 0 - 48)
value_more w i h l = digits_value_more 10 w i l ∙ ap (λ n. digits_value 10 (take i w) * 10 + n) (digit_is _ (digit_at w i h l))

and_false : (a b : Bool) → b ≡ false → (a && b) ≡ false
and_false true b h = h
and_false false b h = refl

-- too large a front makes the number too large
pub number_none : (w : List ℕ) (i : ℕ) → 2 ^ 64 ≤ digits_value 10 (take i w) → number_from w ≡ None
number_none w i h =
    let large : 2 ^ 64 ≤ digits_value 10 w = omega (arith, digits_value-take-le 10 w i (omega arith)) in
    let past : ltb (digits_value 10 w) (2 ^ 64) ≡ false = grind (arith, nat_tests) in
    rw (and_false (is_number w) (ltb (digits_value 10 w) (2 ^ 64)) past)

number_some : (w : List ℕ) → is_number w ≡ true → digits_value 10 w < 2 ^ 64 → number_from w ≡ Some (digits_value 10 w)
number_some w h l =
    let within : ltb (digits_value 10 w) (2 ^ 64) ≡ true = grind (arith, nat_tests) in
    rw (h, within)

-- the number is the value of all its digits
pub number_is : (w : List ℕ) (i n : ℕ) → is_number w ≡ true → length w ≤ i → n ≡ digits_value 10 (take i w) → n < 2 ^ 64 → Some n ≡ number_from w
number_is w i n h all e l =
    let whole : n ≡ digits_value 10 w = grind (arith, common_steps) in
    ap Some whole ∙ sym (number_some w h (omega arith))

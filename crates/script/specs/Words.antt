-- The words of a line: numbers, text with escapes, and data.
use Rattle.std.specs.Prelude.{ℕ, ◌+◌, ◌*◌, ◌^◌, Bool, not, ◌==◌, ◌&&◌, ◌||◌, nat_lt, nat_le, Option, Some, None, Result, Ok, Err, List, [], ◌∷◌, length, slice_index, codes, if◌then◌else◌}
use Rattle.std.specs.Option.{option_map, option_and_then}
use Rattle.std.specs.Result.{result_ok}
use Rattle.std.specs.List.{list_all}
use Rattle.std.specs.Str.{bytes_eq}
use Rattle.std.specs.Str.Parse.{digits_value}
use Rattle.hex.specs.Hex.{hex_digit_value, decode_of}
use Rattle.script.specs.declared.misread.Misread.{Misread}
use Rattle.script.specs.declared.misread.Misread.TheVariants.{Syntax}

-- `0` to `9`
abbrev pub is_digit : ℕ → Bool
is_digit b = nat_le 48 b && nat_le b 57

-- decimal digits, with no zero in front of others
abbrev pub is_number : List ℕ → Bool
is_number word = nat_lt 0 (length word) && list_all is_digit word && (not (slice_index word 0 == 48) || length word == 1)

-- the number that a word spells, where it is a `u64`
abbrev pub number_from : List ℕ → Option ℕ
number_from word = if is_number word && nat_lt (digits_value 10 word) (2 ^ 64) then Some (digits_value 10 word) else None

-- a byte that stands for itself: 0x21 to 0x7E, but `%`
abbrev pub is_plain : ℕ → Bool
is_plain b = nat_le 33 b && nat_le b 126 && not (b == 37)

-- the byte of two hexadecimal digits of either case
abbrev pub hex_byte : ℕ → ℕ → Option ℕ
hex_byte high low = option_and_then (λ h. option_map (λ l. h * 16 + l) (hex_digit_value low)) (hex_digit_value high)

-- a byte, and then the others
abbrev pub onto : Option ℕ → Option (List ℕ) → Option (List ℕ)
onto byte bytes = option_and_then (λ b. option_map (λ bs. b ∷ bs) bytes) byte

-- the bytes that a word spells: bytes that stand for themselves, and `%` with two digits for any byte
abbrev pub unescaped : List ℕ → Option (List ℕ)
unescaped [] = Some []
unescaped (b ∷ []) = if is_plain b then Some (b ∷ []) else None
unescaped (b ∷ c ∷ []) = if is_plain b then onto (Some b) (unescaped (c ∷ [])) else None
unescaped (b ∷ c ∷ d ∷ rest) = if is_plain b then onto (Some b) (unescaped (c ∷ d ∷ rest)) else if b == 37 then onto (hex_byte c d) (unescaped rest) else None

-- a word that is `-` alone spells nothing
abbrev pub is_dash : List ℕ → Bool
is_dash word = bytes_eq word (codes "-")

-- the bytes of a path or a name
abbrev pub text_from : List ℕ → Option (List ℕ)
text_from word = if is_dash word then Some [] else if length word == 0 then None else unescaped word

-- the bytes of data, by pairs of hexadecimal digits
abbrev pub data_from : List ℕ → Option (List ℕ)
data_from word = if is_dash word then Some [] else if length word == 0 then None else result_ok (decode_of word)

-- a word that has no form makes the line one without a form
abbrev pub well_formed : {A : Type 0} → Option A → Result A Misread
well_formed (Some x) = Ok x
well_formed None = Err Syntax

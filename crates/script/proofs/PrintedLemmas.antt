-- Digits and escapes as the crates `hex` and `percent_encoding` print them.
use Rattle.std.proofs.Common.{◌≡◌, ℕ, zero, suc, ◌+◌, ◌/◌, ◌%◌, ◌<◌, Bool, true, false, not, ◌&&◌, ◌==◌, List, [], ◌∷◌, ◌++◌, length, take, get_or, slice_index, refl, sym, ◌∙◌, arith, All, inl, inr}
use Rattle.std.specs.Fmt.{digit_glyph}
use Rattle.std.specs.List.{flat_map, AllByRecursion}
use Rattle.std.proofs.lemmas.Bool.{and_parts, cases_lt, eqb-true}
use Rattle.std.proofs.lemmas.Grind.{common_steps}
use Rattle.std.proofs.lemmas.List.Elements.{recursion_from_All}
use Rattle.hex.specs.Hex.{encode_with, encode_lower, lower_digits}
use Rattle.percent_encoding.specs.AsciiSet.{should_percent_encode}
use Rattle.percent_encoding.specs.Percent.{percent_encode, percent_encode_byte, encode_byte}
use Rattle.percent_encoding.proofs.OnLiterals.{percent_encoding_on_literals}
use Rattle.script.specs.Words.{is_plain}
use Rattle.script.specs.Replies.{hex_pair, escaped_byte, escaped}
use Rattle.script.specs.declared.digits.TheConstants.{ESCAPED}

-- a test of each number below n, which computes
abbrev all_pass : (ℕ → Bool) → ℕ → Bool
all_pass test zero = true
all_pass test (suc n) = test n && all_pass test n

passes : (test : ℕ → Bool) (n k : ℕ) → all_pass test n ≡ true → k < n → test k ≡ true
passes test zero k h below = absurd (omega arith)
passes test (suc n) k h below =
    let parts = and_parts (test n) (all_pass test n) h in
    elim (cases_lt k n) [
      | inl less ↦ passes test n k parts.1 less
      | inr top ↦ let e : k ≡ n = omega arith in rw e parts.0
    ]

-- ---- digits

glyph : (d : ℕ) → d < 16 → slice_index lower_digits d ≡ digit_glyph false d
glyph d small = eqb-true _ _ (passes (λ d. slice_index lower_digits d == digit_glyph false d) 16 d refl small)

pair : (b : ℕ) → b < 256 → encode_lower (b ∷ []) ≡ hex_pair false b
unfolding encode_with
pair b small = rw (glyph (b / 16) (omega arith), glyph (b % 16) (omega arith))

-- the digits of one more byte
pub hex_more : (old out new digits bytes : List ℕ) (i : ℕ) → i < length bytes → get_or bytes i 0 < 256 → digits ≡ encode_lower (get_or bytes i 0 ∷ [])
    → out ≡ old ++ flat_map (hex_pair false) (take i bytes) → new ≡ out ++ digits → new ≡ old ++ flat_map (hex_pair false) (take (i + 1) bytes)
hex_more old out new digits bytes i within small is before after =
    let printed : digits ≡ hex_pair false (get_or bytes i 0) = is ∙ pair (get_or bytes i 0) small in
    grind (arith, common_steps)

-- ---- names

abbrev same : Bool → Bool → Bool
same true b = b
same false b = not b

same_true : (a b : Bool) → same a b ≡ true → a ≡ b
same_true true b h = sym h
same_true false true h = cc
same_true false false h = refl

escapes : (b : ℕ) → b < 256 → should_percent_encode ESCAPED b ≡ not (is_plain b)
unfolding percent_encoding_on_literals
escapes b small = same_true _ _ (passes (λ n. same (should_percent_encode ESCAPED n) (not (is_plain n))) 256 b refl small)

escaped_as : (b : ℕ) (plain : Bool) → is_plain b ≡ plain → b < 256 → encode_byte ESCAPED b ≡ escaped_byte b
unfolding percent_encode_byte
escaped_as b true e small = rw (escapes b small, e)
escaped_as b false e small = let high : b / 16 % 16 ≡ b / 16 = omega arith in rw (escapes b small, e, high)

escaped_one : (b : ℕ) → b < 256 → encode_byte ESCAPED b ≡ escaped_byte b
escaped_one b small = escaped_as b (is_plain b) refl small

escaped_all : (name : List ℕ) → AllByRecursion (λ b. b < 256) name → percent_encode ESCAPED name ≡ escaped name
unfolding percent_encode
escaped_all [] h = refl
escaped_all (b ∷ name) h = rw (escaped_one b h.0, escaped_all name h.1)

-- a name is printed with its escapes
pub percent_encoded : (name : List ℕ) → All (λ b. b < 256) name → percent_encode ESCAPED name ≡ escaped name
percent_encoded name h = escaped_all name (recursion_from_All (λ b. b < 256) name h)

-- all of a text was appended, where nothing of it is left
pub text_ended : (out old left start text : List ℕ) → left ≡ [] → start ≡ text → out ++ left ≡ old ++ start → out ≡ old ++ text
text_ended out old left start text none is whole = grind (arith, common_steps)

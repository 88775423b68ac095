-- The text that a word spells, a byte at a time.
use Rattle.std.proofs.Common.{◌≡◌, ℕ, ◌+◌, ◌*◌, List, [], ◌∷◌, ◌++◌, get_or, Option, Some, None, Result, Ok, Err, refl, sym, ap, ◌∙◌, append_assoc}
use Rattle.std.specs.Prelude.{MatchResult}
use Rattle.std.specs.Option.{option_map, option_and_then}
use Rattle.std.specs.Result.{result_ok}
use Rattle.hex.specs.Hex.{decode_pairs, decode_sized, digit_or_error, hex_digit_value, ◌>>=◌}
use Rattle.hex.specs.declared.error.FromHexError.{FromHexError}
use Rattle.script.specs.Words.{hex_byte, onto}

prepended : (front : List ℕ) (b : ℕ) (rest : Option (List ℕ)) → option_map (λ bs. (front ++ b ∷ []) ++ bs) rest ≡ option_map (λ bs. front ++ bs) (onto (Some b) rest)
prepended front b None = refl
prepended front b (Some bs) = ap Some (append_assoc front (b ∷ []) bs)

-- the bytes so far and what is left spell the word, also after one more byte
pub text_more : (front new : List ℕ) (b : ℕ) (old rest whole : Option (List ℕ)) → new ≡ front ++ b ∷ [] → old ≡ onto (Some b) rest
    → option_map (λ bs. front ++ bs) old ≡ whole → option_map (λ bs. new ++ bs) rest ≡ whole
text_more front new b old rest whole grown first spelled = rw grown (prepended front b rest ∙ ap (option_map (λ bs. front ++ bs)) (sym first) ∙ spelled)

-- what `hex` answers for two digits, at their values
abbrev pair_of : ℕ → ℕ → Option ℕ → Option ℕ → Result (List ℕ) FromHexError
pair_of high low a b = (digit_or_error high 0 a >>= λ h. digit_or_error low 1 b >>= λ l. Ok (h * 16 + l)) >>= λ byte. Ok (byte ∷ [])

abbrev Decodes : Result (List ℕ) FromHexError → Result (Unit {0}) FromHexError → List ℕ → Type 0
Decodes decoded r out = MatchResult decoded (λ bytes. (r ≡ Ok tt) × (out ≡ bytes)) (λ e. r ≡ Err e)

abbrev IsByteRead : Option ℕ → Result (Unit {0}) FromHexError → List ℕ → Type 0
IsByteRead byte r out = MatchResult r (λ _. Some (get_or out 0 0) ≡ byte) (λ _. byte ≡ None)

pair_read : (high low : ℕ) (a b : Option ℕ) (r : Result (Unit {0}) FromHexError) (out : List ℕ) → Decodes (pair_of high low a b) r out
    → IsByteRead (option_and_then (λ h. option_map (λ l. h * 16 + l) b) a) r out
pair_read high low (Some h) (Some l) r out is = rw (is.0, is.1) refl
pair_read high low (Some h) None r out is = rw is refl
pair_read high low None b r out is = rw is refl

-- two digits are read as their byte, or refused where there is none
byte_read : (high low : ℕ) (r : Result (Unit {0}) FromHexError) (out : List ℕ) → Decodes (decode_sized (high ∷ low ∷ []) 1) r out → IsByteRead (hex_byte high low) r out
unfolding decode_pairs
byte_read high low r out is = pair_read high low (hex_digit_value high) (hex_digit_value low) r out is

pub byte_found : (high low : ℕ) (r : Result (Unit {0}) FromHexError) (out : List ℕ) → Decodes (decode_sized (high ∷ low ∷ []) 1) r out
    → Some tt ≡ result_ok r → Some (get_or out 0 0) ≡ hex_byte high low
byte_found high low (Ok done) out is ok = byte_read high low (Ok done) out is
byte_found high low (Err e) out is ok = cc

pub byte_missing : (high low : ℕ) (r : Result (Unit {0}) FromHexError) (out : List ℕ) → Decodes (decode_sized (high ∷ low ∷ []) 1) r out
    → None ≡ result_ok r → hex_byte high low ≡ None
byte_missing high low (Ok done) out is ok = cc
byte_missing high low (Err e) out is ok = byte_read high low (Err e) out is

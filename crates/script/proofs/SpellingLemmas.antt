-- What is printed is read again.
use Rattle.std.proofs.Common.{◌≡◌, ℕ, ◌+◌, ◌/◌, ◌%◌, ◌^◌, ◌<◌, ◌≤◌, Bool, true, false, cond, ◌&&◌, List, [], ◌∷◌, ◌++◌, length, take, get_or, Some, None, All, refl, sym, ap, ◌∙◌, subst, arith, ltb, not, ◌||◌, ◌==◌, zero, suc}
use Rattle.std.specs.Fmt.{decimal, digit_glyph}
use Rattle.std.specs.Int.{IsInRange}
use Rattle.std.specs.List.{list_all, AllByRecursion}
use Rattle.std.specs.Str.Parse.{digits_value}
use Rattle.hex.specs.Hex.{hex_digit_value}
use Rattle.std.proofs.lemmas.Bool.Decides.{nat_tests}
use Rattle.std.proofs.lemmas.Fmt.{decimal_digit, decimal_nonempty, first_decimal, digits_decimal, digits_value-decimal, decimal-digits_value}
use Rattle.std.proofs.lemmas.List.Elements.{recursion_from_All}
use Rattle.std.proofs.lemmas.Str.Parse.{IsDigitsTest, IsNumeralModel, numerals_by_value}
use Rattle.std.proofs.Math.Seq.{take-length}
use Rattle.script.proofs.NumberLemmas.{all_digits, number_is}
use Rattle.script.specs.Words.{is_digit, is_number, number_from, is_plain, hex_byte, onto, unescaped}
use Rattle.script.specs.Replies.{escaped, escaped_byte}

-- ---- names

unescaped_plain : (b : ℕ) (rest : List ℕ) → is_plain b ≡ true → unescaped (b ∷ rest) ≡ onto (Some b) (unescaped rest)
unescaped_plain b [] plain = rw plain
unescaped_plain b (c ∷ []) plain = rw plain
unescaped_plain b (c ∷ d ∷ rest) plain = rw plain

-- a digit is read as what it was printed for
low_digit : (d : ℕ) → d < 10 → hex_digit_value (48 + d) ≡ Some d
low_digit d small = grind (arith, nat_tests)

high_digit : (d : ℕ) → 10 ≤ d → d < 16 → hex_digit_value (55 + d) ≡ Some d
high_digit d large small = grind (arith, nat_tests)

digit_read : (d : ℕ) → d < 16 → hex_digit_value (digit_glyph true d) ≡ Some d
digit_read d small = go (ltb d 10) refl
  where
    go : (b : Bool) → ltb d 10 ≡ b → hex_digit_value (cond b (48 + d) (55 + d)) ≡ Some d
    go true e = let below : d < 10 = grind (arith, nat_tests) in low_digit d below
    go false e = let above : 10 ≤ d = grind (arith, nat_tests) in high_digit d above small

byte_read : (b : ℕ) → b < 256 → hex_byte (digit_glyph true (b / 16)) (digit_glyph true (b % 16)) ≡ Some b
byte_read b small =
    rw (digit_read (b / 16) (omega arith), digit_read (b % 16) (omega arith)) (ap Some (omega arith))

spelled_byte : (b : ℕ) (rest : List ℕ) (plain : Bool) → is_plain b ≡ plain → b < 256 → unescaped (escaped_byte b ++ rest) ≡ onto (Some b) (unescaped rest)
spelled_byte b rest true e small = rw e (unescaped_plain b rest e)
spelled_byte b rest false e small = rw e (ap (λ byte. onto byte (unescaped rest)) (byte_read b small))

names : (name : List ℕ) → AllByRecursion (λ b. b < 256) name → unescaped (escaped name) ≡ Some name
names [] h = refl
names (b ∷ name) h = spelled_byte b (escaped name) (is_plain b) refl h.0 ∙ ap (onto (Some b)) (names name h.1)

pub names_law : (name : List ℕ) → All (λ b. b < 256) name → unescaped (escaped name) ≡ Some name
names_law name h = names name (recursion_from_All (λ b. b < 256) name h)

-- ---- numbers

digits : IsDigitsTest (λ ds. list_all is_digit ds ≡ true)
digits = record { empty = refl; parts = λ c cs h. digit_parts c cs h; more = λ c cs r h. digit_more c cs r h }
  where
    digit_parts : (c : ℕ) (cs : List ℕ) → list_all is_digit (c ∷ cs) ≡ true → IsInRange 48 57 c × (list_all is_digit cs ≡ true)
    digit_parts c cs h = grind (arith, nat_tests)

    digit_more : (c : ℕ) (cs : List ℕ) → IsInRange 48 57 c → list_all is_digit cs ≡ true → list_all is_digit (c ∷ cs) ≡ true
    digit_more c cs r h = grind (arith, nat_tests)

own : IsNumeralModel (λ ds. list_all is_digit ds ≡ true) (digits_value 10)
own = numerals_by_value _ digits

all_three : (a b c : Bool) → a ≡ true → b ≡ true → c ≡ true → (a && b && c) ≡ true
all_three a b c x y z = rw (x, y, z)

zero_alone : (n : ℕ) → n < 2 ^ 64 → (not (get_or (decimal n) 0 0 == 48) || length (decimal n) == 1) ≡ true
zero_alone zero small = rw (decimal_digit 0 (omega arith))
zero_alone (suc n) small =
    let first : 48 < get_or (decimal (suc n)) 0 0 = first_decimal (suc n) (omega arith) small in
    let test : (get_or (decimal (suc n)) 0 0 == 48) ≡ false = grind (arith, nat_tests) in
    rw test

is_number_decimal : (n : ℕ) → n < 2 ^ 64 → is_number (decimal n) ≡ true
is_number_decimal n small =
    let some : 0 < length (decimal n) = decimal_nonempty n small in
    all_three _ _ _ (grind (arith, nat_tests)) (digits_decimal own n small) (zero_alone n small)

pub number_of_decimal : (word : List ℕ) (n : ℕ) → n < 2 ^ 64 → word ≡ decimal n → number_from word ≡ Some n
number_of_decimal word n small e =
    let value : n ≡ digits_value 10 (take (length word) word) = sym (ap (digits_value 10) (take-length word ∙ e) ∙ digits_value-decimal own n small) in
    sym (number_is word (length word) n (ap is_number e ∙ is_number_decimal n small) (omega arith) value small)

record Parts (word : List ℕ) : Type 0 where
  is_number' : is_number word ≡ true
  fits : digits_value 10 word < 2 ^ 64

parts_of : (word : List ℕ) → (is_number word && ltb (digits_value 10 word) (2 ^ 64)) ≡ true → Parts word
parts_of word h = go (is_number word) refl h
  where
    go : (b : Bool) → is_number word ≡ b → (b && ltb (digits_value 10 word) (2 ^ 64)) ≡ true → Parts word
    go true e h = record { is_number' = e; fits = grind (arith, nat_tests) }
    go false e h = absurd (cc)

third_true : (a b c : Bool) → (a && b && c) ≡ true → c ≡ true
third_true true true c h = h
third_true true false c h = cc
third_true false b c h = cc

single : (word : List ℕ) → is_number word ≡ true → get_or word 0 0 ≡ 48 → length word ≡ 1
single word h zero_first =
    let last : (not (get_or word 0 0 == 48) || length word == 1) ≡ true = third_true (ltb 0 (length word)) (list_all is_digit word) _ h in
    let test : (get_or word 0 0 == 48) ≡ true = grind (arith, nat_tests) in
    let alone : (length word == 1) ≡ true = rw test at last in
    grind (arith, nat_tests)

some_digit : (word : List ℕ) → is_number word ≡ true → 0 < length word
some_digit [] h = absurd (cc)
some_digit (b ∷ word) h = omega (arith)

pub decimal_of_number : (word : List ℕ) (n : ℕ) → number_from word ≡ Some n → (n < 2 ^ 64) × (word ≡ decimal n)
decimal_of_number word n e = go (is_number word && ltb (digits_value 10 word) (2 ^ 64)) refl e
  where
    go : (b : Bool) → (is_number word && ltb (digits_value 10 word) (2 ^ 64)) ≡ b → cond b (Some (digits_value 10 word)) None ≡ Some n → (n < 2 ^ 64) × (word ≡ decimal n)
    go true t e =
        let p = parts_of word t in
        let value : digits_value 10 word ≡ n = cc in
        let spelled : decimal (digits_value 10 word) ≡ word =
        decimal-digits_value own word (all_digits word p.is_number') (some_digit word p.is_number') (single word p.is_number') p.fits in
        (subst (λ m. m < 2 ^ 64) value p.fits, sym spelled ∙ ap decimal value)
    go false t e = absurd (cc)

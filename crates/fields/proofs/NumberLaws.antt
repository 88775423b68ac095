-- A number that is read is the one that was written, and what was read is written so again.
use Rattle.std.proofs.Common.{◌≡◌, ℕ, zero, suc, ◌+◌, ◌*◌, ◌/◌, ◌%◌, ◌^◌, ◌<◌, ◌≤◌, false, ltb, List, [], ◌∷◌, ◌++◌, length, take, drop, Some, None, refl, sym, ap, subst, ◌∙◌, append_assoc, arith, inl, inr}
use Rattle.std.specs.Int as int
use Rattle.std.proofs.Math.Nat.{div-div-eq-div-mul, pow-succ'}
use Rattle.std.proofs.lemmas.Bool.{cases_lt, ltb-false, ltb-true, le-ltb}
use Rattle.std.proofs.lemmas.List.{drop_at, take-append-drop, length-append, length-take, get_or-drop, get_or-take, get_or_past}
use Rattle.byteorder.specs.Endian.{little_from, little_number, little_bytes}
use Rattle.byteorder.specs.Numbers.{little_from-cons, little_from-lt, little_number-reads_back, length-bytes_low_first}
use Rattle.fields.specs.Numbers.{IsBytes, byte_at, number_at}
use Rattle.fields.proofs.Found.{not_refused, refused, some_is}

-- ---- bytes

pub IsBytes-drop : (n : ℕ) (bytes : List ℕ) → IsBytes bytes → IsBytes (drop n bytes)
IsBytes-drop n bytes h i = rw get_or-drop (h (n + i))

pub IsBytes-take : (n : ℕ) (bytes : List ℕ) → IsBytes bytes → IsBytes (take n bytes)
IsBytes-take n bytes h i =
    elim (cases_lt i n) [
      | inl lt ↦ rw (get_or-take n bytes i 0 lt) (h i)
      | inr le ↦ rw (get_or_past (take n bytes) i 0 (omega (arith, length-take n bytes))) (omega arith)
    ]

-- ---- a number in its bytes

-- a byte above the lowest is one of what is left above it
shifted_byte : (i x : ℕ) → int.byte_at (suc i) x ≡ int.byte_at i (x / 256)
shifted_byte zero x = refl
shifted_byte (suc i) x =
    ap (λ (p : ℕ). x / p % 256) (pow-succ' 256 (suc i)) ∙ ap (λ (q : ℕ). q % 256) (sym (div-div-eq-div-mul x 256 (256 ^ suc i)))

shifted : (i n x : ℕ) → int.bytes_low_first (suc i) n x ≡ int.bytes_low_first i n (x / 256)
shifted i zero x = refl
shifted i (suc n) x = λ k. shifted_byte i x k ∷ shifted (suc i) n x k

-- the bytes of the number in the first bytes are these
pub spelled_front : (n : ℕ) (bytes : List ℕ) → IsBytes bytes → n ≤ length bytes → little_bytes n (little_number n bytes) ≡ take n bytes
spelled_front zero bytes fits le = refl
spelled_front (suc n) [] fits le = absurd (omega arith)
spelled_front (suc n) (b ∷ rest) fits le =
    let upper = little_from 1 n (b ∷ rest) in
    let small : b < 256 = fits 0 in
    let low : (b + 256 * upper) % 256 ≡ b = omega arith in
    let high : (b + 256 * upper) / 256 ≡ upper = omega arith in
    let others : int.bytes_low_first 1 n (b + 256 * upper) ≡ take n rest =
    shifted 0 n (b + 256 * upper) ∙ ap (int.bytes_low_first 0 n) (high ∙ little_from-cons 0 n b rest) ∙ spelled_front n rest (λ i. fits (suc i)) (omega arith) in
    λ k. low k ∷ others k

-- ---- reading from the front

-- what a reader took from the front
pub record Takes (bytes text rest : List ℕ) : Type 0 where
  pub parts : bytes ≡ text ++ rest
  pub rest_fits : IsBytes rest

pub Takes-then : (a x b y c : List ℕ) → Takes a x b → Takes b y c → Takes a (x ++ y) c
Takes-then a x b y c p q = record { parts = p.parts ∙ ap (λ (t : List ℕ). x ++ t) q.parts ∙ sym (append_assoc x y c); rest_fits = q.rest_fits }

pub byte_takes : (bytes : List ℕ) (b : ℕ) (rest : List ℕ) → IsBytes bytes → byte_at bytes ≡ Some (b, rest) → Takes bytes (b ∷ []) rest
byte_takes [] b rest fits e = absurd cc
byte_takes (first ∷ bytes) b rest fits e =
    subst (λ (x : ℕ × List ℕ). Takes (first ∷ bytes) (x.0 ∷ []) x.1) (some_is (first, bytes) (b, rest) e) (record { parts = refl; rest_fits = λ i. fits (suc i) })

pub number_takes : (n : ℕ) (bytes : List ℕ) (x : ℕ) (rest : List ℕ) → IsBytes bytes → number_at n bytes ≡ Some (x, rest) → Takes bytes (little_bytes n x) rest × (x < 256 ^ n)
number_takes n bytes x rest fits e =
    let g = not_refused (ltb (length bytes) n) (Some (little_number n bytes, drop n bytes)) (x, rest) e in
    let le : n ≤ length bytes = ltb-false _ _ g.0 in
    let parts : bytes ≡ little_bytes n (little_number n bytes) ++ drop n bytes = sym (ap (λ (front : List ℕ). front ++ drop n bytes) (spelled_front n bytes fits le) ∙ take-append-drop n bytes) in
    subst (λ (y : ℕ × List ℕ). Takes bytes (little_bytes n y.0) y.1 × (y.0 < 256 ^ n)) (some_is (little_number n bytes, drop n bytes) (x, rest) g.1)
    (record { parts = parts; rest_fits = IsBytes-drop n bytes fits }, little_from-lt 0 n bytes fits)

-- what was written is read
pub number_again : (n x : ℕ) (rest : List ℕ) → x < 256 ^ n → number_at n (little_bytes n x ++ rest) ≡ Some (x, rest)
number_again n x rest lt =
    let size : length (little_bytes n x) ≡ n = length-bytes_low_first 0 n x in
    let long : ltb (length (little_bytes n x ++ rest)) n ≡ false = le-ltb _ _ (omega (arith, size, length-append (little_bytes n x) rest)) in
    rw long (λ i. Some (little_number-reads_back n x rest lt i, drop_at (little_bytes n x) rest n size i))

-- where none is read there are fewer bytes
pub too_few : (n : ℕ) (bytes : List ℕ) → None ≡ number_at n bytes → length bytes < n
too_few n bytes none = ltb-true _ _ (refused {A = ℕ × List ℕ} (ltb (length bytes) n) (little_number n bytes, drop n bytes) none)

-- numbers of n bytes that begin the same bytes are the same, and so is what follows them
pub number_cancel : (n x y : ℕ) (u v : List ℕ) → x < 256 ^ n → y < 256 ^ n → little_bytes n x ++ u ≡ little_bytes n y ++ v → (x ≡ y) × (u ≡ v)
number_cancel n x y u v fits fits' same =
    let both = some_is (x, u) (y, v) (sym (number_again n x u fits) ∙ ap (number_at n) same ∙ number_again n y v fits') in
    (ap (λ (p : ℕ × List ℕ). p.0) both, ap (λ (p : ℕ × List ℕ). p.1) both)

-- The header of an image: where the bytes end in it, and where they differ from it.
use Rattle.std.proofs.Common.{◌≡◌, ◌≢◌, inl, inr, ℕ, zero, suc, ◌-◌, ◌^◌, ◌<◌, ◌≤◌, Some, Bool, true, false, eqb, List, [], ◌∷◌, ◌++◌, length, get_or, take, drop, refl, sym, ap, subst, ◌∙◌, append_assoc, arith}
use Rattle.std.specs.List.{starts_with}
use Rattle.std.proofs.lemmas.Bool.Decides.{eqb_tells, Decides-eqb}
use Rattle.std.proofs.lemmas.Slice.Eq.{starts_is}
use Rattle.std.proofs.lemmas.List.{length-append, length-take, length-drop, take-append-drop, nil_from_length, take_all}
use Rattle.byteorder.specs.Endian.{little_number, little_bytes}
use Rattle.byteorder.specs.Numbers.{little_from-lt}
use Rattle.fields.specs.Numbers.{IsBytes, number_at}
use Rattle.fields.proofs.NumberLaws.{spelled_front, number_takes}
use Rattle.flash_model.specs.declared.geometry.Geometry.{Geometry}
use Rattle.flash_model.specs.Device.{Page, erased, bytes_of}
use Rattle.flash_model.specs.Contents.{IsWhole}
use Rattle.flash_simulation.proofs.ImageTexts.{header-then}
use Rattle.flash_simulation.specs.Images.{magic, header, page_text, AreSizes, IsPartOf, EndsInside, HasOtherMagic}

-- ---- bytes

IsBytes-append : (a b : List ℕ) → IsBytes a → IsBytes b → (i : ℕ) → get_or (a ++ b) i 0 < 256
IsBytes-append [] b fits fits' i = fits' i
IsBytes-append (x ∷ a) b fits fits' zero = fits 0
IsBytes-append (x ∷ a) b fits fits' (suc i) = IsBytes-append a b (λ j. fits (suc j)) fits' i

pub IsBytes-back : (a b : List ℕ) → IsBytes (a ++ b) → IsBytes b
IsBytes-back [] b fits = fits
IsBytes-back (x ∷ a) b fits = IsBytes-back a b (λ i. fits (suc i))

IsBytes-front : (a b : List ℕ) → IsBytes (a ++ b) → (i : ℕ) → get_or a i 0 < 256
IsBytes-front [] b fits i = omega arith
IsBytes-front (x ∷ a) b fits zero = fits 0
IsBytes-front (x ∷ a) b fits (suc i) = IsBytes-front a b (λ j. fits (suc j)) i

-- bytes of 0
zeros : ℕ → List ℕ
zeros zero = []
zeros (suc n) = 0 ∷ zeros n

length-zeros : (n : ℕ) → length (zeros n) ≡ n
unfolding zeros
length-zeros zero = refl
length-zeros (suc n) = ap suc (length-zeros n)

IsBytes-zeros : (n : ℕ) (i : ℕ) → get_or (zeros n) i 0 < 256
unfolding zeros
IsBytes-zeros zero i = omega arith
IsBytes-zeros (suc n) zero = omega arith
IsBytes-zeros (suc n) (suc i) = IsBytes-zeros n i

zeros-some : (n : ℕ) → 0 < n → zeros n ≢ []
zeros-some n some = λ same. let none : length (zeros n) ≡ 0 = ap length same in absurd (omega (arith, length-zeros n))

-- ---- the magic

-- where neither begins the other, they differ at a place
differ : (xs ys : List ℕ) → ((rest : List ℕ) → xs ≡ ys ++ rest → ⊥) → ((rest : List ℕ) → ys ≡ xs ++ rest → ⊥)
    → (i : ℕ) × (i < length xs) × (i < length ys) × (get_or xs i 0 ≢ get_or ys i 0)
differ [] ys long short = absurd (short ys refl)
differ (x ∷ xs) [] long short = absurd (long (x ∷ xs) refl)
differ (x ∷ xs) (y ∷ ys) long short = elim (eqb_tells x y) [
  | inl same ↦
      let p = differ xs ys (λ rest e. long rest (let h : x ≡ y = same.1 in cc)) (λ rest e. short rest (let h : x ≡ y = same.1 in cc)) in
      (suc p.0, omega (arith, p.1), omega (arith, p.2), p.3)
  | inr apart ↦ (0, omega arith, omega arith, apart.1)
]

pub magic-differs : (bytes : List ℕ) → ((rest : List ℕ) → bytes ≡ magic ++ rest → ⊥) → ((rest : List ℕ) → magic ≡ bytes ++ rest → ⊥) → HasOtherMagic bytes
magic-differs bytes long short =
    let p = differ bytes magic long short in
    record { place = p.0; early = p.2; inside = p.1; differs = p.3 }

-- a text that does not start with another does not have it in front
pub starts_not : (xs needle : List ℕ) (r : Bool) → r ≡ starts_with eqb xs needle → r ≡ false → (rest : List ℕ) → xs ≡ needle ++ rest → ⊥
starts_not xs needle r value fails rest is = let holds : r ≡ true = (starts_is Decides-eqb xs needle r value).1 rest is in absurd cc

pub starts : (xs needle : List ℕ) (r : Bool) → r ≡ starts_with eqb xs needle → r ≡ true → xs ≡ needle ++ drop (length needle) xs
starts xs needle r value holds = (starts_is Decides-eqb xs needle r value).0 holds

zero_sizes : Geometry
zero_sizes = record { page = 0; pages = 0; blocks = 0 }

-- the end comes in the magic
pub magic-ends : (bytes more : List ℕ) → magic ≡ bytes ++ more → EndsInside bytes
unfolding header zero_sizes
magic-ends bytes more is =
    let tail : List ℕ = little_bytes 4 0 ++ (little_bytes 4 0 ++ little_bytes 4 0) in
    let len : length tail ≡ 12 = refl in
    let fit : AreSizes zero_sizes = record { page = omega arith; pages = omega arith; blocks = omega arith } in
    inl (
      zero_sizes,
      fit,
      record {
        more = more ++ tail;
        some = λ same. let none : length (more ++ tail) ≡ 0 = ap length same in absurd (omega (arith, none, length-append more tail, len));
        whole = sym (append_assoc bytes more tail) ∙ ap (λ (t : List ℕ). t ++ tail) (sym is);
      },
    )

-- ---- the sizes

-- four bytes spell a number
number-of : (bytes : List ℕ) → length bytes ≡ 4 → IsBytes bytes → (n : ℕ) × (n < 2 ^ 32) × (little_bytes 4 n ≡ bytes)
number-of bytes len fits = (little_number 4 bytes, little_from-lt 0 4 bytes fits, spelled_front 4 bytes fits (omega arith) ∙ take_all 4 bytes (omega arith))

three : (a b c x y z rest bytes : List ℕ) → a ≡ x → b ≡ y → c ≡ z → rest ≡ y ++ z → bytes ≡ x ++ rest → a ++ (b ++ c) ≡ bytes
three a b c x y z rest bytes first second third back whole =
    ap (λ (t : List ℕ). t ++ (b ++ c)) first ∙ ap (λ (t : List ℕ). x ++ (t ++ c)) second ∙ ap (λ (t : List ℕ). x ++ (y ++ t)) third
    ∙ ap (λ (t : List ℕ). x ++ t) (sym back) ∙ sym whole

-- twelve bytes spell sizes
sizes-of : (bytes : List ℕ) → length bytes ≡ 12 → IsBytes bytes → (g : Geometry) × AreSizes g × (header g ≡ magic ++ bytes)
unfolding header
sizes-of bytes len fits =
    let first = take 4 bytes in
    let rest = drop 4 bytes in
    let second = take 4 rest in
    let third = drop 4 rest in
    let parts : bytes ≡ first ++ rest = sym (take-append-drop 4 bytes) in
    let parts' : rest ≡ second ++ third = sym (take-append-drop 4 rest) in
    let len_rest : length rest ≡ 8 = omega (arith, length-drop 4 bytes) in
    let fits_parts : IsBytes (first ++ rest) = rw (← parts) fits in
    let fits_rest : IsBytes rest = IsBytes-back first rest fits_parts in
    let fits_parts' : IsBytes (second ++ third) = rw (← parts') fits_rest in
    let a = number-of first (omega (arith, length-take 4 bytes)) (IsBytes-front first rest fits_parts) in
    let b = number-of second (omega (arith, length-take 4 rest)) (IsBytes-front second third fits_parts') in
    let c = number-of third (omega (arith, length-drop 4 rest)) (IsBytes-back second third fits_parts') in
    let g : Geometry = record { page = a.0; pages = b.0; blocks = c.0 } in
    let numbers : little_bytes 4 a.0 ++ (little_bytes 4 b.0 ++ little_bytes 4 c.0) ≡ bytes =
    three (little_bytes 4 a.0) (little_bytes 4 b.0) (little_bytes 4 c.0) first second third rest bytes a.2 b.2 c.2 parts' parts in
    let fit : AreSizes g = record { page = a.1; pages = b.1; blocks = c.1 } in
    (g, fit, ap (λ (t : List ℕ). magic ++ t) numbers)

-- three numbers that are read are the sizes that stand there
pub sizes-read : (bytes one two three : List ℕ) (g : Geometry) → IsBytes bytes → Some (g.page, one) ≡ number_at 4 bytes → Some (g.pages, two) ≡ number_at 4 one → Some (g.blocks, three) ≡ number_at 4 two
    → magic ++ bytes ≡ header g ++ three
sizes-read bytes one two three g fits page pages blocks =
    let a = number_takes 4 bytes g.page one fits (sym page) in
    let b = number_takes 4 one g.pages two a.0.rest_fits (sym pages) in
    let c = number_takes 4 two g.blocks three b.0.rest_fits (sym blocks) in
    ap (λ (t : List ℕ). magic ++ t) (a.0.parts ∙ ap (λ (t : List ℕ). little_bytes 4 g.page ++ t) (b.0.parts ∙ ap (λ (t : List ℕ). little_bytes 4 g.pages ++ t) c.0.parts))
    ∙ sym (header-then g three)

-- the end comes in the sizes
pub sizes-end : (bytes rest : List ℕ) → IsBytes bytes → bytes ≡ magic ++ rest → length rest < 12 → EndsInside bytes
sizes-end bytes rest fits is short =
    let more = zeros (12 - length rest) in
    let fits_rest : IsBytes rest = IsBytes-back magic rest (subst (λ (t : List ℕ). (i : ℕ) → get_or t i 0 < 256) is fits) in
    let len : length (rest ++ more) ≡ 12 = omega (arith, length-append rest more, length-zeros (12 - length rest)) in
    let s = sizes-of (rest ++ more) len (IsBytes-append rest more fits_rest (IsBytes-zeros (12 - length rest))) in
    inl (
      s.0,
      s.1,
      record {
        more = more;
        some = zeros-some (12 - length rest) (omega arith);
        whole = ap (λ (t : List ℕ). t ++ more) is ∙ append_assoc magic rest more ∙ sym s.2;
      },
    )

-- ---- a page

-- the end comes before a page
pub page-ends : (size : ℕ) (bytes : List ℕ) → length bytes < 1 → (page : Page) × IsWhole size page × IsPartOf (page_text page) bytes
page-ends size bytes none =
    let nothing : bytes ≡ [] = nil_from_length bytes (omega arith) in
    (erased, tt, record { more = 0 ∷ []; some = λ same. cc; whole = ap (λ (t : List ℕ). t ++ 0 ∷ []) nothing })

-- the end comes in the bytes of a page
bytes-short : (size : ℕ) (rest : List ℕ) → length rest < size → (page : Page) × IsWhole size page × IsPartOf (page_text page) (1 ∷ rest)
bytes-short size rest short =
    let more = zeros (size - length rest) in
    let len : length (rest ++ more) ≡ size = omega (arith, length-append rest more, length-zeros (size - length rest)) in
    (bytes_of (rest ++ more), len, record { more = more; some = zeros-some (size - length rest) (omega arith); whole = refl })

pub bytes-end : (size : ℕ) (bytes : List ℕ) → 1 ≤ length bytes → get_or bytes 0 0 ≡ 1 → length (take (length bytes - 1) (drop 1 bytes)) < size
    → (page : Page) × IsWhole size page × IsPartOf (page_text page) bytes
bytes-end size [] some first short = absurd (omega arith)
bytes-end size (x ∷ rest) some first short =
    let len : length rest < size = omega (arith, length-take (length (x ∷ rest) - 1) rest) in
    let p = bytes-short size rest len in
    (p.0, p.1, record { more = p.2.more; some = p.2.some; whole = ap (λ (b : ℕ). (b ∷ rest) ++ p.2.more) first ∙ p.2.whole })

-- a text that is not empty
pub not-empty : (xs : List ℕ) (r : Bool) → r ≡ eqb (length xs) 0 → r ≡ false → xs ≢ []
not-empty [] r value fails = absurd cc
not-empty (x ∷ xs) r value fails = λ same. cc

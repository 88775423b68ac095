-- A part of which each page is erased.
use Rattle.std.proofs.Common.{◌≡◌, ℕ, ◌+◌, ◌-◌, ◌<◌, ◌≤◌, IsTrue, List, [], ◌∷◌, ◌++◌, length, take, drop, replicate, codes, refl, sym, ap, subst, ◌∙◌, append_assoc, append-nil, arith}
use Rattle.std.proofs.lemmas.Bool.Decides.{nat_tests}
use Rattle.std.proofs.lemmas.List.{length-append, length-replicate, take_at, drop_at, drop-drop}
use Rattle.byteorder.specs.Endian.{little_from, little_bytes}
use Rattle.byteorder.specs.Numbers.{little_from-cons, little_number-reads_back, length-bytes_low_first}
use Rattle.flash_model.specs.declared.geometry.Geometry.{Geometry}
use Rattle.flash_model.specs.Geometry.{IsGeometry, is_page_size, page_count}
use Rattle.flash_model.specs.Device.{Device, erased}
use Rattle.part_file.specs.Layout.{IsHead, state_place, part_length, head_text, blank_part, sizes_in}
use Rattle.part_file.specs.Pages.{IsPart, HasPage}
use Rattle.part_file.proofs.Keeping.{part_of, one_zero}
use Rattle.part_file.proofs.Placing.{state-before}
use Rattle.part_file.proofs.Sizes.{pages-most}

-- a number after so many bytes
from_end : (xs ys : List ℕ) (n : ℕ) → little_from (length xs) n (xs ++ ys) ≡ little_from 0 n ys
from_end [] ys n = refl
from_end (x ∷ xs) ys n = little_from-cons (length xs) n x (xs ++ ys) ∙ from_end xs ys n

page_size-most : (n : ℕ) → IsTrue (is_page_size n) → n ≤ 4096
page_size-most n h = grind (arith, nat_tests)

number_length : (x : ℕ) → length (little_bytes 4 x) ≡ 4
number_length x = length-bytes_low_first 0 4 x

-- a number that stands after so many bytes is read there
read_at : (k x : ℕ) (xs rest : List ℕ) → length xs ≡ k → x < 4294967296 → little_from k 4 (xs ++ (little_bytes 4 x ++ rest)) ≡ x
read_at k x xs rest long small =
    subst (λ (i : ℕ). little_from i 4 (xs ++ (little_bytes 4 x ++ rest)) ≡ x) long
    (from_end xs (little_bytes 4 x ++ rest) 4 ∙ little_number-reads_back 4 x rest small)

pub head_length : (g : Geometry) → length (head_text g) ≡ 20
head_length g =
    omega (
      arith,
      length-append (codes "UFFSPART") (little_bytes 4 g.page ++ (little_bytes 4 g.pages ++ little_bytes 4 g.blocks)),
      length-append (little_bytes 4 g.page) (little_bytes 4 g.pages ++ little_bytes 4 g.blocks),
      length-append (little_bytes 4 g.pages) (little_bytes 4 g.blocks),
      number_length g.page,
      number_length g.pages,
      number_length g.blocks,
    )

head_is : (g : Geometry) → IsGeometry g → IsHead (head_text g) g
head_is g lawful =
    let magic : List ℕ = codes "UFFSPART" in
    let page = little_bytes 4 g.page in
    let pages = little_bytes 4 g.pages in
    let blocks = little_bytes 4 g.blocks in
    let first : little_from 8 4 (head_text g) ≡ g.page = read_at 8 g.page magic (pages ++ blocks) refl (omega (arith, page_size-most g.page lawful.page_size)) in
    let two : head_text g ≡ (magic ++ page) ++ (pages ++ blocks) = sym (append_assoc magic page (pages ++ blocks)) in
    let second : little_from 12 4 (head_text g) ≡ g.pages =
    ap (little_from 12 4) two ∙ read_at 12 g.pages (magic ++ page) blocks (omega (arith, length-append magic page, number_length g.page)) (omega (arith, pages-most g lawful)) in
    let three : head_text g ≡ ((magic ++ page) ++ pages) ++ (blocks ++ []) = two ∙ sym (append_assoc (magic ++ page) pages blocks) ∙ ap (λ (l : List ℕ). ((magic ++ page) ++ pages) ++ l) (sym (append-nil blocks)) in
    let third : little_from 16 4 (head_text g) ≡ g.blocks =
    ap (little_from 16 4) three ∙ read_at 16 g.blocks ((magic ++ page) ++ pages) [] (omega (arith, length-append (magic ++ page) pages, length-append magic page, number_length g.page, number_length g.pages)) (omega (arith, lawful.blocks_most)) in
    let told : sizes_in (head_text g) ≡ g = λ i. record { page = first i; pages = second i; blocks = third i } in
    record {
      magic = take_at magic (page ++ (pages ++ blocks)) 8 refl;
      told = sym told;
      lawful = lawful;
    }

pub blank_is : (g : Geometry) (d : Device) → IsGeometry g → d.geometry ≡ g → ((p : ℕ) → d.pages p ≡ erased) → IsPart d (blank_part g)
blank_is g d lawful same pages =
    let zeros : List ℕ = replicate {A = ℕ} (part_length g - 20) 0 in
    let front : take 20 (blank_part g) ≡ head_text g = take_at (head_text g) zeros 20 (head_length g) in
    let least : 20 ≤ part_length g = omega arith in
    let long : length (blank_part g) ≡ part_length g = omega (arith, length-append (head_text g) zeros, head_length g, length-replicate {A = ℕ} (part_length g - 20) 0, least) in
    part_of g d (blank_part g) same (subst (λ (h : List ℕ). IsHead h g) (sym front) (head_is g lawful)) (omega (arith, long)) (λ p below.
    let low : 4076 + p < part_length g - 20 = omega (arith, state-before g p (page_count g) below) in
    let sum : 20 + (4076 + p) ≡ state_place p = omega arith in
    let rest : drop 20 (blank_part g) ≡ zeros = drop_at (head_text g) zeros 20 (head_length g) in
    let moved : drop (state_place p) (blank_part g) ≡ drop (4076 + p) zeros = ap (λ (i : ℕ). drop i (blank_part g)) (sym sum) ∙ sym (drop-drop (4076 + p) 20 (blank_part g)) ∙ ap (drop (4076 + p)) rest in
    subst (λ page. HasPage (blank_part g) g p page) (sym (pages p)) (ap (λ (l : List ℕ). take 1 l) moved ∙ one_zero (4076 + p) (part_length g - 20) low))

-- Pages that are put into a part one after the other.
use Rattle.std.proofs.Common.{◌≡◌, ◌≢◌, ◌⊎◌, ℕ, ◌+◌, ◌<◌, ◌≤◌, Bool, List, [], ◌∷◌, length, take, refl, sym, ap, subst, ◌∙◌, inl, inr, arith, if◌then◌else◌}
use Rattle.std.specs.Prelude.{nat_lt}
use Rattle.std.proofs.lemmas.Bool.{cases_lt, lt-ltb, le-ltb}
use Rattle.flash_model.specs.declared.geometry.Geometry.{Geometry}
use Rattle.flash_model.specs.Contents.{IsWhole}
use Rattle.flash_model.specs.Device.{Device, Page, erased, bytes_of, unreadable}
use Rattle.flash_model.specs.Geometry.{page_count}
use Rattle.flash_simulation.specs.Simulation.{device_of}
use Rattle.flash_simulation.specs.WholePages.{whole_pages_of}
use Rattle.flash_simulation.specs.declared.sim_flash.SimFlash.{SimFlash}
use Rattle.host_interface.specs.Steps.{overwritten}
use Rattle.part_file.specs.Layout.{IsHead, state_place, data_place, part_length}
use Rattle.part_file.specs.Pages.{IsPart, HasPage, page_put}
use Rattle.part_file.proofs.Keeping.{part_of, page_stays, head_stays, at_place, program_part}
use Rattle.part_file.proofs.Overwriting.{overwritten-length, apart}
use Rattle.part_file.proofs.Placing.{state-before, page-inside}

-- the flash of its first pages, where the others are erased
abbrev pub first_pages : Device → ℕ → Device
first_pages d n = record d { pages = λ p. if nat_lt p n then d.pages p else erased }

pub first_below : (d : Device) (n p : ℕ) → p < n → (first_pages d n).pages p ≡ d.pages p
first_below d n p low = ap (λ (b : Bool). if b then d.pages p else erased) (lt-ltb p n low)

pub first_above : (d : Device) (n p : ℕ) → n ≤ p → (first_pages d n).pages p ≡ erased
first_above d n p high = ap (λ (b : Bool). if b then d.pages p else erased) (le-ltb p n high)

-- a page is marked as unreadable
mark_part : (g : Geometry) (d e : Device) (p : ℕ) (xs : List ℕ) → d.geometry ≡ g → p < page_count g → e.geometry ≡ g
    → e.pages p ≡ unreadable → ((q : ℕ) → q ≢ p → e.pages q ≡ d.pages q)
    → IsHead (take 20 xs) g → part_length g ≤ length xs → ((q : ℕ) → q < page_count g → HasPage xs g q (d.pages q))
    → IsPart e (overwritten (state_place p) (2 ∷ []) xs)
mark_part g d e p xs same inside sizes own others head whole pages =
    let end = overwritten (state_place p) (2 ∷ []) xs in
    let low : state_place p + 1 ≤ length xs = omega (arith, state-before g p (page_count g) inside, whole) in
    let fits : state_place p ≤ length xs = omega (arith, low) in
    let end_len : length end ≡ length xs = overwritten-length (state_place p) (2 ∷ []) xs low in
    let other : (q : ℕ) → q ≢ p → q < page_count g → HasPage end g q (e.pages q) =
    λ q differs below.
    let side : (state_place q + 1 ≤ state_place p) ⊎ (state_place p + 1 ≤ state_place q) = elim (cases_lt q p) [
      | inl less ↦ inl (omega (arith, less))
      | inr more ↦ inr (omega (arith, more, differs))
    ] in
    subst (HasPage end g q) (sym (others q differs)) (page_stays g q (d.pages q) xs end (apart (state_place p) (state_place q) 1 (2 ∷ []) xs fits side) (apart (state_place p) (data_place g q) g.page (2 ∷ []) xs fits (inr (state-before g p q inside))) (pages q below))
    in
    part_of g e end sizes (head_stays g (state_place p) (2 ∷ []) xs (omega arith) fits head) (omega (arith, whole, end_len)) (λ q below. elim (cases_lt q p) [
      | inl less ↦ other q (λ s. absurd (omega (arith, s, less))) below
      | inr more ↦ elim (cases_lt p q) [
        | inl over ↦ other q (λ s. absurd (omega (arith, s, over))) below
        | inr here ↦ let is : p ≡ q = omega (arith, more, here) in subst (λ (r : ℕ). HasPage end g r (e.pages r)) is (subst (HasPage end g p) (sym own) (at_place (state_place p) 1 (2 ∷ []) xs fits refl))
      ]
    ])

put_part : (d e : Device) (p : ℕ) (page : Page) (xs : List ℕ) → p < page_count d.geometry → IsWhole d.geometry.page page → e.geometry ≡ d.geometry → d.pages p ≡ erased
    → e.pages p ≡ page → ((q : ℕ) → q ≢ p → e.pages q ≡ d.pages q) → IsPart d xs → IsPart e (page_put d.geometry p page xs)
put_part d e p erased xs inside whole sizes was own others part =
    part_of d.geometry e xs sizes part.head part.content.whole (λ q below. elim (cases_lt q p) [
      | inl less ↦ subst (HasPage xs d.geometry q) (sym (others q (λ s. absurd (omega (arith, s, less))))) (part.content.pages q below)
      | inr more ↦ elim (cases_lt p q) [
        | inl over ↦ subst (HasPage xs d.geometry q) (sym (others q (λ s. absurd (omega (arith, s, over))))) (part.content.pages q below)
        | inr here ↦ let is : p ≡ q = omega (arith, more, here) in subst (λ (r : ℕ). HasPage xs d.geometry r (e.pages r)) is (subst (HasPage xs d.geometry p) (was ∙ sym own) (part.content.pages p inside))
      ]
    ])
put_part d e p (bytes_of content) xs inside whole sizes was own others part =
    program_part d.geometry d e p content xs refl inside whole sizes own others part.head part.content.whole part.content.pages
put_part d e p unreadable xs inside whole sizes was own others part =
    mark_part d.geometry d e p xs refl inside sizes own others part.head part.content.whole part.content.pages

-- one page more
pub first_more : (d : Device) (n : ℕ) (xs : List ℕ) → n < page_count d.geometry → IsWhole d.geometry.page (d.pages n) → IsPart (first_pages d n) xs
    → IsPart (first_pages d (n + 1)) (page_put d.geometry n (d.pages n) xs)
first_more d n xs inside whole part =
    put_part (first_pages d n) (first_pages d (n + 1)) n (d.pages n) xs inside whole refl (first_above d n n (omega arith)) (first_below d (n + 1) n (omega arith)) (λ q differs. elim (cases_lt q n) [
      | inl less ↦ first_below d (n + 1) q (omega (arith, less)) ∙ sym (first_below d n q less)
      | inr more ↦ first_above d (n + 1) q (omega (arith, more, differs)) ∙ sym (first_above d n q more)
    ]) part

-- all of them
pub first_all : (d : Device) (n : ℕ) (xs : List ℕ) → n ≡ page_count d.geometry → IsPart (first_pages d n) xs → IsPart d xs
first_all d n xs end part =
    part_of d.geometry d xs refl part.head part.content.whole (λ p below. subst (HasPage xs d.geometry p) (first_below d n p (omega (arith, end, below))) (part.content.pages p below))

-- as many bytes as before
pub put_length : (g : Geometry) (p : ℕ) (page : Page) (xs : List ℕ) → p < page_count g → IsWhole g.page page → part_length g ≤ length xs → length (page_put g p page xs) ≡ length xs
put_length g p erased xs inside whole long = refl
put_length g p (bytes_of content) xs inside whole long =
    let room : data_place g p + length content ≤ length xs = omega (arith, page-inside g p inside, long, whole) in
    let first = overwritten-length (data_place g p) content xs room in
    let low : state_place p + 1 ≤ length (overwritten (data_place g p) content xs) = omega (arith, first, state-before g p (page_count g) inside, long) in
    overwritten-length (state_place p) (1 ∷ []) (overwritten (data_place g p) content xs) low ∙ first
put_length g p unreadable xs inside whole long = overwritten-length (state_place p) (2 ∷ []) xs (omega (arith, state-before g p (page_count g) inside, long))

-- each page of a flash in memory is whole
page-whole : (n : ℕ) (page : Page) → ((bytes : List ℕ) → page ≡ bytes_of bytes → length bytes ≡ n) → IsWhole n page
page-whole n erased whole = tt
page-whole n (bytes_of bytes) whole = whole bytes refl
page-whole n unreadable whole = tt

pub whole_page : (flash : SimFlash) (p : ℕ) → IsWhole flash.geometry.page ((device_of flash).pages p)
whole_page flash p = page-whole flash.geometry.page ((device_of flash).pages p) (λ bytes same. whole_pages_of flash p bytes same)

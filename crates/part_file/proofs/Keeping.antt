-- Bytes that are the part of a flash are that of what it is after a program or an erase.
use Rattle.std.proofs.Common.{◌≡◌, ◌≢◌, ◌⊎◌, ℕ, ◌+◌, ◌-◌, ◌*◌, ◌/◌, ◌%◌, ◌<◌, ◌≤◌, Option, None, Some, Result, Ok, Err, List, [], ◌∷◌, ◌++◌, length, take, drop, replicate, get_or, refl, sym, ap, subst, ◌∙◌, inl, inr, arith}
use Rattle.std.specs.Prelude.{OnOk}
use Rattle.std.proofs.lemmas.Bool.{cases_lt}
use Rattle.std.proofs.lemmas.List.{length-replicate, get_or-replicate, drop_more, take_all}
use Rattle.std.proofs.lemmas.Nat.{mul-le, mod_below, div-add-mod'}
use Rattle.flash_model.specs.declared.flash.DevFault.{DevFault}
use Rattle.flash_model.specs.declared.geometry.Geometry.{Geometry}
use Rattle.flash_model.specs.Geometry.{page_count}
use Rattle.flash_model.specs.Device.{Device, Page, erased, bytes_of, unreadable, Programs, Erases}
use Rattle.part_file.specs.Layout.{IsHead, state_place, data_place, program_steps, erase_steps, barrier_at}
use Rattle.part_file.specs.Pages.{IsPart, HasPage, KeepsPart}
use Rattle.host_interface.specs.Steps.{Step, writes, overwritten, all_after, Becomes}
use Rattle.part_file.proofs.Overwriting.{overwritten-length, apart, within}
use Rattle.part_file.proofs.Placing.{state-before, page-apart, page-inside}
use Rattle.part_file.proofs.StepLemmas.{all_after-append, after-barrier}

-- a part at the sizes that a flash has
pub part_of : (g : Geometry) (e : Device) (xs : List ℕ) → e.geometry ≡ g → IsHead (take 20 xs) g → data_place g (page_count g) ≤ length xs
    → ((p : ℕ) → p < page_count g → HasPage xs g p (e.pages p)) → IsPart e xs
part_of g e xs same head whole pages =
    subst (λ (h : Geometry). IsHead (take 20 xs) h → data_place h (page_count h) ≤ length xs → ((p : ℕ) → p < page_count h → HasPage xs h p (e.pages p)) → IsPart e xs) same
    (λ (a : IsHead (take 20 xs) e.geometry). λ (b : data_place e.geometry (page_count e.geometry) ≤ length xs). λ (c : (p : ℕ) → p < page_count e.geometry → HasPage xs e.geometry p (e.pages p)).
    record { head = a; content = record { whole = b; pages = c } })
    head whole pages

-- a page of which no byte changed stands there still
pub page_stays : (g : Geometry) (q : ℕ) (page : Page) (xs ys : List ℕ) → take 1 (drop (state_place q) ys) ≡ take 1 (drop (state_place q) xs)
    → take g.page (drop (data_place g q) ys) ≡ take g.page (drop (data_place g q) xs) → HasPage xs g q page → HasPage ys g q page
page_stays g q erased xs ys state content has = state ∙ has
page_stays g q (bytes_of bytes) xs ys state content has = (state ∙ has.0, content ∙ has.1)
page_stays g q unreadable xs ys state content has = state ∙ has

-- the first twenty bytes stay
pub head_stays : (g : Geometry) (a : ℕ) (ys xs : List ℕ) → 20 ≤ a → a ≤ length xs → IsHead (take 20 xs) g → IsHead (take 20 (overwritten a ys xs)) g
head_stays g a ys xs late fits head = subst (λ (h : List ℕ). IsHead h g) (sym (apart a 0 20 ys xs fits (inl late))) head

-- what is written at a place stands there
pub at_place : (a n : ℕ) (ys xs : List ℕ) → a ≤ length xs → n ≡ length ys → take n (drop a (overwritten a ys xs)) ≡ ys
at_place a n ys xs fits all =
    let start : a + 0 ≡ a = omega arith in
    ap (λ (i : ℕ). take n (drop i (overwritten a ys xs))) (sym start) ∙ within a 0 n ys xs fits (omega (arith, all)) ∙ take_all n ys (omega (arith, all))

-- the two writes of a program
program_bytes : (g : Geometry) (p : ℕ) (content xs : List ℕ)
    → all_after (program_steps g p content) xs ≡ overwritten (state_place p) (1 ∷ []) (overwritten (data_place g p) content xs)
program_bytes g p content xs =
    let block = p / g.pages in
    let first = overwritten (data_place g p) content xs in
    all_after-append (barrier_at block) ((writes (state_place p) (1 ∷ []) ∷ []) ++ barrier_at block) first
    ∙ ap (all_after ((writes (state_place p) (1 ∷ []) ∷ []) ++ barrier_at block)) (after-barrier block first)
    ∙ after-barrier block (overwritten (state_place p) (1 ∷ []) first)

pub program_part : (g : Geometry) (d e : Device) (p : ℕ) (content xs : List ℕ) → d.geometry ≡ g → p < page_count g → length content ≡ g.page → e.geometry ≡ g
    → e.pages p ≡ bytes_of content → ((q : ℕ) → q ≢ p → e.pages q ≡ d.pages q)
    → IsHead (take 20 xs) g → data_place g (page_count g) ≤ length xs → ((q : ℕ) → q < page_count g → HasPage xs g q (d.pages q))
    → IsPart e (overwritten (state_place p) (1 ∷ []) (overwritten (data_place g p) content xs))
program_part g d e p content xs same inside full sizes own others head whole pages =
    let mid = overwritten (data_place g p) content xs in
    let end = overwritten (state_place p) (1 ∷ []) mid in
    let room : data_place g p + length content ≤ length xs = omega (arith, page-inside g p inside, whole, full) in
    let mid_len : length mid ≡ length xs = overwritten-length (data_place g p) content xs room in
    let states : state_place p + 1 ≤ data_place g p = state-before g p p inside in
    let low : state_place p + 1 ≤ length mid = omega (arith, states, room, mid_len) in
    let end_len : length end ≡ length mid = overwritten-length (state_place p) (1 ∷ []) mid low in
    let fits : data_place g p ≤ length xs = omega (arith, room) in
    let low_fits : state_place p ≤ length mid = omega (arith, low) in
    let head_end : IsHead (take 20 end) g = head_stays g (state_place p) (1 ∷ []) mid (omega arith) low_fits (head_stays g (data_place g p) content xs (omega (arith, states)) fits head) in
    let other : (q : ℕ) → q ≢ p → q < page_count g → HasPage end g q (e.pages q) =
    λ q differs below.
    let to_mid : HasPage mid g q (d.pages q) = page_stays g q (d.pages q) xs mid
    (apart (data_place g p) (state_place q) 1 content xs fits (inl (state-before g q p below)))
    (apart (data_place g p) (data_place g q) g.page content xs fits (subst (λ (n : ℕ). (data_place g q + g.page ≤ data_place g p) ⊎ (data_place g p + n ≤ data_place g q)) (sym full) (page-apart g p q differs)))
    (pages q below) in
    let to_end : HasPage end g q (d.pages q) = page_stays g q (d.pages q) mid end
    (apart (state_place p) (state_place q) 1 (1 ∷ []) mid low_fits (state-apart p q differs))
    (apart (state_place p) (data_place g q) g.page (1 ∷ []) mid low_fits (inr (state-before g p q inside)))
    to_mid in
    subst (HasPage end g q) (sym (others q differs)) to_end
    in
    let mine : HasPage end g p (bytes_of content) = (
      at_place (state_place p) 1 (1 ∷ []) mid low_fits refl,
      apart (state_place p) (data_place g p) g.page (1 ∷ []) mid low_fits (inr states) ∙ at_place (data_place g p) g.page content xs fits (sym full),
    ) in
    part_of g e end sizes head_end (omega (arith, whole, mid_len, end_len)) (λ q below. elim (cases_lt q p) [
      | inl less ↦ other q (λ s. absurd (omega (arith, s, less))) below
      | inr more ↦ elim (cases_lt p q) [
        | inl over ↦ other q (λ s. absurd (omega (arith, s, over))) below
        | inr here ↦ let is : p ≡ q = omega (arith, more, here) in subst (λ (r : ℕ). HasPage end g r (e.pages r)) is (subst (HasPage end g p) (sym own) mine)
      ]
    ])
  where
    state-apart : (p q : ℕ) → q ≢ p → (state_place q + 1 ≤ state_place p) ⊎ (state_place p + 1 ≤ state_place q)
    state-apart p q differs = elim (cases_lt q p) [
      | inl less ↦ inl (omega arith)
      | inr more ↦ inr (omega (arith, differs))
    ]

becomes_part : (held new : Option (List ℕ)) (d e : Device) (steps : List Step) → Becomes held steps new → ((xs : List ℕ) → IsPart d xs → IsPart e (all_after steps xs)) → KeepsPart held d new e
becomes_part None new d e steps becomes keeps = tt
becomes_part (Some xs) None d e steps becomes keeps = absurd becomes
becomes_part (Some xs) (Some ys) d e steps becomes keeps = λ part. subst (IsPart e) (sym becomes) (keeps xs part)

pub program_kept : (held new : Option (List ℕ)) (g : Geometry) (d e : Device) (p : ℕ) (content : List ℕ) (r : Result (Unit {0}) DevFault) → g ≡ d.geometry → p < page_count d.geometry → length content ≡ d.geometry.page
    → OnOk r (Becomes held (program_steps g p content) new) → Programs d p content e r → OnOk r (KeepsPart held d new e)
program_kept held new g d e p content (Err fault) same inside full becomes programs = tt
program_kept held new g d e p content (Ok u) same inside full becomes programs =
    becomes_part held new d e (program_steps g p content) becomes (λ xs part.
    subst (λ (h : Geometry). IsPart e (all_after (program_steps h p content) xs)) (sym same)
    (subst (IsPart e) (sym (program_bytes d.geometry p content xs))
    (program_part d.geometry d e p content xs refl inside full programs.operates.geometry programs.page programs.others part.head part.content.whole part.content.pages)))

-- the write of an erase
erase_bytes : (g : Geometry) (b : ℕ) (xs : List ℕ) → all_after (erase_steps g b) xs ≡ overwritten (state_place (b * g.pages)) (replicate g.pages 0) xs
erase_bytes g b xs =
    let clear = writes (state_place (b * g.pages)) (replicate g.pages 0) ∷ [] in
    all_after-append (barrier_at b) (clear ++ barrier_at b) xs ∙ ap (all_after (clear ++ barrier_at b)) (after-barrier b xs)
    ∙ after-barrier b (overwritten (state_place (b * g.pages)) (replicate g.pages 0) xs)

pub one_zero : (j m : ℕ) → j < m → take {A = ℕ} 1 (drop {A = ℕ} j (replicate {A = ℕ} m 0)) ≡ 0 ∷ []
one_zero j m low =
    let zero : ℕ = 0 in
    let zeros : List ℕ = replicate m zero in
    let more : drop j zeros ≡ get_or zeros j zero ∷ drop (j + 1) zeros = drop_more zeros j zero (omega (arith, length-replicate m zero, low)) in
    let first : get_or zeros j zero ≡ zero = get_or-replicate m j zero zero low in
    ap (λ (l : List ℕ). take 1 l) more ∙ ap (λ (x : ℕ). x ∷ []) first

-- a page of another block stands before or after its pages
pub block-apart : (pages b q : ℕ) → q / pages ≢ b → 0 < pages → (q + 1 ≤ b * pages) ⊎ (b * pages + pages ≤ q)
block-apart pages b q other some =
    let number : q / pages * pages + q % pages ≡ q = div-add-mod' q pages in
    let small : q % pages < pages = mod_below q pages some in
    elim (cases_lt (q / pages) b) [
      | inl less ↦ let most = mul-le (q / pages + 1) pages b pages (omega arith) (omega arith) in inl (omega (arith, most, number, small))
      | inr more ↦ let most = mul-le (b + 1) pages (q / pages) pages (omega (arith, other)) (omega arith) in inr (omega (arith, most, number))
    ]

erase_part : (g : Geometry) (d e : Device) (b : ℕ) (xs : List ℕ) → b < g.blocks → 0 < g.pages → e.geometry ≡ g
    → ((q : ℕ) → q / g.pages ≡ b → e.pages q ≡ erased) → ((q : ℕ) → q / g.pages ≢ b → e.pages q ≡ d.pages q)
    → IsHead (take 20 xs) g → data_place g (page_count g) ≤ length xs → ((q : ℕ) → q < page_count g → HasPage xs g q (d.pages q))
    → IsPart e (overwritten (state_place (b * g.pages)) (replicate g.pages 0) xs)
erase_part g d e b xs inside some sizes own others head whole pages =
    let zeros : List ℕ = replicate {A = ℕ} g.pages 0 in
    let place : ℕ = state_place (b * g.pages) in
    let end : List ℕ = overwritten place zeros xs in
    let count : length zeros ≡ g.pages = length-replicate g.pages 0 in
    let last : b * g.pages + g.pages ≤ page_count g = let most = mul-le (b + 1) g.pages g.blocks g.pages (omega arith) (omega arith) in omega (arith, most) in
    let states : (q : ℕ) → place + length zeros ≤ data_place g q = λ q. let top = state-before g (b * g.pages + g.pages - 1) q (omega (arith, last, some)) in omega (arith, top, count, some) in
    let first_end : data_place g 0 ≤ data_place g (page_count g) = omega arith in
    let room : place + length zeros ≤ length xs = omega (arith, states 0, first_end, whole) in
    let end_len : length end ≡ length xs = overwritten-length place zeros xs room in
    let fits : place ≤ length xs = omega (arith, room) in
    let other : (q : ℕ) → q / g.pages ≢ b → q < page_count g → HasPage end g q (e.pages q) =
    λ q differs below.
    let side : (state_place q + 1 ≤ place) ⊎ (place + length zeros ≤ state_place q) = elim (block-apart g.pages b q differs some) [
      | inl before ↦ inl (omega (arith, before))
      | inr after ↦ inr (omega (arith, after, count))
    ] in
    subst (HasPage end g q) (sym (others q differs)) (page_stays g q (d.pages q) xs end (apart place (state_place q) 1 zeros xs fits side) (apart place (data_place g q) g.page zeros xs fits (inr (states q))) (pages q below))
    in
    let mine : (q : ℕ) → q / g.pages ≡ b → HasPage end g q (e.pages q) =
    λ q here.
    let j = q % g.pages in
    let low : j < g.pages = mod_below q g.pages some in
    let number : b * g.pages + j ≡ q = ap (λ (c : ℕ). c * g.pages + j) (sym here) ∙ div-add-mod' q g.pages in
    let spot : state_place q ≡ place + j = omega (arith, number) in
    let state : take 1 (drop (state_place q) end) ≡ 0 ∷ [] = ap (λ (i : ℕ). take 1 (drop i end)) spot ∙ within place j 1 zeros xs fits (omega (arith, low, count)) ∙ one_zero j g.pages low in
    subst (HasPage end g q) (sym (own q here)) state
    in
    part_of g e end sizes (head_stays g place zeros xs (omega arith) fits head) (omega (arith, whole, end_len)) (λ q below. elim (cases_lt (q / g.pages) b) [
      | inl less ↦ other q (λ s. absurd (omega (arith, s, less))) below
      | inr more ↦ elim (cases_lt b (q / g.pages)) [
        | inl over ↦ other q (λ s. absurd (omega (arith, s, over))) below
        | inr here ↦ mine q (omega (arith, more, here))
      ]
    ])

pub erase_kept : (held new : Option (List ℕ)) (g : Geometry) (d e : Device) (b : ℕ) (r : Result (Unit {0}) DevFault) → g ≡ d.geometry → b < d.geometry.blocks → 0 < d.geometry.pages
    → OnOk r (Becomes held (erase_steps g b) new) → Erases d b e r → OnOk r (KeepsPart held d new e)
erase_kept held new g d e b (Err fault) same inside some becomes erases = tt
erase_kept held new g d e b (Ok u) same inside some becomes erases =
    becomes_part held new d e (erase_steps g b) becomes (λ xs part.
    subst (λ (h : Geometry). IsPart e (all_after (erase_steps h b) xs)) (sym same)
    (subst (IsPart e) (sym (erase_bytes d.geometry b xs))
    (erase_part d.geometry d e b xs inside some erases.operates.geometry erases.own erases.others part.head part.content.whole part.content.pages)))

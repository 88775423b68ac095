-- What a write that fails leaves of a part: its head, and the pages that it is not of.
use Rattle.std.proofs.Common.{◌≡◌, ◌⊎◌, ℕ, ◌+◌, ◌-◌, ◌*◌, ◌/◌, ◌<◌, ◌≤◌, Option, None, Some, Result, Ok, Err, List, [], ◌∷◌, length, take, drop, refl, sym, ap, subst, ◌∙◌, inl, inr, arith}
use Rattle.std.specs.Prelude.{OnErr}
use Rattle.std.proofs.lemmas.Bool.{cases_lt}
use Rattle.std.proofs.lemmas.List.{drop-drop, drop-take, take-take}
use Rattle.std.proofs.lemmas.Nat.{mul-le}
use Rattle.flash_model.specs.declared.geometry.Geometry.{Geometry}
use Rattle.flash_model.specs.Geometry.{page_count}
use Rattle.host_interface.specs.Steps.{writes, overwritten, Becomes, StaysOutside, KeepsOutside}
use Rattle.part_file.specs.Layout.{state_place, data_place, part_length}
use Rattle.part_file.specs.Pages.{KeepsOthers, KeepsOtherPages}
use Rattle.part_file.proofs.Keeping.{page_stays, block-apart}
use Rattle.part_file.proofs.Overwriting.{overwritten-length, apart}
use Rattle.part_file.proofs.Placing.{state-before, page-apart, page-inside}

-- what stands outside of a place stays where its bytes do
outside : (a n k m : ℕ) (xs ys : List ℕ) → StaysOutside a n xs ys → (k + m ≤ a) ⊎ (a + n ≤ k) → take m (drop k ys) ≡ take m (drop k xs)
outside a n k m xs ys stays (inl early) =
    let sum : a ≡ k + (a - k) = omega arith in
    let front : (zs : List ℕ) → take m (drop k zs) ≡ take m (drop k (take a zs)) = λ zs. sym (ap (take m) (ap (λ (i : ℕ). drop k (take i zs)) sum ∙ drop-take k (a - k) zs) ∙ take-take m (a - k) (drop k zs) (omega arith)) in
    front ys ∙ ap (λ (l : List ℕ). take m (drop k l)) stays.before ∙ sym (front xs)
outside a n k m xs ys stays (inr late) =
    let p = a + n in
    let sum : p + (k - p) ≡ k = omega arith in
    let back : (zs : List ℕ) → drop k zs ≡ drop (k - p) (drop p zs) = λ zs. sym (drop-drop (k - p) p zs ∙ ap (λ (i : ℕ). drop i zs) sum) in
    ap (take m) (back ys ∙ ap (drop (k - p)) stays.after ∙ sym (back xs))

-- bytes that stay but for those of one place
record Changes (a n : ℕ) (xs ys : List ℕ) : Type 0 where
  long : length ys ≡ length xs
  stays : (k m : ℕ) → (k + m ≤ a) ⊎ (a + n ≤ k) → take m (drop k ys) ≡ take m (drop k xs)

failing : (a n : ℕ) (xs ys : List ℕ) → a + n ≤ length xs → StaysOutside a n xs ys → Changes a n xs ys
failing a n xs ys fits stays = record { long = stays.long fits; stays = λ k m side. outside a n k m xs ys stays side }

written : (a : ℕ) (new xs ys : List ℕ) → a + length new ≤ length xs → ys ≡ overwritten a new xs → Changes a (length new) xs ys
written a new xs ys fits is =
    subst (Changes a (length new) xs) (sym is) (record { long = overwritten-length a new xs fits; stays = λ k m side. apart a k m new xs (omega (arith, fits)) side })

-- the bytes of a page
data_kept : (g : Geometry) (p n : ℕ) (xs ys : List ℕ) → n ≡ g.page → p < page_count g → Changes (data_place g p) n xs ys → KeepsOthers g (λ q. q ≡ p) xs ys
data_kept g p n xs ys full inside changes = record {
  long = changes.long;
  head = changes.stays 0 20 (inl (omega (arith, state-before g p p inside)));
  pages = λ q below other page has.
      page_stays g q page xs ys (changes.stays (state_place q) 1 (inl (state-before g q p below)))
      (changes.stays (data_place g q) g.page (subst (λ (k : ℕ). (data_place g q + g.page ≤ data_place g p) ⊎ (data_place g p + k ≤ data_place g q)) (sym full) (page-apart g p q other)))
      has;
}

-- the states of pages
states_kept : (g : Geometry) (is_own : ℕ → Type 0) (s n : ℕ) (xs ys : List ℕ) → ((q : ℕ) → state_place s + n ≤ data_place g q)
    → ((q : ℕ) → (is_own q → ⊥) → (state_place q + 1 ≤ state_place s) ⊎ (state_place s + n ≤ state_place q)) → Changes (state_place s) n xs ys → KeepsOthers g is_own xs ys
states_kept g is_own s n xs ys low sides changes = record {
  long = changes.long;
  head = changes.stays 0 20 (inl (omega arith));
  pages = λ q below other page has. page_stays g q page xs ys (changes.stays (state_place q) 1 (sides q other)) (changes.stays (data_place g q) g.page (inr (low q))) has;
}

-- ---- of bytes that may be known

pub fails_none : (g : Geometry) (is_own : ℕ → Type 0) (held new : Option (List ℕ)) → new ≡ held → KeepsOtherPages g is_own held new
fails_none g is_own None new same = same
fails_none g is_own (Some xs) None same = absurd cc
fails_none g is_own (Some xs) (Some ys) same =
    let is : ys ≡ xs = cc in
    subst (λ (zs : List ℕ). part_length g ≤ length xs → KeepsOthers g is_own xs zs) (sym is) (λ whole. record { long = refl; head = refl; pages = λ q below other page has. has })

pub fails_then : (g : Geometry) (is_own : ℕ → Type 0) (a b c : Option (List ℕ)) → KeepsOtherPages g is_own a b → KeepsOtherPages g is_own b c → KeepsOtherPages g is_own a c
fails_then g is_own None None c first next = next
fails_then g is_own None (Some y) c first next = absurd cc
fails_then g is_own (Some x) None c first next = absurd first
fails_then g is_own (Some x) (Some y) None first next = absurd next
fails_then g is_own (Some x) (Some y) (Some z) first next = λ whole.
    let one = first whole in
    let two = next (omega (arith, whole, one.long)) in
    record { long = two.long ∙ one.long; head = two.head ∙ one.head; pages = λ q below other page has. two.pages q below other page (one.pages q below other page has) }

-- a change of one place that keeps all other pages where it ends in the part
change_kept : (g : Geometry) (is_own : ℕ → Type 0) (a n : ℕ) (held new : Option (List ℕ)) → a + n ≤ part_length g → ((xs ys : List ℕ) → Changes a n xs ys → KeepsOthers g is_own xs ys)
    → KeepsOutside a n held new → KeepsOtherPages g is_own held new
change_kept g is_own a n None new inside keeps outside = outside
change_kept g is_own a n (Some xs) None inside keeps outside = absurd outside
change_kept g is_own a n (Some xs) (Some ys) inside keeps outside = λ whole. keeps xs ys (failing a n xs ys (omega arith) outside)

write_kept : (g : Geometry) (is_own : ℕ → Type 0) (a : ℕ) (bytes : List ℕ) (held new : Option (List ℕ)) → a + length bytes ≤ part_length g
    → ((xs ys : List ℕ) → Changes a (length bytes) xs ys → KeepsOthers g is_own xs ys) → Becomes held (writes a bytes ∷ []) new → KeepsOtherPages g is_own held new
write_kept g is_own a bytes None new inside keeps becomes = becomes
write_kept g is_own a bytes (Some xs) None inside keeps becomes = absurd becomes
write_kept g is_own a bytes (Some xs) (Some ys) inside keeps becomes = λ whole. keeps xs ys (written a bytes xs ys (omega arith) becomes)

-- ---- a program

module _ (g : Geometry) (p : ℕ) (inside : p < page_count g) where
  abbrev own : ℕ → Type 0
  own q = q ≡ p

  data_inside : (n : ℕ) → n ≡ g.page → data_place g p + n ≤ part_length g
  data_inside n full = omega (arith, page-inside g p inside, full)

  state_inside : state_place p + 1 ≤ part_length g
  state_inside = state-before g p (page_count g) inside

  sides : (q : ℕ) → (q ≡ p → ⊥) → (state_place q + 1 ≤ state_place p) ⊎ (state_place p + 1 ≤ state_place q)
  sides q other = elim (cases_lt q p) [
    | inl less ↦ inl (omega arith)
    | inr more ↦ inr (omega (arith, other))
  ]

  pub data_fails : (n : ℕ) (held new : Option (List ℕ)) → n ≡ g.page → KeepsOutside (data_place g p) n held new → KeepsOtherPages g (λ q. q ≡ p) held new
  data_fails n held new full outside = change_kept g own (data_place g p) n held new (data_inside n full) (λ xs ys changes. data_kept g p n xs ys full inside changes) outside

  pub data_written : (bytes : List ℕ) (held new : Option (List ℕ)) → length bytes ≡ g.page → Becomes held (writes (data_place g p) bytes ∷ []) new → KeepsOtherPages g (λ q. q ≡ p) held new
  data_written bytes held new full becomes = write_kept g own (data_place g p) bytes held new (data_inside (length bytes) full) (λ xs ys changes. data_kept g p (length bytes) xs ys full inside changes) becomes

  pub state_fails : (held new : Option (List ℕ)) → KeepsOutside (state_place p) 1 held new → KeepsOtherPages g (λ q. q ≡ p) held new
  state_fails held new outside =
      change_kept g own (state_place p) 1 held new state_inside (λ xs ys changes. states_kept g own p 1 xs ys (λ q. state-before g p q inside) sides changes) outside

  pub state_written : (held new : Option (List ℕ)) → Becomes held (writes (state_place p) (1 ∷ []) ∷ []) new → KeepsOtherPages g (λ q. q ≡ p) held new
  state_written held new becomes =
      write_kept g own (state_place p) (1 ∷ []) held new state_inside (λ xs ys changes. states_kept g own p 1 xs ys (λ q. state-before g p q inside) sides changes) becomes

-- ---- an erase

module _ (g : Geometry) (b n : ℕ) (inside : b < g.blocks) (some : 0 < g.pages) (all : n ≡ g.pages) where
  abbrev own_block : ℕ → Type 0
  own_block q = q / g.pages ≡ b

  last : b * g.pages + g.pages ≤ page_count g
  last = let most = mul-le (b + 1) g.pages g.blocks g.pages (omega arith) (omega arith) in omega (arith, most)

  low : (q : ℕ) → state_place (b * g.pages) + n ≤ data_place g q
  low q = let top = state-before g (b * g.pages + g.pages - 1) q (omega (arith, last, some)) in omega (arith, top, all, some)

  block_sides : (q : ℕ) → (q / g.pages ≡ b → ⊥) → (state_place q + 1 ≤ state_place (b * g.pages)) ⊎ (state_place (b * g.pages) + n ≤ state_place q)
  block_sides q other = elim (block-apart g.pages b q other some) [
    | inl before ↦ inl (omega (arith, before))
    | inr after ↦ inr (omega (arith, after, all))
  ]

  pub states_fail : (held new : Option (List ℕ)) → KeepsOutside (state_place (b * g.pages)) n held new → KeepsOtherPages g (λ q. q / g.pages ≡ b) held new
  states_fail held new outside =
      change_kept g own_block (state_place (b * g.pages)) n held new (low (page_count g)) (λ xs ys changes. states_kept g own_block (b * g.pages) n xs ys low block_sides changes) outside

  pub states_written : (bytes : List ℕ) (held new : Option (List ℕ)) → length bytes ≡ n → Becomes held (writes (state_place (b * g.pages)) bytes ∷ []) new → KeepsOtherPages g (λ q. q / g.pages ≡ b) held new
  states_written bytes held new long becomes =
      write_kept g own_block (state_place (b * g.pages)) bytes held new (subst (λ (k : ℕ). state_place (b * g.pages) + k ≤ part_length g) (sym long) (low (page_count g)))
      (λ xs ys changes. subst (λ (k : ℕ). Changes (state_place (b * g.pages)) k xs ys → KeepsOthers g own_block xs ys) (sym long) (λ (c : Changes (state_place (b * g.pages)) n xs ys). states_kept g own_block (b * g.pages) n xs ys low block_sides c) changes) becomes

-- what holds of each refusal
pub on_err_always : {T E : Type 0} (r : Result T E) (P : Type 0) → P → OnErr r P
on_err_always (Ok x) P p = tt
on_err_always (Err e) P p = p

-- The law of half-written records.
use Rattle.std.proofs.Common.{◌≡◌, ◌≢◌, ◌⊎◌, ℕ, zero, suc, ◌+◌, ◌-◌, ◌*◌, ◌%◌, ◌<◌, ◌≤◌, Bool, true, false, cond, ltb, leb, eqb, List, ◌++◌, Option, Some, None, refl, sym, ap, ◌∙◌, inl, inr, arith}
use Rattle.std.proofs.lemmas.Bool.{cases_lt, cases_eq, eqb-true, ltb-true}
use Rattle.std.proofs.lemmas.Option.{none-some, same_Some, cond_some, option_and_then_some}
use Rattle.std.specs.Option.{option_map, option_and_then}
use Rattle.std.specs.Prelude.{◌&&◌}
use Rattle.fs_types.specs.declared.limits.TheConstants.{ANCHORS}
use Rattle.flash_model.specs.declared.geometry.Geometry.{Geometry}
use Rattle.record_format.specs.declared.page_head.PageHead.{PageHead}
use Rattle.anchors.specs.declared.best.Found.{Found}
use Rattle.anchors.specs.declared.best.Best.{Best}
use Rattle.anchors.specs.Parts.{Part, head_at, is_part, are_parts, is_valid_record, record_head, considered, best_below, newest_at, newest_among, payload_of, part_bytes, bytes_from, RecordBytes}
use Rattle.anchors.specs.Writing.{IsHalfWritten, HalfChangesNothing}
use Rattle.anchors.proofs.NewestLaws.{found_is_newest}

pub both_true : (a b : Bool) → (a && b) ≡ true → (a ≡ true) × (b ≡ true)
both_true true b e = (refl, e)
both_true false b e = absurd cc

false_by : (b : Bool) → (b ≡ true → ⊥) → b ≡ false
false_by true h = absurd (h refl)
false_by false h = refl

-- a page that is the n-th of a record says so
pub part_index : (g : Geometry) (first : PageHead) (n : ℕ) (head : PageHead) → is_part g first n (Some head) ≡ true → head.index ≡ n
part_index g first n head e =
    let counted = (both_true (eqb head.sequence first.sequence) _ e).1 in
    let placed = (both_true (eqb head.count first.count) _ counted).1 in
    eqb-true _ _ (both_true (eqb head.index n) _ placed).0

pub part_not_none : (g : Geometry) (first : PageHead) (n : ℕ) (o : Option PageHead) → o ≡ None → is_part g first n o ≡ false
part_not_none g first n o none = ap (is_part g first n) none

pub part_misplaced : (g : Geometry) (first : PageHead) (n : ℕ) (o : Option PageHead) (head : PageHead) → o ≡ Some head → head.index ≢ n → is_part g first n o ≡ false
part_misplaced g first n o head is apart = ap (is_part g first n) is ∙ false_by (is_part g first n (Some head)) (λ e. apart (part_index g first n head e))

pub are_parts_same : (g : Geometry) (now was : ℕ → Option Part) (p : ℕ) (first : PageHead) (n k : ℕ)
    → ((m : ℕ) → is_part g first m (head_at now (p + m)) ≡ is_part g first m (head_at was (p + m))) → are_parts g now p first n k ≡ are_parts g was p first n k
unfolding are_parts
are_parts_same g now was p first n zero same = refl
are_parts_same g now was p first n (suc k) same = λ i. same n i && are_parts_same g now was p first (n + 1) k same i

are_parts_at : (g : Geometry) (parts : ℕ → Option Part) (p : ℕ) (first : PageHead) (n k : ℕ) → are_parts g parts p first n k ≡ true → (m : ℕ) → n ≤ m → m < n + k → is_part g first m (head_at parts (p + m)) ≡ true
unfolding are_parts
are_parts_at g parts p first n zero e m from below = absurd (omega arith)
are_parts_at g parts p first n (suc k) e m from below =
    let both = both_true (is_part g first n (head_at parts (p + n))) (are_parts g parts p first (n + 1) k) e in
    elim (cases_eq m n) [
      | inl here ↦ ap (λ j. is_part g first j (head_at parts (p + j))) here ∙ both.0
      | inr later ↦ are_parts_at g parts p first (n + 1) k both.1 m (omega arith) (omega arith)
    ]

pub record_parts : (g : Geometry) (parts : ℕ → Option Part) (p : ℕ) (first : PageHead) → is_valid_record g parts p first ≡ true → (0 < first.count) × ((m : ℕ) → m < first.count → is_part g first m (head_at parts (p + m)) ≡ true)
record_parts g parts p first e =
    let some = both_true (ltb 0 first.count) _ e in
    let fit = both_true (leb (p % g.pages + first.count) g.pages) _ some.1 in
    (ltb-true _ _ some.0, λ m below. are_parts_at g parts p first 0 first.count fit.1 m (omega arith) (omega arith))

pub no_record : (g : Geometry) (parts : ℕ → Option Part) (p : ℕ) (o : Option PageHead) → head_at parts p ≡ o → ((first : PageHead) → o ≡ Some first → is_valid_record g parts p first ≡ true → ⊥) → record_head g parts p ≡ None
no_record g parts p None is none = ap (option_and_then (λ first. cond (is_valid_record g parts p first) (Some first) None)) is
no_record g parts p (Some first) is none =
    ap (option_and_then (λ first. cond (is_valid_record g parts p first) (Some first) None)) is
    ∙ ap (λ b. cond b (Some first) None) (false_by (is_valid_record g parts p first) (none first refl))

best_same : (g : Geometry) (now was : ℕ → Option Part) → ((q : ℕ) → record_head g now q ≡ record_head g was q) → (n : ℕ) → best_below g now n ≡ best_below g was n
unfolding best_below
best_same g now was same zero = refl
best_same g now was same (suc n) = λ i. considered (best_same g now was same n i) n (same n i)

pub bytes_same : (g : Geometry) (now was : ℕ → Option Part) (p n k : ℕ) → ((m : ℕ) → n ≤ m → m < n + k → now (p + m) ≡ was (p + m)) → bytes_from g now p n k ≡ bytes_from g was p n k
unfolding bytes_from
bytes_same g now was p n zero same = refl
bytes_same g now was p n (suc k) same = λ i. part_bytes (same n (omega arith) (omega arith) i) ++ bytes_same g now was p (n + 1) k (λ m from below. same m (omega arith) (omega arith)) i

head_some : (parts : ℕ → Option Part) (p : ℕ) (part : Part) → parts p ≡ Some part → head_at parts p ≡ Some part.head
head_some parts p part e = ap (option_map (λ (x : Part). x.head)) e

pub head_none : (parts : ℕ → Option Part) (p : ℕ) → parts p ≡ None → head_at parts p ≡ None
head_none parts p e = ap (option_map (λ (x : Part). x.head)) e

-- the record at a place
abbrev entry_with : Found → List ℕ → RecordBytes
entry_with found payload = record { sequence = found.head.sequence; payload = payload }

abbrev entry_at : Geometry → (ℕ → Option Part) → Found → RecordBytes
entry_at g parts found = entry_with found (payload_of g parts found)

module _ (g : Geometry) (was now : ℕ → Option Part) (p count n : ℕ) (half : IsHalfWritten was now p count n) where
  -- a page outside, or the m-th of those inside
  abbrev IsAt : ℕ → Type 0
  IsAt q = (now q ≡ was q) ⊎ ((m : ℕ) × (q ≡ p + m) × (m < count))

  place_of : (q : ℕ) → IsAt q
  place_of q = elim (cases_lt q p) [
    | inl before ↦ inl (half.others q (inl before))
    | inr from ↦ elim (cases_lt q (p + count)) [
      | inl inside ↦ inr (q - p, omega arith, omega arith)
      | inr after ↦ inl (half.others q (inr after))
    ]
  ]

  -- the m-th page now: it holds nothing, or says that it is the m-th
  abbrev Holds : ℕ → Type 0
  Holds m = (head_at now (p + m) ≡ None) ⊎ ((head : PageHead) × (head_at now (p + m) ≡ Some head) × (head.index ≡ m) × (head.count ≡ count))

  holds : (m : ℕ) → m < count → Holds m
  holds m below = elim (cases_lt m n) [
    | inl done ↦ let d = half.done m done in inr (d.0.head, head_some now (p + m) d.0 d.1, d.2, d.3)
    | inr rest ↦ inl (head_none now (p + m) (half.rest m rest below))
  ]

  same_test : (q : ℕ) (first : PageHead) → q ≢ p → (k : ℕ) → is_part g first k (head_at now (q + k)) ≡ is_part g first k (head_at was (q + k))
  same_test q first apart k = elim (place_of (q + k)) [
    | inl same ↦ ap (λ (o : Option Part). is_part g first k (option_map (λ (x : Part). x.head) o)) same
    | inr inside ↦
        let at = inside.1 in
        let was_none : head_at was (q + k) ≡ None = ap (head_at was) at ∙ head_none was (p + inside.0) (half.blank inside.0 inside.2) in
        let now_false : is_part g first k (head_at now (q + k)) ≡ false =
        elim (holds inside.0 inside.2) [
          | inl none ↦ part_not_none g first k (head_at now (q + k)) (ap (head_at now) at ∙ none)
          | inr some ↦ part_misplaced g first k (head_at now (q + k)) some.0 (ap (head_at now) at ∙ some.1) (λ e. apart (let placed = some.2 in omega arith))
        ] in
        now_false ∙ sym (part_not_none g first k (head_at was (q + k)) was_none)
  ]

  same_record : (q : ℕ) → q ≢ p → (first : PageHead) → is_valid_record g now q first ≡ is_valid_record g was q first
  same_record q apart first = λ i. ltb 0 first.count && (leb (q % g.pages + first.count) g.pages && are_parts_same g now was q first 0 first.count (same_test q first apart) i)

  -- no record begins at a page of the half-written one
  none_now : (m : ℕ) → m < count → record_head g now (p + m) ≡ None
  none_now m below = elim (holds m below) [
    | inl none ↦ no_record g now (p + m) None none (λ first e is. none-some first e)
    | inr some ↦ no_record g now (p + m) (Some some.0) some.1 (λ first e is.
        let same = same_Some some.0 first e in
        let index : first.index ≡ m = ap (λ (h : PageHead). h.index) (sym same) ∙ some.2 in
        let counted : first.count ≡ count = ap (λ (h : PageHead). h.count) (sym same) ∙ some.3 in
        let parts = record_parts g now (p + m) first is in
        let own : is_part g first 0 (Some first) ≡ true = ap (is_part g first 0) (sym (ap (head_at now) (omega arith) ∙ some.1 ∙ e)) ∙ parts.1 0 parts.0 in
        let zeroth : first.index ≡ 0 = part_index g first 0 first own in
        let short : n < first.count = let h = half.half in omega arith in
        let missing : head_at now (p + m + n) ≡ None = ap (head_at now) (omega arith) ∙ head_none now (p + n) (half.rest n (omega arith) half.half) in
        let no = sym (parts.1 n short) ∙ part_not_none g first n (head_at now (p + m + n)) missing in
        (absurd cc))
  ]

  none_was : (m : ℕ) → m < count → record_head g was (p + m) ≡ None
  none_was m below = no_record g was (p + m) None (head_none was (p + m) (half.blank m below)) (λ first e is. none-some first e)

  same_head : (q : ℕ) → record_head g now q ≡ record_head g was q
  same_head q = elim (place_of q) [
    | inr inside ↦ ap (record_head g now) inside.1 ∙ none_now inside.0 inside.2 ∙ sym (none_was inside.0 inside.2) ∙ ap (record_head g was) (sym inside.1)
    | inl same ↦ elim (cases_eq q p) [
      | inl here ↦
          let some : 0 < count = let h = half.half in omega arith in
          let at : q ≡ p + 0 = omega arith in
          ap (record_head g now) at ∙ none_now 0 some ∙ sym (none_was 0 some) ∙ ap (record_head g was) (sym at)
      | inr apart ↦ λ i. option_and_then (λ first. cond (same_record q apart first i) (Some first) None) (option_map (λ (x : Part). x.head) (same i))
    ]
  ]

  -- pages of a valid record are as they were
  same_pages : (f : Found) → record_head g was f.page ≡ Some f.head → (m : ℕ) → m < f.head.count → now (f.page + m) ≡ was (f.page + m)
  same_pages f valid m below = elim (place_of (f.page + m)) [
    | inl same ↦ same
    | inr inside ↦
        let none : head_at was (f.page + m) ≡ None = ap (head_at was) inside.1 ∙ head_none was (p + inside.0) (half.blank inside.0 inside.2) in
        absurd (option_and_then_some (λ first. cond (is_valid_record g was f.page first) (Some first) None) (head_at was f.page) f.head valid (λ first at chosen.
        let is = cond_some (is_valid_record g was f.page first) first f.head chosen in
        let counted : first.count ≡ f.head.count = ap (λ (h : PageHead). h.count) is.1 in
        let no = sym ((record_parts g was f.page first is.0).1 m (omega arith)) ∙ part_not_none g first m (head_at was (f.page + m)) none in
        (cc)))
  ]

  same_newest : (o : Option Found) → newest_at g was ≡ o → option_map (entry_at g now) o ≡ option_map (entry_at g was) o
  same_newest None at = refl
  same_newest (Some f) at =
      let newest = found_is_newest g was f at in
      let bytes : payload_of g now f ≡ payload_of g was f = bytes_same g now was f.page 0 f.head.count (λ m from below. same_pages f newest.valid m (omega arith)) in
      ap (λ (payload : List ℕ). Some (entry_with f payload)) bytes

  half_stays : newest_among g now ≡ newest_among g was
  half_stays =
      let best = best_same g now was same_head (ANCHORS * g.pages) in
      let at : newest_at g now ≡ newest_at g was = ap (λ (b : Best). cond b.twice None b.found) best in
      ap (option_map (entry_at g now)) at ∙ same_newest (newest_at g was) refl

pub half_changes_nothing : HalfChangesNothing
half_changes_nothing g was now p count n half = half_stays g was now p count n half

-- the records are those that were there, and the newest is at its place
pub half_keeps_heads : (g : Geometry) (was now : ℕ → Option Part) (p count n : ℕ) → IsHalfWritten was now p count n → (q : ℕ) → record_head g now q ≡ record_head g was q
half_keeps_heads g was now p count n half q = same_head g was now p count n half q

pub half_keeps_place : (g : Geometry) (was now : ℕ → Option Part) (p count n : ℕ) → IsHalfWritten was now p count n → newest_at g now ≡ newest_at g was
half_keeps_place g was now p count n half = ap (λ (b : Best). cond b.twice None b.found) (best_same g now was (same_head g was now p count n half) (ANCHORS * g.pages))

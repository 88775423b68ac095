-- The law of records that are written whole.
use Rattle.std.proofs.Common.{◌≡◌, ◌≢◌, ◌⊎◌, ℕ, zero, suc, ◌+◌, ◌-◌, ◌%◌, ◌<◌, true, cond, ltb, leb, Option, Some, None, refl, sym, ap, ◌∙◌, inl, inr, arith}
use Rattle.std.proofs.lemmas.Bool.{cases_lt, lt-ltb, le-leb}
use Rattle.std.proofs.lemmas.Option.{none-some, same_Some}
use Rattle.std.specs.Option.{option_map, option_and_then}
use Rattle.std.specs.Prelude.{◌&&◌}
use Rattle.flash_model.specs.declared.geometry.Geometry.{Geometry}
use Rattle.record_format.specs.declared.page_head.PageHead.{PageHead}
use Rattle.anchors.specs.Parts.{Part, head_at, is_part, are_parts, is_valid_record, record_head}
use Rattle.anchors.specs.Writing.{IsWhollyWritten, WholeIsNewest}
use Rattle.anchors.proofs.NewestLaws.{newest_is_found}
use Rattle.anchors.proofs.WritingLaws.{part_index, part_not_none, part_misplaced, are_parts_same, record_parts, no_record, head_none}

pub are_parts_from : (g : Geometry) (parts : ℕ → Option Part) (p : ℕ) (first : PageHead) (n k : ℕ) → ((m : ℕ) → m < n + k → is_part g first m (head_at parts (p + m)) ≡ true) → are_parts g parts p first n k ≡ true
unfolding are_parts
are_parts_from g parts p first n zero each = refl
are_parts_from g parts p first n (suc k) each = rw (each n (omega arith)) (are_parts_from g parts p first (n + 1) k (λ m below. each m (omega arith)))

some_of : (g : Geometry) (first : PageHead) (m : ℕ) (o : Option PageHead) → is_part g first m o ≡ true → (head : PageHead) × (o ≡ Some head)
some_of g first m None e = absurd cc
some_of g first m (Some head) e = (head, refl)

module _ (g : Geometry) (was now : ℕ → Option Part) (p : ℕ) (own : PageHead) (whole : IsWhollyWritten g was now p own) where
  abbrev IsAt : ℕ → Type 0
  IsAt q = (now q ≡ was q) ⊎ ((m : ℕ) × (q ≡ p + m) × (m < own.count))

  place_of : (q : ℕ) → IsAt q
  place_of q = elim (cases_lt q p) [
    | inl before ↦ inl (whole.others q (inl before))
    | inr from ↦ elim (cases_lt q (p + own.count)) [
      | inl inside ↦ inr (q - p, omega arith, omega arith)
      | inr after ↦ inl (whole.others q (inr after))
    ]
  ]

  holds : (m : ℕ) → m < own.count → (head : PageHead) × (head_at now (p + m) ≡ Some head) × (head.index ≡ m)
  holds m below =
      let some = some_of g own m (head_at now (p + m)) (whole.done m below) in
      (some.0, some.1, part_index g own m some.0 (ap (is_part g own m) (sym some.1) ∙ whole.done m below))

  same_test : (q : ℕ) (first : PageHead) → q ≢ p → (k : ℕ) → is_part g first k (head_at now (q + k)) ≡ is_part g first k (head_at was (q + k))
  same_test q first apart k = elim (place_of (q + k)) [
    | inl same ↦ ap (λ (o : Option Part). is_part g first k (option_map (λ (x : Part). x.head) o)) same
    | inr inside ↦
        let at = inside.1 in
        let some = holds inside.0 inside.2 in
        part_misplaced g first k (head_at now (q + k)) some.0 (ap (head_at now) at ∙ some.1) (λ e. apart (let placed = some.2 in omega arith))
        ∙ sym (part_not_none g first k (head_at was (q + k)) (ap (head_at was) at ∙ head_none was (p + inside.0) (whole.blank inside.0 inside.2)))
  ]

  same_record : (q : ℕ) → q ≢ p → (first : PageHead) → is_valid_record g now q first ≡ is_valid_record g was q first
  same_record q apart first = λ i. ltb 0 first.count && (leb (q % g.pages + first.count) g.pages && are_parts_same g now was q first 0 first.count (same_test q first apart) i)

  none_inside : (m : ℕ) → m < own.count → m ≢ 0 → record_head g now (p + m) ≡ None
  none_inside m below apart =
      let some = holds m below in
      no_record g now (p + m) (Some some.0) some.1 (λ first e is.
      let index : first.index ≡ m = ap (λ (h : PageHead). h.index) (sym (same_Some some.0 first e)) ∙ some.2 in
      let parts = record_parts g now (p + m) first is in
      let begins : is_part g first 0 (Some first) ≡ true = ap (is_part g first 0) (sym (ap (head_at now) (omega arith) ∙ some.1 ∙ e)) ∙ parts.1 0 parts.0 in
      apart (sym index ∙ part_index g first 0 first begins))

  was_there : (q : ℕ) (head : PageHead) → q ≢ p → record_head g now q ≡ Some head → record_head g was q ≡ Some head
  was_there q head apart valid = elim (place_of q) [
    | inl same ↦
        let record_same : record_head g now q ≡ record_head g was q = λ i. option_and_then (λ first. cond (same_record q apart first i) (Some first) None) (option_map (λ (x : Part). x.head) (same i)) in
        sym record_same ∙ valid
    | inr inside ↦
        let other : inside.0 ≢ 0 = λ e. apart (let at = inside.1 in omega arith) in
        absurd (none-some head (sym (ap (record_head g now) inside.1 ∙ none_inside inside.0 inside.2 other) ∙ valid))
  ]

  own_valid : record_head g now p ≡ Some own
  own_valid =
      let parts = are_parts_from g now p own 0 own.count (λ m below. whole.done m (omega arith)) in
      ap (option_and_then (λ first. cond (is_valid_record g now p first) (Some first) None)) whole.begins
      ∙ rw (lt-ltb _ _ whole.some, le-leb _ _ whole.one_block, parts) refl

pub whole_is_newest : WholeIsNewest
whole_is_newest g was now p first whole newer =
    newest_is_found g now (record { page = p; head = first }) (record {
      within = whole.within;
      valid = own_valid g was now p first whole;
      older = λ q head lt apart valid. newer q head lt (was_there g was now p first whole q head apart valid);
    })

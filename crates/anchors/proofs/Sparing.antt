-- An erase of an anchor that the newest record is not on.
use Rattle.std.proofs.Common.{◌≡◌, ◌≢◌, ◌⊎◌, ℕ, ◌+◌, ◌*◌, ◌/◌, ◌%◌, ◌<◌, ◌≤◌, Bool, true, false, cond, ltb, leb, List, Option, Some, None, Result, Ok, Err, refl, sym, ap, subst, ◌∙◌, inl, inr, arith}
use Rattle.std.specs.Option.{option_map, option_and_then}
use Rattle.std.proofs.lemmas.Bool.{cases_eq, leb-true}
use Rattle.std.proofs.lemmas.Option.{none-some, cond_some, option_and_then_some}
use Rattle.std.proofs.lemmas.Nat.{div-mul-add, div-add-mod'}
use Rattle.fs_types.specs.declared.fault.Fault.{Fault}
use Rattle.fs_types.specs.declared.fault.Fault.TheVariants.{PowerCut}
use Rattle.fs_types.specs.declared.limits.TheConstants.{ANCHORS}
use Rattle.flash_model.specs.declared.geometry.Geometry.{Geometry}
use Rattle.flash_model.specs.Device.{Page}
use Rattle.record_format.specs.declared.page_head.PageHead.{PageHead}
use Rattle.anchors.specs.declared.best.Found.{Found}
use Rattle.anchors.specs.Parts.{Part, RecordBytes, part_of, parts_on, head_at, is_part, is_valid_record, record_head, newest_at, newest_among, payload_of}
use Rattle.anchors.specs.Anchored.{Fades}
use Rattle.anchors.specs.Keeping.{KeepsNewest, Placed, Spares}
use Rattle.anchors.proofs.NewestLaws.{found_is_newest, newest_is_found}
use Rattle.anchors.proofs.WritingLaws.{both_true, part_not_none, record_parts, head_none, bytes_same}
use Rattle.anchors.proofs.WholeLaws.{are_parts_from}

pub Keeps_itself : (g : Geometry) (pages : ℕ → Page) → KeepsNewest g pages pages
Keeps_itself g pages = record { heads = λ q head valid. valid; place = refl; newest = refl }

pub Keeps_on : (g : Geometry) (a b c : ℕ → Page) → KeepsNewest g a b → KeepsNewest g b c → KeepsNewest g a c
Keeps_on g a b c first next = record {
  heads = λ q head valid. first.heads q head (next.heads q head valid);
  place = next.place ∙ first.place;
  newest = next.newest ∙ first.newest;
}

-- a valid record has its header, and its pages follow in one block
valid_parts : (g : Geometry) (parts : ℕ → Option Part) (q : ℕ) (h : PageHead) → record_head g parts q ≡ Some h → (head_at parts q ≡ Some h) × (is_valid_record g parts q h ≡ true)
valid_parts g parts q h valid =
    option_and_then_some (λ first. cond (is_valid_record g parts q first) (Some first) None) (head_at parts q) h valid (λ first at chosen.
    let is = cond_some (is_valid_record g parts q first) first h chosen in
    (at ∙ ap (λ (x : PageHead). Some x) is.1, subst (λ (x : PageHead). is_valid_record g parts q x ≡ true) is.1 is.0))

valid_fits : (g : Geometry) (parts : ℕ → Option Part) (q : ℕ) (h : PageHead) → is_valid_record g parts q h ≡ true → q % g.pages + h.count ≤ g.pages
valid_fits g parts q h is = leb-true _ _ (both_true (leb (q % g.pages + h.count) g.pages) _ (both_true (ltb 0 h.count) _ is).1).0

-- a record whose pages are those of a valid one is valid
valid_too : (g : Geometry) (was now : ℕ → Option Part) (q : ℕ) (h : PageHead) → record_head g was q ≡ Some h → head_at now q ≡ Some h
    → ((m : ℕ) → m < h.count → is_part g h m (head_at now (q + m)) ≡ true) → record_head g now q ≡ Some h
valid_too g was now q h valid at each =
    let v = valid_parts g was q h valid in
    let some = both_true (ltb 0 h.count) _ v.1 in
    let fit = both_true (leb (q % g.pages + h.count) g.pages) _ some.1 in
    let all = are_parts_from g now q h 0 h.count (λ m below. each m (omega arith)) in
    let is : is_valid_record g now q h ≡ true = rw (some.0, fit.0, all) refl in
    ap (option_and_then (λ first. cond (is_valid_record g now q first) (Some first) None)) at ∙ ap (λ b. cond b (Some h) None) is

-- where parts vanish, a record that is valid was valid
pub fewer : (g : Geometry) (was now : ℕ → Option Part) → ((q : ℕ) → (now q ≡ was q) ⊎ (now q ≡ None)) → (q : ℕ) (h : PageHead) → record_head g now q ≡ Some h → record_head g was q ≡ Some h
fewer g was now fades q h valid =
    let v = valid_parts g now q h valid in
    let parts = record_parts g now q h v.1 in
    let at : head_at was q ≡ Some h = elim (fades q) [
      | inl same ↦ sym (ap (option_map (λ (x : Part). x.head)) same) ∙ v.0
      | inr none ↦ absurd (none-some h (sym (head_none now q none) ∙ v.0))
    ] in
    valid_too g now was q h valid at (λ m below. elim (fades (q + m)) [
      | inl same ↦ sym (ap (λ (o : Option Part). is_part g h m (option_map (λ (x : Part). x.head) o)) same) ∙ parts.1 m below
      | inr none ↦ absurd (let no = sym (parts.1 m below) ∙ part_not_none g h m (head_at now (q + m)) (head_none now (q + m) none) in cc)
    ])

-- a record whose pages stay is valid still
stays_valid : (g : Geometry) (was now : ℕ → Option Part) (q : ℕ) (h : PageHead) → record_head g was q ≡ Some h → ((m : ℕ) → m < h.count → now (q + m) ≡ was (q + m)) → record_head g now q ≡ Some h
stays_valid g was now q h valid same =
    let v = valid_parts g was q h valid in
    let parts = record_parts g was q h v.1 in
    let here : now q ≡ was q = let e : q ≡ q + 0 = omega arith in ap now e ∙ same 0 parts.0 ∙ ap was (sym e) in
    valid_too g was now q h valid (ap (option_map (λ (x : Part). x.head)) here ∙ v.0)
    (λ m below. ap (λ (o : Option Part). is_part g h m (option_map (λ (x : Part). x.head) o)) (same m below) ∙ parts.1 m below)

same_block : (g : Geometry) (p m : ℕ) → p % g.pages + m < g.pages → (p + m) / g.pages ≡ p / g.pages
same_block g p m lt =
    let is : p / g.pages * g.pages + p % g.pages ≡ p = div-add-mod' p g.pages in
    let at : p + m ≡ p / g.pages * g.pages + (p % g.pages + m) = omega arith in
    ap (λ q. q / g.pages) at ∙ div-mul-add (p / g.pages) g.pages (p % g.pages + m) lt

module _ (g : Geometry) (was now : ℕ → Page) (anchor : ℕ) (others : (p : ℕ) → p / g.pages ≢ anchor → now p ≡ was p) (fades : Fades was now) where
  -- a page of another block has its part, and each page has its part or none
  part_stays : (p : ℕ) → p / g.pages ≢ anchor → parts_on g now p ≡ parts_on g was p
  part_stays p apart = ap (λ page. cond (ltb (p / g.pages) ANCHORS) (part_of page) None) (others p apart)

  none_if : (b : Bool) (o : Option Part) → o ≡ None → cond b o None ≡ None
  none_if true o none = none
  none_if false o none = refl

  part_fades : (p : ℕ) → (parts_on g now p ≡ parts_on g was p) ⊎ (parts_on g now p ≡ None)
  part_fades p = elim (fades p) [
    | inl same ↦ inl (ap (λ page. cond (ltb (p / g.pages) ANCHORS) (part_of page) None) same)
    | inr (inl blank) ↦ inr (none_if (ltb (p / g.pages) ANCHORS) (part_of (now p)) (ap part_of blank))
    | inr (inr torn) ↦ inr (none_if (ltb (p / g.pages) ANCHORS) (part_of (now p)) (ap part_of torn))
  ]

  -- the newest record is on another anchor
  keeps_other : (found : Found) → newest_at g (parts_on g was) ≡ Some found → found.page / g.pages ≢ anchor → KeepsNewest g was now
  keeps_other found at apart =
      let newest = found_is_newest g (parts_on g was) found at in
      let v = valid_parts g (parts_on g was) found.page found.head newest.valid in
      let fits = valid_fits g (parts_on g was) found.page found.head v.1 in
      let same : (m : ℕ) → m < found.head.count → parts_on g now (found.page + m) ≡ parts_on g was (found.page + m) =
      λ m below. part_stays (found.page + m) (λ here. apart (sym (same_block g found.page m (omega arith)) ∙ here)) in
      let heads = fewer g (parts_on g was) (parts_on g now) part_fades in
      let place : newest_at g (parts_on g now) ≡ Some found = newest_is_found g (parts_on g now) found (record {
        within = newest.within;
        valid = stays_valid g (parts_on g was) (parts_on g now) found.page found.head newest.valid same;
        older = λ q head lt other valid. newest.older q head lt other (heads q head valid);
      }) in
      let bytes : payload_of g (parts_on g now) found ≡ payload_of g (parts_on g was) found = bytes_same g (parts_on g now) (parts_on g was) found.page 0 found.head.count (λ m from below. same m (omega arith)) in
      let entry : (ℕ → Option Part) → Option Found → Option RecordBytes = λ parts o. option_map (λ (f : Found). record { sequence = f.head.sequence; payload = payload_of g parts f }) o in
      record {
        heads = heads;
        place = place ∙ sym at;
        newest = ap (entry (parts_on g now)) place ∙ ap (λ (x : List ℕ). Some (record { sequence = found.head.sequence; payload = x })) bytes ∙ ap (entry (parts_on g was)) (sym at);
      }

  -- no page of the anchor held a part
  keeps_blank : ((p : ℕ) → p / g.pages ≡ anchor → part_of (was p) ≡ None) → KeepsNewest g was now
  keeps_blank blank =
      let same : (p : ℕ) → parts_on g now p ≡ parts_on g was p = λ p. elim (cases_eq (p / g.pages) anchor) [
        | inl own ↦ elim (part_fades p) [ inl stays ↦ stays | inr none ↦ none ∙ sym (none_if (ltb (p / g.pages) ANCHORS) (part_of (was p)) (blank p own)) ]
        | inr other ↦ part_stays p other
      ] in
      let parts : parts_on g now ≡ parts_on g was = λ i p. same p i in
      record {
        heads = λ q head valid. sym (ap (λ (x : ℕ → Option Part). record_head g x q) parts) ∙ valid;
        place = ap (newest_at g) parts;
        newest = ap (newest_among g) parts;
      }

  pub erase_keeps : Spares g was anchor → KeepsNewest g was now
  erase_keeps spares = elim spares [ inl other ↦ keeps_other other.0 other.1 other.2 | inr blank ↦ keeps_blank blank ]

-- what was kept before a record was placed
pub Placed_on : (g : Geometry) (a b c : ℕ → Page) (found : Found) (entry : RecordBytes) (result : Result Bool Fault) → KeepsNewest g a b → Placed g b c found entry result → Placed g a c found entry result
Placed_on g a b c found entry (Ok true) keeps is = is
Placed_on g a b c found entry (Ok false) keeps is = Keeps_on g a b c keeps is
Placed_on g a b c found entry (Err PowerCut) keeps is = elim is [ inl kept ↦ inl (Keeps_on g a b c keeps kept) | inr placed ↦ inr placed ]
Placed_on g a b c found entry (Err _) keeps is = is

-- A record that stands on the first pages of a flash is its newest one.
use Rattle.std.proofs.Common.{◌≡◌, ℕ, ◌+◌, ◌*◌, ◌/◌, ◌<◌, ◌≤◌, ◌^◌, Bool, true, false, cond, ltb, List, Option, Some, None, Result, Ok, refl, sym, ap, ◌∙◌, inr, arith}
use Rattle.std.proofs.lemmas.Bool.{ltb-true}
use Rattle.std.specs.Option.{option_map, option_and_then}
use Rattle.std.specs.Prelude.{if◌then◌else◌}
use Rattle.fs_types.specs.declared.fault.Fault.{Fault}
use Rattle.fs_types.specs.declared.limits.TheConstants.{ANCHORS}
use Rattle.flash_model.specs.declared.geometry.Geometry.{Geometry}
use Rattle.flash_model.specs.Geometry.{IsGeometry}
use Rattle.flash_model.specs.Device.{Device, Page, erased, block_of}
use Rattle.record_format.specs.Laws.{PageIsRead, WrittenIsRead}
use Rattle.record_format.specs.Payloads.{is_record, FitsFields, payload_bytes, payload_at}
use Rattle.record_format.specs.declared.page_head.PageHead.{PageHead}
use Rattle.record_format.specs.declared.record.Record.{Record}
use Rattle.anchors.specs.Keeping.{AreOlder}
use Rattle.anchors.specs.Newest.{committed_on}
use Rattle.anchors.specs.Parts.{Part, RecordBytes, part_of, parts_on, is_valid_record, record_head, newest_on}
use Rattle.anchors.specs.Programming.{Fills}
use Rattle.anchors.proofs.Places.{anchor_below}
use Rattle.anchors.proofs.Placing.{whole_stands}
use Rattle.salvages.proofs.SureFlashes.{data_from}
use Rattle.salvages.specs.Copies.{AreAnchorsErased, HasPagesOnly}
use Rattle.salvages.specs.Placing.{HasFirstPages}

-- on erased anchors no record is valid, so each is older
part_none : (g : Geometry) (pages : ℕ → Page) (q : ℕ) (on : Bool) → ltb (q / g.pages) ANCHORS ≡ on → (q / g.pages < ANCHORS → pages q ≡ erased) → cond on (part_of (pages q)) None ≡ None
part_none g pages q true is erase = ap part_of (erase (ltb-true _ _ is))
part_none g pages q false is erase = refl

some_head : PageHead → Option PageHead
some_head head = Some head

none_valid : (g : Geometry) (parts : ℕ → Option Part) (q : ℕ) (head : PageHead) → parts q ≡ None → record_head g parts q ≡ Some head → ⊥
none_valid g parts q head none valid =
    let no : record_head g parts q ≡ None =
    ap (λ (o : Option Part). option_and_then (λ (first : PageHead). if is_valid_record g parts q first then Some first else None) (option_map (λ (part : Part). part.head) o)) none in
    let clash = sym no ∙ valid in
    cc

pub none_older : (d : Device) (sequence : ℕ) → AreAnchorsErased d → AreOlder d.geometry d.pages sequence
none_older d sequence erase q head below valid =
    absurd (none_valid d.geometry (parts_on d.geometry d.pages) q head (part_none d.geometry d.pages q (ltb (q / d.geometry.pages) ANCHORS) refl (erase q)) valid)

-- a page among the first ones of an anchor's block is one of the anchors
pub first_on_anchor : (g : Geometry) (m : ℕ) → IsGeometry g → m < g.pages → m / g.pages < ANCHORS
first_on_anchor g m lawful below = anchor_below g m lawful (omega arith)

-- a page of a data block lies behind them
pub data_behind : (g : Geometry) (p count : ℕ) → count ≤ g.pages → ANCHORS ≤ p / g.pages → count ≤ p
data_behind g p count fits past = let from : ANCHORS * g.pages ≤ p = data_from g p past in omega arith

module _ (page_law : PageIsRead) (payload_law : WrittenIsRead) (old new : Device) (r : Record) (payload : List ℕ) (count : ℕ) (lawful : IsGeometry old.geometry) (same : old.geometry ≡ r.geometry)
    (erase : AreAnchorsErased old) (only : HasPagesOnly old new) (fills : Fills old.geometry payload count) (fits : count ≤ old.geometry.pages) (small : count < 2 ^ 16) (sequence : r.sequence < 2 ^ 64)
    (has : HasFirstPages old new r.sequence payload count count) where
  blank : (m : ℕ) → m < count → old.pages (0 + m) ≡ erased
  blank m below = erase (0 + m) (first_on_anchor old.geometry (0 + m) lawful (omega arith))

  newest : newest_on old.geometry new.pages ≡ Some (record { sequence = r.sequence; payload = payload })
  newest =
      let some : 1 ≤ old.geometry.pages = lawful.some_pages in
      (whole_stands page_law old.geometry lawful old.pages new.pages 0 r.sequence payload count count sequence small fills (omega arith) (omega arith) blank has refl (none_older old r.sequence erase)).newest

  pub newest_stands : is_record r ≡ true → FitsFields r → payload ≡ payload_bytes r → committed_on new ≡ Some (Ok r)
  newest_stands is fields spelled =
      ap (λ (d : Device). option_map (λ (entry : RecordBytes). payload_at d.geometry entry.sequence entry.payload) (newest_on d.geometry d.pages)) only
      ∙ ap (option_map (λ (entry : RecordBytes). payload_at old.geometry entry.sequence entry.payload)) newest
      ∙ (λ i. Some (payload_at (same i) r.sequence (spelled i)))
      ∙ ap (λ (x : Result Record Fault). Some x) (payload_law r is fields)

  pub data_stays : (p : ℕ) → ANCHORS ≤ block_of old p → new.pages p ≡ old.pages p
  data_stays p past = has.others p (inr (let behind : count ≤ p = data_behind old.geometry p count fits past in omega arith))

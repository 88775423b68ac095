-- What the pages of a record that are programmed do to the newest record.
use Rattle.std.proofs.Common.{◌≡◌, ◌⊎◌, ℕ, zero, suc, ◌+◌, ◌-◌, ◌*◌, ◌/◌, ◌%◌, ◌<◌, ◌≤◌, ◌^◌, min, true, cond, ltb, List, ◌++◌, length, take, drop, Option, Some, None, Result, Ok, Err, refl, sym, ap, ◌∙◌, inl, inr, arith}
use Rattle.std.specs.Option.{option_map}
use Rattle.std.specs.Prelude.{IsTrue}
use Rattle.std.proofs.lemmas.Bool.{cases_eq, cases_lt, lt-ltb, le-leb, eq-eqb, ne_eqb}
use Rattle.std.proofs.lemmas.Bool.Decides.{nat_tests}
use Rattle.std.proofs.lemmas.List.{length-take, length-drop, drop-drop, take_all}
use Rattle.std.proofs.Math.Seq.{take-add}
use Rattle.std.proofs.lemmas.Nat.{mul-le, mul-add-lt, mod-mul-add}
use Rattle.fs_types.specs.declared.limits.TheConstants.{ANCHORS}
use Rattle.flash_model.specs.declared.geometry.Geometry.{Geometry}
use Rattle.flash_model.specs.Geometry.{IsGeometry, is_page_size}
use Rattle.flash_model.specs.Device.{Page, erased, bytes_of}
use Rattle.record_format.specs.Laws.{PageIsRead}
use Rattle.record_format.specs.Pages.{used_bytes}
use Rattle.anchors.specs.declared.best.Found.{Found}
use Rattle.anchors.specs.Parts.{Part, room, part_of, part_bytes, parts_on, bytes_from, head_at, is_part, is_filled, newest_at, payload_of}
use Rattle.anchors.specs.Writing.{IsHalfWritten, IsWhollyWritten}
use Rattle.flash_model.specs.declared.flash.DevFault.{DevFault}
use Rattle.flash_model.specs.declared.flash.DevFault.TheVariants.{Failed, PowerCut}
use Rattle.anchors.specs.Programming.{piece, head_for, bytes_for, Fills, HasRecordPages, EndsAt}
use Rattle.anchors.specs.Keeping.{KeepsNewest, AreOlder, IsAt}
use Rattle.anchors.proofs.Places.{page_least, anchor_below, record_ends}
use Rattle.anchors.proofs.WritingLaws.{half_changes_nothing, half_keeps_heads, half_keeps_place}
use Rattle.anchors.proofs.WholeLaws.{whole_is_newest}

page_size-most : (n : ℕ) → IsTrue (is_page_size n) → n ≤ 4096
page_size-most n h = grind (arith, nat_tests)

pub page_most : (g : Geometry) → IsGeometry g → g.page ≤ 4096
page_most g lawful = page_size-most g.page lawful.page_size

-- the bytes of a piece
piece_len : (g : Geometry) (payload : List ℕ) (m : ℕ) → length (piece g payload m) ≡ min (room g) (length payload - m * room g)
piece_len g payload m = length-take (room g) (drop (m * room g) payload) ∙ ap (min (room g)) (length-drop (m * room g) payload)

piece_most : (g : Geometry) (payload : List ℕ) (m : ℕ) → length (piece g payload m) ≤ room g
piece_most g payload m = let e = piece_len g payload m in omega arith

-- each page but the last is full, and the last is not empty
filled : (g : Geometry) (payload : List ℕ) (count m : ℕ) → 0 < room g → Fills g payload count → m < count → is_filled g count m (length (piece g payload m)) ≡ true
filled g payload count m some fill below = elim (cases_eq (m + 1) count) [
  | inl last ↦
      let low : m * room g < length payload = let h = fill.low in let e : (m + 1) * room g ≡ count * room g = ap (λ k. k * room g) last in omega arith in
      let len = piece_len g payload m in
      rw (eq-eqb _ _ last, lt-ltb 0 (length (piece g payload m)) (omega arith), le-leb (length (piece g payload m)) (room g) (omega arith)) refl
  | inr apart ↦
      let more : (m + 2) * room g ≤ count * room g = mul-le (m + 2) (room g) count (room g) (omega arith) (omega arith) in
      let low : (m + 1) * room g < length payload = let h = fill.low in omega arith in
      let len = piece_len g payload m in
      rw (ne_eqb _ _ apart, eq-eqb (length (piece g payload m)) (room g) (omega arith)) refl
]

-- pieces that follow make up the payload
pieces_from : (g : Geometry) (payload : List ℕ) (parts : ℕ → Option Part) (p n k : ℕ) → ((m : ℕ) → m < n + k → part_bytes (parts (p + m)) ≡ piece g payload m) → bytes_from g parts p n k ≡ take (k * room g) (drop (n * room g) payload)
unfolding bytes_from
pieces_from g payload parts p n zero each = let none : 0 * room g ≡ 0 = omega arith in sym (ap (λ j. take j (drop (n * room g) payload)) none)
pieces_from g payload parts p n (suc k) each =
    let rest = pieces_from g payload parts p (n + 1) k (λ m below. each m (omega arith)) in
    let ahead : drop ((n + 1) * room g) payload ≡ drop (room g) (drop (n * room g) payload) = ap (λ j. drop j payload) (omega arith) ∙ sym (drop-drop (room g) (n * room g) payload) in
    let all : room g + k * room g ≡ suc k * room g = omega arith in
    ap (λ x. x ++ bytes_from g parts p (n + 1) k) (each n (omega arith)) ∙ ap (λ x. piece g payload n ++ x) (rest ∙ ap (take (k * room g)) ahead)
    ∙ sym (take-add (room g) (k * room g) (drop (n * room g) payload)) ∙ ap (λ j. take j (drop (n * room g) payload)) all

module _ (law : PageIsRead) (g : Geometry) (lawful : IsGeometry g) (old new : ℕ → Page) (p sequence : ℕ) (payload : List ℕ) (count n : ℕ)
    (fits : sequence < 2 ^ 64) (small : count < 2 ^ 16) (fill : Fills g payload count) (within : p < ANCHORS * g.pages) (one_block : p % g.pages + count ≤ g.pages)
    (blank : (m : ℕ) → m < count → old (p + m) ≡ erased) (has : HasRecordPages g old new p sequence payload count n) where
  in_anchor : (m : ℕ) → m < count → (p + m) / g.pages < ANCHORS
  in_anchor m below =
      let ends : p + count ≤ ANCHORS * g.pages = record_ends g p count lawful within one_block in
      anchor_below g (p + m) lawful (omega arith)

  on_anchor : (pages : ℕ → Page) (m : ℕ) → m < count → parts_on g pages (p + m) ≡ part_of (pages (p + m))
  on_anchor pages m below = ap (λ b. cond b (part_of (pages (p + m))) None) (lt-ltb _ _ (in_anchor m below))

  abbrev part_for : ℕ → Part
  part_for m = record { head = head_for g sequence payload count m; bytes = piece g payload m }

  read : (m : ℕ) → m < count → part_of (bytes_of (bytes_for g sequence payload count m)) ≡ Some (part_for m)
  read m below =
      let least = page_least g lawful in
      let most = page_most g lawful in
      let len = piece_most g payload m in
      let l = law g.page (head_for g sequence payload count m) (piece g payload m) (record { sequence = fits; index = omega arith; count = small; used = omega arith }) refl (omega arith) in
      ap (option_map (λ head. record { head = head; bytes = used_bytes head (bytes_for g sequence payload count m) })) l.0
      ∙ ap (λ (bytes : List ℕ). Some (record { head = head_for g sequence payload count m; bytes = bytes })) l.1

  holds : (m : ℕ) → m < n → m < count → parts_on g new (p + m) ≡ Some (part_for m)
  holds m done below = on_anchor new m below ∙ ap part_of (has.done m done) ∙ read m below

  blank_on : (m : ℕ) → m < count → parts_on g old (p + m) ≡ None
  blank_on m below = on_anchor old m below ∙ ap part_of (blank m below)

  others_on : (q : ℕ) → (q < p) ⊎ (p + count ≤ q) → parts_on g new q ≡ parts_on g old q
  others_on q out = ap (λ page. cond (ltb (q / g.pages) ANCHORS) (part_of page) None) (has.others q out)

  half : n < count → IsHalfWritten (parts_on g old) (parts_on g new) p count n
  half short = record {
    half = short;
    others = others_on;
    blank = blank_on;
    done = λ m done. (part_for m, holds m done (omega arith), refl, refl);
    rest = λ m from below. on_anchor new m below ∙ has.rest m from below;
  }

  pub half_keeps : n < count → KeepsNewest g old new
  half_keeps short = record {
    heads = λ q head valid. sym (half_keeps_heads g (parts_on g old) (parts_on g new) p count n (half short) q) ∙ valid;
    place = half_keeps_place g (parts_on g old) (parts_on g new) p count n (half short);
    newest = half_changes_nothing g (parts_on g old) (parts_on g new) p count n (half short);
  }

  some_room : 0 < room g
  some_room = let least = page_least g lawful in omega arith

  is_part_of : (m : ℕ) → m < count → is_part g (head_for g sequence payload count 0) m (Some (head_for g sequence payload count m)) ≡ true
  is_part_of m below = rw (eq-eqb sequence sequence refl, eq-eqb count count refl, eq-eqb m m refl) (filled g payload count m some_room fill below)

  head_on : n ≡ count → (m : ℕ) → m < count → head_at (parts_on g new) (p + m) ≡ Some (head_for g sequence payload count m)
  head_on all m below = ap (option_map (λ (x : Part). x.head)) (holds m (omega arith) below)

  whole : n ≡ count → IsWhollyWritten g (parts_on g old) (parts_on g new) p (head_for g sequence payload count 0)
  whole all = record {
    within = within;
    begins = let at : p ≡ p + 0 = omega arith in ap (head_at (parts_on g new)) at ∙ head_on all 0 fill.some;
    some = fill.some;
    one_block = one_block;
    others = others_on;
    blank = blank_on;
    done = λ m below. ap (is_part g (head_for g sequence payload count 0) m) (head_on all m below) ∙ is_part_of m below;
  }

  pub whole_stands : n ≡ count → AreOlder g old sequence → IsAt g new (record { page = p; head = head_for g sequence payload count 0 }) (record { sequence = sequence; payload = payload })
  whole_stands all older =
      let place : newest_at g (parts_on g new) ≡ Some (record { page = p; head = head_for g sequence payload count 0 }) = whole_is_newest g (parts_on g old) (parts_on g new) p (head_for g sequence payload count 0) (whole all) older in
      let bytes : bytes_from g (parts_on g new) p 0 count ≡ payload =
      pieces_from g payload (parts_on g new) p 0 count (λ m below. ap part_bytes (holds m (omega arith) (omega arith))) ∙ (let none : 0 * room g ≡ 0 = omega arith in ap (λ j. take (count * room g) (drop j payload)) none) ∙ take_all (count * room g) payload fill.high in
      record {
        place = place;
        newest = ap (option_map (λ (found : Found). record { sequence = found.head.sequence; payload = payload_of g (parts_on g new) found })) place
            ∙ ap (λ (x : List ℕ). Some (record { sequence = sequence; payload = x })) bytes;
        written = λ m below. has.done m (omega arith);
      }

-- a record that is written at a place of an anchor
module _ (law : PageIsRead) (g : Geometry) (lawful : IsGeometry g) (old new : ℕ → Page) (anchor place sequence : ℕ) (payload : List ℕ) (count : ℕ)
    (is_anchor : anchor < ANCHORS) (in_block : place + count ≤ g.pages) (fits : sequence < 2 ^ 64) (small : count < 2 ^ 16) (fill : Fills g payload count)
    (blank : (m : ℕ) → m < count → old (anchor * g.pages + place + m) ≡ erased) where
  within : anchor * g.pages + place < ANCHORS * g.pages
  within = let some = fill.some in omega (arith, mul-add-lt anchor g.pages place ANCHORS is_anchor (omega arith))

  one_block : (anchor * g.pages + place) % g.pages + count ≤ g.pages
  one_block = let some = fill.some in let is : (anchor * g.pages + place) % g.pages ≡ place = mod-mul-add anchor g.pages place (omega arith) in omega arith

  abbrev Programmed : Result (Unit {0}) DevFault → Type 0
  Programmed result = (n : ℕ) × EndsAt count n result × HasRecordPages g old new (anchor * g.pages + place) sequence payload count n

  abbrev StandsLast : Type 0
  StandsLast = IsAt g new (record { page = anchor * g.pages + place; head = head_for g sequence payload count 0 }) (record { sequence = sequence; payload = payload })

  pub written_whole : (u : Unit {0}) → Programmed (Ok u) → AreOlder g old sequence → StandsLast
  written_whole u (n, ends, has) older = whole_stands law g lawful old new (anchor * g.pages + place) sequence payload count n fits small fill within one_block blank has ends older

  pub written_half : Programmed (Err Failed) → KeepsNewest g old new
  written_half (n, ends, has) = half_keeps law g lawful old new (anchor * g.pages + place) sequence payload count n fits small fill within one_block blank has ends

  pub written_either : Programmed (Err PowerCut) → AreOlder g old sequence → KeepsNewest g old new ⊎ StandsLast
  written_either (n, ends, has) older = elim (cases_lt n count) [
    | inl short ↦ inl (half_keeps law g lawful old new (anchor * g.pages + place) sequence payload count n fits small fill within one_block blank has short)
    | inr all ↦ inr (whole_stands law g lawful old new (anchor * g.pages + place) sequence payload count n fits small fill within one_block blank has (omega arith) older)
  ]

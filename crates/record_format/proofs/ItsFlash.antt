-- A payload that means a record on a flash tells the sizes of that flash.
use Rattle.std.proofs.Common.{◌≡◌, ℕ, suc, ◌+◌, Bool, true, false, cond, ltb, eqb, List, length, drop, Option, Some, None, Result, Ok, Err, refl, sym, ap, subst, ◌∙◌, get_or, arith}
use Rattle.std.proofs.lemmas.Bool.{eqb-true, ltb-false}
use Rattle.std.proofs.lemmas.List.{drop-drop, get_or-drop}
use Rattle.std.specs.Prelude.{◌||◌, ◌==◌, not, ◌*◌}
use Rattle.std.specs.Option.{ok_or}
use Rattle.byteorder.specs.Endian.{little_from, little_number}
use Rattle.fields.specs.Numbers.{number_at}
use Rattle.fields.proofs.Found.{bind_some, passed, some_is, step}
use Rattle.fs_types.specs.declared.fault.Fault.{Fault}
use Rattle.fs_types.specs.declared.fault.Fault.TheVariants.{Damaged, BadGeometry}
use Rattle.flash_model.specs.declared.geometry.Geometry.{Geometry}
use Rattle.record_format.specs.declared.record.Record.{Record}
use Rattle.record_format.specs.Items.{version_at, checkpoint_at, block_at, many_at}
use Rattle.record_format.specs.Payloads.{is_format, shortest, longest, sizes_at, front_at, front_in, meaning_of, tells_sizes, payload_at, HasItems, WantsMemory}
use Rattle.record_format.specs.Laws.{MeansItsFlash}
use Rattle.record_format.proofs.LawfulRecords.{both_true, counts_of}
use Rattle.record_format.proofs.Many.{many_length}
use Rattle.record_format.proofs.PayloadLaws.{meaning_says}

-- ---- a number at a place

-- a number after so many bytes
number_after : (place : ℕ) (bytes : List ℕ) → little_number 4 (drop place bytes) ≡ little_from place 4 bytes
number_after place bytes =
    let at : (i j : ℕ) → place + i ≡ j → get_or (drop place bytes) i 0 ≡ get_or bytes j 0 = λ i j e. get_or-drop place bytes i 0 ∙ ap (λ (k : ℕ). get_or bytes k 0) e in
    λ i. at 0 place (omega arith) i + 256 * (at 1 (suc place) (omega arith) i + 256 * (at 2 (suc (suc place)) (omega arith) i + 256 * (at 3 (suc (suc (suc place))) (omega arith) i + 256 * 0)))

number_read : (bytes : List ℕ) (x : ℕ × List ℕ) → number_at 4 bytes ≡ Some x → (x.0 ≡ little_number 4 bytes) × (x.1 ≡ drop 4 bytes)
number_read bytes x e = on (ltb (length bytes) 4) e
  where
    on : (b : Bool) → cond b None (Some (little_number 4 bytes, drop 4 bytes)) ≡ Some x → (x.0 ≡ little_number 4 bytes) × (x.1 ≡ drop 4 bytes)
    on true e = absurd cc
    on false e = let same = some_is (little_number 4 bytes, drop 4 bytes) x e in (ap (λ (y : ℕ × List ℕ). y.0) (sym same), ap (λ (y : ℕ × List ℕ). y.1) (sym same))

-- the sizes that are read are those at their places
record ReadsSizes (bytes : List ℕ) (g : Geometry) : Type 0 where
  page : little_from 4 4 bytes ≡ g.page
  pages : little_from 8 4 bytes ≡ g.pages
  blocks : little_from 12 4 bytes ≡ g.blocks

sizes_read : (bytes : List ℕ) (x : Geometry × List ℕ) → sizes_at (drop 4 bytes) ≡ Some x → ReadsSizes bytes x.0
unfolding sizes_at
sizes_read bytes x e =
    let two = bind_some (number_at 4 (drop 4 bytes)) _ x e in
    let three = bind_some (number_at 4 two.0.1) _ x two.2 in
    let four = bind_some (number_at 4 three.0.1) _ x three.2 in
    let b = number_read (drop 4 bytes) two.0 two.1 in
    let c = number_read two.0.1 three.0 three.1 in
    let d = number_read three.0.1 four.0 four.1 in
    let after_two : two.0.1 ≡ drop 8 bytes = b.1 ∙ drop-drop 4 4 bytes in
    let after_three : three.0.1 ≡ drop 12 bytes = c.1 ∙ ap (drop 4) after_two ∙ drop-drop 4 8 bytes in
    let page : two.0.0 ≡ little_from 4 4 bytes = b.0 ∙ number_after 4 bytes in
    let pages : three.0.0 ≡ little_from 8 4 bytes = c.0 ∙ ap (little_number 4) after_two ∙ number_after 8 bytes in
    let blocks : four.0.0 ≡ little_from 12 4 bytes = d.0 ∙ ap (little_number 4) after_three ∙ number_after 12 bytes in
    let read : Geometry × List ℕ = (record { page = two.0.0; pages = three.0.0; blocks = four.0.0 }, four.0.1) in
    subst (λ (y : Geometry × List ℕ). ReadsSizes bytes y.0) (some_is read x four.2) (record { page = sym page; pages = sym pages; blocks = sym blocks })

meaning_sizes : (sequence : ℕ) (bytes : List ℕ) (r : Record) → meaning_of sequence bytes ≡ Some r → ReadsSizes bytes r.geometry
unfolding meaning_of
meaning_sizes sequence bytes r e =
    let format = bind_some (number_at 4 bytes) _ r e in
    let sizes = bind_some (sizes_at format.0.1) _ r format.2 in
    let front = bind_some (front_at sizes.0.1) _ r sizes.2 in
    let versions = bind_some (many_at version_at front.0.0.versions front.0.1) _ r front.2 in
    let checkpoints = bind_some (many_at checkpoint_at front.0.0.checkpoints versions.0.1) _ r versions.2 in
    let bad = bind_some (many_at block_at front.0.0.bad checkpoints.0.1) _ r checkpoints.2 in
    let read : Record = record {
      sequence = sequence;
      format = format.0.0;
      geometry = sizes.0.0;
      limit = front.0.0.limit;
      cursor = front.0.0.cursor;
      dropped = front.0.0.dropped == 1;
      versions = versions.0.0;
      checkpoints = checkpoints.0.0;
      bad = bad.0.0;
      next = front.0.0.next;
      last = front.0.0.last;
    } in
    let same : read ≡ r = some_is read r (passed _ (Some read) r bad.2).1 in
    let after : format.0.1 ≡ drop 4 bytes = (number_read bytes format.0 format.1).1 in
    subst (λ (x : Record). ReadsSizes bytes x.geometry) same (sizes_read bytes sizes.0 (ap sizes_at (sym after) ∙ sizes.1))

-- ---- the flash

abbrev good : Record → Result Record Fault
good r = Ok r

good_is : (x y : Record) → good x ≡ good y → x ≡ y
good_is x y e = cc

accepted : (fault : Fault) (b : Bool) (rest : Result Record Fault) (r : Record) → cond b (Err fault) rest ≡ Ok r → (b ≡ false) × (rest ≡ Ok r)
accepted fault true rest r e = absurd cc
accepted fault false rest r e = (refl, e)

not_false : (b : Bool) → not b ≡ false → b ≡ true
not_false true e = refl
not_false false e = absurd cc

meant : (o : Option Record) (r : Record) → ok_or o Damaged ≡ Ok r → o ≡ Some r
meant None r e = absurd cc
meant (Some x) r e = ap (λ (y : Record). Some y) (good_is x r e)

pub means_its_flash : MeansItsFlash
means_its_flash g sequence bytes r e =
    let other = accepted Damaged (ltb (length bytes) shortest || not (is_format (little_from 0 4 bytes))) _ r e in
    let sizes = accepted BadGeometry (not (tells_sizes g bytes)) _ r other.1 in
    let long = accepted Damaged (ltb longest (length bytes)) _ r sizes.1 in
    let means : meaning_of sequence bytes ≡ Some r = meant (meaning_of sequence bytes) r long.1 in
    let tells = not_false (tells_sizes g bytes) sizes.0 in
    let first = both_true (eqb (little_from 4 4 bytes) g.page) _ tells in
    let rest = both_true (eqb (little_from 8 4 bytes) g.pages) (eqb (little_from 12 4 bytes) g.blocks) first.1 in
    let read = meaning_sizes sequence bytes r means in
    let page : r.geometry.page ≡ g.page = sym read.page ∙ eqb-true _ _ first.0 in
    let pages : r.geometry.pages ≡ g.pages = sym read.pages ∙ eqb-true _ _ rest.0 in
    let blocks : r.geometry.blocks ≡ g.blocks = sym read.blocks ∙ eqb-true _ _ rest.1 in
    (λ i. record { page = page i; pages = pages i; blocks = blocks i }, (meaning_says sequence bytes r means).0.lawful)

-- ---- what wants memory

-- a payload that means a record has something on a list: a version
meaning_items : (sequence : ℕ) (bytes : List ℕ) (r : Record) → meaning_of sequence bytes ≡ Some r → HasItems bytes
unfolding meaning_of front_in
meaning_items sequence bytes r e =
    let format = bind_some (number_at 4 bytes) _ r e in
    let sizes = bind_some (sizes_at format.0.1) _ r format.2 in
    let front = bind_some (front_at sizes.0.1) _ r sizes.2 in
    let versions = bind_some (many_at version_at front.0.0.versions front.0.1) _ r front.2 in
    let checkpoints = bind_some (many_at checkpoint_at front.0.0.checkpoints versions.0.1) _ r versions.2 in
    let bad = bind_some (many_at block_at front.0.0.bad checkpoints.0.1) _ r checkpoints.2 in
    let read : Record = record {
      sequence = sequence;
      format = format.0.0;
      geometry = sizes.0.0;
      limit = front.0.0.limit;
      cursor = front.0.0.cursor;
      dropped = front.0.0.dropped == 1;
      versions = versions.0.0;
      checkpoints = checkpoints.0.0;
      bad = bad.0.0;
      next = front.0.0.next;
      last = front.0.0.last;
    } in
    let same : read ≡ r = some_is read r (passed _ (Some read) r bad.2).1 in
    let counts = counts_of r (meaning_says sequence bytes r e).0.lawful in
    let many : length r.versions ≡ front.0.0.versions = ap (λ (x : Record). length x.versions) (sym same) ∙ many_length version_at front.0.0.versions front.0.1 versions.0 versions.1 in (
      front.0.0,
      step (number_at 4 bytes) format.0 _ format.1 ∙ step (sizes_at format.0.1) sizes.0 _ sizes.1 ∙ step (front_at sizes.0.1) front.0 _ front.1,
      omega (arith, many, counts.cursor),
    )

-- memory is wanted for a payload that means a record
pub means_wants : (g : Geometry) (sequence : ℕ) (bytes : List ℕ) (r : Record) → payload_at g sequence bytes ≡ Ok r → WantsMemory g bytes
means_wants g sequence bytes r e =
    let other = accepted Damaged (ltb (length bytes) shortest || not (is_format (little_from 0 4 bytes))) _ r e in
    let sizes = accepted BadGeometry (not (tells_sizes g bytes)) _ r other.1 in
    let long = accepted Damaged (ltb longest (length bytes)) _ r sizes.1 in
    record {
      format = not_false (is_format (little_from 0 4 bytes)) (neither (ltb (length bytes) shortest) _ other.0);
      sizes = not_false (tells_sizes g bytes) sizes.0;
      most = ltb-false longest (length bytes) long.0;
      items = meaning_items sequence bytes r (meant (meaning_of sequence bytes) r long.1);
    }
  where
    neither : (a b : Bool) → (a || b) ≡ false → b ≡ false
    neither true b e = absurd cc
    neither false b e = e

-- The laws of payloads.
use Rattle.std.proofs.Common.{◌≡◌, ℕ, ◌+◌, ◌*◌, ◌≤◌, ◌^◌, ◌==◌, Bool, true, false, cond, ltb, List, [], ◌∷◌, ◌++◌, length, Option, Some, Result, Err, refl, sym, ap, subst, ◌∙◌, arith}
use Rattle.std.proofs.lemmas.Bool.{le-ltb, eq-eqb}
use Rattle.std.proofs.lemmas.List.{length-append}
use Rattle.std.specs.Prelude.{◌&&◌, ◌||◌, not}
use Rattle.std.specs.List.{list_all, flat_map}
use Rattle.std.specs.Str.{bytes_eq}
use Rattle.byteorder.specs.Endian.{little_bytes, little_from}
use Rattle.byteorder.specs.Numbers.{little_number-reads_back}
use Rattle.fields.specs.Numbers.{number_at}
use Rattle.fields.proofs.Found.{bind_some, passed, some_is}
use Rattle.fs_types.specs.Names.{is_checkpoint_name}
use Rattle.fs_types.specs.declared.fault.Fault.{Fault}
use Rattle.fs_types.specs.declared.fault.Fault.TheVariants.{Damaged, BadGeometry}
use Rattle.std.specs.Option.{ok_or}
use Rattle.record_format.specs.declared.record.Checkpoint.{Checkpoint}
use Rattle.fs_types.specs.declared.limits.TheConstants.{MAX_VERSIONS}
use Rattle.record_format.specs.declared.record.Record.{Record}
use Rattle.record_format.specs.Items.{version_at, checkpoint_at, block_at, many_at}
use Rattle.record_format.specs.Payloads.{is_format, longest, shortest, version_bytes, checkpoint_bytes, block_field, sizes_bytes, counts_bytes, lists_bytes, spelling, payload_bytes, is_record, SizesFit, sizes_at, front_at, if_spelled, meaning_of, tells_sizes}
use Rattle.record_format.specs.Laws.{Says, MeaningSays, SaysMeaning, OneMeaning, WrittenIsRead, IsShort}
use Rattle.record_format.proofs.LawfulRecords.{both_true, counts_of, name_length}
use Rattle.record_format.proofs.Again.{bytes_eq-true, format_fits, spelling_means}

spelled_says : (sequence one two : ℕ) (bytes : List ℕ) (read r : Record) → read.sequence ≡ sequence → if_spelled read one two bytes ≡ Some r → Says bytes r × (r.sequence ≡ sequence)
spelled_says sequence one two bytes read r same e =
    let tests = passed (is_record read && bytes_eq (spelling one two read) bytes) (Some read) r e in
    let parts = both_true (is_record read) (bytes_eq (spelling one two read) bytes) tests.0 in
    subst (λ (x : Record). Says bytes x × (x.sequence ≡ sequence)) (some_is read r tests.1)
    (record { lawful = parts.0; one = one; two = two; spelled = sym (bytes_eq-true (spelling one two read) bytes parts.1) }, same)

pub meaning_says : MeaningSays
unfolding meaning_of
meaning_says sequence bytes r e =
    let format = bind_some (number_at 4 bytes) _ r e in
    let sizes = bind_some (sizes_at format.0.1) _ r format.2 in
    let front = bind_some (front_at sizes.0.1) _ r sizes.2 in
    let versions = bind_some (many_at version_at front.0.0.versions front.0.1) _ r front.2 in
    let checkpoints = bind_some (many_at checkpoint_at front.0.0.checkpoints versions.0.1) _ r versions.2 in
    let bad = bind_some (many_at block_at front.0.0.bad checkpoints.0.1) _ r checkpoints.2 in
    let read : Record = record {
      sequence = sequence;
      format = format.0.0;
      geometry = sizes.0.0;
      limit = front.0.0.limit;
      cursor = front.0.0.cursor;
      dropped = front.0.0.dropped == 1;
      versions = versions.0.0;
      checkpoints = checkpoints.0.0;
      bad = bad.0.0;
      next = front.0.0.next;
      last = front.0.0.last;
    } in
    spelled_says sequence front.0.0.one front.0.0.two bytes read r refl bad.2

pub says_meaning : SaysMeaning
says_meaning bytes r fit says one two = ap (meaning_of r.sequence) says.spelled ∙ spelling_means r says.one says.two says.lawful fit two

pub one_meaning : OneMeaning
one_meaning bytes r s fits_r fits_s a b one_a one_b two_a two_b same =
    some_is r s (sym (says_meaning bytes r fits_r a one_a two_a) ∙ ap (λ (n : ℕ). meaning_of n bytes) same ∙ says_meaning bytes s fits_s b one_b two_b)

-- items of at most so many bytes
flat_map-short : {X : Type 0} (spell : X → List ℕ) (fits : X → Bool) (size : ℕ) (xs : List X) → ((x : X) → fits x ≡ true → length (spell x) ≤ size) → list_all fits xs ≡ true → length (flat_map spell xs) ≤ size * length xs
flat_map-short spell fits size [] each all = omega arith
flat_map-short spell fits size (x ∷ xs) each all =
    let parts = both_true (fits x) (list_all fits xs) all in
    let first = each x parts.0 in
    let others = flat_map-short spell fits size xs each parts.1 in
    omega (arith, length-append (spell x) (flat_map spell xs))

all_true : {X : Type 0} (xs : List X) → list_all (λ x. true) xs ≡ true
all_true [] = refl
all_true (x ∷ xs) = all_true xs

checkpoint_short : (checkpoint : Checkpoint) → (is_checkpoint_name checkpoint.name && ltb checkpoint.root (2 ^ 32)) ≡ true → length (checkpoint_bytes checkpoint) ≤ 36
checkpoint_short checkpoint fit =
    let h = name_length checkpoint.name (both_true (is_checkpoint_name checkpoint.name) (ltb checkpoint.root (2 ^ 32)) fit).0 in
    omega (arith, length-append checkpoint.name (little_bytes 4 checkpoint.root))

pub is_short : IsShort
is_short r lawful fit =
    let counts = counts_of r lawful in
    let a : length r.versions ≤ r.limit = counts.versions in
    let b : r.limit ≤ MAX_VERSIONS = counts.limit_most in
    let c : length r.checkpoints ≤ 16 = counts.checkpoints in
    let d : length r.bad ≤ 256 = counts.bad in
    let versions = flat_map-short version_bytes (λ version. true) 12 r.versions (λ version e. omega arith) (all_true r.versions) in
    let checkpoints = flat_map-short checkpoint_bytes (λ checkpoint. is_checkpoint_name checkpoint.name && ltb checkpoint.root (2 ^ 32)) 36 r.checkpoints checkpoint_short fit.checkpoints in
    let bad = flat_map-short block_field (λ block. true) 4 r.bad (λ block e. omega arith) (all_true r.bad) in
    let lists : length (lists_bytes r) ≡ length (flat_map version_bytes r.versions) + (length (flat_map checkpoint_bytes r.checkpoints) + length (flat_map block_field r.bad)) =
    length-append (flat_map version_bytes r.versions) (flat_map checkpoint_bytes r.checkpoints ++ flat_map block_field r.bad)
    ∙ ap (λ (n : ℕ). length (flat_map version_bytes r.versions) + n) (length-append (flat_map checkpoint_bytes r.checkpoints) (flat_map block_field r.bad)) in
    let all : length (payload_bytes r) ≡ 40 + length (lists_bytes r) = omega arith in
    (omega arith, omega arith)

tells : (r : Record) → SizesFit r.geometry → tells_sizes r.geometry (payload_bytes r) ≡ true
tells r fit =
    let g = r.geometry in
    let rest = counts_bytes 0 0 r ++ lists_bytes r in
    let page : little_from 4 4 (payload_bytes r) ≡ g.page = little_number-reads_back 4 g.page (little_bytes 4 g.pages ++ (little_bytes 4 g.blocks ++ rest)) fit.page in
    let pages : little_from 8 4 (payload_bytes r) ≡ g.pages = little_number-reads_back 4 g.pages (little_bytes 4 g.blocks ++ rest) fit.pages in
    let blocks : little_from 12 4 (payload_bytes r) ≡ g.blocks = little_number-reads_back 4 g.blocks rest fit.blocks in
    rw (eq-eqb _ _ page, eq-eqb _ _ pages, eq-eqb _ _ blocks) refl

abbrev payload_from : Bool → Bool → Bool → Option Record → Result Record Fault
payload_from other sizes long meaning = cond other (Err Damaged) (cond sizes (Err BadGeometry) (cond long (Err Damaged) (ok_or meaning Damaged)))

pub written_is_read : WrittenIsRead
written_is_read r lawful fit =
    let size = is_short r lawful fit in
    let least : ltb (length (payload_bytes r)) shortest ≡ false = le-ltb _ _ (let h = size.0 in omega arith) in
    let most : ltb longest (length (payload_bytes r)) ≡ false = le-ltb _ _ size.1 in
    let means = spelling_means r 0 0 lawful fit (omega arith) in
    let format : is_format (little_from 0 4 (payload_bytes r)) ≡ true =
    ap is_format (little_number-reads_back 4 r.format (sizes_bytes r.geometry ++ (counts_bytes 0 0 r ++ lists_bytes r)) (format_fits r.format (counts_of r lawful).format)) ∙ (counts_of r lawful).format in
    λ i. payload_from (least i || not (format i)) (not (tells r fit.sizes i)) (most i) (means i)

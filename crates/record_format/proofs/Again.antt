-- What is written is read again.
use Rattle.std.proofs.Common.{◌≡◌, ℕ, ◌<◌, ◌≤◌, ◌^◌, Bool, true, false, ltb, eqb, List, [], ◌∷◌, ◌++◌, length, Some, refl, sym, ap, ◌∙◌, append_assoc, arith}
use Rattle.std.proofs.lemmas.Bool.{ltb-true, lt-ltb, le-ltb, eqb-true, eq-eqb}
use Rattle.std.proofs.lemmas.List.{append-nil, length-append, take_at, drop_at}
use Rattle.std.specs.Prelude.{◌&&◌, ◌||◌, nat_lt}
use Rattle.std.specs.List.{list_all, flat_map}
use Rattle.std.specs.Str.{bytes_eq}
use Rattle.byteorder.specs.Endian.{little_bytes}
use Rattle.fields.proofs.Found.{step}
use Rattle.fields.proofs.NumberLaws.{number_again}
use Rattle.fs_types.specs.Names.{Name, is_checkpoint_name}
use Rattle.fs_types.specs.declared.call.Version.{Version}
use Rattle.flash_model.specs.declared.geometry.Geometry.{Geometry}
use Rattle.record_format.specs.declared.record.Checkpoint.{Checkpoint}
use Rattle.fs_types.specs.declared.limits.TheConstants.{MAX_VERSIONS}
use Rattle.record_format.specs.declared.formats.TheConstants.{FORMAT, OLD_FORMAT}
use Rattle.record_format.specs.declared.record.Record.{Record}
use Rattle.record_format.specs.declared.front.Front.{Front}
use Rattle.record_format.specs.Items.{checkpoint_name_at, version_at, checkpoint_at, block_at, many_at}
use Rattle.record_format.specs.Payloads.{flag, is_format, version_bytes, checkpoint_bytes, block_field, sizes_bytes, counts_bytes, lists_bytes, spelling, is_record, SizesFit, FitsFields, sizes_at, front_at, if_spelled, meaning_of}
use Rattle.record_format.proofs.Many.{many_again}
use Rattle.record_format.proofs.LawfulRecords.{both_true, and_true, counts_of, serials_below, bad_below}

name_again : (name : Name) (rest : List ℕ) → is_checkpoint_name name ≡ true → checkpoint_name_at (length name) (name ++ rest) ≡ Some (name, rest)
name_again name rest lawful =
    let long : ltb (length (name ++ rest)) (length name) ≡ false = le-ltb _ _ (omega (arith, length-append name rest)) in
    rw (long, take_at name rest (length name) refl, drop_at name rest (length name) refl, lawful) refl

version_again : (version : Version ℕ) (rest : List ℕ) → (nat_lt version.serial (2 ^ 64) && nat_lt version.root (2 ^ 32)) ≡ true → version_at (version_bytes version ++ rest) ≡ Some (version, rest)
unfolding version_at
version_again version rest fit =
    let parts = both_true (nat_lt version.serial (2 ^ 64)) (nat_lt version.root (2 ^ 32)) fit in
    step _ _ _ (number_again 8 version.serial (little_bytes 4 version.root ++ rest) (ltb-true _ _ parts.0))
    ∙ step _ _ _ (number_again 4 version.root rest (ltb-true _ _ parts.1))

checkpoint_again : (checkpoint : Checkpoint) (rest : List ℕ) → (is_checkpoint_name checkpoint.name && nat_lt checkpoint.root (2 ^ 32)) ≡ true → checkpoint_at (checkpoint_bytes checkpoint ++ rest) ≡ Some (checkpoint, rest)
unfolding checkpoint_at
checkpoint_again checkpoint rest fit =
    let parts = both_true (is_checkpoint_name checkpoint.name) (nat_lt checkpoint.root (2 ^ 32)) fit in
    let root = little_bytes 4 checkpoint.root in
    ap checkpoint_at (ap (λ (x : List ℕ). length checkpoint.name ∷ x) (append_assoc checkpoint.name root rest))
    ∙ step _ _ _ (name_again checkpoint.name (root ++ rest) parts.0)
    ∙ step _ _ _ (number_again 4 checkpoint.root rest (ltb-true _ _ parts.1))

block_again : (block : ℕ) (rest : List ℕ) → nat_lt block (2 ^ 32) ≡ true → block_at (block_field block ++ rest) ≡ Some (block, rest)
block_again block rest fit = number_again 4 block rest (ltb-true _ _ fit)

sizes_again : (g : Geometry) (rest : List ℕ) → SizesFit g → sizes_at (sizes_bytes g ++ rest) ≡ Some (g, rest)
unfolding sizes_at
sizes_again g rest fit =
    step _ _ _ (number_again 4 g.page (little_bytes 4 g.pages ++ (little_bytes 4 g.blocks ++ rest)) fit.page)
    ∙ step _ _ _ (number_again 4 g.pages (little_bytes 4 g.blocks ++ rest) fit.pages)
    ∙ step _ _ _ (number_again 4 g.blocks rest fit.blocks)

front_of : Record → ℕ → ℕ → Front
front_of r one two = record {
  limit = r.limit;
  cursor = r.cursor;
  dropped = flag r.dropped;
  versions = length r.versions;
  checkpoints = length r.checkpoints;
  one = one;
  bad = length r.bad;
  two = two;
  next = r.next;
  last = r.last;
}

ends_of : Record → ℕ → List ℕ → List ℕ
ends_of r two rest = little_bytes 2 (length r.bad) ++ (little_bytes 2 two ++ (little_bytes 8 r.next ++ (little_bytes 4 r.last ++ rest)))

front_again : (r : Record) (one two : ℕ) (rest : List ℕ) → is_record r ≡ true → FitsFields r → two < 256 ^ 2 → front_at (counts_bytes one two r ++ rest) ≡ Some (front_of r one two, rest)
unfolding front_at front_of ends_of
front_again r one two rest lawful fit small =
    let counts = counts_of r lawful in
    let most : r.limit ≤ MAX_VERSIONS = counts.limit_most in
    let some : r.cursor < length r.versions = counts.cursor in
    let versions : length r.versions ≤ r.limit = counts.versions in
    let bad : length r.bad ≤ 256 = counts.bad in
    let last : r.last < r.geometry.blocks = counts.last_most in
    let blocks : r.geometry.blocks < 2 ^ 32 = fit.sizes.blocks in
    step _ _ _ (number_again 2 r.limit (little_bytes 2 r.cursor ++ (flag r.dropped ∷ length r.versions ∷ length r.checkpoints ∷ one ∷ ends_of r two rest)) (omega arith))
    ∙ step _ _ _ (number_again 2 r.cursor (flag r.dropped ∷ length r.versions ∷ length r.checkpoints ∷ one ∷ ends_of r two rest) (omega arith))
    ∙ step _ _ _ (number_again 2 (length r.bad) (little_bytes 2 two ++ (little_bytes 8 r.next ++ (little_bytes 4 r.last ++ rest))) (omega arith))
    ∙ step _ _ _ (number_again 2 two (little_bytes 8 r.next ++ (little_bytes 4 r.last ++ rest)) small)
    ∙ step _ _ _ (number_again 8 r.next (little_bytes 4 r.last ++ rest) fit.next)
    ∙ step _ _ _ (number_again 4 r.last rest (omega arith))

-- tests of all items
all_both : {X : Type 0} (p q : X → Bool) (xs : List X) → list_all p xs ≡ true → list_all q xs ≡ true → list_all (λ x. p x && q x) xs ≡ true
all_both p q [] e f = refl
all_both p q (x ∷ xs) e f =
    let a = both_true (p x) (list_all p xs) e in
    let b = both_true (q x) (list_all q xs) f in
    and_true _ _ (and_true _ _ a.0 b.0) (all_both p q xs a.1 b.1)

all_weaker : {X : Type 0} (p q : X → Bool) (xs : List X) → ((x : X) → p x ≡ true → q x ≡ true) → list_all p xs ≡ true → list_all q xs ≡ true
all_weaker p q [] so e = refl
all_weaker p q (x ∷ xs) so e =
    let a = both_true (p x) (list_all p xs) e in
    and_true _ _ (so x a.0) (all_weaker p q xs so a.1)

below_further : (n end limit : ℕ) → end ≤ limit → nat_lt n end ≡ true → nat_lt n limit ≡ true
below_further n end limit le e = let h : n < end = ltb-true _ _ e in lt-ltb _ _ (omega arith)

flag_again : (b : Bool) → eqb (flag b) 1 ≡ b
flag_again true = refl
flag_again false = refl

bytes_eq-itself : (xs : List ℕ) → bytes_eq xs xs ≡ true
bytes_eq-itself [] = refl
bytes_eq-itself (x ∷ xs) = and_true _ _ (eq-eqb x x refl) (bytes_eq-itself xs)

pub bytes_eq-true : (xs ys : List ℕ) → bytes_eq xs ys ≡ true → xs ≡ ys
bytes_eq-true [] [] e = refl
bytes_eq-true [] (y ∷ ys) e = absurd cc
bytes_eq-true (x ∷ xs) [] e = absurd cc
bytes_eq-true (x ∷ xs) (y ∷ ys) e =
    let parts = both_true (eqb x y) (bytes_eq xs ys) e in
    λ i. eqb-true x y parts.0 i ∷ bytes_eq-true xs ys parts.1 i

pub versions_fit : (r : Record) → is_record r ≡ true → FitsFields r → list_all (λ version. nat_lt version.serial (2 ^ 64) && nat_lt version.root (2 ^ 32)) r.versions ≡ true
versions_fit r lawful fit =
    all_both (λ version. nat_lt version.serial (2 ^ 64)) (λ version. nat_lt version.root (2 ^ 32)) r.versions
    (all_weaker (λ version. nat_lt version.serial r.next) (λ version. nat_lt version.serial (2 ^ 64)) r.versions (λ version e. below_further version.serial r.next (2 ^ 64) (let h : r.next < 2 ^ 64 = fit.next in omega arith) e) (serials_below r lawful))
    fit.roots

pub bad_fit : (r : Record) → is_record r ≡ true → FitsFields r → list_all (λ block. nat_lt block (2 ^ 32)) r.bad ≡ true
bad_fit r lawful fit =
    all_weaker (λ block. nat_lt block r.geometry.blocks) (λ block. nat_lt block (2 ^ 32)) r.bad (λ block e. below_further block r.geometry.blocks (2 ^ 32) (let h : r.geometry.blocks < 2 ^ 32 = fit.sizes.blocks in omega arith) e) (bad_below r lawful)

-- a format that is read fits its field
pub format_fits : (format : ℕ) → is_format format ≡ true → format < 2 ^ 32
format_fits format is = on (eqb format OLD_FORMAT) (eqb format FORMAT) refl refl is
  where
    on : (a b : Bool) → eqb format OLD_FORMAT ≡ a → eqb format FORMAT ≡ b → (a || b) ≡ true → format < 2 ^ 32
    on true b e f is = let h = eqb-true format OLD_FORMAT e in omega arith
    on false true e f is = let h = eqb-true format FORMAT f in omega arith
    on false false e f is = absurd cc

pub spelling_means : (r : Record) (one two : ℕ) → is_record r ≡ true → FitsFields r → two < 256 ^ 2 → meaning_of r.sequence (spelling one two r) ≡ Some r
unfolding meaning_of front_of
spelling_means r one two lawful fit small =
    let bytes = spelling one two r in
    let versions = flat_map version_bytes r.versions in
    let checkpoints = flat_map checkpoint_bytes r.checkpoints in
    let bad = flat_map block_field r.bad in
    let no_more : bad ++ [] ≡ bad = append-nil bad in
    step _ _ _ (number_again 4 r.format (sizes_bytes r.geometry ++ (counts_bytes one two r ++ lists_bytes r)) (format_fits r.format (counts_of r lawful).format))
    ∙ step _ _ _ (sizes_again r.geometry (counts_bytes one two r ++ lists_bytes r) fit.sizes)
    ∙ step _ _ _ (front_again r one two (lists_bytes r) lawful fit small)
    ∙ step _ _ _ (many_again version_at version_bytes (λ version. nat_lt version.serial (2 ^ 64) && nat_lt version.root (2 ^ 32)) version_again r.versions (checkpoints ++ bad) (versions_fit r lawful fit))
    ∙ step _ _ _ (many_again checkpoint_at checkpoint_bytes (λ checkpoint. is_checkpoint_name checkpoint.name && nat_lt checkpoint.root (2 ^ 32)) checkpoint_again r.checkpoints bad fit.checkpoints)
    ∙ step _ _ _ (ap (many_at block_at (length r.bad)) (sym no_more) ∙ many_again block_at block_field (λ block. nat_lt block (2 ^ 32)) block_again r.bad [] (bad_fit r lawful fit))
    ∙ ap (λ (b : Bool). if_spelled (record r { dropped = b }) one two bytes) (flag_again r.dropped)
    ∙ rw (lawful, bytes_eq-itself bytes) refl

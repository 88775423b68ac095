-- Entries that are known to stand in bytes: the bytes after one, and after some.
use Rattle.std.proofs.Common.{◌≡◌, ℕ, ◌+◌, ◌-◌, ◌<◌, ◌≤◌, true, List, ◌++◌, length, take, drop, Option, Some, None, IsSome, slice_index_or, refl, sym, ap, ◌∙◌, arith}
use Rattle.std.specs.Option.{option_map}
use Rattle.std.proofs.lemmas.List.{length-append, length-take, length-drop, take-append-drop, drop_at, take_all}
use Rattle.byteorder.specs.Endian.{little_bytes}
use Rattle.fields.specs.Numbers.{IsBytes}
use Rattle.node_format.specs.Items.{Item, are_entries}
use Rattle.node_format.specs.Directories.{head_of, size_of, item_bytes, items_bytes, item_at, items_at, AreSpelled}
use Rattle.node_format.specs.Links.{skipped}
use Rattle.node_format.proofs.DirectoryLaws.{item_takes, items_again, lawful_parts}
use Rattle.node_format.proofs.Passed.{IsPassed, front_entries, back_entries, one_left}
use Rattle.node_format.proofs.Parts.{cut_bytes, skipped_others}
use Rattle.node_format.proofs.Steps.{first_of_items, no_step}
use Rattle.node_format.proofs.LinkLaws.{skipped_goes_on}

pub some_value : {A : Type 0} (o : Option A) → IsSome o → (x : A) × (o ≡ Some x)
some_value None e = absurd cc
some_value (Some x) e = (x, refl)

is_some_by : {A : Type 0} (o : Option A) → (None ≡ o → ⊥) → IsSome o
is_some_by None h = absurd (h refl)
is_some_by (Some x) h = refl

-- ---- one entry

-- an entry has ten bytes and those of its name, whose number is in its second one
pub record IsStepOver (bytes : List ℕ) : Type 0 where
  pub two : 1 < length bytes
  pub within : 10 + slice_index_or bytes 1 0 ≤ length bytes
  pub after : option_map (λ x. x.1) (item_at bytes) ≡ Some (drop (10 + slice_index_or bytes 1 0) bytes)

pub step_over : (bytes : List ℕ) → IsBytes bytes → IsSome (item_at bytes) → IsStepOver bytes
step_over bytes fits some =
    let x = some_value (item_at bytes) some in
    let parts : bytes ≡ item_bytes x.0.0 ++ x.0.1 = (item_takes bytes x.0 fits x.1).0.parts in
    let item : Item = x.0.0 in
    let text : List ℕ = item_bytes item in
    let named : slice_index_or bytes 1 0 ≡ length item.name = ap (λ (b : List ℕ). slice_index_or b 1 0) parts in
    let one : length text ≡ 10 + length item.name = omega (arith, length-append item.name (little_bytes 4 (head_of item.place) ++ little_bytes 4 (size_of item.place))) in
    let size : length bytes ≡ length text + length x.0.1 = ap length parts ∙ length-append text x.0.1 in
    let rest : drop (10 + slice_index_or bytes 1 0) bytes ≡ x.0.1 =
    ap (drop (10 + slice_index_or bytes 1 0)) parts ∙ drop_at text x.0.1 (10 + slice_index_or bytes 1 0) (omega (arith, one, named)) in
    record {
      two = omega (arith, size, one);
      within = omega (arith, size, one, named);
      after = ap (option_map (λ (y : Item × List ℕ). y.1)) x.1 ∙ ap (λ (r : List ℕ). Some r) (sym rest);
    }

-- what the slice from there on is
pub all_left : (k : ℕ) (bytes : List ℕ) → take (length bytes - k) (drop k bytes) ≡ drop k bytes
all_left k bytes = take_all (length bytes - k) (drop k bytes) (omega (arith, length-drop k bytes))

-- ---- some entries

-- where entries are left, one begins the bytes
pub known_one : (count : ℕ) (bytes : List ℕ) → 0 < count → length (items_at count bytes) ≡ count → IsSome (item_at bytes)
known_one count bytes some counted =
    is_some_by (item_at bytes) (λ none. let e = ap length (no_step count bytes some none) in omega (arith, e, counted))

pub known_left : (items : List Item) (count : ℕ) (bytes : List ℕ) (name : List ℕ) (done : ℕ) (rest : List ℕ) → done < count → IsPassed items count bytes name done rest → IsSome (item_at rest)
known_left items count bytes name done rest lt so_far = is_some_by (item_at rest) (λ none. one_left items count bytes name done rest lt none so_far)

-- one more was stepped over
pub record IsSkipped (count : ℕ) (bytes : List ℕ) (done : ℕ) (rest : List ℕ) : Type 0 where
  pub left : skipped (count - done) rest ≡ skipped count bytes
  pub known : length (items_at (count - done) rest) ≡ count - done

pub skip_one : (count : ℕ) (bytes : List ℕ) (done : ℕ) (rest after : List ℕ) → done < count → option_map (λ x. x.1) (item_at rest) ≡ Some after → IsSkipped count bytes done rest → IsSkipped count bytes (done + 1) after
skip_one count bytes done rest after lt read so_far =
    let x = some_value (item_at rest) (known_one (count - done) rest (omega arith) so_far.known) in
    let same : x.0.1 ≡ after = one (item_at rest) x.0 x.1 read in
    let first = first_of_items (count - done) (count - (done + 1)) rest x.0.0 x.0.1 (omega arith) (sym x.1) in
    record {
      left = ap (skipped (count - (done + 1))) (sym same) ∙ skipped_goes_on count done rest x.0 _ lt (sym x.1) so_far.left;
      known = ap (λ (b : List ℕ). length (items_at (count - (done + 1)) b)) (sym same) ∙ omega (arith, ap length first, so_far.known);
    }
  where
    one : (o : Option (Item × List ℕ)) (x : Item × List ℕ) → o ≡ Some x → option_map (λ (y : Item × List ℕ). y.1) o ≡ Some after → x.1 ≡ after
    one None x e f = absurd cc
    one (Some y) x e f = cc

-- the first entries of a list are known in its bytes
pub known_front : (k : ℕ) (bytes : List ℕ) (items : List Item) → are_entries items ≡ true → k ≤ length items → bytes ≡ items_bytes items → length (items_at k bytes) ≡ k
known_front k bytes items lawful le spelled =
    let front = take k items in
    let entries = front_entries front (drop k items) (ap are_entries (take-append-drop k items) ∙ lawful) in
    let size : length front ≡ k = omega (arith, length-take k items) in
    let read : items_at k bytes ≡ front =
    ap (items_at k) (spelled ∙ cut_bytes k items) ∙ ap (λ (n : ℕ). items_at n (items_bytes front ++ items_bytes (drop k items))) (sym size) ∙ items_again front (items_bytes (drop k items)) (lawful_parts front entries).each in
    ap length read ∙ size

-- and so are some after the first ones
pub known_later : (all from count : ℕ) (bytes start : List ℕ) (items : List Item) → AreSpelled all bytes items → from + count ≤ length items → start ≡ skipped from bytes → length (items_at count start) ≡ count
known_later all from count bytes start items whole le start_is =
    let later = drop from items in
    let lawful = back_entries (take from items) later (ap are_entries (take-append-drop from items) ∙ whole.lawful) in
    known_front count start later lawful (omega (arith, length-drop from items)) (start_is ∙ skipped_others from bytes items whole.lawful (omega arith) whole.spelled)

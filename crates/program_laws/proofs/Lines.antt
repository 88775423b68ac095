-- What is told of one thing is one line.
use Rattle.std.proofs.Common.{◌≡◌, ◌≢◌, ◌∙◌, ◌+◌, ℕ, zero, suc, Bool, true, false, List, [], ◌∷◌, ◌++◌, append_assoc, refl, sym, ap, arith}
use Rattle.std.proofs.lemmas.Bool.{true≢false, and_parts, eq-eqb, leb-true}
use Rattle.std.proofs.lemmas.List.Elements.{All-nil, All-cons, All-append}
use Rattle.std.specs.Prelude.{◌==◌, ◌&&◌, ◌^◌, ◌/◌, ◌%◌, Option, Some, None, nat_lt, nat_le, not, codes, decimal, length, sum_by, if◌then◌else◌}
use Rattle.std.specs.Fmt.{digits, digit_glyph, digits_onto}
use Rattle.std.specs.List.{flat_map, list_all}
use Rattle.fs_types.specs.Names.{Name, Path}
use Rattle.fs_types.specs.declared.call.Stat.{Stat}
use Rattle.fs_types.specs.declared.call.View.{View}
use Rattle.history_machine.specs.Machine.{Machine, view_tree}
use Rattle.plain_trees.specs.Trees.{Tree}
use Rattle.script.specs.Replies.{escaped, escaped_byte, hex_pair}
use Rattle.script.specs.Streams.{IsWithoutLf}
use Rattle.script.specs.Words.{is_plain}
use Rattle.system.specs.declared.version_space.VersionSpace.{VersionSpace}
use Rattle.inquiries.specs.Items.{item_at, items_of}
use Rattle.inquiries.specs.Counterparts.{stat_there}
use Rattle.inquiries.specs.PathHistories.{state_line, state_text, view_text}
use Rattle.inquiries.specs.Printed.{slashed, path_text, stat_mark, item_line, file_bytes, count_text, sizes_text}
use Rattle.inquiries.specs.Versions.{view_sizes, frees_text, alone_text, kept_text, checkpoint_line}
use Rattle.inquiries.specs.declared.items.Item.{Item}
use Rattle.program_laws.specs.DifferenceLaw.{Sign, sign_line}
use Rattle.program_laws.specs.VersionsLaw.{ToldVersion, told_line}
use Rattle.program_laws.specs.LineLaw.{IsLine, LineLaw}

-- ---- bytes without LF

none : IsWithoutLf []
none = All-nil (λ b. b ≢ 10)

one : (b : ℕ) (bytes : List ℕ) → b ≢ 10 → IsWithoutLf bytes → IsWithoutLf (b ∷ bytes)
one b bytes other rest = All-cons (λ c. c ≢ 10) b bytes other rest

both : (xs ys : List ℕ) → IsWithoutLf xs → IsWithoutLf ys → IsWithoutLf (xs ++ ys)
both xs ys first second = All-append (λ b. b ≢ 10) xs ys first second

joined : {X : Type 0} (f : X → List ℕ) (xs : List X) → ((x : X) → IsWithoutLf (f x)) → IsWithoutLf (flat_map f xs)
joined f [] each = none
joined f (x ∷ xs) each = both (f x) (flat_map f xs) (each x) (joined f xs each)

tested : (xs : List ℕ) → list_all (λ b. not (b == 10)) xs ≡ true → IsWithoutLf xs
tested [] passes = none
tested (x ∷ xs) passes =
    let parts = and_parts (not (x == 10)) (list_all (λ b. not (b == 10)) xs) passes in
    one x xs (λ same. true≢false (sym parts.0 ∙ ap not (eq-eqb x 10 same))) (tested xs parts.1)

-- ---- numbers and names

digit_other : (upper : Bool) (d : ℕ) → digit_glyph upper d ≢ 10
digit_other upper d = go (nat_lt d 10) upper
  where
    go : (b upper : Bool) → (if b then 48 + d else (if upper then 55 + d else 87 + d)) ≢ 10
    go true upper same = omega (arith, same)
    go false true same = omega (arith, same)
    go false false same = omega (arith, same)

digits_other : (k base : ℕ) (upper : Bool) (n : ℕ) (bytes : List ℕ) → IsWithoutLf bytes → IsWithoutLf (digits_onto k base upper n bytes)
digits_other zero base upper n bytes rest = rest
digits_other (suc k) base upper n bytes rest =
    let more : IsWithoutLf (digit_glyph upper (n % base) ∷ bytes) = one (digit_glyph upper (n % base)) bytes (digit_other upper (n % base)) rest in
    go (n / base == 0) more (digits_other k base upper (n / base) (digit_glyph upper (n % base) ∷ bytes) more)
  where
    go : (b : Bool) → IsWithoutLf (digit_glyph upper (n % base) ∷ bytes) → IsWithoutLf (digits_onto k base upper (n / base) (digit_glyph upper (n % base) ∷ bytes))
        → IsWithoutLf (if b then digit_glyph upper (n % base) ∷ bytes else digits_onto k base upper (n / base) (digit_glyph upper (n % base) ∷ bytes))
    go true more all = more
    go false more all = all

number : (n : ℕ) → IsWithoutLf (decimal n)
unfolding digits
number n = digits_other 64 10 false n [] none

byte_other : (b : ℕ) → IsWithoutLf (escaped_byte b)
byte_other b = go (is_plain b) refl
  where
    go : (plain : Bool) → is_plain b ≡ plain → IsWithoutLf (if plain then b ∷ [] else 37 ∷ hex_pair true b)
    go true is =
        let parts = and_parts (nat_le 33 b && nat_le b 126) (not (b == 37)) is in
        let least = leb-true 33 b (and_parts (nat_le 33 b) (nat_le b 126) parts.0).0 in
        one b [] (λ same. omega (arith, same, least)) none
    go false is =
        one 37 (hex_pair true b) (λ same. omega (arith, same))
        (one (digit_glyph true (b / 16)) (digit_glyph true (b % 16) ∷ []) (digit_other true (b / 16)) (one (digit_glyph true (b % 16)) [] (digit_other true (b % 16)) none))

name : (bytes : Name) → IsWithoutLf (escaped bytes)
name bytes = joined escaped_byte bytes byte_other

path : (p : Path) → IsWithoutLf (path_text p)
path p = joined slashed p (λ n. both (codes "/") (escaped n) (tested (codes "/") refl) (name n))

mark : (stat : Stat) → IsWithoutLf (stat_mark stat)
mark (Stat.Dir entries) = tested (codes "/") refl
mark (Stat.File bytes) = both (codes " ") (decimal bytes) (tested (codes " ") refl) (number bytes)

-- ---- how much stands in a tree, and what is kept

count : (n : ℕ) → IsWithoutLf (count_text n)
count n = go (nat_lt n (2 ^ 64))
  where
    go : (b : Bool) → IsWithoutLf (if b then decimal n else codes ">18446744073709551615")
    go true = number n
    go false = tested (codes ">18446744073709551615") refl

sizes : (items : List Item) → IsWithoutLf (sizes_text items)
sizes items =
    both (codes " entries " ++ count_text (length items) ++ codes " bytes ") (count_text (sum_by file_bytes items))
    (both (codes " entries " ++ count_text (length items)) (codes " bytes ") (both (codes " entries ") (count_text (length items)) (tested (codes " entries ") refl) (count (length items))) (tested (codes " bytes ") refl))
    (count (sum_by file_bytes items))

alone : (n : ℕ) → IsWithoutLf (alone_text n)
alone n = both (codes " alone ") (decimal n) (tested (codes " alone ") refl) (number n)

frees : (o : Option ℕ) → IsWithoutLf (frees_text o)
frees (Some n) = both (codes " frees ") (decimal n) (tested (codes " frees ") refl) (number n)
frees None = none

kept : (space : VersionSpace) → IsWithoutLf (kept_text space)
unfolding kept_text
kept space = both (frees_text space.frees) (alone_text space.alone) (frees space.frees) (alone space.alone)

present : (b : Bool) → IsWithoutLf (if b then codes " present" else [])
present true = tested (codes " present") refl
present false = none

-- ---- lines

ended : (bytes : List ℕ) → IsWithoutLf bytes → IsLine (bytes ++ codes "\n")
ended bytes without = record { bytes = bytes; is = refl; without = without }

led : (bytes text : List ℕ) → IsWithoutLf bytes → IsLine text → IsLine (bytes ++ text)
led bytes text without line = record {
  bytes = bytes ++ line.bytes;
  is = ap (λ (rest : List ℕ). bytes ++ rest) line.is ∙ sym (append_assoc bytes line.bytes (codes "\n"));
  without = both bytes line.bytes without line.without;
}

of_item : (item : Item) → IsLine (item_line item)
of_item item = ended (path_text item.path ++ stat_mark item.stat) (both (path_text item.path) (stat_mark item.stat) (path item.path) (mark item.stat))

of_version : (m : Machine) (told : ToldVersion) → IsLine (told_line m told)
of_version m told =
    let start : List ℕ = codes "@" ++ decimal told.serial in
    let sized : List ℕ = view_sizes m (View.Serial told.serial) in
    let last : List ℕ = if told.is_present then codes " present" else [] in
    ended (start ++ sized ++ kept_text told.kept ++ last)
    (both (start ++ sized ++ kept_text told.kept) last
    (both (start ++ sized) (kept_text told.kept) (both start sized (both (codes "@") (decimal told.serial) (tested (codes "@") refl) (number told.serial)) (sizes (items_of (view_tree m (View.Serial told.serial))))) (kept told.kept))
    (present told.is_present))

of_checkpoint : (m : Machine) (checkpoint : Name × ℕ) → IsLine (checkpoint_line m checkpoint)
of_checkpoint m checkpoint =
    let start : List ℕ = codes "=" ++ escaped checkpoint.0 in
    let sized : List ℕ = view_sizes m (View.Checkpoint checkpoint.0) in
    ended (start ++ sized ++ alone_text checkpoint.1)
    (both (start ++ sized) (alone_text checkpoint.1) (both start sized (both (codes "=") (escaped checkpoint.0) (tested (codes "=") refl) (name checkpoint.0)) (sizes (items_of (view_tree m (View.Checkpoint checkpoint.0))))) (alone checkpoint.1))

of_difference : (old new : Tree) (sign : Sign) (p : Path) → IsLine (sign_line old new (sign, p))
of_difference old new Sign.Went p = led (codes "- ") (item_line (item_at old p)) (tested (codes "- ") refl) (of_item (item_at old p))
of_difference old new Sign.Changed p = ended (codes "~ " ++ path_text p) (both (codes "~ ") (path_text p) (tested (codes "~ ") refl) (path p))
of_difference old new Sign.Came p = led (codes "+ ") (item_line (item_at new p)) (tested (codes "+ ") refl) (of_item (item_at new p))

of_view : (b : Bool) (view : View) → IsWithoutLf (view_text b view)
of_view b View.Present = none
of_view true (View.Serial serial) = both (codes "*") (decimal serial) (tested (codes "*") refl) (number serial)
of_view false (View.Serial serial) = number serial
of_view b (View.Checkpoint bytes) = both (codes "=") (escaped bytes) (tested (codes "=") refl) (name bytes)

of_stat : (o : Option Stat) → IsLine (state_text o)
of_stat None = ended (codes " none") (tested (codes " none") refl)
of_stat (Some (Stat.Dir entries)) = ended (codes " dir " ++ decimal entries) (both (codes " dir ") (decimal entries) (tested (codes " dir ") refl) (number entries))
of_stat (Some (Stat.File bytes)) = ended (codes " file " ++ decimal bytes) (both (codes " file ") (decimal bytes) (tested (codes " file ") refl) (number bytes))

of_state : (m : Machine) (p : Path) (b : Bool) (view : View) → IsLine (state_line m p b view)
of_state m p b view = led (view_text b view) (state_text (stat_there (view_tree m view) p)) (of_view b view) (of_stat (stat_there (view_tree m view) p))

pub line_law : LineLaw
line_law = record { items = of_item; differences = of_difference; versions = of_version; states = of_state; checkpoints = of_checkpoint }

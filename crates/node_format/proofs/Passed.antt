-- A search among entries: what was passed comes before the name, and the others are left.
use Rattle.std.proofs.Common.{◌≡◌, ℕ, ◌+◌, ◌-◌, ◌<◌, ◌≤◌, true, List, [], ◌∷◌, ◌++◌, length, take, Some, None, refl, sym, ap, subst, ◌∙◌, append_assoc, arith}
use Rattle.std.specs.List.{list_all}
use Rattle.std.proofs.lemmas.List.{append-nil, take_at, length-append}
use Rattle.std.proofs.lemmas.List.Folds.{list_all-append}
use Rattle.std.proofs.lemmas.List.Concat.{flat_map-cons, flat_map-append}
use Rattle.std.specs.Ordering.{is_lt, ordering_reverse}
use Rattle.std.specs.declared.cmp.Ordering.TheVariants.{Equal, Greater}
use Rattle.std.proofs.lemmas.Cmp.{nat_list_cmp_total}
use Rattle.fs_types.specs.Names.{Name, name_cmp}
use Rattle.node_format.specs.Items.{Item, is_item, is_before, are_ascending, are_entries}
use Rattle.node_format.specs.Directories.{item_bytes, items_bytes, item_at, items_at, AreSpelled}
use Rattle.node_format.specs.Edits.{AreFront, IsSplit, entry_to}
use Rattle.node_format.specs.Order.{same_from_tie, both_true, and_true, all_after, ascending_parts}
use Rattle.node_format.proofs.DirectoryLaws.{items_again, lawful_parts, lawful_from}
use Rattle.node_format.proofs.Steps.{step, no_step}

-- so many entries were passed, all before the name, and the others stand in the rest
pub record IsPassed (items : List Item) (count : ℕ) (bytes : List ℕ) (name : Name) (done : ℕ) (rest : List ℕ) : Type 0 where
  pub passed : List Item
  pub parts : items ≡ passed ++ items_at (count - done) rest
  pub counted : length passed ≡ done
  pub spelled : bytes ≡ items_bytes passed ++ rest
  pub before : list_all (λ item. is_before item.name name) passed ≡ true
  pub others : AreSpelled (count - done) rest (items_at (count - done) rest)

pub passed_none : (count : ℕ) (bytes : List ℕ) (name : Name) → AreSpelled count bytes (items_at count bytes) → IsPassed (items_at count bytes) count bytes name 0 bytes
passed_none count bytes name whole =
    let all : count - 0 ≡ count = omega arith in
    record {
      passed = [];
      parts = ap (λ (k : ℕ). items_at k bytes) (sym all);
      counted = refl;
      spelled = refl;
      before = refl;
      others = subst (λ (k : ℕ). AreSpelled k bytes (items_at k bytes)) (sym all) whole;
    }

pub pass_one : (items : List Item) (count : ℕ) (bytes : List ℕ) (name : Name) (done : ℕ) (rest : List ℕ) (item : Item) (after : List ℕ) → done < count
    → Some (item, after) ≡ item_at rest → is_before item.name name ≡ true → IsPassed items count bytes name done rest → IsPassed items count bytes name (done + 1) after
pass_one items count bytes name done rest item after lt read before_it so_far =
    let s = step (count - done) (count - (done + 1)) rest item after (omega arith) read so_far.others in
    let others = items_at (count - (done + 1)) after in
    let rest_is : rest ≡ item_bytes item ++ after = so_far.others.spelled ∙ ap items_bytes s.first ∙ flat_map-cons item_bytes item others ∙ ap (λ (x : List ℕ). item_bytes item ++ x) (sym s.others.spelled) in
    let one : items_bytes (so_far.passed ++ item ∷ []) ≡ items_bytes so_far.passed ++ item_bytes item =
    flat_map-append item_bytes so_far.passed (item ∷ []) ∙ ap (λ (x : List ℕ). items_bytes so_far.passed ++ x) (append-nil (item_bytes item)) in
    record {
      passed = so_far.passed ++ item ∷ [];
      parts = so_far.parts ∙ ap (λ (x : List Item). so_far.passed ++ x) s.first ∙ sym (append_assoc so_far.passed (item ∷ []) others);
      counted = omega (arith, length-append so_far.passed (item ∷ []), so_far.counted);
      spelled = so_far.spelled ∙ ap (λ (x : List ℕ). items_bytes so_far.passed ++ x) rest_is ∙ sym (append_assoc (items_bytes so_far.passed) (item_bytes item) after) ∙ ap (λ (x : List ℕ). x ++ after) (sym one);
      before = list_all-append (λ other. is_before other.name name) so_far.passed (item ∷ []) ∙ and_true _ _ so_far.before (and_true _ _ before_it refl);
      others = s.others;
    }

-- the first entries are entries of a directory
pub front_entries : (front back : List Item) → are_entries (front ++ back) ≡ true → are_entries front ≡ true
front_entries front back lawful =
    let l = lawful_parts (front ++ back) lawful in
    let each = both_true (list_all is_item front) (list_all is_item back) (sym (list_all-append is_item front back) ∙ l.each) in
    lawful_from front (record { few = omega (arith, l.few, length-append front back); each = each.0; ascending = (ascending_parts front back l.ascending).front_ascends })

-- and so are the last ones
pub back_entries : (front back : List Item) → are_entries (front ++ back) ≡ true → are_entries back ≡ true
back_entries front back lawful =
    let l = lawful_parts (front ++ back) lawful in
    let each = both_true (list_all is_item front) (list_all is_item back) (sym (list_all-append is_item front back) ∙ l.each) in
    lawful_from back (record { few = omega (arith, l.few, length-append front back); each = each.1; ascending = (ascending_parts front back l.ascending).back_ascends })

-- entries stand in the bytes before the rest
pub record IsFront (bytes rest : List ℕ) (done : ℕ) (passed : List Item) : Type 0 where
  pub within : length rest ≤ length bytes
  pub read : items_at done (take (length bytes - length rest) bytes) ≡ passed
  pub spelled : AreFront done bytes rest

pub cut_front : (bytes rest : List ℕ) (done : ℕ) (passed : List Item) → are_entries passed ≡ true → length passed ≡ done → bytes ≡ items_bytes passed ++ rest → IsFront bytes rest done passed
cut_front bytes rest done passed entries counted parts =
    let text = items_bytes passed in
    let sizes : length bytes ≡ length text + length rest = ap length parts ∙ length-append text rest in
    let front : take (length bytes - length rest) bytes ≡ text =
    ap (take (length bytes - length rest)) parts ∙ take_at text rest (length bytes - length rest) (omega arith) in
    let again : items_at done text ≡ passed =
    ap (λ (k : ℕ). items_at k text) (sym counted) ∙ ap (items_at (length passed)) (sym (append-nil text)) ∙ items_again passed [] (lawful_parts passed entries).each in
    let read : items_at done (take (length bytes - length rest) bytes) ≡ passed = ap (items_at done) front ∙ again in
    record {
      within = omega arith;
      read = read;
      spelled = record { lawful = ap are_entries read ∙ entries; counted = ap length read ∙ counted; spelled = front ∙ ap items_bytes (sym read) };
    }

-- what was passed stands in the bytes before the rest
pub passed_front : (items : List Item) (count : ℕ) (bytes : List ℕ) (name : Name) (done : ℕ) (rest : List ℕ) → are_entries items ≡ true → (so_far : IsPassed items count bytes name done rest) → IsFront bytes rest done so_far.passed
passed_front items count bytes name done rest lawful so_far =
    cut_front bytes rest done so_far.passed (front_entries so_far.passed (items_at (count - done) rest) (ap are_entries (sym so_far.parts) ∙ lawful)) so_far.counted so_far.spelled

-- the entries after the first one are after its name
after_first : (item : Item) (items : List Item) → are_entries (item ∷ items) ≡ true → list_all (λ other. is_before item.name other.name) items ≡ true
after_first item items lawful =
    (both_true (list_all (λ other. is_before item.name other.name) items) (are_ascending items) (lawful_parts (item ∷ items) lawful).ascending).0

pub split_found : (items : List Item) (count : ℕ) (bytes : List ℕ) (name : Name) (done : ℕ) (rest : List ℕ) (item : Item) (after : List ℕ) (front : List Item) → done < count
    → Some (item, after) ≡ item_at rest → name_cmp item.name name ≡ Equal → (so_far : IsPassed items count bytes name done rest) → front ≡ so_far.passed
    → IsSplit items name front (Some item.place) (items_at (count - done - 1) after) × AreSpelled (count - done - 1) after (items_at (count - done - 1) after)
split_found items count bytes name done rest item after front lt read tie so_far is_front =
    let s = step (count - done) (count - done - 1) rest item after (omega arith) read so_far.others in
    let others = items_at (count - done - 1) after in
    let same : item.name ≡ name = same_from_tie item.name name tie in
    let late = after_first item others (ap are_entries (sym s.first) ∙ so_far.others.lawful) in
    let named_so : item ∷ others ≡ entry_to name (Some item.place) ++ others = ap (λ (n : Name). (record { name = n; place = item.place }) ∷ others) same in (
      record {
        parts = so_far.parts ∙ ap (λ (x : List Item). so_far.passed ++ x) (s.first ∙ named_so) ∙ ap (λ (x : List Item). x ++ (entry_to name (Some item.place) ++ others)) (sym is_front);
        before = ap (list_all (λ other. is_before other.name name)) is_front ∙ so_far.before;
        after = subst (λ (n : Name). list_all (λ other. is_before n other.name) others ≡ true) same late;
      },
      s.others,
    )

pub split_beyond : (items : List Item) (count : ℕ) (bytes : List ℕ) (name : Name) (done : ℕ) (rest : List ℕ) (item : Item) (after : List ℕ) (front : List Item) → done < count
    → Some (item, after) ≡ item_at rest → name_cmp item.name name ≡ Greater → (so_far : IsPassed items count bytes name done rest) → front ≡ so_far.passed
    → IsSplit items name front None (items_at (count - done) rest)
split_beyond items count bytes name done rest item after front lt read beyond so_far is_front =
    let s = step (count - done) (count - done - 1) rest item after (omega arith) read so_far.others in
    let others = items_at (count - done - 1) after in
    let late = after_first item others (ap are_entries (sym s.first) ∙ so_far.others.lawful) in
    let first : is_before name item.name ≡ true = ap is_lt (nat_list_cmp_total.antisymm name item.name ∙ ap ordering_reverse beyond) in
    record {
      parts = so_far.parts ∙ ap (λ (x : List Item). x ++ items_at (count - done) rest) (sym is_front);
      before = ap (list_all (λ other. is_before other.name name)) is_front ∙ so_far.before;
      after = ap (list_all (λ other. is_before name other.name)) s.first ∙ and_true _ _ first (all_after name item.name others first late);
    }

-- where entries are left, one can be read
pub one_left : (items : List Item) (count : ℕ) (bytes : List ℕ) (name : Name) (done : ℕ) (rest : List ℕ) → done < count → None ≡ item_at rest → IsPassed items count bytes name done rest → ⊥
one_left items count bytes name done rest lt none so_far =
    let e = ap length (no_step (count - done) rest (omega arith) none) in
    let k = so_far.others.counted in
    omega arith

-- Entries with one name changed.
use Rattle.std.proofs.Common.{◌≡◌, ℕ, ◌+◌, ◌^◌, ◌<◌, ◌≤◌, Bool, true, false, cond, List, [], ◌∷◌, ◌++◌, length, Option, Some, None, refl, sym, ap, subst, ◌∙◌, arith}
use Rattle.std.specs.Prelude.{◌&&◌}
use Rattle.std.specs.List.{list_all}
use Rattle.std.proofs.lemmas.List.{append-nil, length-append}
use Rattle.std.proofs.lemmas.List.Folds.{list_all-append}
use Rattle.std.proofs.lemmas.List.Concat.{flat_map-append}
use Rattle.fs_types.specs.declared.limits.TheConstants.{MAX_ENTRIES}
use Rattle.fs_types.specs.Names.{Name, same_name, is_name}
use Rattle.node_format.specs.declared.place.Place.{Place}
use Rattle.node_format.specs.Items.{Item, is_item, is_place, is_before, are_ascending, are_entries, named_place}
use Rattle.node_format.specs.Directories.{item_bytes, items_bytes, items_at, AreSpelled}
use Rattle.node_format.specs.Edits.{IsSplit, IsEdited, entry_to, edited_count}
use Rattle.node_format.specs.EntryLaws.{same_name-true, same_name-self, before-differs, after-differs}
use Rattle.node_format.specs.Order.{both_true, and_true, all_after}
use Rattle.node_format.proofs.DirectoryLaws.{list_most, items_bytes-most, lawful_parts, lawful_from}
use Rattle.node_format.proofs.Parts.{extended}

-- ---- what names lead to

named_skips : (front back : List Item) (name : Name) → list_all (λ item. is_before item.name name) front ≡ true → named_place (front ++ back) name ≡ named_place back name
named_skips [] back name before = refl
named_skips (item ∷ front) back name before =
    let parts = both_true (is_before item.name name) (list_all (λ other. is_before other.name name) front) before in
    rw (before-differs item.name name parts.0) (named_skips front back name parts.1)

named_none : (back : List Item) (name : Name) → list_all (λ item. is_before name item.name) back ≡ true → named_place back name ≡ None
named_none [] name after = refl
named_none (item ∷ back) name after =
    let parts = both_true (is_before name item.name) (list_all (λ other. is_before name other.name) back) after in
    rw (after-differs name item.name parts.0) (named_none back name parts.1)

-- a name leads where its entry says
pub named_own : (front back : List Item) (name : Name) (place : Option Place) → list_all (λ item. is_before item.name name) front ≡ true → list_all (λ item. is_before name item.name) back ≡ true
    → named_place (front ++ (entry_to name place ++ back)) name ≡ place
named_own front back name None before after = named_skips front back name before ∙ named_none back name after
named_own front back name (Some place) before after = named_skips front ((record { name = name; place = place }) ∷ back) name before ∙ rw (same_name-self name) refl

-- another name leads where it does without the entry
named_other : (front back : List Item) (name other : Name) (place : Option Place) → same_name name other ≡ false → named_place (front ++ (entry_to name place ++ back)) other ≡ named_place (front ++ back) other
named_other [] back name other None differs = refl
named_other [] back name other (Some place) differs = rw differs refl
named_other (item ∷ front) back name other place differs =
    ap (λ (rest : Option Place). cond (same_name item.name other) (Some item.place) rest) (named_other front back name other place differs)

bool_cases : (b : Bool) {G : Type 0} → (b ≡ true → G) → (b ≡ false → G) → G
bool_cases true t f = t refl
bool_cases false t f = f refl

pub named_around : (front back : List Item) (name : Name) (place was : Option Place) → list_all (λ item. is_before item.name name) front ≡ true → list_all (λ item. is_before name item.name) back ≡ true
    → (other : Name) → named_place (front ++ (entry_to name place ++ back)) other ≡ cond (same_name name other) place (named_place (front ++ (entry_to name was ++ back)) other)
named_around front back name place was before after other = bool_cases (same_name name other)
    (λ same. subst (λ (n : Name). named_place (front ++ (entry_to name place ++ back)) n ≡ place) (same_name-true name other same) (named_own front back name place before after)
    ∙ rw same refl)
    (λ differs. named_other front back name other place differs ∙ sym (named_other front back name other was differs) ∙ rw differs refl)

pub split_named : (items front back : List Item) (name : Name) (found : Option Place) → IsSplit items name front found back → named_place items name ≡ found
split_named items front back name found split = ap (λ (x : List Item). named_place x name) split.parts ∙ named_own front back name found split.before split.after

-- ---- the changed entries

across_after : (front back : List Item) (name : Name) → list_all (λ item. is_before item.name name) front ≡ true → list_all (λ item. is_before name item.name) back ≡ true
    → list_all (λ item. list_all (λ other. is_before item.name other.name) back) front ≡ true
across_after [] back name before after = refl
across_after (item ∷ front) back name before after =
    let parts = both_true (is_before item.name name) (list_all (λ other. is_before other.name name) front) before in
    and_true _ _ (all_after item.name name back parts.0 after) (across_after front back name parts.1 after)

across_from : (front back : List Item) (first : Item) → list_all (λ item. is_before item.name first.name) front ≡ true → list_all (λ item. is_before first.name item.name) back ≡ true
    → list_all (λ item. list_all (λ other. is_before item.name other.name) (first ∷ back)) front ≡ true
across_from [] back first before after = refl
across_from (item ∷ front) back first before after =
    let parts = both_true (is_before item.name first.name) (list_all (λ other. is_before other.name first.name) front) before in
    and_true _ _ (and_true _ _ parts.0 (all_after item.name first.name back parts.0 after)) (across_from front back first parts.1 after)

ascending_join : (front back : List Item) → are_ascending front ≡ true → are_ascending back ≡ true → list_all (λ item. list_all (λ other. is_before item.name other.name) back) front ≡ true → are_ascending (front ++ back) ≡ true
ascending_join [] back f b across = b
ascending_join (item ∷ front) back f b across =
    let own = both_true (list_all (λ other. is_before item.name other.name) front) (are_ascending front) f in
    let first = both_true (list_all (λ other. is_before item.name other.name) back) (list_all (λ x. list_all (λ other. is_before x.name other.name) back) front) across in
    and_true _ _ (list_all-append (λ other. is_before item.name other.name) front back ∙ and_true _ _ own.0 first.0) (ascending_join front back own.1 b first.1)

-- the entries around a name, with another entry of it or none
abbrev pub is_lawful_entry : Name → Option Place → Bool
is_lawful_entry name None = true
is_lawful_entry name (Some place) = is_name name && is_place place

ascending_around : (front back : List Item) (name : Name) (place : Option Place) → are_ascending front ≡ true → are_ascending back ≡ true
    → list_all (λ item. is_before item.name name) front ≡ true → list_all (λ item. is_before name item.name) back ≡ true → are_ascending (front ++ (entry_to name place ++ back)) ≡ true
ascending_around front back name None f b before after = ascending_join front back f b (across_after front back name before after)
ascending_around front back name (Some place) f b before after =
    let item : Item = record { name = name; place = place } in
    ascending_join front (item ∷ back) f (and_true _ _ after b) (across_from front back item before after)

each_around : (front back : List Item) (name : Name) (place : Option Place) → list_all is_item front ≡ true → list_all is_item back ≡ true → is_lawful_entry name place ≡ true → list_all is_item (front ++ (entry_to name place ++ back)) ≡ true
each_around front back name None f b lawful = list_all-append is_item front back ∙ and_true _ _ f b
each_around front back name (Some place) f b lawful =
    list_all-append is_item front ((record { name = name; place = place }) ∷ back) ∙ and_true _ _ f (and_true _ _ lawful b)

pub entries_around : (front back : List Item) (name : Name) (place : Option Place) → are_entries front ≡ true → are_entries back ≡ true → is_lawful_entry name place ≡ true
    → list_all (λ item. is_before item.name name) front ≡ true → list_all (λ item. is_before name item.name) back ≡ true
    → length (front ++ (entry_to name place ++ back)) ≤ MAX_ENTRIES → are_entries (front ++ (entry_to name place ++ back)) ≡ true
entries_around front back name place f b lawful before after few =
    let pf = lawful_parts front f in
    let pb = lawful_parts back b in
    lawful_from (front ++ (entry_to name place ++ back))
    (record { few = few; each = each_around front back name place pf.each pb.each lawful; ascending = ascending_around front back name place pf.ascending pb.ascending before after })

-- ---- the bytes

-- the spelling of entries around a name
items_bytes-around : (front back : List Item) (name : Name) (place : Option Place) → items_bytes (front ++ (entry_to name place ++ back)) ≡ items_bytes front ++ (items_bytes (entry_to name place) ++ items_bytes back)
items_bytes-around front back name place =
    flat_map-append item_bytes front (entry_to name place ++ back) ∙ ap (λ (x : List ℕ). items_bytes front ++ x) (flat_map-append item_bytes (entry_to name place) back)

-- ---- how many entries there are

count_around : (items front back : List Item) (name : Name) (place found : Option Place) → IsSplit items name front found back → length (front ++ (entry_to name place ++ back)) ≡ edited_count found place (length items)
count_around items front back name None None split = ap length (sym split.parts)
count_around items front back name (Some place) None split =
    omega (arith, ap length split.parts, length-append front back, length-append front ((record { name = name; place = place }) ∷ back))
count_around items front back name None (Some was) split =
    omega (arith, ap length split.parts, length-append front ((record { name = name; place = was }) ∷ back), length-append front back)
count_around items front back name (Some place) (Some was) split =
    omega (arith, ap length split.parts, length-append front ((record { name = name; place = was }) ∷ back), length-append front ((record { name = name; place = place }) ∷ back))

-- how many entries there are with one put
pub few_with : (items front back : List Item) (name : Name) (place : Place) (found : Option Place) → IsSplit items name front found back → length items ≤ MAX_ENTRIES → (found ≡ None → length items < MAX_ENTRIES)
    → length (front ++ (entry_to name (Some place) ++ back)) ≤ MAX_ENTRIES
few_with items front back name place None split few capacity =
    let less = capacity refl in
    omega (arith, ap length split.parts, length-append front back, length-append front ((record { name = name; place = place }) ∷ back))
few_with items front back name place (Some was) split few capacity =
    omega (arith, ap length split.parts, length-append front ((record { name = name; place = was }) ∷ back), length-append front ((record { name = name; place = place }) ∷ back))

pub few_without : (items front back : List Item) (name : Name) (found : Option Place) → IsSplit items name front found back → length items ≤ MAX_ENTRIES → length (front ++ back) ≤ MAX_ENTRIES
few_without items front back name None split few = omega (arith, ap length split.parts)
few_without items front back name (Some was) split few =
    omega (arith, ap length split.parts, length-append front ((record { name = name; place = was }) ∷ back), length-append front back)

-- what a list with one name changed is
pub record IsWritten (items : List Item) (name : Name) (place : Option Place) (count : ℕ) (bytes : List ℕ) : Type 0 where
  pub spelled : AreSpelled count bytes (items_at count bytes)
  pub edit : IsEdited items name place (items_at count bytes)

written : (items front back : List Item) (name : Name) (place found : Option Place) (fc bc : ℕ) (fb mb bb bytes : List ℕ) → IsSplit items name front found back
    → AreSpelled fc fb front → AreSpelled bc bb back → is_lawful_entry name place ≡ true → mb ≡ items_bytes (entry_to name place) → length (front ++ (entry_to name place ++ back)) ≤ MAX_ENTRIES
    → bytes ≡ fb ++ (mb ++ bb) → IsWritten items name place (fc + (length (entry_to name place) + bc)) bytes
written items front back name place found fc bc fb mb bb bytes split f b lawful middle few is =
    let new = front ++ (entry_to name place ++ back) in
    let entries : are_entries new ≡ true = entries_around front back name place f.lawful b.lawful lawful split.before split.after few in
    let text : bytes ≡ items_bytes new = is ∙ (λ i. f.spelled i ++ (middle i ++ b.spelled i)) ∙ sym (items_bytes-around front back name place) in
    let made : AreSpelled (fc + (length (entry_to name place) + bc)) bytes new = record {
      lawful = entries;
      counted = omega (arith, length-append front (entry_to name place ++ back), length-append (entry_to name place) back, f.counted, b.counted);
      spelled = text;
    } in
    let e = extended (fc + (length (entry_to name place) + bc)) bytes new made in
    let edit : IsEdited items name place new = record {
      lawful = entries;
      counted = count_around items front back name place found split ∙ ap (λ (o : Option Place). edited_count o place (length items)) (sym (split_named items front back name found split));
      leads = λ other. named_around front back name place found split.before split.after other
          ∙ ap (λ (x : List Item). cond (same_name name other) place (named_place x other)) (sym split.parts);
    } in
    record { spelled = e.spelled; edit = subst (IsEdited items name place) (sym e.read) edit }

pub written_with : (items front back : List Item) (name : Name) (place : Place) (found : Option Place) (fc bc : ℕ) (fb mb bb bytes : List ℕ) → IsSplit items name front found back
    → length items ≤ MAX_ENTRIES → (named_place items name ≡ None → length items < MAX_ENTRIES) → is_name name ≡ true → is_place place ≡ true
    → AreSpelled fc fb front → AreSpelled bc bb back → mb ≡ item_bytes (record { name = name; place = place })
    → bytes ≡ fb ++ (mb ++ bb) → IsWritten items name (Some place) (fc + (1 + bc)) bytes
written_with items front back name place found fc bc fb mb bb bytes split few capacity lawful place_lawful f b middle is =
    written items front back name (Some place) found fc bc fb mb bb bytes split f b (and_true _ _ lawful place_lawful)
    (middle ∙ sym (append-nil (item_bytes (record { name = name; place = place }))))
    (few_with items front back name place found split few (λ none. capacity (split_named items front back name found split ∙ none))) is

pub written_without : (items front back : List Item) (name : Name) (found : Option Place) (fc bc : ℕ) (fb bb bytes : List ℕ) → IsSplit items name front found back
    → length items ≤ MAX_ENTRIES → AreSpelled fc fb front → AreSpelled bc bb back → bytes ≡ fb ++ ([] ++ bb) → IsWritten items name None (fc + bc) bytes
written_without items front back name found fc bc fb bb bytes split few f b is =
    let count : fc + (0 + bc) ≡ fc + bc = omega arith in
    subst (λ (k : ℕ). IsWritten items name None k bytes) count
    (written items front back name None found fc bc fb [] bb bytes split f b refl refl (few_without items front back name found split few) is)

-- the bytes of both parts are few
pub parts_fit : (items front back : List Item) (name : Name) (found : Option Place) (fc bc : ℕ) (fb bb : List ℕ) → IsSplit items name front found back → AreSpelled fc fb front → AreSpelled bc bb back → length fb + length bb ≤ 151552
parts_fit items front back name found fc bc fb bb split f b =
    omega (arith, ap length f.spelled, ap length b.spelled, list_most front f.lawful, list_most back b.lawful)

-- and so are those with an entry put between them
pub parts_fit_with : (items front back : List Item) (name : Name) (place : Place) (found : Option Place) (fc bc : ℕ) (fb mb bb : List ℕ) → IsSplit items name front found back → AreSpelled fc fb front → AreSpelled bc bb back
    → is_name name ≡ true → is_place place ≡ true → mb ≡ item_bytes (record { name = name; place = place }) → length fb + (length mb + length bb) < 2 ^ 32
parts_fit_with items front back name place found fc bc fb mb bb split f b lawful place_lawful middle =
    let item : Item = record { name = name; place = place } in
    let most = items_bytes-most (item ∷ []) (and_true _ _ (and_true _ _ lawful place_lawful) refl) in
    let size : length mb ≡ length (items_bytes (item ∷ [])) = ap length (middle ∙ sym (append-nil (item_bytes item))) in
    omega (arith, parts_fit items front back name found fc bc fb bb split f b, most, size)

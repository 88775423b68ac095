-- Entries that are read are spelled so, and what is spelled so is read.
use Rattle.std.proofs.Common.{◌≡◌, ℕ, zero, suc, ◌+◌, ◌≤◌, Bool, true, false, cond, eqb, ltb, leb, ◌*◌, List, [], ◌∷◌, ◌++◌, length, Option, Some, None, refl, sym, ap, subst, ◌∙◌, append_assoc, arith}
use Rattle.std.specs.Option.{option_map_or}
use Rattle.std.specs.List.{list_all}
use Rattle.std.proofs.lemmas.Bool.{eqb-true, le-leb, le-ltb, leb-true, eq-eqb}
use Rattle.std.specs.Prelude.{◌&&◌}
use Rattle.std.proofs.lemmas.List.{append-nil, nil_from_length, length-append}
use Rattle.std.proofs.lemmas.List.Concat.{flat_map-cons}
use Rattle.byteorder.specs.Endian.{little_bytes}
use Rattle.fields.specs.Numbers.{IsBytes, byte_at, number_at}
use Rattle.fields.proofs.Found.{bind_some, some_is}
use Rattle.fields.proofs.NumberLaws.{Takes, Takes-then, byte_takes, number_takes, number_again}
use Rattle.fs_types.specs.declared.limits.TheConstants.{NODE_ENTRIES, MAX_ENTRIES}
use Rattle.fs_types.specs.Names.{Name, is_name, is_lawful}
use Rattle.node_format.specs.Items.{Item, is_place, is_item, is_before, are_ascending, are_entries}
use Rattle.node_format.specs.Directories.{name_at, place_at, kind_of, head_of, size_of, item_bytes, items_bytes, item_at, items_at, are_filled, entries_at, AreSpelled}
use Rattle.node_format.specs.Order.{both_true, and_true, all_after}
use Rattle.node_format.proofs.Fields.{name_takes, name_again, place_takes, place_again, head_fits, size_fits}

-- ---- one entry

pub item_takes : (bytes : List ℕ) (x : Item × List ℕ) → IsBytes bytes → item_at bytes ≡ Some x → Takes bytes (item_bytes x.0) x.1 × (is_item x.0 ≡ true)
unfolding item_at
item_takes bytes x fits e =
    let a = bind_some (byte_at bytes) _ x e in
    let b = bind_some (byte_at a.0.1) _ x a.2 in
    let n = bind_some (name_at b.0.0 b.0.1) _ x b.2 in
    let h = bind_some (number_at 4 n.0.1) _ x n.2 in
    let s = bind_some (number_at 4 h.0.1) _ x h.2 in
    let p = bind_some (place_at a.0.0 h.0.0 s.0.0) _ x s.2 in
    let ta = byte_takes bytes a.0.0 a.0.1 fits a.1 in
    let tb = byte_takes a.0.1 b.0.0 b.0.1 ta.rest_fits b.1 in
    let tn = name_takes b.0.0 b.0.1 n.0.0 n.0.1 tb.rest_fits n.1 in
    let th = number_takes 4 n.0.1 h.0.0 h.0.1 tn.0.rest_fits h.1 in
    let ts = number_takes 4 h.0.1 s.0.0 s.0.1 th.0.rest_fits s.1 in
    let fields = place_takes a.0.0 h.0.0 s.0.0 p.0 th.1 p.1 in
    let numbers = Takes-then n.0.1 (little_bytes 4 h.0.0) h.0.1 (little_bytes 4 s.0.0) s.0.1 th.0 ts.0 in
    let rest = Takes-then b.0.1 n.0.0 n.0.1 (little_bytes 4 h.0.0 ++ little_bytes 4 s.0.0) s.0.1 tn.0 numbers in
    let front = Takes-then bytes (a.0.0 ∷ []) a.0.1 (b.0.0 ∷ []) b.0.1 ta tb in
    let whole = Takes-then bytes (a.0.0 ∷ b.0.0 ∷ []) b.0.1 (n.0.0 ++ (little_bytes 4 h.0.0 ++ little_bytes 4 s.0.0)) s.0.1 front rest in
    let made : Item × List ℕ = (record { name = n.0.0; place = p.0 }, s.0.1) in
    let same : (a.0.0 ∷ b.0.0 ∷ []) ++ (n.0.0 ++ (little_bytes 4 h.0.0 ++ little_bytes 4 s.0.0)) ≡ item_bytes made.0 =
    λ i. (fields.kind i ∷ sym tn.1 i ∷ []) ++ (n.0.0 ++ (little_bytes 4 (fields.head i) ++ little_bytes 4 (fields.size i))) in
    let taken : Takes bytes (item_bytes made.0) made.1 = subst (λ (text : List ℕ). Takes bytes text made.1) same whole in
    subst (λ (y : Item × List ℕ). Takes bytes (item_bytes y.0) y.1 × (is_item y.0 ≡ true)) (some_is made x p.2) (taken, and_true _ _ tn.2 fields.lawful)

pub item_again : (item : Item) (rest : List ℕ) → is_item item ≡ true → item_at (item_bytes item ++ rest) ≡ Some (item, rest)
unfolding item_at
item_again item rest lawful =
    let parts = both_true (is_name item.name) (is_place item.place) lawful in
    let head = little_bytes 4 (head_of item.place) in
    let size = little_bytes 4 (size_of item.place) in
    let tail : (item.name ++ (head ++ size)) ++ rest ≡ item.name ++ (head ++ (size ++ rest)) =
    append_assoc item.name (head ++ size) rest ∙ ap (λ (x : List ℕ). item.name ++ x) (append_assoc head size rest) in
    let regrouped : item_bytes item ++ rest ≡ kind_of item.place ∷ length item.name ∷ (item.name ++ (head ++ (size ++ rest))) =
    ap (λ (x : List ℕ). kind_of item.place ∷ length item.name ∷ x) tail in
    ap item_at regrouped
    ∙ rw (name_again item.name (head ++ (size ++ rest)) parts.0, number_again 4 (head_of item.place) (size ++ rest) (head_fits item.place parts.1), number_again 4 (size_of item.place) rest (size_fits item.place parts.1), place_again item.place parts.1) refl

-- ---- entries

-- a lawful name comes after no bytes
named_after : (name : Name) → is_name name ≡ true → is_before [] name ≡ true
named_after [] lawful = absurd cc
named_after (b ∷ name) lawful = refl

after_nothing : (items : List Item) → list_all is_item items ≡ true → list_all (λ other. is_before [] other.name) items ≡ true
after_nothing [] each = refl
after_nothing (item ∷ items) each =
    let parts = both_true (is_item item) (list_all is_item items) each in
    let name = both_true (is_name item.name) (is_place item.place) parts.0 in
    and_true _ _ (named_after item.name name.0) (after_nothing items parts.1)

pub kept_true : (b c : Bool) → cond b c false ≡ true → (b ≡ true) × (c ≡ true)
kept_true true c e = (refl, e)
kept_true false c e = absurd cc

-- what was read of entries that fill the bytes, after a name
pub record HasEntries (count : ℕ) (before : Name) (bytes : List ℕ) (items : List Item) : Type 0 where
  pub counted : length items ≡ count
  pub spelled : bytes ≡ items_bytes items
  pub each : list_all is_item items ≡ true
  pub after : list_all (λ other. is_before before other.name) items ≡ true
  pub ascending : are_ascending items ≡ true

pub filled_takes : (count : ℕ) (before : Name) (bytes : List ℕ) → IsBytes bytes → are_filled count before bytes ≡ true → HasEntries count before bytes (items_at count bytes)
unfolding are_filled items_at
filled_takes zero before bytes fits e =
    record { counted = refl; spelled = nil_from_length bytes (eqb-true _ _ e); each = refl; after = refl; ascending = refl }
filled_takes (suc count) before bytes fits e = on (item_at bytes) refl e (λ b after. filled_takes count b after)
  where
    on : (read : Option (Item × List ℕ)) → item_at bytes ≡ read → option_map_or (λ x. cond (is_before before x.0.name) (are_filled count x.0.name x.1) false) read false ≡ true
        → ((b : Name) (after : List ℕ) → IsBytes after → are_filled count b after ≡ true → HasEntries count b after (items_at count after))
        → HasEntries (suc count) before bytes (option_map_or (λ x. x.0 ∷ items_at count x.1) read [])
    on None is filled again = absurd cc
    on (Some x) is filled again =
        let g = kept_true (is_before before x.0.name) (are_filled count x.0.name x.1) filled in
        let first = item_takes bytes x fits is in
        let others = again x.0.name x.1 first.0.rest_fits g.1 in
        let items = items_at count x.1 in
        record {
          counted = ap suc others.counted;
          spelled = first.0.parts ∙ ap (λ (t : List ℕ). item_bytes x.0 ++ t) others.spelled ∙ sym (flat_map-cons item_bytes x.0 items);
          each = and_true _ _ first.1 others.each;
          after = and_true _ _ g.0 (all_after before x.0.name items g.0 others.after);
          ascending = and_true _ _ others.after others.ascending;
        }

pub items_again : (items : List Item) (rest : List ℕ) → list_all is_item items ≡ true → items_at (length items) (items_bytes items ++ rest) ≡ items
unfolding items_at
items_again [] rest each = refl
items_again (item ∷ items) rest each =
    let parts = both_true (is_item item) (list_all is_item items) each in
    let regrouped : items_bytes (item ∷ items) ++ rest ≡ item_bytes item ++ (items_bytes items ++ rest) =
    ap (λ (x : List ℕ). x ++ rest) (flat_map-cons item_bytes item items) ∙ append_assoc (item_bytes item) (items_bytes items) rest in
    ap (items_at (suc (length items))) regrouped ∙ rw (item_again item (items_bytes items ++ rest) parts.0, items_again items rest parts.1) refl

pub filled_again : (before : Name) (items : List Item) → list_all is_item items ≡ true → list_all (λ other. is_before before other.name) items ≡ true → are_ascending items ≡ true
    → are_filled (length items) before (items_bytes items) ≡ true
unfolding are_filled
filled_again before [] each after ascending = refl
filled_again before (item ∷ items) each after ascending =
    let parts = both_true (is_item item) (list_all is_item items) each in
    let first = both_true (is_before before item.name) (list_all (λ other. is_before before other.name) items) after in
    let order = both_true (list_all (λ other. is_before item.name other.name) items) (are_ascending items) ascending in
    ap (are_filled (suc (length items)) before) (flat_map-cons item_bytes item items)
    ∙ rw (item_again item (items_bytes items) parts.0, first.0, filled_again item.name items parts.1 order.0 order.1) refl

-- entries that fill the bytes, at most as many as a node has, are those of a directory
pub filled_spelled : (count : ℕ) (before : Name) (bytes : List ℕ) → IsBytes bytes → count ≤ NODE_ENTRIES → are_filled count before bytes ≡ true → AreSpelled count bytes (items_at count bytes)
filled_spelled count before bytes fits few filled =
    let h = filled_takes count before bytes fits filled in
    record {
      lawful = and_true _ _ (le-leb (length (items_at count bytes)) MAX_ENTRIES (omega (arith, h.counted))) (and_true _ _ h.each h.ascending);
      counted = h.counted;
      spelled = h.spelled;
    }

pub are_spelled : (count : ℕ) (bytes : List ℕ) → IsBytes bytes → count ≤ NODE_ENTRIES → are_filled count [] bytes ≡ true → AreSpelled count bytes (items_at count bytes)
are_spelled count = filled_spelled count []

-- what is known of the entries of a directory
pub record AreLawful (items : List Item) : Type 0 where
  pub few : length items ≤ MAX_ENTRIES
  pub each : list_all is_item items ≡ true
  pub ascending : are_ascending items ≡ true

pub lawful_parts : (items : List Item) → are_entries items ≡ true → AreLawful items
lawful_parts items lawful =
    let outer = both_true (leb (length items) MAX_ENTRIES) (list_all is_item items && are_ascending items) lawful in
    let inner = both_true (list_all is_item items) (are_ascending items) outer.1 in
    record { few = leb-true _ _ outer.0; each = inner.0; ascending = inner.1 }

pub lawful_from : (items : List Item) → AreLawful items → are_entries items ≡ true
lawful_from items l = and_true _ _ (le-leb (length items) MAX_ENTRIES l.few) (and_true _ _ l.each l.ascending)

pub entries_again : (items : List Item) → are_entries items ≡ true → length items ≤ NODE_ENTRIES → entries_at (length items) (length (items_bytes items)) (items_bytes items) ≡ Some items
unfolding entries_at
entries_again items lawful le =
    let l = lawful_parts items lawful in
    let few : ltb NODE_ENTRIES (length items) ≡ false = le-ltb _ _ le in
    let same : eqb (length (items_bytes items)) (length (items_bytes items)) ≡ true = eq-eqb _ _ refl in
    let filled = filled_again [] items l.each (after_nothing items l.each) l.ascending in
    let read : items_at (length items) (items_bytes items) ≡ items = ap (items_at (length items)) (sym (append-nil (items_bytes items))) ∙ items_again items [] l.each in
    rw (few, same, filled, read) refl

-- an entry has at most 74 bytes
pub items_bytes-most : (items : List Item) → list_all is_item items ≡ true → length (items_bytes items) ≤ 74 * length items
items_bytes-most [] each = omega arith
items_bytes-most (item ∷ items) each =
    let parts = both_true (is_item item) (list_all is_item items) each in
    let name = both_true (is_name item.name) (is_place item.place) parts.0 in
    let short : length item.name ≤ 64 = leb-true _ _ (both_true (is_lawful item.name) (leb (length item.name) 64) name.0).1 in
    let others = items_bytes-most items parts.1 in
    let whole : length (items_bytes (item ∷ items)) ≡ length (item_bytes item) + length (items_bytes items) = ap length (flat_map-cons item_bytes item items) ∙ length-append (item_bytes item) (items_bytes items) in
    let one : length (item_bytes item) ≡ suc (suc (length item.name + 8)) = ap (λ (k : ℕ). suc (suc k)) (length-append item.name (little_bytes 4 (head_of item.place) ++ little_bytes 4 (size_of item.place))) in
    omega (arith, whole, one, others, short)

-- the entries of a node have at most 2,368 bytes
pub used_most : (items : List Item) → are_entries items ≡ true → length items ≤ NODE_ENTRIES → length (items_bytes items) ≤ 2368
used_most items lawful few = omega (arith, items_bytes-most items (lawful_parts items lawful).each, few)

-- and those of a directory at most 75,776
pub list_most : (items : List Item) → are_entries items ≡ true → length (items_bytes items) ≤ 75776
list_most items lawful =
    let l = lawful_parts items lawful in
    omega (arith, items_bytes-most items l.each, l.few)

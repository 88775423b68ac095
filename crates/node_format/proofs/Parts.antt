-- Entries that are spelled, in parts.
use Rattle.std.proofs.Common.{◌≡◌, ℕ, suc, ◌+◌, ◌≤◌, true, List, [], ◌∷◌, ◌++◌, length, take, drop, refl, sym, ap, subst, ◌∙◌, append_assoc, arith}
use Rattle.std.specs.List.{list_all}
use Rattle.std.proofs.lemmas.List.{append-nil, length-append, length-take, length-drop, take-append-drop}
use Rattle.std.proofs.lemmas.List.Folds.{list_all-append}
use Rattle.std.proofs.lemmas.List.Concat.{flat_map-cons, flat_map-append}
use Rattle.fs_types.specs.declared.limits.TheConstants.{MAX_ENTRIES}
use Rattle.node_format.specs.Items.{Item, is_item, are_ascending, are_entries}
use Rattle.node_format.specs.Directories.{item_bytes, items_bytes, items_at, AreSpelled}
use Rattle.node_format.specs.Links.{skipped}
use Rattle.node_format.specs.Order.{both_true, and_true}
use Rattle.node_format.proofs.DirectoryLaws.{item_again, items_again, lawful_parts, lawful_from}
use Rattle.node_format.proofs.Passed.{IsFront, cut_front, front_entries, back_entries}

pub skipped_again : (front : List Item) (back : List ℕ) → list_all is_item front ≡ true → skipped (length front) (items_bytes front ++ back) ≡ back
unfolding skipped
skipped_again [] back each = refl
skipped_again (item ∷ front) back each =
    let parts = both_true (is_item item) (list_all is_item front) each in
    let regrouped : items_bytes (item ∷ front) ++ back ≡ item_bytes item ++ (items_bytes front ++ back) =
    ap (λ (x : List ℕ). x ++ back) (flat_map-cons item_bytes item front) ∙ append_assoc (item_bytes item) (items_bytes front) back in
    ap (skipped (suc (length front))) regrouped ∙ rw (item_again item (items_bytes front ++ back) parts.0) (skipped_again front back parts.1)

-- the spelling of the first entries and of the others
pub cut_bytes : (k : ℕ) (items : List Item) → items_bytes items ≡ items_bytes (take k items) ++ items_bytes (drop k items)
cut_bytes k items = ap items_bytes (sym (take-append-drop k items)) ∙ flat_map-append item_bytes (take k items) (drop k items)

-- after the first entries the others are left
pub skipped_others : (k : ℕ) (bytes : List ℕ) (items : List Item) → are_entries items ≡ true → k ≤ length items → bytes ≡ items_bytes items → skipped k bytes ≡ items_bytes (drop k items)
skipped_others k bytes items lawful le spelled =
    let front = take k items in
    let entries = front_entries front (drop k items) (ap are_entries (take-append-drop k items) ∙ lawful) in
    let size : length front ≡ k = omega (arith, length-take k items) in
    ap (skipped k) (spelled ∙ cut_bytes k items) ∙ ap (λ (n : ℕ). skipped n (items_bytes front ++ items_bytes (drop k items))) (sym size)
    ∙ skipped_again front (items_bytes (drop k items)) (lawful_parts front entries).each

-- entries in the midst of others stand in the bytes that are left before them and not after them
pub part_front : (all from count : ℕ) (bytes start others : List ℕ) (items : List Item) → AreSpelled all bytes items → from + count ≤ length items → start ≡ skipped from bytes → others ≡ skipped count start
    → IsFront start others count (take count (drop from items))
part_front all from count bytes start others items whole le start_is others_is =
    let later = drop from items in
    let lawful = back_entries (take from items) later (ap are_entries (take-append-drop from items) ∙ whole.lawful) in
    let start' : start ≡ items_bytes later = start_is ∙ skipped_others from bytes items whole.lawful (omega arith) whole.spelled in
    let enough : count ≤ length later = omega (arith, length-drop from items) in
    let others' : others ≡ items_bytes (drop count later) = others_is ∙ skipped_others count start later lawful enough start' in
    cut_front start others count (take count later) (front_entries (take count later) (drop count later) (ap are_entries (take-append-drop count later) ∙ lawful)) (omega (arith, length-take count later, enough))
    (start' ∙ cut_bytes count later ∙ ap (λ (x : List ℕ). items_bytes (take count later) ++ x) (sym others'))

-- ---- entries put together

-- what is spelled is read
pub read_again : (count : ℕ) (bytes : List ℕ) (items : List Item) → AreSpelled count bytes items → items_at count bytes ≡ items
read_again count bytes items s =
    ap (λ (k : ℕ). items_at k bytes) (sym s.counted) ∙ ap (items_at (length items)) (s.spelled ∙ sym (append-nil (items_bytes items))) ∙ items_again items [] (lawful_parts items s.lawful).each

-- entries after others
spelled_both : (m n : ℕ) (front back : List ℕ) (first others : List Item) → AreSpelled m front first → AreSpelled n back others → length first + length others ≤ MAX_ENTRIES → are_ascending (first ++ others) ≡ true
    → AreSpelled (m + n) (front ++ back) (first ++ others)
spelled_both m n front back first others f b few order =
    let each = list_all-append is_item first others ∙ and_true _ _ (lawful_parts first f.lawful).each (lawful_parts others b.lawful).each in
    record {
      lawful = lawful_from (first ++ others) (record { few = omega (arith, length-append first others); each = each; ascending = order });
      counted = omega (arith, length-append first others, f.counted, b.counted);
      spelled = ap (λ (x : List ℕ). x ++ back) f.spelled ∙ ap (λ (x : List ℕ). items_bytes first ++ x) b.spelled ∙ sym (flat_map-append item_bytes first others);
    }

-- what a list is after it was extended
pub record IsExtended (count : ℕ) (bytes : List ℕ) (items : List Item) : Type 0 where
  pub spelled : AreSpelled count bytes (items_at count bytes)
  pub read : items_at count bytes ≡ items

pub extended : (count : ℕ) (bytes : List ℕ) (items : List Item) → AreSpelled count bytes items → IsExtended count bytes items
extended count bytes items s =
    let read = read_again count bytes items s in
    record { spelled = subst (AreSpelled count bytes) (sym read) s; read = read }

pub nothing_spelled : (bytes : List ℕ) → bytes ≡ [] → IsExtended 0 bytes []
nothing_spelled bytes none = extended 0 bytes [] (record { lawful = refl; counted = refl; spelled = none })

pub spelled_after : (m n : ℕ) (front back bytes : List ℕ) (first others : List Item) → AreSpelled m front first → AreSpelled n back others → length first + length others ≤ MAX_ENTRIES → are_ascending (first ++ others) ≡ true
    → bytes ≡ front ++ back → IsExtended (m + n) bytes (first ++ others)
spelled_after m n front back bytes first others f b few order is =
    let both = spelled_both m n front back first others f b few order in
    extended (m + n) bytes (first ++ others) (record { lawful = both.lawful; counted = both.counted; spelled = is ∙ both.spelled })

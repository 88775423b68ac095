-- Taking the first entry off.
use Rattle.std.proofs.Common.{◌≡◌, ℕ, suc, ◌-◌, ◌<◌, true, List, [], ◌∷◌, ◌++◌, length, Some, None, refl, sym, ap, ◌∙◌, arith}
use Rattle.std.specs.List.{list_all}
use Rattle.std.proofs.lemmas.List.Concat.{flat_map-cons}
use Rattle.node_format.specs.Items.{Item, is_item, is_before, are_ascending, are_entries}
use Rattle.node_format.specs.Directories.{item_bytes, items_bytes, item_at, items_at, AreSpelled}
use Rattle.node_format.specs.Order.{both_true}
use Rattle.fields.proofs.Found.{some_is}
use Rattle.node_format.proofs.DirectoryLaws.{item_again, lawful_parts, lawful_from}

-- the entries after the first one
pub tail_entries : (item : Item) (items : List Item) → are_entries (item ∷ items) ≡ true → (is_item item ≡ true) × (are_entries items ≡ true)
tail_entries item items lawful =
    let l = lawful_parts (item ∷ items) lawful in
    let each = both_true (is_item item) (list_all is_item items) l.each in
    let order = both_true (list_all (λ other. is_before item.name other.name) items) (are_ascending items) l.ascending in
    (each.0, lawful_from items (record { few = omega (arith, l.few); each = each.1; ascending = order.1 }))

-- what is left after the first entry
pub record IsStep (count left : ℕ) (bytes : List ℕ) (item : Item) (after : List ℕ) : Type 0 where
  pub first : items_at count bytes ≡ item ∷ items_at left after
  pub others : AreSpelled left after (items_at left after)

pub first_of_items : (count left : ℕ) (bytes : List ℕ) (item : Item) (after : List ℕ) → count ≡ suc left → Some (item, after) ≡ item_at bytes → items_at count bytes ≡ item ∷ items_at left after
unfolding items_at
first_of_items count left bytes item after k read = rw (k, sym read) refl

pub step : (count left : ℕ) (bytes : List ℕ) (item : Item) (after : List ℕ) → count ≡ suc left → Some (item, after) ≡ item_at bytes → AreSpelled count bytes (items_at count bytes) → IsStep count left bytes item after
step count left bytes item after k read whole =
    let first = first_of_items count left bytes item after k read in
    let others = items_at left after in
    let parts = tail_entries item others (ap are_entries (sym first) ∙ whole.lawful) in
    let bytes_are : bytes ≡ item_bytes item ++ items_bytes others = whole.spelled ∙ ap items_bytes first ∙ flat_map-cons item_bytes item others in
    let same : after ≡ items_bytes others = ap (λ (x : Item × List ℕ). x.1) (some_is (item, after) (item, items_bytes others) (read ∙ ap item_at bytes_are ∙ item_again item (items_bytes others) parts.0)) in
    let counted : suc (length others) ≡ count = ap length (sym first) ∙ whole.counted in
    record { first = first; others = record { lawful = parts.1; counted = omega arith; spelled = same } }

pub no_step : (count : ℕ) (bytes : List ℕ) → 0 < count → None ≡ item_at bytes → items_at count bytes ≡ []
unfolding items_at
no_step count bytes some read =
    let k : count ≡ suc (count - 1) = omega arith in
    rw (k, sym read) refl

-- an iteration gets nearer its end
pub shorter : (items others : List Item) (item : Item) → items ≡ item ∷ others → length others < length items
shorter items others item e = let h = ap length e in omega arith

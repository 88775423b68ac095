-- Entries checked and split at a name in one pass.
use Rattle.std.proofs.Common.{◌≡◌, ℕ, ◌+◌, ◌-◌, ◌<◌, ◌≤◌, true, List, [], Option, Some, sym, ap, subst, ◌∙◌, arith}
use Rattle.fields.specs.Numbers.{IsBytes}
use Rattle.fs_types.specs.Names.{Name}
use Rattle.fs_types.specs.declared.limits.TheConstants.{NODE_ENTRIES}
use Rattle.node_format.specs.Items.{Item, is_before}
use Rattle.node_format.specs.Edits.{IsSplit}
use Rattle.node_format.specs.declared.place.Place.{Place}
use Rattle.node_format.specs.Directories.{item_at, items_at, are_filled, AreSpelled}
use Rattle.node_format.proofs.DirectoryLaws.{are_spelled}
use Rattle.node_format.proofs.Filled.{filled_goes_on}
use Rattle.node_format.proofs.Passed.{IsPassed, IsFront, passed_front}

-- so many entries were gone over, all before the name: what is left decides whether they fill the bytes
pub record IsGoneOver (count : ℕ) (bytes : List ℕ) (name : Name) (done : ℕ) (before : Name) (rest : List ℕ) : Type 0 where
  pub filled : are_filled (count - done) before rest ≡ are_filled count [] bytes
  pub passed : are_filled count [] bytes ≡ true → IsPassed (items_at count bytes) count bytes name done rest

-- what is known of them where they do
pub record IsWhole (count : ℕ) (bytes : List ℕ) (name : Name) (done : ℕ) (rest : List ℕ) : Type 0 where
  pub filled : are_filled count [] bytes ≡ true
  pub all : AreSpelled count bytes (items_at count bytes)
  pub so_far : IsPassed (items_at count bytes) count bytes name done rest
  pub front : IsFront bytes rest done so_far.passed

whole_of : (count : ℕ) (bytes : List ℕ) (name : Name) (done : ℕ) (before : Name) (rest : List ℕ) → IsBytes bytes → count ≤ NODE_ENTRIES → IsGoneOver count bytes name done before rest → are_filled count [] bytes ≡ true → IsWhole count bytes name done rest
whole_of count bytes name done before rest fits few gone filled =
    let all = are_spelled count bytes fits few filled in
    let so_far = gone.passed filled in
    record { filled = filled; all = all; so_far = so_far; front = passed_front _ _ _ _ _ _ all.lawful so_far }

-- where the entries after one fill what is left, all fill the bytes
pub whole_at : (count : ℕ) (bytes : List ℕ) (name : Name) (done : ℕ) (before : Name) (rest : List ℕ) (item : Item) (after : List ℕ) → IsBytes bytes → count ≤ NODE_ENTRIES → IsGoneOver count bytes name done before rest
    → done < count → Some (item, after) ≡ item_at rest → is_before before item.name ≡ true → are_filled (count - done - 1) item.name after ≡ true → IsWhole count bytes name done rest
whole_at count bytes name done before rest item after fits few gone lt read before_it others =
    let k : count - (done + 1) ≡ count - done - 1 = omega arith in
    whole_of count bytes name done before rest fits few gone
    (sym (filled_goes_on count done before rest item after _ lt read before_it gone.filled) ∙ ap (λ (n : ℕ). are_filled n item.name after) k ∙ others)

-- and so do they where none is left and nothing follows
pub whole_end : (count : ℕ) (bytes : List ℕ) (name : Name) (done : ℕ) (before : Name) (rest : List ℕ) → IsBytes bytes → count ≤ NODE_ENTRIES → IsGoneOver count bytes name done before rest
    → count ≤ done → are_filled 0 before rest ≡ true → IsWhole count bytes name done rest
whole_end count bytes name done before rest fits few gone le empty =
    let none : count - done ≡ 0 = omega arith in
    whole_of count bytes name done before rest fits few gone (sym gone.filled ∙ ap (λ (n : ℕ). are_filled n before rest) none ∙ empty)

-- a split in other words
pub same_split : (items : List Item) (name : Name) (front front' : List Item) (found found' : Option Place) (back back' : List Item) → front' ≡ front → found' ≡ found → back' ≡ back → IsSplit items name front found back → IsSplit items name front' found' back'
same_split items name front front' found found' back back' f o b split =
    subst (λ (x : List Item). IsSplit items name x found' back') (sym f)
    (subst (λ (x : Option Place). IsSplit items name front x back') (sym o) (subst (λ (x : List Item). IsSplit items name front found x) (sym b) split))

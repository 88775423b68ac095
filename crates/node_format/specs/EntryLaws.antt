-- What is true of the names of entries that ascend.
use Rattle.std.proofs.Common.{◌≡◌, ℕ, zero, suc, ◌<◌, Bool, true, false, cond, ◌⊎◌, inl, inr, List, [], ◌∷◌, length, Option, Some, refl, sym, ap, subst, ◌∙◌, arith}
use Rattle.std.specs.Prelude.{Contains, slice_index_or, nat_eq}
use Rattle.std.specs.List.{list_all}
use Rattle.std.specs.Ordering.{is_lt}
use Rattle.std.proofs.lemmas.Bool.{eqb-true, eq-eqb}
use Rattle.std.proofs.lemmas.Cmp.{nat_list_cmp_total, tied_itself}
use Rattle.fs_types.specs.Names.{Name, same_name}
use Rattle.node_format.specs.Items.{Item, is_before, are_ascending, named_place}
use Rattle.node_format.specs.Order.{both_true, and_true}
use Rattle.node_format.specs.declared.place.Place.{Place}

-- which way a test went
chosen : {A : Type 0} (b : Bool) (x y z : A) → cond b x y ≡ z → ((b ≡ true) × (x ≡ z)) ⊎ ((b ≡ false) × (y ≡ z))
chosen true x y z e = inl (refl, e)
chosen false x y z e = inr (refl, e)

abbrev some_place : Place → Option Place
some_place place = Some place

place_is : (x y : Place) → some_place x ≡ some_place y → x ≡ y
place_is x y e = cc

pub same_name-true : (a b : Name) → same_name a b ≡ true → a ≡ b
same_name-true [] [] e = refl
same_name-true [] (y ∷ b) e = absurd cc
same_name-true (x ∷ a) [] e = absurd cc
same_name-true (x ∷ a) (y ∷ b) e =
    let parts = both_true (nat_eq x y) (same_name a b) e in
    λ i. eqb-true x y parts.0 i ∷ same_name-true a b parts.1 i

pub same_name-self : (a : Name) → same_name a a ≡ true
same_name-self [] = refl
same_name-self (x ∷ a) = and_true _ _ (eq-eqb x x refl) (same_name-self a)

not_before_itself : (a : Name) → is_before a a ≡ true → ⊥
not_before_itself a e = let tie = ap is_lt (tied_itself nat_list_cmp_total a) in absurd cc

false_by : (b : Bool) → (b ≡ true → ⊥) → b ≡ false
false_by true h = absurd (h refl)
false_by false h = refl

-- a name that comes before another is not the same
pub before-differs : (a b : Name) → is_before a b ≡ true → same_name a b ≡ false
before-differs a b e = false_by (same_name a b) (λ same. not_before_itself b (subst (λ (n : Name). is_before n b ≡ true) (same_name-true a b same) e))

-- nor one that comes after it
pub after-differs : (a b : Name) → is_before a b ≡ true → same_name b a ≡ false
after-differs a b e = false_by (same_name b a) (λ same. not_before_itself a (subst (λ (n : Name). is_before a n ≡ true) (same_name-true b a same) e))

-- a name that leads to a place has an entry
pub named-contained : (items : List Item) (name : Name) (place : Place) → named_place items name ≡ Some place → (item : Item) × Contains items item × (item.place ≡ place)
named-contained [] name place e = absurd cc
named-contained (item ∷ items) name place e =
    elim (chosen (same_name item.name name) (Some item.place) (named_place items name) (Some place) e) [
      | inl here ↦ (item, (0, omega arith, refl), place_is item.place place here.1)
      | inr later ↦ let found = named-contained items name place later.1 in (found.0, (suc found.1.0, omega (arith, found.1.1), found.1.2), found.2)
    ]

-- an entry among entries that ascend is led to by its name
pub contained-named_place : (items : List Item) (item : Item) → are_ascending items ≡ true → Contains items item → named_place items item.name ≡ Some item.place
contained-named_place [] item order (k, lt, e) = absurd (omega arith)
contained-named_place (first ∷ items) item order (zero, lt, e) =
    let same : same_name first.name item.name ≡ true = ap (λ (x : Item). same_name x.name item.name) e ∙ same_name-self item.name in
    rw same (ap (λ (x : Item). Some x.place) e)
contained-named_place (first ∷ items) item order (suc k, lt, e) =
    let parts = both_true (list_all (λ other. is_before first.name other.name) items) (are_ascending items) order in
    let less : k < length items = omega arith in
    let differs = before-differs first.name item.name (all_at items item first.name k less e parts.0) in
    rw differs (contained-named_place items item parts.1 (k, less, e))
  where
    all_at : (xs : List Item) (x : Item) (before : Name) (j : ℕ) → j < length xs → slice_index_or xs j x ≡ x → list_all (λ other. is_before before other.name) xs ≡ true → is_before before x.name ≡ true
    all_at [] x before j lt e all = absurd (omega arith)
    all_at (y ∷ xs) x before zero lt e all = ap (λ (z : Item). is_before before z.name) (sym e) ∙ (both_true (is_before before y.name) (list_all (λ other. is_before before other.name) xs) all).0
    all_at (y ∷ xs) x before (suc j) lt e all = all_at xs x before j (omega arith) e (both_true (is_before before y.name) (list_all (λ other. is_before before other.name) xs) all).1

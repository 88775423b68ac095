-- The order of names, and lists of entries in that order.
use Rattle.std.proofs.Common.{◌≡◌, Bool, true, false, List, [], ◌∷◌, ◌++◌, refl, sym, ap, ◌∙◌}
use Rattle.std.specs.Prelude.{◌&&◌}
use Rattle.std.specs.List.{list_all}
use Rattle.std.specs.Ordering.{is_lt}
use Rattle.std.specs.declared.cmp.Ordering.{Ordering}
use Rattle.std.specs.declared.cmp.Ordering.TheVariants.{Less, Equal, Greater}
use Rattle.std.proofs.lemmas.List.Folds.{list_all-append}
use Rattle.std.specs.FinMap.{slice_cmp-IsAntisymmetric, nat_cmp-IsAntisymmetric}
use Rattle.std.proofs.lemmas.Cmp.{nat_list_cmp_total}
use Rattle.fs_types.specs.Names.{Name, name_cmp}
use Rattle.node_format.specs.Items.{Item, is_before, are_ascending}

pub both_true : (a b : Bool) → (a && b) ≡ true → (a ≡ true) × (b ≡ true)
both_true true b e = (refl, e)
both_true false b e = absurd cc

pub and_true : (a b : Bool) → a ≡ true → b ≡ true → (a && b) ≡ true
and_true a b p q = rw (p, q) refl

is_less : (o : Ordering) → is_lt o ≡ true → o ≡ Less
is_less Less e = refl
is_less Equal e = cc
is_less Greater e = cc

pub is_before-trans : (a b c : Name) → is_before a b ≡ true → is_before b c ≡ true → is_before a c ≡ true
is_before-trans a b c p q =
    ap is_lt (nat_list_cmp_total.trans a b c (is_less (name_cmp a b) p) (is_less (name_cmp b c) q))

-- what comes before a name comes before all that the name comes before
pub all_after : (a b : Name) (items : List Item) → is_before a b ≡ true → list_all (λ other. is_before b other.name) items ≡ true → list_all (λ other. is_before a other.name) items ≡ true
all_after a b [] before all = refl
all_after a b (item ∷ items) before all =
    let parts = both_true (is_before b item.name) (list_all (λ other. is_before b other.name) items) all in
    and_true _ _ (is_before-trans a b item.name before parts.0) (all_after a b items before parts.1)

-- front and back of entries in order
pub record AreParts (front back : List Item) : Type 0 where
  pub front_ascends : are_ascending front ≡ true
  pub back_ascends : are_ascending back ≡ true
  pub across : list_all (λ item. list_all (λ other. is_before item.name other.name) back) front ≡ true

pub ascending_parts : (front back : List Item) → are_ascending (front ++ back) ≡ true → AreParts front back
ascending_parts [] back h = record { front_ascends = refl; back_ascends = h; across = refl }
ascending_parts (item ∷ front) back h =
    let one = both_true (list_all (λ other. is_before item.name other.name) (front ++ back)) (are_ascending (front ++ back)) h in
    let all = both_true (list_all (λ other. is_before item.name other.name) front) (list_all (λ other. is_before item.name other.name) back) (sym (list_all-append (λ other. is_before item.name other.name) front back) ∙ one.0) in
    let others = ascending_parts front back one.1 in
    record { front_ascends = and_true _ _ all.0 others.front_ascends; back_ascends = others.back_ascends; across = and_true _ _ all.1 others.across }

-- entries before a name, and entries after it, are in order with what stands between
pub ascending_join : (front back : List Item) (name : Name) → are_ascending front ≡ true → are_ascending back ≡ true
    → list_all (λ item. is_before item.name name) front ≡ true → list_all (λ item. is_before name item.name) back ≡ true → are_ascending (front ++ back) ≡ true
ascending_join [] back name f b before after = b
ascending_join (item ∷ front) back name f b before after =
    let own = both_true (list_all (λ other. is_before item.name other.name) front) (are_ascending front) f in
    let first = both_true (is_before item.name name) (list_all (λ other. is_before other.name name) front) before in
    let all = list_all-append (λ other. is_before item.name other.name) front back ∙ and_true _ _ own.0 (all_after item.name name back first.0 after) in
    and_true _ _ all (ascending_join front back name own.1 b first.1 after)

-- names that are not told apart are the same
pub same_from_tie : (a b : Name) → name_cmp a b ≡ Equal → a ≡ b
same_from_tie = slice_cmp-IsAntisymmetric nat_cmp-IsAntisymmetric

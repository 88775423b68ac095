-- How much nodes lead to does not depend on how many steps are allowed.
use Rattle.std.proofs.Common.{◌≡◌, ◌⊎◌, inl, inr, ℕ, zero, suc, ◌+◌, ◌-◌, ◌*◌, ◌≤◌, ◌<◌, Bool, true, false, eqb, Option, Some, None, List, [], ◌∷◌, ◌++◌, length, refl, sym, ap, subst, ◌∙◌, arith}
use Rattle.std.specs.Prelude.{sum_by, Contains}
use Rattle.std.specs.List.{flat_map}
use Rattle.node_format.specs.Items.{Item}
use Rattle.node_format.specs.declared.place.Place.{Place}
use Rattle.nodes.specs.Bodies.{Blocks}
use Rattle.std.proofs.lemmas.List.Sums.{sum_by-cons}
use Rattle.std.proofs.lemmas.Bool.{cases_lt}
use Rattle.node_format.specs.Links.{Link}
use Rattle.nodes.specs.Chains.{link_of}
use Rattle.reclaim.specs.Sound.{HoldsLink}
use Rattle.tree_counts.specs.Counted.{leads_of, own, own_of, weight, IsLow, most_steps, IsUnder, IsNext, IsLater}
use Rattle.tree_counts.specs.Sizes.{sized, place_one, place_length}
use Rattle.tree_counts.specs.declared.tree_size.TreeSize.{TreeSize}
use Rattle.tree_counts.proofs.Sums.{sum_same}

-- ---- more steps

low_more : (f : Blocks) (n b : ℕ) → IsLow f n b → IsLow f (suc n) b
unfolding IsLow
low_more f zero b low = absurd low
low_more f (suc n) b low = (low.0, λ c has. low_more f n c (low.1 c has))

low_raise : (f : Blocks) (k n b : ℕ) → IsLow f n b → IsLow f (k + n) b
low_raise f zero n b low = let e : n ≡ 0 + n = omega arith in subst (λ (m : ℕ). IsLow f m b) e low
low_raise f (suc k) n b low = let e : suc (k + n) ≡ suc k + n = omega arith in subst (λ (m : ℕ). IsLow f m b) e (low_more f (k + n) b (low_raise f k n b low))

pub low_most : (f : Blocks) (n m b : ℕ) → n ≤ m → IsLow f n b → IsLow f m b
low_most f n m b le low = let e : (m - n) + n ≡ m = omega arith in subst (λ (k : ℕ). IsLow f k b) e (low_raise f (m - n) n b low)

-- what a node leads to has one step less
pub low_led : (f : Blocks) (n b c : ℕ) → IsLow f (suc n) b → Contains (leads_of (f b)) c → IsLow f n c
unfolding IsLow
low_led f n b c low has = low.1 c has

pub low_some : (f : Blocks) (n b : ℕ) → IsLow f n b → 0 < n
unfolding IsLow
low_some f zero b low = absurd low
low_some f (suc n) b low = omega arith

-- it holds a node, and is a block of the flash
pub low_link : (f : Blocks) (n b : ℕ) → IsLow f n b → HoldsLink f b
unfolding IsLow
low_link f zero b low = absurd low
low_link f (suc n) b low = low.0

pub low_within : (f : Blocks) (n b blocks : ℕ) → ((c : ℕ) → blocks ≤ c → f c ≡ None) → IsLow f n b → b < blocks
low_within f n b blocks beyond low = by (cases_lt b blocks) (low_link f n b low)
  where
    by : (b < blocks) ⊎ (blocks ≤ b) → HoldsLink f b → b < blocks
    by (inl is) held = is
    by (inr past) (l, is) = absurd (let none : link_of (f b) ≡ None = ap link_of (beyond b past) in let wrong : None ≡ Some l = sym none ∙ is in cc)

weight_more : (of : Place → ℕ) (f : Blocks) (n b : ℕ) → IsLow f n b → weight of f (suc n) b ≡ weight of f n b
unfolding IsLow weight
weight_more of f zero b low = absurd low
weight_more of f (suc n) b low =
    ap (λ (s : ℕ). own of (f b) + s) (sum_same (weight of f (suc n)) (weight of f n) (leads_of (f b)) (λ c has. weight_more of f n c (low.1 c has)))

weight_raise : (of : Place → ℕ) (f : Blocks) (k n b : ℕ) → IsLow f n b → weight of f (k + n) b ≡ weight of f n b
weight_raise of f zero n b low = let e : 0 + n ≡ n = omega arith in ap (λ (m : ℕ). weight of f m b) e
weight_raise of f (suc k) n b low =
    let e : suc k + n ≡ suc (k + n) = omega arith in
    ap (λ (m : ℕ). weight of f m b) e ∙ weight_more of f (k + n) b (low_raise f k n b low) ∙ weight_raise of f k n b low

pub weight_most : (of : Place → ℕ) (f : Blocks) (n m b : ℕ) → n ≤ m → IsLow f n b → weight of f m b ≡ weight of f n b
weight_most of f n m b le low = let e : (m - n) + n ≡ m = omega arith in ap (λ (k : ℕ). weight of f k b) (sym e) ∙ weight_raise of f (m - n) n b low

-- how much a node leads to, by its entries and what it leads to right on
pub weight_step : (of : Place → ℕ) (f : Blocks) (n b : ℕ) → n ≤ most_steps → IsLow f n b → weight of f most_steps b ≡ own of (f b) + sum_by (weight of f most_steps) (leads_of (f b))
unfolding IsLow weight
weight_step of f zero b le low = absurd low
weight_step of f (suc n) b le low =
    weight_most of f (suc n) most_steps b le low
    ∙ ap (λ (s : ℕ). own of (f b) + s) (sum_same (weight of f n) (weight of f most_steps) (leads_of (f b)) (λ c has. sym (weight_most of f n most_steps c (omega arith) (low.1 c has))))

-- ---- no node is under itself

low_under : (f : Blocks) (n b c : ℕ) → IsLow f (suc n) b → IsUnder f b c → IsLow f n c
unfolding IsLow
low_under f n b c low (IsNext has) = low.1 c has
low_under f n b c low (IsLater {b = mid} under has) = on n (low_under f n b mid low under)
  where
    on : (m : ℕ) → IsLow f m mid → IsLow f m c
    on zero none = absurd none
    on (suc m) is = low_more f m c (is.1 c has)

pub not_under : (f : Blocks) (n b : ℕ) → IsLow f n b → IsUnder f b b → ⊥
not_under f zero b low under = let some = low_some f 0 b low in omega (arith, some)
not_under f (suc n) b low under = not_under f n b (low_under f n b b low under) under

-- ---- entries, one after the other

-- a size with that of the entries that are left is that of all
pub record AreSummed (size : TreeSize) (left all : List Item) : Type 0 where
  pub entries : ℕ
  pub lengths : ℕ
  pub is : size ≡ sized entries lengths
  pub ones : entries + own_of place_one left ≡ own_of place_one all
  pub bytes : lengths + own_of place_length left ≡ own_of place_length all

pub none_summed : (size : TreeSize) (all : List Item) → size ≡ sized 0 0 → AreSummed size all all
none_summed size all is = record { entries = 0; lengths = 0; is = is; ones = omega arith; bytes = omega arith }

pub one_summed : (size more sum : TreeSize) (item : Item) (left all whole : List Item) → whole ≡ item ∷ left → more ≡ sized 1 (place_length item.place)
    → ((m n p q : ℕ) → size ≡ sized m n → more ≡ sized p q → sum ≡ sized (m + p) (n + q)) → AreSummed size whole all → AreSummed sum left all
one_summed size more sum item left all whole parts is plus so_far =
    let ones : own_of place_one whole ≡ 1 + own_of place_one left = ap (own_of place_one) parts ∙ sum_by-cons (λ (i : Item). place_one i.place) item left in
    let bytes : own_of place_length whole ≡ place_length item.place + own_of place_length left = ap (own_of place_length) parts ∙ sum_by-cons (λ (i : Item). place_length i.place) item left in
    record {
      entries = so_far.entries + 1;
      lengths = so_far.lengths + place_length item.place;
      is = plus so_far.entries so_far.lengths 1 (place_length item.place) so_far.is is;
      ones = omega (arith, ones, so_far.ones);
      bytes = omega (arith, bytes, so_far.bytes);
    }

pub all_summed : (size : TreeSize) (left all : List Item) → left ≡ [] → AreSummed size left all → size ≡ sized (own_of place_one all) (own_of place_length all)
all_summed size left all none so_far =
    let ones : so_far.entries ≡ own_of place_one all = omega (arith, so_far.ones, ap (own_of place_one) none) in
    let bytes : so_far.lengths ≡ own_of place_length all = omega (arith, so_far.bytes, ap (own_of place_length) none) in
    so_far.is ∙ (λ i. sized (ones i) (bytes i))

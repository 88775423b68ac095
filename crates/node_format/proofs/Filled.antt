-- Going over entries one by one.
use Rattle.std.proofs.Common.{◌≡◌, ℕ, suc, ◌-◌, ◌+◌, ◌<◌, Bool, true, false, List, Some, refl, sym, ◌∙◌, arith}
use Rattle.std.specs.Ordering.{is_lt, is_ge}
use Rattle.std.specs.declared.cmp.Ordering.{Ordering}
use Rattle.std.specs.declared.cmp.Ordering.TheVariants.{Less, Equal, Greater}
use Rattle.fs_types.specs.Names.{Name}
use Rattle.node_format.specs.Items.{Item, is_before}
use Rattle.node_format.specs.Directories.{item_at, are_filled}

-- what is not at or after comes before
pub is_lt-is_ge : (o : Ordering) → is_ge o ≡ false → is_lt o ≡ true
is_lt-is_ge Less e = refl
is_lt-is_ge Equal e = cc
is_lt-is_ge Greater e = cc

pub filled_goes_on : (count i : ℕ) (before : Name) (bytes : List ℕ) (item : Item) (after : List ℕ) (total : Bool) → i < count
    → Some (item, after) ≡ item_at bytes → is_before before item.name ≡ true → are_filled (count - i) before bytes ≡ total
    → are_filled (count - (i + 1)) item.name after ≡ total
unfolding are_filled
filled_goes_on count i before bytes item after total lt read before_it so_far =
    let k : count - i ≡ suc (count - (i + 1)) = omega arith in
    let one : are_filled (count - i) before bytes ≡ are_filled (count - (i + 1)) item.name after = rw (k, sym read, before_it) refl in
    sym one ∙ so_far

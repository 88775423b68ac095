-- Lists in order, gone over one by one.
use Rattle.std.proofs.Common.{◌≡◌, true, false, refl}
use Rattle.std.specs.Ordering.{is_lt, is_ge}
use Rattle.std.specs.declared.cmp.Ordering.{Ordering}
use Rattle.std.specs.declared.cmp.Ordering.TheVariants.{Less, Equal, Greater}

pub is_lt-is_ge : (o : Ordering) → is_ge o ≡ false → is_lt o ≡ true
is_lt-is_ge Less e = refl
is_lt-is_ge Equal e = cc
is_lt-is_ge Greater e = cc

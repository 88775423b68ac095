-- A set of the blocks of a flash.
use Rattle.std.specs.Prelude.{ℕ, refl}
use Rattle.std.specs.Coded.{Coded, code_by, coded×, coded_ℕ}
use Rattle.std.specs.FinSet as set
use Rattle.std.specs.Ordering.{nat_cmp}

-- how many blocks the flash has, and which of them are in the set
pub record BlockSet : Type 0 where
  pub blocks : ℕ
  pub members : set.FinSet nat_cmp

-- it is stored as the pair of its fields
abbrev pub block_set_code : Coded BlockSet
block_set_code =
    code_by (ℕ × set.FinSet nat_cmp) (coded× coded_ℕ (set.code coded_ℕ)) (λ s. (s.blocks, s.members))
    (λ p. record { blocks = p.0; members = p.1 }) (λ _. refl)

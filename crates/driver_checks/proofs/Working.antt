-- Work after work.
use Rattle.std.specs.Prelude.{◌≡◌, ℕ, ◌+◌, ◌*◌, ◌≤◌, List}
use Rattle.std.proofs.Common.{◌∙◌, refl, arith, add-one}
use Rattle.std.proofs.lemmas.Nat.{mul-le}
use Rattle.driver_checks.specs.declared.area.Area.{Area}
use Rattle.driver_checks.specs.declared.step.Step.{Step}
use Rattle.driver_checks.specs.Driver.{Driver, AsksAtMost}
use Rattle.driver_checks.specs.Filling.{page_filled, filled, filled_in_turn}

pub works_on : (a b c : Driver) (m n : ℕ) → AsksAtMost a b m → AsksAtMost b c n → AsksAtMost a c (m + n)
works_on a b c m n first second = record {
  area = second.area ∙ first.area;
  moments = second.moments ∙ first.moments;
  operations = omega arith;
}

pub works_in : (a b : Driver) (m n : ℕ) → m ≤ n → AsksAtMost a b m → AsksAtMost a b n
works_in a b m n least works = record { area = works.area; moments = works.moments; operations = omega arith }

-- so many trials of n operations each, and one more
pub trials_more : (a b c : Driver) (m n : ℕ) → AsksAtMost a b (m * n) → AsksAtMost b c n → AsksAtMost a c ((m + 1) * n)
trials_more a b c m n before one = record {
  area = one.area ∙ before.area;
  moments = one.moments ∙ before.moments;
  operations = omega arith;
}

pub trials_most : (a b : Driver) (m k n : ℕ) → m ≤ k → AsksAtMost a b (m * n) → AsksAtMost a b (k * n)
trials_most a b m k n few works = works_in a b (m * n) (k * n) (mul-le m n k n few (omega arith)) works

pub filled_more : (g : Area) (block places : ℕ) (steps : List Step)
    → filled g block (places + 1) steps ≡ page_filled g block places (filled g block places steps)
filled_more g block places steps = rw add-one refl

pub filled_in_turn_more : (g : Area) (lower own upper places : ℕ) (steps : List Step)
    → filled_in_turn g lower own upper (places + 1) steps
    ≡ page_filled g upper places (page_filled g own places (page_filled g lower places (filled_in_turn g lower own upper places steps)))
filled_in_turn_more g lower own upper places steps = rw add-one refl

-- One case more.
use Rattle.std.specs.Prelude.{ℕ, ◌+◌, ◌<◌, List, length, take}
use Rattle.std.proofs.Common.{sym, subst, get_or}
use Rattle.std.proofs.lemmas.List.{take_more}
use Rattle.driver_checks.specs.declared.area.Area.{Area}
use Rattle.driver_checks.specs.declared.case.Case.{Case}
use Rattle.driver_checks.specs.Driver.{Driver, AsksAtMost}
use Rattle.driver_checks.specs.Cases.{most_asked}
use Rattle.driver_checks.specs.Checklists.{Checks, IsNoted, more}

pub one_more : (area : Area) (a b c : Driver) (cases : List Case) (i : ℕ) (case : Case) (before after : List Case) → i < length cases
    → Checks area a (take i cases) before b → AsksAtMost b c (most_asked area.sizes.pages) → IsNoted (get_or cases i case) before after b c
    → Checks area a (take (i + 1) cases) after c
one_more area a b c cases i case before after below checks works noted =
    subst (λ (some : List Case). Checks area a some after c) (sym (take_more cases i case below))
    (more a b c (get_or cases i case) (take i cases) before after checks works noted)

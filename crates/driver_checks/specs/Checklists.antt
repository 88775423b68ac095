-- A checklist: cases one after another, and which of them failed.
use Rattle.std.specs.Prelude.{◌≡◌, ◌⊎◌, ◌==◌, List, [], ◌∷◌, ◌++◌, count_by}
use Rattle.driver_checks.specs.declared.area.Area.{Area}
use Rattle.driver_checks.specs.declared.case.Case.{Case}
use Rattle.driver_checks.specs.Driver.{Driver, AsksAtMost}
use Rattle.driver_checks.specs.Cases.{Passes, round_of, most_asked}
use Rattle.driver_checks.specs.Works.{Runs}

-- a list has each case once
abbrev pub HasEachOnce : List Case → Type 0
HasEachOnce cases = (case : Case) → count_by (λ other. round_of other == round_of case) cases ≡ 1

-- a case was carried out and passed, and the list of those that failed stays, or it is put behind them
abbrev pub IsNoted : Case → List Case → List Case → Driver → Driver → Type 0
IsNoted case before after b c = ((after ≡ before) × Passes case c × Runs case b c) ⊎ (after ≡ before ++ case ∷ [])

-- from a driver on its bench these cases were run, and these of them failed
pub data Checks (area : Area) : Driver → List Case → List Case → Driver → Type 0 where
  none : (d : Driver) → Checks area d [] [] d
  more : (a b c : Driver) (case : Case) (cases before after : List Case) → Checks area a cases before b
      → AsksAtMost b c (most_asked area.sizes.pages) → IsNoted case before after b c → Checks area a (cases ++ case ∷ []) after c

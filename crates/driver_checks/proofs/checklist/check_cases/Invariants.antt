use Rattle.std.proofs.Common.{◌*◌, take}
use Rattle.driver_checks.specs.Driver.{AsksAtMost}
use Rattle.driver_checks.specs.Cases.{most_asked}
use Rattle.driver_checks.specs.Checklists.{Checks}
use Rattle.driver_checks.proofs.checklist.check_cases.Given as goal

abbrev pub invariant-loop-case : goal.invariant-loop-case
invariant-loop-case g l =
    Checks l.area (g.B.Bench.driver l.initial.bench) (take l.case-index l.cases) l.failed.items (g.B.Bench.driver l.bench)
    × AsksAtMost (g.B.Bench.driver l.initial.bench) (g.B.Bench.driver l.bench) (l.case-index * most_asked l.area.sizes.pages)

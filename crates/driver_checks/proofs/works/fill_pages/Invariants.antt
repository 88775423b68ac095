use Rattle.std.proofs.Common.{◌≡◌, ◌*◌}
use Rattle.driver_checks.specs.Driver.{AsksAtMost}
use Rattle.driver_checks.specs.Filling.{filled}
use Rattle.driver_checks.proofs.works.fill_pages.Given as goal

abbrev pub invariant-loop-place : goal.invariant-loop-place
invariant-loop-place g l =
    AsksAtMost (g.B.Bench.driver l.initial.bench) (g.B.Bench.driver l.bench) (2 * l.place)
    × ((g.B.Bench.driver l.bench).steps ≡ filled l.area l.block l.place (g.B.Bench.driver l.initial.bench).steps)

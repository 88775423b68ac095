use Rattle.std.proofs.Common.{◌≡◌, ◌*◌}
use Rattle.driver_checks.specs.Driver.{AsksAtMost}
use Rattle.driver_checks.specs.Filling.{filled_in_turn}
use Rattle.driver_checks.proofs.works.fill_in_turn.Given as goal

abbrev pub invariant-loop-place : goal.invariant-loop-place
invariant-loop-place g l =
    AsksAtMost (g.B.Bench.driver l.initial.bench) (g.B.Bench.driver l.bench) (6 * l.place)
    × ((g.B.Bench.driver l.bench).steps ≡ filled_in_turn l.site.area l.site.lower l.site.own l.site.upper l.place (g.B.Bench.driver l.initial.bench).steps)

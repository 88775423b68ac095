use Rattle.std.proofs.Common.{◌-◌}
use Rattle.driver_checks.specs.Driver.{OnlyAsks}
use Rattle.driver_checks.proofs.Showing.{MeetsBelow}
use Rattle.driver_checks.proofs.looks.block_shows.Given as goal

abbrev pub invariant-loop-place : goal.invariant-loop-place
invariant-loop-place g l =
    OnlyAsks (g.B.Bench.driver l.initial.bench) (g.B.Bench.driver l.bench) (l.place - l.from)
    × MeetsBelow l.expected l.area (g.B.Bench.driver l.bench).pages l.block l.from l.place

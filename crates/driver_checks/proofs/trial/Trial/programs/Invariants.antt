use Rattle.std.proofs.Common.{◌+◌, ◌*◌}
use Rattle.driver_checks.specs.Driver.{AsksAtMost}
use Rattle.driver_checks.specs.Trials.{TriesMoments, program_tried}
use Rattle.driver_checks.proofs.trial.Trial.programs.Given as goal

abbrev pub invariant-loop-moment : goal.invariant-loop-moment
invariant-loop-moment g l =
    AsksAtMost (g.B.Bench.driver l.initial.bench) (g.B.Bench.driver l.bench) (l.moment * (5 * l.site.area.sizes.pages + 3))
    × TriesMoments (program_tried l.site.area l.site.own l.self.fault) l.self.fault l.moment (g.B.Bench.driver l.initial.bench).steps (g.B.Bench.driver l.bench).steps

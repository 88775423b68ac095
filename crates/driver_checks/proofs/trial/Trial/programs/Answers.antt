use Rattle.std.proofs.Common.{refl, arith}
use Rattle.driver_checks.specs.Trials.{none}
use Rattle.driver_checks.proofs.trial.Trial.programs.Goals as goal

pub loop-moment-init : goal.loop-moment-init
loop-moment-init g c = (record { area = refl; moments = refl; operations = omega arith }, none (g.B.Bench.driver c.args.bench.now).steps)

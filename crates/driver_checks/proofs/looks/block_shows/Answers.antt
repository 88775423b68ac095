use Rattle.std.proofs.Common.{arith, ◌-◌}
use Rattle.driver_checks.proofs.Showing.{looks_in}
use Rattle.driver_checks.proofs.looks.block_shows.Goals as goal

pub returns-clause-looks : goal.returns-clause-looks
returns-clause-looks g c =
    looks_in (g.B.Bench.driver c.args.bench.now) (g.B.Bench.driver c.loop-place.bench) (c.loop-place.place - c.args.from) (c.args.to - c.args.from)
    (omega arith) c.loop-place.invariant.0

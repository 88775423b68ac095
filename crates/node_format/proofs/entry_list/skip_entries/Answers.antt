use Rattle.std.proofs.Common.{◌-◌, arith}
use Rattle.node_format.proofs.Known.{known_one, skip_one}
use Rattle.node_format.proofs.entry_list.skip_entries.Goals as goal

pub after_known-rest-requires : goal.after_known-rest-requires
after_known-rest-requires c = known_one (c.args.count - c.loop.counter) c.loop.rest.now (omega (arith, c.loop-test.true)) c.loop.invariant.known

pub loop-preserved : goal.loop-preserved
loop-preserved c = skip_one c.args.count c.args.bytes.now c.loop.counter c.loop.rest.now c.after_known-rest.result.now c.loop-test.true c.after_known-rest.ensures c.loop.invariant

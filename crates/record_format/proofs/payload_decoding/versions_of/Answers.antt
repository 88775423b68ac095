use Rattle.std.proofs.Common.{◌+◌, ◌-◌, ap, ◌∙◌, arith}
use Rattle.record_format.specs.Items.{many_at, version_at}
use Rattle.record_format.proofs.Many.{onto, many_goes_on, many_stops, many_ends}
use Rattle.record_format.proofs.payload_decoding.versions_of.Goals as goal

pub returns-in_default-clause-found : goal.returns-in_default-clause-found
returns-in_default-clause-found c = many_stops version_at c.loop.versions c.args.count c.loop.counter c.loop.rest.now _ c.loop-test.true c.in_default.ensures c.loop.invariant

pub loop-preserved : goal.loop-preserved
loop-preserved c =
    ap (λ items. onto items (many_at version_at (c.args.count - (c.loop.counter + 1)) c.in-Some.after.now)) c.in_ok-push.ensures.ok
    ∙ many_goes_on version_at c.loop.versions c.args.count c.loop.counter c.loop.rest.now c.in-Some.version c.in-Some.after.now _ c.loop-test.true c.in-Some.ensures c.loop.invariant

pub returns-clause-found : goal.returns-clause-found
returns-clause-found c = many_ends version_at c.loop.versions c.args.count c.loop.counter c.loop.rest.now _ (omega arith) c.loop.invariant

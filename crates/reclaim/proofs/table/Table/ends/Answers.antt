use Rattle.std.proofs.Common.{sym, ◌∙◌}
use Rattle.std.specs.Prelude.{slice_index}
use Rattle.reclaim.specs.Tables.{has_link}
use Rattle.reclaim.proofs.Tables.{ends_on, ends_nowhere, ends_now, ends_last}
use Rattle.reclaim.proofs.table.Table.ends.Goals as goal

pub returns-then-at-eq0 : goal.returns-then-at-eq0
returns-then-at-eq0 c = ends_now (has_link c.args.self.now) (slice_index c.args.self.now.words) c.args.first c.loop-node.at c.loop-node.node c.loop-node.invariant c.if-at-eq0.true

pub returns-then-not-has_link : goal.returns-then-not-has_link
returns-then-not-has_link c =
    ends_nowhere (has_link c.args.self.now) (slice_index c.args.self.now.words) c.args.first c.loop-node.at c.loop-node.node c.loop-node.invariant c.loop-node.auto.node c.loop-node-test.true c.if-at-eq0.false
    (sym c.has_link.ensures.exact ∙ c.if-not-has_link.true)

pub loop-node-preserved : goal.loop-node-preserved
loop-node-preserved c =
    ends_on (has_link c.args.self.now) (slice_index c.args.self.now.words) c.args.first c.loop-node.at c.loop-node.node c.loop-node.invariant c.get-at.result c.loop-node.auto.node c.loop-node-test.true c.if-at-eq0.false
    (sym c.has_link.ensures.exact ∙ c.if-not-has_link.false)
    c.get-at.ensures

pub returns : goal.returns
returns c = ends_last (has_link c.args.self.now) (slice_index c.args.self.now.words) c.args.first c.loop-node.at c.loop-node.node c.loop-node.invariant c.loop-node-test.false

use Rattle.std.proofs.Common.{ap, sym, ◌∙◌, arith}
use Rattle.reclaim.specs.Passes.{Pass}
use Rattle.reclaim.proofs.Marking.{order_push, marked_push, marked_there, outside_low, outside_high}
use Rattle.reclaim.proofs.pass.Pass.mark.Goals as goal
use Rattle.reclaim.proofs.pass.Pass.mark.Goals.{then-block-lt-ANCHORS-via-then-block-lt-ANCHORS, then-block-lt-ANCHORS-via-else-block-lt-ANCHORS+then-block-blocks}

pub returns-then-block-lt-ANCHORS-clause-why : goal.returns-then-block-lt-ANCHORS-clause-why
returns-then-block-lt-ANCHORS-clause-why c =
    elim c.then-block-lt-ANCHORS.branch [
      | then-block-lt-ANCHORS-via-then-block-lt-ANCHORS w ↦ outside_low _ _ w.if-block-lt-ANCHORS.true
      | then-block-lt-ANCHORS-via-else-block-lt-ANCHORS+then-block-blocks w ↦
          outside_high _ _ (omega (arith, ap (λ (p : Pass). p.blocks) c.self.view_is, w.blocks-else-block-lt-ANCHORS.ensures.value, w.if-block-blocks.true))
    ]

pub invariant_of-self-then-not-contains : goal.invariant_of-self-then-not-contains
invariant_of-self-then-not-contains c = rw (c.insert.ensures, c.in_ok-push.ensures.items) (order_push _ _ _ _ c.self.invariant.0, c.self.invariant.1)

pub returns-in_ok-push-clause-marked : goal.returns-in_ok-push-clause-marked
returns-in_ok-push-clause-marked c =
    marked_push _ c.args.self.now c.self.inside.marks c.args.block _ c.self.view_is c.self.invariant.0 (sym c.contains.ensures ∙ c.if-not-contains.true)
    c.in_ok-push.ensures.items

pub returns-else-not-contains-clause-marked : goal.returns-else-not-contains-clause-marked
returns-else-not-contains-clause-marked c =
    marked_there _ c.args.self.now c.self.inside.marks c.args.block c.self.view_is c.self.invariant.0 (sym c.contains.ensures ∙ c.if-not-contains.false)

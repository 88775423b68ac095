use Rattle.std.proofs.Common.{◌∙◌, sym}
use Rattle.put_jobs.proofs.MirrorLemmas.{none_removed, more_removed, all_removed}
use Rattle.put_jobs.proofs.mirror.removals.Goals as goal

pub loop-item-init : goal.loop-item-init
loop-item-init c = none_removed c.args.base.now c.args.kept.now c.args.items.items c.new-events.result.items c.new-events.ensures.items

pub loop-item-preserved : goal.loop-item-preserved
loop-item-preserved c =
    more_removed c.args.base.now c.args.kept.now c.args.items.items c.loop-item.left.items c.pop.new.self.items c.in-Some.item c.loop-item.events.items c.push_removal.new.events.items c.loop-item.invariant c.in-Some.ensures.items c.in_ok-push_removal.ensures

pub returns : goal.returns
returns c =
    all_removed c.args.base.now c.args.kept.now c.args.items.items c.loop-item.left.items c.loop-item.events.items c.loop-item.invariant (sym c.loop-item.left.ok.0 ∙ c.in_default.ensures.cases.0)

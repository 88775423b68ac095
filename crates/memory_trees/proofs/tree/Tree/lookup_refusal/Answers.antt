use Rattle.std.proofs.Common.{◌∙◌, refl, sym, ap}
use Rattle.std.specs.FinMap.{get}
use Rattle.plain_trees.specs.Contents.{way_refusal}
use Rattle.memory_trees.proofs.Ways.{way_stops, way_goes_on, way_end}
use Rattle.memory_trees.proofs.tree.Tree.lookup_refusal.Goals as goal

pub loop-i-init : goal.loop-i-init
loop-i-init c = refl

pub returns-in-Some : goal.returns-in-Some
returns-in-Some c =
    way_stops (get c.args.self.now) c.args.path.now c.loop-i.i _ c.in-Some.fault c.loop-i.auto.i c.loop-i-test.true
    (ap way_refusal (sym c.get.ensures) ∙ sym c.way_refusal.ensures ∙ c.in-Some.is) c.loop-i.invariant

pub loop-i-preserved : goal.loop-i-preserved
loop-i-preserved c =
    way_goes_on (get c.args.self.now) c.args.path.now c.loop-i.i _ c.loop-i.auto.i c.loop-i-test.true
    (ap way_refusal (sym c.get.ensures) ∙ sym c.way_refusal.ensures ∙ c.in_default.is) c.loop-i.invariant

pub returns : goal.returns
returns c = sym (way_end (get c.args.self.now) c.args.path.now c.loop-i.i c.loop-i-test.false) ∙ c.loop-i.invariant

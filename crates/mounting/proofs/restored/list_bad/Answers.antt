use Rattle.mounting.proofs.RestoredParts.{none_listed, one_listed, ok_of}
use Rattle.mounting.proofs.restored.list_bad.Goals as goal

pub loop-block-init : goal.loop-block-init
loop-block-init c = none_listed _ _ c.new-bad.ensures

pub loop-block-preserved : goal.loop-block-preserved
loop-block-preserved c =
    one_listed c.loop-block.bad c.add.new.self c.args.saved.now c.loop-block.block-index 0 c.loop-block-test.true (ok_of c.add.result c.unwrap.result c.unwrap.ensures c.add.ensures.ok) c.loop-block.invariant

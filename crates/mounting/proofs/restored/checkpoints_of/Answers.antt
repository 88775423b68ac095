use Rattle.mounting.proofs.RestoredParts.{put_checkpoint}
use Rattle.mounting.proofs.restored.checkpoints_of.Goals as goal

pub loop-checkpoint-preserved : goal.loop-checkpoint-preserved
loop-checkpoint-preserved c =
    put_checkpoint c.loop-checkpoint.checkpoints.entries c.insert.new.self.entries c.args.saved.now c.loop-checkpoint.checkpoint-index c.checkpoint-item.result c.in_ok-clone.field-0
    c.loop-checkpoint-test.true c.requires c.checkpoint-item.is (c.in_ok-clone.ensures) c.loop-checkpoint.invariant (c.in_ok-insert.ensures).entries

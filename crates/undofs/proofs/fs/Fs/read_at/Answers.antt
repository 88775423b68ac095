use Rattle.std.proofs.Common.{refl}
use Rattle.fs_types.specs.declared.call.Call.{Call}
use Rattle.undofs.proofs.Replies.{reply_is}
use Rattle.undofs.proofs.fs.Fs.read_at.Goals as goal

pub unreachable-requires : goal.unreachable-requires
unreachable-requires g c = c.in_default.not-Bytes _ (reply_is _ _ _ _ (Call.ReadAt c.args.view.now c.args.path.now c.args.offset c.args.count) _ refl c.in_ok-bytes.ensures.step.step)

use Rattle.std.proofs.Common.{refl}
use Rattle.fs_types.specs.declared.call.Call.{Call}
use Rattle.undofs.proofs.Replies.{reply_is}
use Rattle.undofs.proofs.fs.Fs.open.Goals as goal

pub unreachable-requires : goal.unreachable-requires
unreachable-requires g c = c.in_default.not-Fd _ (reply_is _ _ _ _ (Call.Open c.args.path.now c.args.flags) _ refl c.in_ok-number.ensures.step.step)

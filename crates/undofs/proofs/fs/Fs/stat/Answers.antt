use Rattle.std.proofs.Common.{refl}
use Rattle.fs_types.specs.declared.call.Call.{Call}
use Rattle.undofs.proofs.Replies.{reply_is}
use Rattle.undofs.proofs.fs.Fs.stat.Goals as goal

pub unreachable-requires : goal.unreachable-requires
unreachable-requires g c = c.in_default.not-Stat _ (reply_is _ _ _ _ (Call.Stat c.args.view.now c.args.path.now) _ refl c.in_ok-stat.ensures.step.step)

use Rattle.std.proofs.Common.{refl}
use Rattle.fs_types.specs.declared.call.Call.{Call}
use Rattle.undofs.proofs.Replies.{reply_is}
use Rattle.undofs.proofs.fs.Fs.list.Goals as goal

pub unreachable-requires : goal.unreachable-requires
unreachable-requires g c = c.in_default.not-Names _ (reply_is _ _ _ _ (Call.List c.args.view.now c.args.path.now) _ refl c.in_ok-names.ensures.step.step)

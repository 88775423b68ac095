use Rattle.std.proofs.Common.{refl}
use Rattle.fs_types.specs.declared.call.Call.{Call}
use Rattle.undofs.proofs.Replies.{reply_is}
use Rattle.undofs.proofs.fs.Fs.pwrite.Goals as goal

pub unreachable-requires : goal.unreachable-requires
unreachable-requires g c = c.in_default.not-Count _ (reply_is _ _ _ _ (Call.Pwrite c.from.result c.args.offset c.args.bytes.now) _ refl c.in_ok-count.ensures.step.step)

use Rattle.std.proofs.Common.{refl}
use Rattle.fs_types.specs.declared.call.Call.{Call}
use Rattle.undofs.proofs.Replies.{reply_is}
use Rattle.undofs.proofs.fs.Fs.pread.Goals as goal

pub unreachable-requires : goal.unreachable-requires
unreachable-requires g c = c.in_default.not-Bytes _ (reply_is _ _ _ _ (Call.Pread c.from.result c.args.offset c.args.count) _ refl c.in_ok-bytes.ensures.step.step)

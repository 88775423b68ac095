use Rattle.std.proofs.Common.{refl}
use Rattle.std.specs.Option.{option_copied}
use Rattle.fs_types.specs.declared.call.Call.{Call}
use Rattle.undofs.proofs.Replies.{reply_is}
use Rattle.undofs.proofs.fs.Fs.entries.Goals as goal

pub unreachable-requires : goal.unreachable-requires
unreachable-requires g c = c.in_default.not-Entries _ (reply_is _ _ _ _ (Call.Entries c.args.view.now c.args.path.now (option_copied c.args.from) c.args.most) _ refl c.in_ok-entries.ensures.step.step)

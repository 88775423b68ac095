use Rattle.fs_types.specs.Requests.{call_of}
use Rattle.undofs.proofs.Replies.{reply_is_empty}
use Rattle.undofs.proofs.fs.Fs.carry_out_empty.Goals as goal

pub unreachable-requires : goal.unreachable-requires
unreachable-requires g c = c.in_default.not-Empty (reply_is_empty _ _ _ _ (call_of c.args.request) _ c.requires c.in_ok-carry_out.ensures.step.step)

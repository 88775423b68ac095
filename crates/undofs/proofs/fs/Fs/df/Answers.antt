use Rattle.undofs.proofs.Replies.{reply_tells_space}
use Rattle.undofs.proofs.fs.Fs.df.Goals as goal

pub unreachable-requires : goal.unreachable-requires
unreachable-requires g c = c.in_default.not-Df _ _ _ _ (reply_tells_space _ _ _ _ _ c.in_ok-blocks.ensures.step.step).1

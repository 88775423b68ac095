use Rattle.std.proofs.Common.{vec_len}
use Rattle.put_jobs.proofs.MirrorLemmas.{HasRemoved}
use Rattle.put_jobs.proofs.mirror.removals.Given as goal

abbrev pub invariant-loop-item : goal.invariant-loop-item
invariant-loop-item l = HasRemoved l.base l.kept l.fn.items.items l.left.items l.events.items

abbrev pub decreases-loop-item : goal.decreases-loop-item
decreases-loop-item l = vec_len l.left

use Rattle.std.proofs.Common.{◌≡◌, ◌++◌, take}
use Rattle.std.specs.List.{flat_map}
use Rattle.script.specs.Replies.{checkpoint_text}
use Rattle.script.proofs.replies.print_checkpoint_lines.Given as goal

abbrev pub invariant-loop-checkpoint : goal.invariant-loop-checkpoint
invariant-loop-checkpoint l = l.out.items ≡ l.fn.out.items ++ flat_map checkpoint_text (take l.checkpoint-index l.checkpoints)

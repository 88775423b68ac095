use Rattle.std.proofs.Common.{◌≡◌, ◌++◌, length, drop, map}
use Rattle.std.specs.List.{zip}
use Rattle.script_runs.specs.Scripts.{checkpoint_line}
use Rattle.script_runs.proofs.space_lines.checkpoint_lines.Given as goal

-- so many lines were made, and the others are those of what is left
abbrev pub invariant-loop-name : goal.invariant-loop-name
invariant-loop-name l =
    l.lines.items ++ map checkpoint_line (zip l.name-iterator (drop (length l.lines.items) l.fn.space)) ≡ map checkpoint_line (zip l.fn.system.state.history.checkpoints l.fn.space)

use Rattle.std.proofs.Common.{◌≡◌, take, map}
use Rattle.std.specs.List.{enumerate_from, zip}
use Rattle.script_runs.specs.Scripts.{version_line}
use Rattle.script_runs.proofs.space_lines.version_lines.Given as goal

-- so many lines were made
abbrev pub invariant-loop-place : goal.invariant-loop-place
invariant-loop-place l =
    l.lines.items ≡ map (version_line l.fn.system.state.history.cursor) (take l.place (enumerate_from 0 (zip l.fn.system.state.history.versions l.fn.space)))

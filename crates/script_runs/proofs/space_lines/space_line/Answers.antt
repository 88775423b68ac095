use Rattle.std.proofs.Common.{ℕ, List, map, ap, ◌∙◌}
use Rattle.std.specs.List.{enumerate_from, zip}
use Rattle.system.specs.declared.version_space.VersionSpace.{VersionSpace}
use Rattle.script_runs.specs.Scripts.{checkpoint_line, version_line}
use Rattle.script_runs.proofs.space_lines.space_line.Goals as goal

pub returns : goal.returns
returns c =
    let history = c.args.system.now.state.history in
    let versions =
    c.in_ok-version_lines.ensures ∙ ap (λ (l : List VersionSpace). map (version_line history.cursor) (enumerate_from 0 (zip history.versions l))) c.as_slice.ensures in
    let checkpoints = c.in_ok-checkpoint_lines.ensures ∙ ap (λ (l : List ℕ). map checkpoint_line (zip history.checkpoints l)) c.as_slice-2.ensures in
    λ i. record { versions = versions i; checkpoints = checkpoints i }

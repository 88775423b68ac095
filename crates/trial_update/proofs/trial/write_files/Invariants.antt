use Rattle.std.proofs.Common.{map, drop}
use Rattle.trial_update.specs.Trials.{writing}
use Rattle.trial_update.proofs.Turning.{IsLeft}
use Rattle.trial_update.proofs.trial.write_files.Given as goal

abbrev pub invariant-loop-file : goal.invariant-loop-file
invariant-loop-file g l = IsLeft l.fn.fs (map writing l.files) l.fs (map writing (drop l.file-index l.files))

-- What an image answers to a script, which leaves it as it is.
use Rattle.std.specs.Prelude.{◌≡◌, ◌⊎◌, ℕ, true, Option, Some, Result, Ok, Err, List, [], take}
use Rattle.std.specs.Io.KnownBytes.{Appends}
use Rattle.flash_simulation.specs.declared.sim_flash.SimFlash.{SimFlash}
use Rattle.script_runs.specs.Scripts.{Streams, streams_at}
use Rattle.image_jobs.specs.Images.{Plays}
use Rattle.image_jobs.specs.declared.failure.Failure.{Failure}
use Rattle.image_words.specs.Histories.{unprinted}

-- a script on a file ends so, no line of it being refused, or at the first that is
abbrev pub Answers : List ℕ → Option (List ℕ) → Result SimFlash Failure → List ℕ → Type 0
Answers script held result replies = (rest : Option (List ℕ)) × Plays true held (streams_at (Some script) (Some [])) result (streams_at rest (Some replies))

-- the replies to a script on an image are written; or it does not run to its end, and nothing is; or the output fails
abbrev pub RepliesEnd : List ℕ → Option (List ℕ) → Result (Unit {0}) Failure → Option (List ℕ) → Option (List ℕ) → Type 0
RepliesEnd script held (Ok done) old new = (end : SimFlash) × (replies : List ℕ) × Answers script held (Ok end) replies × Appends old new replies
RepliesEnd script held (Err failure) old new = ((broken : Failure) × (replies : List ℕ) × Answers script held (Err broken) replies × (failure ≡ unprinted broken) × (new ≡ old))
    ⊎ ((end : SimFlash) × (replies : List ℕ) × (n : ℕ) × Answers script held (Ok end) replies × (failure ≡ Failure.Output) × Appends old new (take n replies))

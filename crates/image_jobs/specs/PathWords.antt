-- The path that a word of the program spells.
use Rattle.std.specs.Prelude.{◌≡◌, ◌⊎◌, ℕ, nat_eq, if◌then◌else◌, Result, Ok, Err, List, codes, ◌++◌}
use Rattle.std.specs.List.{list_any}
use Rattle.fs_types.specs.Names.{Path}
use Rattle.image_jobs.specs.declared.failure.Failure.{Failure}
use Rattle.fs_types.specs.declared.call.Call.{Call}
use Rattle.script.specs.Lines.{line_of}
use Rattle.script.specs.Replies.{escaped}
use Rattle.fs_types.specs.declared.ask.Ask.{Ask}
use Rattle.fs_types.specs.declared.event.Event.{Event}
use Rattle.script.specs.declared.line.Line.{Line}
use Rattle.script_runs.specs.declared.scripts.Refusal.{Refusal}

-- the path that a line `mkdir` names, or how the line is refused
abbrev pub path_of_call : Call → Result Path Failure
path_of_call (Call.Mkdir path) = Ok path
path_of_call _ = Err (Failure.Refused Refusal.Syntax)

abbrev pub path_of_line : Line → Result Path Failure
path_of_line (Line.Ask (Ask.Event (Event.Call call))) = path_of_call call
path_of_line (Line.Refused fault) = Err (Failure.Refused (Refusal.Fault fault))
path_of_line _ = Err (Failure.Refused Refusal.Syntax)

-- a word as a path in a line of a script: one with `%` (37) is spelled so, and of another each byte is meant
abbrev pub path_escaped : List ℕ → List ℕ
path_escaped word = if list_any (λ byte. nat_eq byte 37) word then word else escaped word

-- the path that a word spells
abbrev pub path_spelled : List ℕ → Result Path Failure
path_spelled word = path_of_line (line_of (codes "mkdir " ++ path_escaped word))

-- why it is not had: the word spells none, or for want of memory
abbrev pub SpellingCause : List ℕ → Failure → Type 0
SpellingCause word failure = (failure ≡ Failure.Memory) ⊎ (path_spelled word ≡ Err failure)

-- Calls of the history on the file of an image: the script of a word, and how it ends.
use Rattle.std.specs.Prelude.{◌≡◌, ◌⊎◌, ℕ, min, true, Option, Some, None, Result, Ok, Err, List, [], ◌++◌, codes, decimal}
use Rattle.std.specs.List.{repeat}
use Rattle.fs_types.specs.declared.limits.TheConstants.{MAX_VERSIONS}
use Rattle.command_line.specs.declared.tasks.HistoryCall.{HistoryCall}
use Rattle.script.specs.Lines.{line_of}
use Rattle.fs_types.specs.declared.ask.Ask.{Ask}
use Rattle.fs_types.specs.declared.event.Event.{Event}
use Rattle.script.specs.declared.line.Line.{Line}
use Rattle.host_interface.specs.Files.{Held}
use Rattle.script_runs.specs.declared.scripts.Refusal.{Refusal}
use Rattle.image_jobs.specs.Failures.{of_refusal}
use Rattle.image_jobs.specs.Images.{RunEnds, host_at}
use Rattle.image_jobs.specs.declared.failure.Failure.{Failure}

-- the line of a script that asks for a call of the history, with its word: the name of a checkpoint, or a serial
abbrev pub history_line : HistoryCall → List ℕ → ℕ → List ℕ
history_line HistoryCall.Undo word count = codes "undo"
history_line HistoryCall.Redo word count = codes "redo"
history_line HistoryCall.Goto word count = codes "goto " ++ word
history_line HistoryCall.Rollback word count = codes "rollback " ++ word
history_line HistoryCall.Checkpoint word count = codes "checkpoint " ++ word
history_line HistoryCall.RemoveCheckpoint word count = codes "rmcheckpoint " ++ word
history_line HistoryCall.Forget word count = codes "forget " ++ decimal count
history_line HistoryCall.ForgetFree word count = codes "forgetfree " ++ decimal count

-- how often it is asked for: a step by each. A history has at most so many versions, and so fewer steps: as many lines as versions
-- are refused, and stand for any greater number
abbrev pub line_count : HistoryCall → ℕ → ℕ
line_count HistoryCall.Undo count = min count MAX_VERSIONS
line_count HistoryCall.Redo count = min count MAX_VERSIONS
line_count _ count = 1

-- the script: the line so many times, and a sync
abbrev pub history_script : List ℕ → ℕ → List ℕ
history_script line count = repeat count (line ++ codes "\n") ++ codes "sync\n"

-- how an event is refused before a call is carried out, if it is, what is asked for, and a line
abbrev pub refusal_of_event : Event → Option Refusal
refusal_of_event (Event.Call call) = None
refusal_of_event event = Some Refusal.Syntax

abbrev pub refusal_of_ask : Ask → Option Refusal
refusal_of_ask (Ask.Event event) = refusal_of_event event
refusal_of_ask (Ask.ForgetFree blocks) = None
refusal_of_ask Ask.Space = Some Refusal.Syntax

abbrev pub refusal_of_line : Line → Option Refusal
refusal_of_line (Line.Ask ask) = refusal_of_ask ask
refusal_of_line (Line.Refused fault) = Some (Refusal.Fault fault)
refusal_of_line line = Some Refusal.Syntax

abbrev pub script_unless : Option Refusal → List ℕ → Result (List ℕ) Failure
script_unless None script = Ok script
script_unless (Some refusal) script = Err (Failure.Refused refusal)

-- the script of a call with its words, or how they are refused
abbrev pub history_spelled : HistoryCall → List ℕ → ℕ → Result (List ℕ) Failure
history_spelled call word count =
    script_unless (refusal_of_line (line_of (history_line call word count))) (history_script (history_line call word count) (line_count call count))

-- why a script is not had: the words are refused, or for want of memory
abbrev pub Unspelled : Result (List ℕ) Failure → Failure → Type 0
Unspelled spelled failure = (failure ≡ Failure.Memory) ⊎ (spelled ≡ Err failure)

-- what a failure of a script is told as, of which no reply is printed: a refused line without its number; and replies that are not
-- kept want memory
abbrev pub unprinted : Failure → Failure
unprinted (Failure.Stopped at) = of_refusal at.refusal
unprinted Failure.Output = Failure.Memory
unprinted failure = failure

abbrev pub told : Result (Unit {0}) Failure → Result (Unit {0}) Failure
told (Ok done) = Ok done
told (Err failure) = Err (unprinted failure)

-- a script runs on an image up to its first refused line, and no reply is printed
abbrev pub RunsUnprinted : List ℕ → List ℕ → (List ℕ → Type 0) → Held → Result (Unit {0}) Failure → Held → Type 0
RunsUnprinted script name IsClaimed held result saved = (ended : Result (Unit {0}) Failure) × (left : Option (List ℕ)) × (replies : Option (List ℕ))
    × RunEnds true name IsClaimed (host_at held (Some script) (Some [])) ended (host_at saved left replies) × (result ≡ told ended)

-- the script of a trim: all that the image reaches is marked, all other data blocks are cleaned then, and a sync
abbrev pub trim_script : List ℕ
trim_script = codes "reclaim 18446744073709551615\nclean 18446744073709551615\nsync\n"

-- a call of the history is carried out on an image, and synced, by its script; or there is none, and no file changes
abbrev pub HistoryEnds : Result (List ℕ) Failure → List ℕ → (List ℕ → Type 0) → Held → Result (Unit {0}) Failure → Held → Type 0
HistoryEnds spelled name IsClaimed held result saved = ((script : List ℕ) × (spelled ≡ Ok script) × RunsUnprinted script name IsClaimed held result saved)
    ⊎ ((failure : Failure) × Unspelled spelled failure × (result ≡ Err failure) × (saved ≡ held))

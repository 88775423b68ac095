-- What words ask of an image, and what is told of it.
use Rattle.std.specs.Prelude.{◌≡◌, ◌⊎◌, ◌||◌, ℕ, nat_eq, Bool, false, if◌then◌else◌, Option, Some, None, Result, Ok, Err, List, [], ◌∷◌, ◌++◌, codes}
use Rattle.std.specs.Borrow.{Bor}
use Rattle.fs_types.specs.Names.{Path}
use Rattle.fs_types.specs.declared.call.Call.{Call}
use Rattle.fs_types.specs.declared.call.View.{View}
use Rattle.flash_simulation.specs.Simulation.{device_of}
use Rattle.flash_simulation.specs.declared.sim_flash.SimFlash.{SimFlash}
use Rattle.script.specs.Lines.{line_of}
use Rattle.fs_types.specs.declared.ask.Ask.{Ask}
use Rattle.fs_types.specs.declared.event.Event.{Event}
use Rattle.script.specs.declared.line.Line.{Line}
use Rattle.inquiries.specs.Asked.{Tells, AskCause}
use Rattle.inquiries.specs.declared.asking.AskFault.{AskFault}
use Rattle.inquiries.specs.declared.inquiry.Inquiry.{Inquiry}
use Rattle.image_jobs.specs.Failures.{of_system, of_refusal}
use Rattle.image_jobs.specs.PathWords.{path_spelled}
use Rattle.image_jobs.specs.declared.failure.Failure.{Failure}
use Rattle.script_runs.specs.Plans.{FollowsPlan}
use Rattle.script_runs.specs.declared.scripts.Refusal.{Refusal}

-- the view that a line `stat` names, or how the line is refused
abbrev pub view_of_call : Call → Result View Failure
view_of_call (Call.Stat view path) = Ok view
view_of_call _ = Err (Failure.Refused Refusal.Syntax)

abbrev pub view_of_line : Line → Result View Failure
view_of_line (Line.Ask (Ask.Event (Event.Call call))) = view_of_call call
view_of_line (Line.Refused fault) = Err (Failure.Refused (Refusal.Fault fault))
view_of_line _ = Err (Failure.Refused Refusal.Syntax)

-- the view that a word spells, as in a line of a script; without one the present version
abbrev pub view_spelled : Option (Bor (List ℕ)) → Result View Failure
view_spelled None = Ok View.Present
view_spelled (Some word) = view_of_line (line_of (codes "stat / " ++ word.now))

-- why what words spell is not had: they spell nothing, or for want of memory
abbrev pub IsMisspelled : {A : Type 0} → Result A Failure → Failure → Type 0
IsMisspelled spelled failure = (failure ≡ Failure.Memory) ⊎ (spelled ≡ Err failure)

-- what words ask: for a file its path is read first
abbrev pub file_in : Path → Result View Failure → Result Inquiry Failure
file_in path (Ok view) = Ok (Inquiry.File view path)
file_in path (Err failure) = Err failure

abbrev pub file_at : Result Path Failure → Result View Failure → Result Inquiry Failure
file_at (Ok path) view = file_in path view
file_at (Err failure) view = Err failure

abbrev pub file_spelled : List ℕ → Option (Bor (List ℕ)) → Result Inquiry Failure
file_spelled path view = file_at (path_spelled path) (view_spelled view)

abbrev pub tree_in : Result View Failure → Result Inquiry Failure
tree_in (Ok view) = Ok (Inquiry.Tree view)
tree_in (Err failure) = Err failure

abbrev pub tree_spelled : Option (Bor (List ℕ)) → Result Inquiry Failure
tree_spelled view = tree_in (view_spelled view)

-- a word that spells a view and no path: it begins with `@` (64) or `=` (61)
abbrev pub is_view_word : List ℕ → Bool
is_view_word [] = false
is_view_word (byte ∷ rest) = nat_eq byte 64 || nat_eq byte 61

-- the words of a path and of a view, each of which may be left out: without a path it is the root, and a view may stand alone
abbrev pub place_words : Option (Bor (List ℕ)) → Option (Bor (List ℕ)) → List ℕ × Option (Bor (List ℕ))
place_words None view = (codes "/", view)
place_words (Some word) (Some view) = (word.now, Some view)
place_words (Some word) None = if is_view_word word.now then (codes "/", Some word) else (word.now, None)

-- the view and the path that they spell: the path is read first
abbrev pub place_in : Path → Result View Failure → Result (View × Path) Failure
place_in path (Ok view) = Ok (view, path)
place_in path (Err failure) = Err failure

abbrev pub place_at : Result Path Failure → Result View Failure → Result (View × Path) Failure
place_at (Ok path) view = place_in path view
place_at (Err failure) view = Err failure

abbrev pub place_by : List ℕ × Option (Bor (List ℕ)) → Result (View × Path) Failure
place_by words = place_at (path_spelled words.0) (view_spelled words.1)

abbrev pub place_spelled : Option (Bor (List ℕ)) → Option (Bor (List ℕ)) → Result (View × Path) Failure
place_spelled path view = place_by (place_words path view)

-- for a list
abbrev pub list_of : Result (View × Path) Failure → Result Inquiry Failure
list_of (Ok place) = Ok (Inquiry.List place.0 place.1)
list_of (Err failure) = Err failure

abbrev pub list_spelled : Option (Bor (List ℕ)) → Option (Bor (List ℕ)) → Result Inquiry Failure
list_spelled path view = list_of (place_spelled path view)

-- the history of a path
abbrev pub path_history_of : Result Path Failure → Result Inquiry Failure
path_history_of (Ok path) = Ok (Inquiry.History path)
path_history_of (Err failure) = Err failure

abbrev pub path_history_spelled : List ℕ → Result Inquiry Failure
path_history_spelled path = path_history_of (path_spelled path)

-- for the difference of two trees the first view is read first
abbrev pub differences_from : View → Result View Failure → Result Inquiry Failure
differences_from old (Ok new) = Ok (Inquiry.Differences old new)
differences_from old (Err failure) = Err failure

abbrev pub differences_between : Result View Failure → Result View Failure → Result Inquiry Failure
differences_between (Ok old) new = differences_from old new
differences_between (Err failure) new = Err failure

abbrev pub differences_spelled : Option (Bor (List ℕ)) → Option (Bor (List ℕ)) → Result Inquiry Failure
differences_spelled view other = differences_between (view_spelled view) (view_spelled other)

-- by why nothing is told
abbrev pub of_ask : AskFault → Failure
of_ask (AskFault.Unmounted fault) = of_system fault
of_ask (AskFault.Refused fault) = of_refusal (Refusal.Fault fault)
of_ask AskFault.TooManyLines = Failure.TooManyLines

-- these bytes are told of a flash that is found so
abbrev pub IsToldBy : (SimFlash → Type 0) → Inquiry → List ℕ → Type 0
IsToldBy IsThere inquiry bytes = (start : SimFlash) × IsThere start × Tells (device_of start) inquiry bytes

-- why nothing is told: there is no flash for its cause, or it is not mounted, or what is asked is refused
abbrev pub UntoldBy : (SimFlash → Type 0) → (Failure → Type 0) → Inquiry → Failure → Type 0
UntoldBy IsThere Cause inquiry failure = Cause failure
    ⊎ ((start : SimFlash) × (end : SimFlash) × (fault : AskFault) × IsThere start × AskCause (device_of start) inquiry (device_of end) fault × FollowsPlan start end × (failure ≡ of_ask fault))

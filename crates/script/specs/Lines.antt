-- What the lines of a script ask. A line is words with one space between them.
use Rattle.std.specs.Prelude.{ℕ, ◌==◌, nat_lt, Option, Some, None, unwrap_or, Result, Ok, Err, List, [], ◌∷◌, length, if◌then◌else◌}
use Rattle.std.specs.List.{slice_split}
use Rattle.std.specs.Map.{lookup}
use Rattle.std.specs.Option.{option_map}
use Rattle.std.specs.Str.{bytes_eq}
use Rattle.fs_types.specs.Names.{Name, Path, name_refusal, path_refusal, components_of, is_checkpoint_name}
use Rattle.fs_types.specs.declared.fault.Fault.{Fault}
use Rattle.fs_types.specs.declared.fault.Fault.TheVariants.{Invalid}
use Rattle.fs_types.specs.declared.ask.Ask.{Ask}
use Rattle.fs_types.specs.declared.call.Call.{Call}
use Rattle.fs_types.specs.declared.call.View.{View}
use Rattle.fs_types.specs.declared.event.Event.{Event}
use Rattle.fs_types.specs.declared.call.View.TheVariants.{Present, Serial, Checkpoint as checkpoint_view}
use Rattle.fs_types.specs.declared.call.Call.TheVariants.{Open, Close, Pread, Pwrite, Ftruncate, WriteFile, Rename, Unlink, Mkdir, Rmdir, Fsync, Sync, Stat, List as list_call, ReadAt, Entries, Log, Df, Undo, Redo, Goto, Rollback, Forget, Checkpoint, RemoveCheckpoint, Begin, End, Abandon}
use Rattle.script.specs.Kinds.{kinds}
use Rattle.script.specs.Verbs.{verbs}
use Rattle.script.specs.declared.verb.Verb.{Verb}
use Rattle.script.specs.Words.{well_formed, number_from, text_from, data_from}
use Rattle.script.specs.declared.line.Line.{Line}
use Rattle.script.specs.declared.line.Line.TheVariants.{Ask as Asked, PlanFault, Refused, Syntax}
use Rattle.script.specs.declared.misread.Misread.{Misread}
use Rattle.script.specs.declared.misread.Misread.TheVariants.{Syntax as no_form, Refused as refused}
use Rattle.script.specs.declared.views.NamedView.{NamedView}
use Rattle.script.specs.declared.views.NamedView.TheVariants.{Now, AtSerial, AtName}

-- the line that asks for an event, and for a call
abbrev pub event_line : Event → Line
event_line event = Asked (Ask.Event event)

abbrev pub call_line : Call → Line
call_line call = event_line (Event.Call call)

-- the second step where the first gave a value
infixl 10 ◌>>=◌
abbrev pub ◌>>=◌ : {A B : Type 0} → Result A Misread → (A → Result B Misread) → Result B Misread
Ok x >>= f = f x
Err e >>= f = Err e

-- a value, where nothing refuses it
abbrev pub allowed : {A : Type 0} → Option Fault → A → Result A Misread
allowed None x = Ok x
allowed (Some fault) x = Err (refused fault)

abbrev pub path_of : List ℕ → Result Path Misread
path_of bytes = allowed (path_refusal bytes) (components_of bytes)

abbrev pub name_of : List ℕ → Result (List ℕ) Misread
name_of bytes = if is_checkpoint_name bytes then Ok bytes else Err (refused Invalid)

-- a name of a directory's entry
abbrev pub entry_name_of : List ℕ → Result Name Misread
entry_name_of bytes = allowed (name_refusal bytes) bytes

-- the name after which entries are wanted; no bytes name none, so that the first ones are
abbrev pub from_of : List ℕ → Result (Option Name) Misread
from_of [] = Ok None
from_of (b ∷ bytes) = entry_name_of (b ∷ bytes) >>= λ name. Ok (Some name)

-- the words after the first one: none, one, two or three, or some and then a view
abbrev pub no_words : List (List ℕ) → Result (Unit {0}) Misread
no_words [] = Ok tt
no_words (word ∷ words) = Err no_form

abbrev pub one_word : List (List ℕ) → Result (List ℕ) Misread
one_word (first ∷ []) = Ok first
one_word _ = Err no_form

abbrev pub two_words : List (List ℕ) → Result (List ℕ × List ℕ) Misread
two_words (first ∷ second ∷ []) = Ok (first, second)
two_words _ = Err no_form

abbrev pub three_words : List (List ℕ) → Result (List ℕ × List ℕ × List ℕ) Misread
three_words (first ∷ second ∷ third ∷ []) = Ok (first, second, third)
three_words _ = Err no_form

abbrev pub one_word_and_view : List (List ℕ) → Result (List ℕ × List (List ℕ)) Misread
one_word_and_view (first ∷ view) = Ok (first, view)
one_word_and_view _ = Err no_form

abbrev pub three_words_and_view : List (List ℕ) → Result (List ℕ × List ℕ × List ℕ × List (List ℕ)) Misread
three_words_and_view (first ∷ second ∷ third ∷ view) = Ok (first, second, third, view)
three_words_and_view _ = Err no_form

-- a view: `@` and a serial, or `=` and a name; without a word the present version
abbrev pub view_from : List ℕ → Result NamedView Misread
view_from [] = Err no_form
view_from (mark ∷ rest) = if mark == 64 then (well_formed (number_from rest) >>= λ serial. Ok (AtSerial serial)) else if mark == 61 then (well_formed (text_from rest) >>= λ name. Ok (AtName name)) else Err no_form

abbrev pub named_view : List (List ℕ) → Result NamedView Misread
named_view [] = Ok Now
named_view (word ∷ []) = view_from word
named_view _ = Err no_form

-- the view, where its name is one of a checkpoint
abbrev pub view_of : NamedView → Result View Misread
view_of Now = Ok Present
view_of (AtSerial serial) = Ok (Serial serial)
view_of (AtName bytes) = name_of bytes >>= λ name. Ok (checkpoint_view name)

-- one number, one path, one name, or a path and a view
abbrev pub only_number : List (List ℕ) → Result ℕ Misread
only_number words = do
  word ← one_word words
  well_formed (number_from word)

abbrev pub only_path : List (List ℕ) → Result Path Misread
only_path words = do
  word ← one_word words
  bytes ← well_formed (text_from word)
  path_of bytes

abbrev pub lone_name : List (List ℕ) → Result (List ℕ) Misread
lone_name words = do
  word ← one_word words
  bytes ← well_formed (text_from word)
  name_of bytes

abbrev pub path_in_view : List ℕ → List (List ℕ) → Result (Path × View) Misread
path_in_view bytes words = do
  named ← named_view words
  path ← path_of bytes
  view ← view_of named
  Ok (path, view)

abbrev pub path_and_view : List (List ℕ) → Result (Path × View) Misread
path_and_view words = do
  parts ← one_word_and_view words
  bytes ← well_formed (text_from parts.0)
  named ← named_view parts.1
  path ← path_of bytes
  view ← view_of named
  Ok (path, view)

abbrev pub open_line : List (List ℕ) → Result Line Misread
open_line words = do
  parts ← two_words words
  bytes ← well_formed (text_from parts.0)
  flags ← well_formed (number_from parts.1)
  path ← path_of bytes
  Ok (call_line (Open path (record { 0 = flags })))

abbrev pub pread_line : List (List ℕ) → Result Line Misread
pread_line words = do
  parts ← three_words words
  descriptor ← well_formed (number_from parts.0)
  offset ← well_formed (number_from parts.1)
  count ← well_formed (number_from parts.2)
  Ok (call_line (Pread descriptor offset count))

abbrev pub pwrite_line : List (List ℕ) → Result Line Misread
pwrite_line words = do
  parts ← three_words words
  descriptor ← well_formed (number_from parts.0)
  offset ← well_formed (number_from parts.1)
  bytes ← well_formed (data_from parts.2)
  Ok (call_line (Pwrite descriptor offset bytes))

abbrev pub ftruncate_line : List (List ℕ) → Result Line Misread
ftruncate_line words = do
  parts ← two_words words
  descriptor ← well_formed (number_from parts.0)
  size ← well_formed (number_from parts.1)
  Ok (call_line (Ftruncate descriptor size))

abbrev pub write_line : List (List ℕ) → Result Line Misread
write_line words = do
  parts ← two_words words
  spelled ← well_formed (text_from parts.0)
  bytes ← well_formed (data_from parts.1)
  path ← path_of spelled
  Ok (call_line (WriteFile path bytes))

abbrev pub rename_line : List (List ℕ) → Result Line Misread
rename_line words = do
  parts ← two_words words
  old ← well_formed (text_from parts.0)
  new ← well_formed (text_from parts.1)
  from ← path_of old
  to ← path_of new
  Ok (call_line (Rename from to))

abbrev pub read_line : List (List ℕ) → Result Line Misread
read_line words = do
  parts ← three_words_and_view words
  bytes ← well_formed (text_from parts.0)
  offset ← well_formed (number_from parts.1)
  count ← well_formed (number_from parts.2)
  named ← named_view parts.3
  path ← path_of bytes
  view ← view_of named
  Ok (call_line (ReadAt view path offset count))

abbrev pub stat_line : List (List ℕ) → Result Line Misread
stat_line words = do
  parts ← path_and_view words
  Ok (call_line (Stat parts.1 parts.0))

abbrev pub list_line : List (List ℕ) → Result Line Misread
list_line words = do
  parts ← path_and_view words
  Ok (call_line (list_call parts.1 parts.0))

abbrev pub entries_line : List (List ℕ) → Result Line Misread
entries_line words = do
  parts ← three_words_and_view words
  bytes ← well_formed (text_from parts.0)
  from ← well_formed (text_from parts.1)
  most ← well_formed (number_from parts.2)
  named ← named_view parts.3
  path ← path_of bytes
  name ← from_of from
  view ← view_of named
  Ok (call_line (Entries view path name most))

-- a line of its verb alone
abbrev pub alone : Line → List (List ℕ) → Result Line Misread
alone line words = no_words words >>= λ _. Ok line

-- a number and a kind
abbrev pub fault_line : List (List ℕ) → Result Line Misread
fault_line words = do
  parts ← two_words words
  k ← well_formed (number_from parts.0)
  kind ← well_formed (lookup (bytes_eq parts.1) kinds)
  Ok (PlanFault k kind)

-- what a verb and the words after it ask
abbrev pub asked : Verb → List (List ℕ) → Result Line Misread
asked Verb.Open words = open_line words
asked Verb.Close words = only_number words >>= λ descriptor. Ok (call_line (Close descriptor))
asked Verb.Pread words = pread_line words
asked Verb.Pwrite words = pwrite_line words
asked Verb.Ftruncate words = ftruncate_line words
asked Verb.Write words = write_line words
asked Verb.Rename words = rename_line words
asked Verb.Unlink words = only_path words >>= λ path. Ok (call_line (Unlink path))
asked Verb.Mkdir words = only_path words >>= λ path. Ok (call_line (Mkdir path))
asked Verb.Rmdir words = only_path words >>= λ path. Ok (call_line (Rmdir path))
asked Verb.Fsync words = only_number words >>= λ descriptor. Ok (call_line (Fsync descriptor))
asked Verb.Sync words = alone (call_line Sync) words
asked Verb.Stat words = stat_line words
asked Verb.Ls words = list_line words
asked Verb.Read words = read_line words
asked Verb.Entries words = entries_line words
asked Verb.Undo words = alone (call_line Undo) words
asked Verb.Redo words = alone (call_line Redo) words
asked Verb.Goto words = only_number words >>= λ serial. Ok (call_line (Goto serial))
asked Verb.Rollback words = lone_name words >>= λ name. Ok (call_line (Rollback name))
asked Verb.Forget words = only_number words >>= λ count. Ok (call_line (Forget count))
asked Verb.ForgetFree words = only_number words >>= λ blocks. Ok (Asked (Ask.ForgetFree blocks))
asked Verb.Checkpoint words = lone_name words >>= λ name. Ok (call_line (Checkpoint name))
asked Verb.Rmcheckpoint words = lone_name words >>= λ name. Ok (call_line (RemoveCheckpoint name))
asked Verb.Begin words = alone (call_line Begin) words
asked Verb.End words = alone (call_line End) words
asked Verb.Abandon words = alone (call_line Abandon) words
asked Verb.Log words = alone (call_line Log) words
asked Verb.Df words = alone (call_line Df) words
asked Verb.Space words = alone (Asked Ask.Space) words
asked Verb.Reclaim words = only_number words >>= λ budget. Ok (event_line (Event.ReclaimStep budget))
asked Verb.Clean words = only_number words >>= λ budget. Ok (event_line (Event.CleanStep budget))
asked Verb.Prepare words = only_number words >>= λ budget. Ok (event_line (Event.PrepareStep budget))
asked Verb.Restart words = alone (event_line Event.Restart) words
asked Verb.PlanFault words = fault_line words

-- a line that asks nothing is answered by why
abbrev pub line_or_reason : Result Line Misread → Line
line_or_reason (Ok line) = line
line_or_reason (Err (refused fault)) = Refused fault
line_or_reason (Err _) = Syntax

-- what words ask
abbrev pub line_of_words : List (List ℕ) → Line
line_of_words [] = Syntax
line_of_words (first ∷ words) = unwrap_or (option_map (λ verb. line_or_reason (asked verb words)) (lookup (bytes_eq first) verbs)) Syntax

-- what a line asks, without its LF: at most 65,536 bytes, with one space between words
abbrev pub line_of : List ℕ → Line
line_of bytes = if nat_lt 65536 (length bytes) then Syntax else line_of_words (slice_split (λ b. b == 32) bytes)

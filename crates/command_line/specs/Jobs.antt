-- The job that words ask for.
use Rattle.std.specs.Prelude.{◌≡◌, ◌^◌, ◌<◌, ℕ, Bool, true, false, Option, Some, None, List, codes, if◌then◌else◌, option_map, option_and_then, is_some}
use Rattle.std.specs.Borrow.{Bor}
use Rattle.std.specs.Str.{bytes_eq}
use Rattle.std.specs.Str.Parse.{IsNumeral, without_leading_plus, digits_value}
use Rattle.clap.specs.Words.{Row, Text, subcommand_of}
use Rattle.clap.specs.Walk.{first_of, one_of}
use Rattle.command_words.specs.Grammar.{uffs}
use Rattle.command_line.specs.declared.tasks.HistoryCall.{HistoryCall}
use Rattle.command_line.specs.declared.tasks.Task.{Task}
use Rattle.command_line.specs.declared.tasks.Job.{Job}
use Rattle.command_line.specs.declared.words.Numbers.{Numbers}

-- the subcommand that the words name, with what they say of its arguments
abbrev pub given : List Text → Option (Text × List Row)
given words = subcommand_of uffs words

-- a task that asks for no file
abbrev pub task_named_without_files : Text → Option Task
task_named_without_files name = if bytes_eq name (codes "memory") then Some Task.Memory
    else if bytes_eq name (codes "explain") then Some Task.Explain
    else if bytes_eq name (codes "help") then Some Task.Help
    else if bytes_eq name (codes "version") then Some Task.Version
    else None

-- a task on another form of a flash, or on an archive
abbrev pub other_form_task_named : Text → Option Task
other_form_task_named name = if bytes_eq name (codes "serve") then Some Task.Serve
    else if bytes_eq name (codes "to-part") then Some Task.ToPart
    else if bytes_eq name (codes "from-part") then Some Task.FromPart
    else if bytes_eq name (codes "raw") then Some Task.ToRaw
    else if bytes_eq name (codes "from-raw") then Some Task.FromRaw
    else if bytes_eq name (codes "tar") then Some Task.Tar
    else if bytes_eq name (codes "untar") then Some Task.Untar
    else task_named_without_files name

-- a task that only reads an image
abbrev pub reading_task_named : Text → Option Task
reading_task_named name = if bytes_eq name (codes "cat") then Some Task.Cat
    else if bytes_eq name (codes "tree") then Some Task.Tree
    else if bytes_eq name (codes "ls") then Some Task.List
    else if bytes_eq name (codes "du") then Some Task.Usage
    else if bytes_eq name (codes "history") then Some Task.PathHistory
    else if bytes_eq name (codes "diff") then Some Task.Diff
    else if bytes_eq name (codes "versions") then Some Task.Versions
    else if bytes_eq name (codes "check") then Some Task.Check
    else if bytes_eq name (codes "log") then Some Task.Log
    else if bytes_eq name (codes "df") then Some Task.Df
    else if bytes_eq name (codes "map") then Some Task.Map
    else other_form_task_named name

-- a task that moves in the history, or keeps it short
abbrev pub history_task_named : Text → Option Task
history_task_named name = if bytes_eq name (codes "undo") then Some (Task.History HistoryCall.Undo)
    else if bytes_eq name (codes "redo") then Some (Task.History HistoryCall.Redo)
    else if bytes_eq name (codes "goto") then Some (Task.History HistoryCall.Goto)
    else if bytes_eq name (codes "rollback") then Some (Task.History HistoryCall.Rollback)
    else if bytes_eq name (codes "checkpoint") then Some (Task.History HistoryCall.Checkpoint)
    else if bytes_eq name (codes "rmcheckpoint") then Some (Task.History HistoryCall.RemoveCheckpoint)
    else if bytes_eq name (codes "forget") then Some (Task.History HistoryCall.Forget)
    else reading_task_named name

-- the task of a subcommand, by its name, else one of the others
abbrev pub task_named : Text → Option Task
task_named name = if bytes_eq name (codes "format") then Some Task.Format
    else if bytes_eq name (codes "run") then Some Task.Run
    else if bytes_eq name (codes "put") then Some Task.Put
    else if bytes_eq name (codes "trim") then Some Task.Trim
    else if bytes_eq name (codes "get") then Some Task.Get
    else if bytes_eq name (codes "update") then Some Task.Update
    else if bytes_eq name (codes "create") then Some Task.Create
    else if bytes_eq name (codes "copy") then Some Task.Copy
    else history_task_named name

-- versions are forgotten by how many they are, or by how many blocks are to be free: one of the two is given
abbrev pub forget_task : Bool → Bool → Option Task
forget_task true false = Some (Task.History HistoryCall.Forget)
forget_task false true = Some (Task.History HistoryCall.ForgetFree)
forget_task _ _ = None

-- a format is that of a part or of an image: one of the two is named
abbrev pub format_task : Bool → Bool → Option Task
format_task true false = Some Task.FormatPart
format_task false true = Some Task.Format
format_task _ _ = None

-- a session is one on a part in a flat file, or one with a driver, whose answers and orders are both named
abbrev pub serve_task : Bool → Bool → Bool → Option Task
serve_task true false false = Some Task.ServePart
serve_task false true true = Some Task.Serve
serve_task _ _ _ = None

-- a map is printed, or it is put into a file as a page
abbrev pub map_task : Bool → Task
map_task true = Task.MapPage
map_task false = Task.Map

-- what differs is told of a view, or without one of the last change
abbrev pub difference_task : Bool → Task
difference_task true = Task.Diff
difference_task false = Task.LastChange

-- help tells of all words, or of one that there is
abbrev pub help_task : Option Text → Option Task
help_task None = Some Task.Help
help_task (Some word) = option_map (λ task. Task.Help) (task_named word)

-- whether a word of this name is given
abbrev pub has_word : Text → List Row → Bool
has_word name rows = is_some (first_of name rows)

-- the task of a subcommand with these words
abbrev pub task_with : List Row → Task → Option Task
task_with rows (Task.History HistoryCall.Forget) = forget_task (has_word (codes "N") rows) (has_word (codes "free") rows)
task_with rows Task.Format = format_task (has_word (codes "part") rows) (has_word (codes "IMAGE") rows)
task_with rows Task.Serve = serve_task (has_word (codes "part") rows) (has_word (codes "ANSWERS") rows) (has_word (codes "ORDERS") rows)
task_with rows Task.Map = Some (map_task (has_word (codes "FILE") rows))
task_with rows Task.Diff = Some (difference_task (has_word (codes "VIEW") rows))
task_with rows Task.Help = help_task (first_of (codes "WORD") rows)
task_with rows task = Some task

abbrev pub task_asked : Text → List Row → Option Task
task_asked name rows = option_and_then (task_with rows) (task_named name)

-- the word of a task that says how many
abbrev pub count_word : Task → Text
count_word (Task.History HistoryCall.ForgetFree) = codes "free"
count_word _ = codes "N"

-- the number of 32 bits that a word spells in decimal digits
abbrev pub Spells : Text → ℕ → Type 0
Spells word n = IsNumeral 10 (without_leading_plus word) × (digits_value 10 (without_leading_plus word) ≡ n) × (n < 2 ^ 32)

-- the number is the one that the word of the option spells, and where there is none the default
abbrev pub IsNumberOf : Option Text → ℕ → ℕ → Type 0
IsNumberOf (Some word) default n = Spells word n
IsNumberOf None default n = n ≡ default

-- the numbers are those of the options of a task, and where there is none the defaults
pub record AreNumbersOf (command : Task) (rows : List Row) (numbers : Numbers) : Type 0 where
  pub page : IsNumberOf (one_of (codes "page") rows) 256 numbers.page
  pub pages : IsNumberOf (one_of (codes "pages") rows) 16 numbers.pages
  pub blocks : IsNumberOf (one_of (codes "blocks") rows) 32 numbers.blocks
  pub history : IsNumberOf (one_of (codes "history") rows) 8 numbers.history
  pub count : IsNumberOf (one_of (count_word command) rows) 1 numbers.count

-- the tasks that are done on no image
abbrev pub has_no_image : Task → Bool
has_no_image Task.Memory = true
has_no_image Task.Serve = true
has_no_image Task.ServePart = true
has_no_image Task.FormatPart = true
has_no_image Task.Explain = true
has_no_image Task.Help = true
has_no_image Task.Version = true
has_no_image _ = false

-- a job names the image that the words name, and none where the task has none
pub record IsImageOf (task : Task) (word image : Option Text) : Type 0 where
  pub none : has_no_image task ≡ true → image ≡ None
  pub others : has_no_image task ≡ false → (is_some image ≡ true) × (image ≡ word)

-- a flag is on where the words give it
abbrev pub flag_of : Option Text → Bool
flag_of (Some word) = bytes_eq word (codes "true")
flag_of None = false

-- the text of a word, if there is one
abbrev pub word_text : Option (Bor (List ℕ)) → Option Text
word_text = option_map (λ (s : Bor (List ℕ)). s.now)

-- the job is what a subcommand with its arguments says: numbers that no word gives are 256, 16, 32, 8 and 1, and other words
-- are as given
pub record IsJobOf (name : Text) (rows : List Row) (job : Job) : Type 0 where
  pub command : task_asked name rows ≡ Some job.command
  pub image : IsImageOf job.command (first_of (codes "IMAGE") rows) (word_text job.image)
  pub page : IsNumberOf (one_of (codes "page") rows) 256 job.page
  pub pages : IsNumberOf (one_of (codes "pages") rows) 16 job.pages
  pub blocks : IsNumberOf (one_of (codes "blocks") rows) 32 job.blocks
  pub history : IsNumberOf (one_of (codes "history") rows) 8 job.history
  pub count : IsNumberOf (one_of (count_word job.command) rows) 1 job.count
  pub refusal : word_text job.refusal ≡ first_of (codes "REFUSAL") rows
  pub checkpoint : word_text job.checkpoint ≡ first_of (codes "NAME") rows
  pub is_page_given : job.is_page_given ≡ is_some (first_of (codes "page") rows)
  pub is_pages_given : job.is_pages_given ≡ is_some (first_of (codes "pages") rows)
  pub is_blocks_given : job.is_blocks_given ≡ is_some (first_of (codes "blocks") rows)
  pub is_history_given : job.is_history_given ≡ is_some (first_of (codes "history") rows)
  pub answers : word_text job.answers ≡ first_of (codes "ANSWERS") rows
  pub orders : word_text job.orders ≡ first_of (codes "ORDERS") rows
  pub part : word_text job.part ≡ first_of (codes "part") rows
  pub exit_code : job.exit_code ≡ flag_of (first_of (codes "exit-code") rows)
  pub stop : job.stop ≡ flag_of (first_of (codes "stop") rows)
  pub path : word_text job.path ≡ first_of (codes "PATH") rows
  pub file : word_text job.file ≡ first_of (codes "FILE") rows
  pub view : word_text job.view ≡ first_of (codes "VIEW") rows
  pub other : word_text job.other ≡ first_of (codes "OTHER") rows
  pub serial : word_text job.serial ≡ first_of (codes "SERIAL") rows
  pub word : word_text job.word ≡ first_of (codes "WORD") rows
  pub progress : job.progress ≡ flag_of (first_of (codes "progress") rows)
  pub mirror : job.mirror ≡ flag_of (first_of (codes "mirror") rows)
  pub skip_links : job.skip_links ≡ flag_of (first_of (codes "skip-links") rows)
  pub salvage : job.salvage ≡ flag_of (first_of (codes "salvage") rows)
  pub changes : job.changes ≡ flag_of (first_of (codes "changes") rows)

-- the job is what a subcommand says, where one was named
abbrev pub SaysJob : Option (Text × List Row) → Job → Type 0
SaysJob (Some (name, rows)) job = IsJobOf name rows job
SaysJob None job = ⊥

-- the job is what the words ask for
abbrev pub AsksFor : List Text → Job → Type 0
AsksFor words = SaysJob (given words)

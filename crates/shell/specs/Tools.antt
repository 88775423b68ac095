-- What the program does on the files of images, on its input and on its output, and its status, for each way it ends.
use Rattle.std.specs.Prelude.{◌≡◌, ◌≢◌, ◌⊎◌, ℕ, Bool, true, false, if◌then◌else◌, Option, Some, None, Result, Ok, Err, IfSome, List, [], ◌∷◌, codes}
use Rattle.std.specs.Borrow.{Bor}
use Rattle.std.specs.Io.KnownBytes.{Consumes}
use Rattle.std.specs.Str.{bytes_eq}
use Rattle.clap.specs.Words.{fault_of}
use Rattle.clap.specs.declared.error.kind.ErrorKind.{ErrorKind}
use Rattle.flash_model.specs.declared.geometry.Geometry.{Geometry}
use Rattle.command_words.specs.Grammar.{uffs}
use Rattle.command_line.specs.Jobs.{AsksFor}
use Rattle.command_line.specs.declared.tasks.HistoryCall.{HistoryCall}
use Rattle.command_line.specs.declared.tasks.Job.{Job}
use Rattle.command_line.specs.declared.tasks.Task.{Task}
use Rattle.inquiries.specs.declared.inquiry.Inquiry.{Inquiry}
use Rattle.shell.specs.Explained.{ExplainEnds, HelpEnds, PrintEnds, version_line}
use Rattle.image_jobs.specs.InquiryWords.{file_spelled, tree_spelled, list_spelled, place_spelled, path_history_spelled, differences_spelled}
use Rattle.flash_simulation.specs.Images.{image_of, IsFresh}
use Rattle.flash_model.specs.Device.{Device}
use Rattle.image_jobs.specs.Failures.{of_image, of_script, job_status, status_of}
use Rattle.image_jobs.specs.Images.{FormatEnds, Host, streams_of, RunEnds, CheckEnds}
use Rattle.host_interface.specs.Files.{Held, KeepsOthers}
use Rattle.script_runs.specs.Memory.{memory_sizes, EndsInMemory}
use Rattle.put_jobs.specs.Inputs.{InputEnds}
use Rattle.put_jobs.specs.Mirrors.{wants_folder}
use Rattle.script_runs.specs.Scripts.{Streams}
use Rattle.host_interface.specs.Sources.{Found, Gathered}
use Rattle.host_interface.specs.Streams.{Written}
use Rattle.image_words.specs.Histories.{HistoryEnds, RunsUnprinted, history_spelled, trim_script}
use Rattle.image_words.specs.ScriptReplies.{RepliesEnd}
use Rattle.image_words.specs.Maps.{MapEnds, MapPageEnds}
use Rattle.image_words.specs.ImageUsages.{UsageEnds}
use Rattle.image_words.specs.PartFiles.{FormatPartEnds, ToPartEnds, FromPartEnds}
use Rattle.image_words.specs.PartServing.{ServePartEnds, of_session}
use Rattle.image_words.specs.RawImages.{RawEnds, FromRawEnds}
use Rattle.image_words.specs.declared.raw_sizes.RawSizes.{RawSizes}
use Rattle.image_jobs.specs.declared.failure.Failure.{Failure}
use Rattle.script_runs.specs.declared.scripts.ScriptFault.{ScriptFault}
use Rattle.remote_flash.specs.declared.start.StartFault.{StartFault}
use Rattle.remote_flash.specs.Starts.{start_text, IsStartFault}
use Rattle.remote_sessions.specs.Sessions.{SessionEnds}
use Rattle.remote_sessions.specs.declared.session_fault.SessionFault.{SessionFault}
use Rattle.image_jobs.specs.LastChanges.{LastChangeEnds}
use Rattle.image_jobs.specs.Tellings.{TellEnds, DiffEnds}
use Rattle.image_words.specs.ImageUpdates.{UpdateEnds, manner_asked}
use Rattle.image_words.specs.ImageGets.{GetEnds}
use Rattle.put_jobs.specs.Putting.{PutEnds}
use Rattle.copy_jobs.specs.Copying.{CopyEnds}
use Rattle.copy_jobs.specs.declared.asked_sizes.AskedSizes.{AskedSizes}
use Rattle.image_words.specs.Creations.{CreateEnds}
use Rattle.image_words.specs.declared.creation.NewImage.{NewImage}
use Rattle.archive_jobs.specs.Tars.{TarEnds}
use Rattle.archive_jobs.specs.Untars.{UntarEnds}

-- the word of a standard stream in the place of a file
abbrev pub is_stream : List ℕ → Bool
is_stream file = bytes_eq file (codes "-")

-- a script is run on a flash in memory
abbrev pub MemoryEnds : Streams → Result (Unit {0}) Failure → Streams → Type 0
MemoryEnds before (Ok done) after = EndsInMemory memory_sizes before (Ok tt) after
MemoryEnds before (Err failure) after = (fault : ScriptFault) × EndsInMemory memory_sizes before (Err fault) after × (failure ≡ of_script fault)

-- how many versions are kept by the file system that is made first, where one is
abbrev pub history_given : Job → Option ℕ
history_given job = if job.is_history_given then Some job.history else None

-- why no driver is reached: a name is not opened, or for want of memory
abbrev pub IsUnreached : Failure → Type 0
IsUnreached Failure.CannotRead = Unit {0}
IsUnreached Failure.CannotWrite = Unit {0}
IsUnreached Failure.Memory = Unit {0}
IsUnreached _ = ⊥

-- by why there is no flash
abbrev pub of_start : StartFault → Failure
of_start StartFault.Read = Failure.CannotRead
of_start (StartFault.Image fault) = of_image fault

-- a driver has these bytes to answer when it is reached, where they are known
abbrev pub IsAnswering : Option (List ℕ) → Option (List ℕ) → Type 0
IsAnswering answers told = IfSome answers (λ all. told ≡ Some all)

-- a script ended so on the flash that a driver told
pub record ServesScript (history : Option ℕ) (answers : Option (List ℕ)) (before : Streams) (result : Result (Unit {0}) SessionFault) (after : Streams) : Type 0 where
  pub told : Option (List ℕ)
  pub known : IsAnswering answers told
  pub first : Device
  pub fresh : IsFresh first
  pub left : Option (List ℕ)
  pub shown : Consumes told left (start_text (image_of first))
  pub last : Device
  pub ends : SessionEnds history first last before result after

-- a driver tells no flash
pub record TellsNone (answers : Option (List ℕ)) (fault : StartFault) : Type 0 where
  pub told : Option (List ℕ)
  pub known : IsAnswering answers told
  pub wrong : IfSome told (IsStartFault fault)

-- no driver is reached, or it tells no flash
abbrev pub IsUnserved : Option (List ℕ) → Failure → Type 0
IsUnserved answers failure = IsUnreached failure ⊎ ((fault : StartFault) × TellsNone answers fault × (failure ≡ of_start fault))

-- a script is run on the flash of a driver; or there is none, and nothing is read or written; or the script does not run to its end
abbrev pub ServeEnds : Option ℕ → Option (List ℕ) → Streams → Result (Unit {0}) Failure → Streams → Type 0
ServeEnds history answers before (Ok done) after = ServesScript history answers before (Ok done) after
ServeEnds history answers before (Err failure) after = (IsUnserved answers failure × (after ≡ before))
    ⊎ ((fault : SessionFault) × ServesScript history answers before (Err fault) after × (failure ≡ of_session fault))

-- a word of a job; the empty one where it has none
abbrev pub word_given : Option (Bor (List ℕ)) → List ℕ
word_given (Some word) = word.now
word_given None = []

-- the word of a call of the history: the serial of a version, or the name of a checkpoint
abbrev pub history_word : HistoryCall → Job → List ℕ
history_word HistoryCall.Goto job = word_given job.serial
history_word _ job = word_given job.checkpoint

-- the sizes that a job asks for
abbrev pub sizes_of : Job → Geometry
sizes_of job = record { page = job.page; pages = job.pages; blocks = job.blocks }

-- what a job asks that a new image has
abbrev pub image_asked : Job → NewImage
image_asked job = record { page = job.page; pages = job.pages; blocks = if job.is_blocks_given then Some job.blocks else None; history = job.history }

-- a number of a job, where a word gives it
abbrev pub number_given : ℕ → Bool → Option ℕ
number_given number is_given = if is_given then Some number else None

-- what a job asks of the bytes of a part
abbrev pub raw_asked : Job → RawSizes
raw_asked job = record { page = job.page; pages = job.pages; blocks = number_given job.blocks job.is_blocks_given }

-- what a job asks that a copy has
abbrev pub sizes_asked : Job → AskedSizes
sizes_asked job = record {
  page = number_given job.page job.is_page_given;
  pages = number_given job.pages job.is_pages_given;
  blocks = number_given job.blocks job.is_blocks_given;
  history = number_given job.history job.is_history_given;
}

-- no file changes, and no input is read
pub record OnlyPrints (before after : Host) : Type 0 where
  pub files : after.files ≡ before.files
  pub unread : after.input ≡ before.input

-- files alone are written: no input is read, and nothing is printed
pub record OnlyWrites (before after : Host) : Type 0 where
  pub unread : after.input ≡ before.input
  pub unprinted : after.out ≡ before.out

-- a file of an image is printed; or it becomes a file of the host, or a directory a folder
abbrev pub GetsTo : Bool → Job → List ℕ → Host → Result (Unit {0}) Failure → Host → Type 0
GetsTo true job name before result after = TellEnds (file_spelled (word_given job.path) job.view) (before.files name) result before.out after.out × OnlyPrints before after
GetsTo false job name before result after = GetEnds (word_given job.path) job.view name (word_given job.file) (λ _. Unit {0}) before.files after.files result × OnlyWrites before after

-- the input is put into an image; it is refused where a folder is wanted
abbrev pub StreamEnds : Bool → List ℕ → List ℕ → (List ℕ → Type 0) → Host → Result (Unit {0}) Failure → Host → Type 0
StreamEnds true path name IsClaimed before result after = (result ≡ Err Failure.NoFolder) × (after ≡ before)
StreamEnds false path name IsClaimed before result after = InputEnds name path IsClaimed before result after × KeepsOthers name before.files after.files × (after.out ≡ before.out)

-- what stands at a name of the host is put into an image, or the input
abbrev pub PutsFrom : Bool → Bool → Bool → List ℕ → List ℕ → (List ℕ → Type 0) → (List ℕ → List ℕ → Type 0) → Option (List Found) → Host → Result (Unit {0}) Failure → Host → Type 0
PutsFrom true mirror skips path name IsClaimed Reads gathered before result after = StreamEnds (wants_folder mirror skips) path name IsClaimed before result after
PutsFrom false mirror skips path name IsClaimed Reads gathered before result after = PutEnds mirror skips name path IsClaimed Reads before.files after.files gathered result
    × KeepsOthers name before.files after.files × OnlyWrites before after

-- the bytes that the file of each name may have where it is claimed
abbrev pub Claimed : Type 1
Claimed = List ℕ → List ℕ → Type 0

-- the bytes that a read of a source gives while a name is claimed
abbrev pub ReadWhile : Type 1
ReadWhile = List ℕ → List ℕ → List ℕ → Type 0

-- what is known of the host before: what each file may have where it is claimed, what reads of sources give then, what stands at a name, with all below it, what
-- another program writes under a name, and what the file of a name holds that is opened in place
pub record Known : Type 1 where
  pub claimed : Claimed
  pub sources : ReadWhile
  pub gathered : Gathered
  pub written : Written
  pub placed : Held

abbrev pub known_by : Claimed → ReadWhile → Gathered → Written → Held → Known
known_by claimed sources gathered written placed = record { claimed = claimed; sources = sources; gathered = gathered; written = written; placed = placed }

-- how a task ends that is done on no image
abbrev pub EndsAlone : Task → Job → Known → Host → Result (Unit {0}) Failure → Host → Type 0
EndsAlone Task.Serve job known before result after = ServeEnds (history_given job) (known.written (word_given job.answers)) (streams_of before) result (streams_of after) × (after.files ≡ before.files)
EndsAlone Task.ServePart job known before result after = ServePartEnds (history_given job) (known.placed (word_given job.part)) (streams_of before) result (streams_of after) × (after.files ≡ before.files)
EndsAlone Task.FormatPart job known before result after = FormatPartEnds (sizes_of job) job.history (before.files (word_given job.part)) (after.files (word_given job.part)) result
    × KeepsOthers (word_given job.part) before.files after.files × OnlyWrites before after
EndsAlone Task.Explain job known before result after = ExplainEnds (word_given job.refusal) result before.out after.out × OnlyPrints before after
EndsAlone Task.Help job known before result after = HelpEnds result before.out after.out × OnlyPrints before after
EndsAlone Task.Version job known before result after = PrintEnds version_line result before.out after.out × OnlyPrints before after
EndsAlone _ job known before result after = MemoryEnds (streams_of before) result (streams_of after) × (after.files ≡ before.files)

-- how a job ends that is done on the file of this name, by its task
abbrev pub EndsOn : Job → List ℕ → Known → Host → Result (Unit {0}) Failure → Host → Type 0
EndsOn job name known before result after = elim (job.command) as (λ task. Type 0) [
  | Task.Format ↦ FormatEnds (sizes_of job) job.history (before.files name) (after.files name) result × KeepsOthers name before.files after.files × OnlyWrites before after
  | Task.Run ↦ RunEnds job.stop name (known.claimed name) before result after × KeepsOthers name before.files after.files
  | Task.Put ↦ PutsFrom (is_stream (word_given job.file)) job.mirror job.skip_links (word_given job.path) name (known.claimed name) (known.sources name) (known.gathered (word_given job.file) name) before result after
  | Task.Create ↦ CreateEnds (image_asked job) job.skip_links name (known.sources name) before.files after.files (known.gathered (word_given job.file) name) result × KeepsOthers name before.files after.files × OnlyWrites before after
  | Task.Copy ↦ CopyEnds (sizes_asked job) job.salvage name (word_given job.file) before.files after.files result × KeepsOthers (word_given job.file) before.files after.files × OnlyWrites before after
  | Task.History call ↦ HistoryEnds (history_spelled call (history_word call job) job.count) name (known.claimed name) before.files result after.files × KeepsOthers name before.files after.files × OnlyWrites before after
  | Task.Trim ↦ RunsUnprinted trim_script name (known.claimed name) before.files result after.files × KeepsOthers name before.files after.files × OnlyWrites before after
  | Task.Get ↦ GetsTo (is_stream (word_given job.file)) job name before result after
  | Task.Cat ↦ TellEnds (file_spelled (word_given job.path) job.view) (before.files name) result before.out after.out × OnlyPrints before after
  | Task.Tree ↦ TellEnds (tree_spelled job.view) (before.files name) result before.out after.out × OnlyPrints before after
  | Task.List ↦ TellEnds (list_spelled job.path job.view) (before.files name) result before.out after.out × OnlyPrints before after
  | Task.Usage ↦ UsageEnds (place_spelled job.path job.view) (before.files name) result before.out after.out × OnlyPrints before after
  | Task.PathHistory ↦ TellEnds (path_history_spelled (word_given job.path)) (before.files name) result before.out after.out × OnlyPrints before after
  | Task.Diff ↦ DiffEnds job.exit_code (differences_spelled job.view job.other) (before.files name) result before.out after.out × OnlyPrints before after
  | Task.LastChange ↦ LastChangeEnds job.exit_code (before.files name) result before.out after.out × OnlyPrints before after
  | Task.Versions ↦ TellEnds (Ok Inquiry.Versions) (before.files name) result before.out after.out × OnlyPrints before after
  | Task.Update ↦ UpdateEnds (manner_asked job.changes) (before.files name) (before.files (word_given job.file)) result before.out after.out × OnlyPrints before after
  | Task.Tar ↦ TarEnds job.view (before.files name) result before.out after.out × OnlyPrints before after
  | Task.Untar ↦ UntarEnds job.skip_links name (word_given job.path) (known.claimed name) before result after × KeepsOthers name before.files after.files × (after.out ≡ before.out)
  | Task.Check ↦ CheckEnds (before.files name) result before.out after.out × OnlyPrints before after
  | Task.Log ↦ RepliesEnd (codes "log\n") (before.files name) result before.out after.out × OnlyPrints before after
  | Task.Df ↦ RepliesEnd (codes "df\n") (before.files name) result before.out after.out × OnlyPrints before after
  | Task.Map ↦ MapEnds (before.files name) result before.out after.out × OnlyPrints before after
  | Task.MapPage ↦ MapPageEnds name (word_given job.file) before.files after.files result × KeepsOthers (word_given job.file) before.files after.files × OnlyWrites before after
  | Task.ToPart ↦ ToPartEnds name (word_given job.file) before.files after.files result × KeepsOthers (word_given job.file) before.files after.files × OnlyWrites before after
  | Task.FromPart ↦ FromPartEnds (word_given job.file) name (known.placed (word_given job.file)) before.files after.files result × KeepsOthers name before.files after.files × OnlyWrites before after
  | Task.ToRaw ↦ RawEnds name (word_given job.file) before.files after.files result × KeepsOthers (word_given job.file) before.files after.files × OnlyWrites before after
  | Task.FromRaw ↦ FromRawEnds (raw_asked job) (word_given job.file) name before.files after.files result × KeepsOthers name before.files after.files × OnlyWrites before after
  | Task.Memory ↦ EndsAlone Task.Memory job known before result after
  | Task.Serve ↦ EndsAlone Task.Serve job known before result after
  | Task.ServePart ↦ EndsAlone Task.ServePart job known before result after
  | Task.FormatPart ↦ EndsAlone Task.FormatPart job known before result after
  | Task.Explain ↦ EndsAlone Task.Explain job known before result after
  | Task.Help ↦ EndsAlone Task.Help job known before result after
  | Task.Version ↦ EndsAlone Task.Version job known before result after
]

-- by the file that a job names, if any
abbrev pub EndsFor : Option (Bor (List ℕ)) → Job → Known → Host → Result (Unit {0}) Failure → Host → Type 0
EndsFor (Some name) job known before result after = EndsOn job name.now known before result after
EndsFor None job known before result after = EndsAlone job.command job known before result after

-- how a job ends
abbrev pub JobEnds : Job → Known → Host → Result (Unit {0}) Failure → Host → Type 0
JobEnds job = EndsFor job.image job

-- the status of refused words, by the kind of the error: 1 where memory was wanted
abbrev pub refused_status : ErrorKind → ℕ
refused_status ErrorKind.OutOfMemory = 1
refused_status _ = 2

-- the words are refused, as clap refuses them or since they ask for no job; or memory was wanted to read them
abbrev pub AreRefused : List (List ℕ) → ℕ → Type 0
AreRefused words status = (status ≡ 1) ⊎ ((status ≡ 2) × ((fault_of uffs words ≢ []) ⊎ ((job : Job) → AsksFor words job → ⊥)))

-- how the program ends: the job that the words ask for is done, with its status; or they are refused, no file changes, and
-- nothing is read or written
abbrev pub ToolEnds : List (List ℕ) → Known → Host → ℕ → Host → Type 0
ToolEnds words known before status after = ((job : Job) × (result : Result (Unit {0}) Failure) × AsksFor words job × JobEnds job known before result after × (status ≡ job_status result))
    ⊎ (AreRefused words status × (after.files ≡ before.files) × (after.input ≡ before.input) × (after.out ≡ before.out))

-- `memory` alone
abbrev pub is_memory : List (List ℕ) → Bool
is_memory (word ∷ []) = bytes_eq word (codes "memory")
is_memory _ = false

-- a script ended in memory, with this status
abbrev pub MemoryBy : Streams → ℕ → Streams → Type 0
MemoryBy before status after = (result : Result (Unit {0}) ScriptFault) × EndsInMemory memory_sizes before result after × (status ≡ status_of result)

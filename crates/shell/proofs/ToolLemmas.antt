-- How the program ends, by how its job does or by why its words are refused.
use Rattle.std.proofs.Common.{◌≡◌, ◌≢◌, ◌⊎◌, ◌∙◌, ℕ, Option, Some, None, Result, Ok, Err, List, [], ◌∷◌, IsTrue, false, codes, option_map, inl, inr, refl, sym, ap, subst, true≢false}
use Rattle.std.proofs.lemmas.Slice.Eq.{bytes_eq-Decides}
use Rattle.std.specs.Borrow.{Bor}
use Rattle.clap.specs.Words.{HasKind, Kinds, IsAmong, fault_of, kind_of}
use Rattle.clap.specs.declared.error.Error.{Error}
use Rattle.clap.specs.declared.error.kind.ErrorKind.{ErrorKind}
use Rattle.fs_types.specs.declared.fault.Fault.{Fault}
use Rattle.command_words.specs.Grammar.{uffs}
use Rattle.command_line.specs.Jobs.{SaysJob, given, has_no_image}
use Rattle.command_line.specs.declared.tasks.Job.{Job}
use Rattle.command_line.specs.declared.tasks.Task.{Task}
use Rattle.image_jobs.specs.Failures.{of_script, failure_status, job_status, fault_status}
use Rattle.host_interface.specs.Files.{Held}
use Rattle.script_runs.specs.Scripts.{streams_at}
use Rattle.image_jobs.specs.Images.{Host, streams_of}
use Rattle.shell.specs.Tools.{Known, EndsAlone, EndsFor, MemoryEnds, MemoryBy, ToolEnds, refused_status, is_memory}
use Rattle.image_jobs.specs.declared.failure.Failure.{Failure}
use Rattle.script_runs.specs.declared.scripts.ScriptFault.{ScriptFault}
use Rattle.shell.proofs.MemoryWords.{memory_fault, memory_given}

one_or_two : (k : ErrorKind) → (refused_status k ≡ 1) ⊎ (refused_status k ≡ 2)
one_or_two ErrorKind.OutOfMemory = inl refl
one_or_two _ = inr refl

among_some : (k : ErrorKind) (kinds : Kinds) → IsAmong k kinds → kinds ≢ []
among_some k [] h = absurd h
among_some k (x ∷ xs) h = λ e. absurd cc

-- why words are refused, by the kind of the error
pub refused_why : (P : Type 0) (kinds : Kinds) (error : Error) (status : ℕ) → HasKind kinds error ⊎ P → status ≡ refused_status (kind_of error)
    → (status ≡ 1) ⊎ ((status ≡ 2) × ((kinds ≢ []) ⊎ P))
refused_why P kinds error status (inl (inl memory)) is = inl (is ∙ ap refused_status memory)
refused_why P kinds error status (inl (inr among)) is = elim (one_or_two (kind_of error)) [
  | inl one ↦ inl (is ∙ one)
  | inr two ↦ inr (is ∙ two, inl (among_some (kind_of error) kinds among))
]
refused_why P kinds error status (inr none) is = elim (one_or_two (kind_of error)) [
  | inl one ↦ inl (is ∙ one)
  | inr two ↦ inr (is ∙ two, inr none)
]

-- a script has the status of its failure
script_status : (fault : ScriptFault) → failure_status (of_script fault) ≡ fault_status fault
script_status (ScriptFault.Mount Fault.NoMemory) = refl
script_status (ScriptFault.Mount _) = refl
script_status ScriptFault.Read = refl
script_status ScriptFault.Write = refl
script_status ScriptFault.Memory = refl

memory_words : (words : List (List ℕ)) → IsTrue (is_memory words) → words ≡ codes "memory" ∷ []
memory_words [] h = absurd (true≢false (sym h))
memory_words (word ∷ []) h = ap (λ (w : List ℕ). w ∷ []) ((bytes_eq-Decides word (codes "memory")).0 h)
memory_words (word ∷ other ∷ rest) h = absurd (true≢false (sym h))

-- the word `memory` asks for a job in memory
memory_job : Job
memory_job = record {
  command = Task.Memory;
  image = None;
  page = 256;
  pages = 16;
  blocks = 32;
  history = 8;
  is_page_given = false;
  is_pages_given = false;
  is_blocks_given = false;
  is_history_given = false;
  answers = None;
  orders = None;
  part = None;
  refusal = None;
  exit_code = false;
  count = 1;
  checkpoint = None;
  serial = None;
  word = None;
  stop = false;
  path = None;
  file = None;
  view = None;
  other = None;
  progress = false;
  mirror = false;
  skip_links = false;
  salvage = false;
  changes = false;
}

memory_says : SaysJob (Some (codes "memory", [])) memory_job
unfolding memory_job
memory_says = record {
  command = refl;
  image = record { none = λ e. refl; others = λ n. absurd (true≢false n) };
  page = refl;
  pages = refl;
  blocks = refl;
  history = refl;
  refusal = refl;
  exit_code = refl;
  count = refl;
  checkpoint = refl;
  serial = refl;
  word = refl;
  is_page_given = refl;
  is_pages_given = refl;
  is_blocks_given = refl;
  is_history_given = refl;
  answers = refl;
  orders = refl;
  part = refl;
  stop = refl;
  path = refl;
  file = refl;
  view = refl;
  other = refl;
  progress = refl;
  mirror = refl;
  skip_links = refl;
  salvage = refl;
  changes = refl;
}

no_image : (image : Option (Bor (List ℕ))) → option_map (λ (s : Bor (List ℕ)). s.now) image ≡ None → image ≡ None
no_image None e = refl
no_image (Some name) e = absurd cc

said_command : (job : Job) → SaysJob (Some (codes "memory", [])) job → job.command ≡ Task.Memory
said_command job says =
    let named : Some Task.Memory ≡ Some job.command = says.command in
    cc

said_memory : (job : Job) → SaysJob (Some (codes "memory", [])) job → job.image ≡ None
said_memory job says =
    no_image job.image (says.image.none (ap has_no_image (said_command job says)))

ended : (input left : Option (List ℕ)) (result : Result (Unit {0}) Failure) (status : ℕ) (old new : Option (List ℕ))
    → MemoryEnds (streams_at input old) result (streams_at left new) → status ≡ job_status result → MemoryBy (streams_at input old) status (streams_at left new)
ended input left (Ok done) status old new ends is = (Ok tt, ends, is)
ended input left (Err failure) status old new ends is = (Err ends.0, ends.1, is ∙ ap failure_status ends.2 ∙ script_status ends.0)

-- the word `memory` is understood
pub memory_ends : (words : List (List ℕ)) (known : Known) (before : Host) (status : ℕ) (after : Host) → ToolEnds words known before status after → IsTrue (is_memory words)
    → MemoryBy (streams_of before) status (streams_of after)
memory_ends words known before status after (inl h) memory =
    let is : words ≡ codes "memory" ∷ [] = memory_words words memory in
    let says : SaysJob (Some (codes "memory", [])) h.0 = subst (λ o. SaysJob o h.0) (ap given is ∙ memory_given) h.2 in
    let ends = subst (λ (image : Option (Bor (List ℕ))). EndsFor image h.0 known before h.1 after) (said_memory h.0 says) h.3 in
    let alone = subst (λ (task : Task). EndsAlone task h.0 known before h.1 after) (said_command h.0 says) ends in
    ended before.input after.input h.1 status before.out after.out alone.0 h.4
memory_ends words known before status after (inr (inl one, files, unread, unwritten)) memory =
    (Err (ScriptFault.Mount Fault.NoMemory), (inl refl, unread, unwritten), one)
memory_ends words known before status after (inr (inr (two, inl faulty), files, unread, unwritten)) memory =
    absurd (faulty (ap (fault_of uffs) (memory_words words memory) ∙ memory_fault))
memory_ends words known before status after (inr (inr (two, inr none), files, unread, unwritten)) memory =
    let is : words ≡ codes "memory" ∷ [] = memory_words words memory in
    absurd (none memory_job (subst (λ o. SaysJob o memory_job) (sym (ap given is ∙ memory_given)) memory_says))

-- What stands at a path of an image, for a file or a folder of the host or for the output.
use Rattle.std.proofs.Common.{◌≡◌, ◌∙◌, ℕ, Bool, true, false, Option, Result, List, refl, ap, subst}
use Rattle.host_interface.specs.Files.{Held}
use Rattle.host_interface.specs.Folders.{Made}
use Rattle.image_words.specs.ImageGets.{GetEnds}
use Rattle.image_words.proofs.GetLemmas.{got_by}
use Rattle.image_jobs.specs.Images.{host_at}
use Rattle.image_jobs.specs.declared.failure.Failure.{Failure}
use Rattle.image_jobs.specs.InquiryWords.{file_spelled}
use Rattle.image_jobs.specs.Tellings.{TellEnds}
use Rattle.command_line.specs.declared.tasks.Job.{Job}
use Rattle.shell.specs.Tools.{GetsTo, is_stream, word_given}

-- to the output, where the word of the file is that of a stream
pub told_to : (job : Job) (name path file : List ℕ) (held : Held) (result : Result (Unit {0}) Failure) (input old new : Option (List ℕ))
    → path ≡ word_given job.path → file ≡ word_given job.file → true ≡ is_stream file → TellEnds (file_spelled path job.view) (held name) result old new
    → GetsTo (is_stream (word_given job.file)) job name (host_at held input old) result (host_at held input new)
told_to job name path file held result input old new is_path is_file stream told =
    let at_path : TellEnds (file_spelled (word_given job.path) job.view) (held name) result old new =
    subst (λ (p : List ℕ). TellEnds (file_spelled p job.view) (held name) result old new) is_path told in
    subst (λ (b : Bool). GetsTo b job name (host_at held input old) result (host_at held input new)) (stream ∙ ap is_stream is_file) (at_path, record { files = refl; unread = refl })

-- else to a file or a folder
pub got_to : (job : Job) (name path file : List ℕ) (P : List Made → Type 0) (held saved : Held) (result : Result (Unit {0}) Failure) (input old : Option (List ℕ))
    → path ≡ word_given job.path → file ≡ word_given job.file → false ≡ is_stream file → GetEnds path job.view name file P held saved result
    → GetsTo (is_stream (word_given job.file)) job name (host_at held input old) result (host_at saved input old)
got_to job name path file P held saved result input old is_path is_file stream ends =
    let any : GetEnds path job.view name file (λ _. Unit {0}) held saved result = got_by path job.view name file P (λ _. Unit {0}) held saved result (λ made is. tt) ends in
    let at_path : GetEnds (word_given job.path) job.view name file (λ _. Unit {0}) held saved result =
    subst (λ (p : List ℕ). GetEnds p job.view name file (λ _. Unit {0}) held saved result) is_path any in
    let at_file : GetEnds (word_given job.path) job.view name (word_given job.file) (λ _. Unit {0}) held saved result =
    subst (λ (f : List ℕ). GetEnds (word_given job.path) job.view name f (λ _. Unit {0}) held saved result) is_file at_path in
    subst (λ (b : Bool). GetsTo b job name (host_at held input old) result (host_at saved input old)) (stream ∙ ap is_stream is_file) (at_file, record { unread = refl; unprinted = refl })

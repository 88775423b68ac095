-- What is put of a file of the host, or of the input.
use Rattle.std.proofs.Common.{◌≡◌, ℕ, Bool, true, false, Option, Result, List, refl, subst}
use Rattle.host_interface.specs.Files.{Held, KeepsOthers}
use Rattle.host_interface.specs.Sources.{Found}
use Rattle.image_jobs.specs.declared.failure.Failure.{Failure}
use Rattle.put_jobs.specs.Mirrors.{wants_folder}
use Rattle.image_jobs.specs.Images.{Host, host_at}
use Rattle.command_line.specs.declared.tasks.Job.{Job}
use Rattle.shell.specs.Tools.{Known, PutsFrom, StreamEnds, is_stream, word_given}
use Rattle.put_jobs.specs.Putting.{PutEnds}
use Rattle.put_jobs.specs.declared.put.Order.{Order}

-- what a job asks for is put
pub put_by : (job : Job) (order : Order) (name : List ℕ) (known : Known) (before : Host) (result : Result (Unit {0}) Failure) (after : Host) → order.file.now ≡ word_given job.file → order.path.now ≡ word_given job.path
    → order.mirror ≡ job.mirror → order.skip_links ≡ job.skip_links
    → PutsFrom (is_stream order.file.now) order.mirror order.skip_links order.path.now name (known.claimed name) (known.sources name) (known.gathered order.file.now name) before result after
    → PutsFrom (is_stream (word_given job.file)) job.mirror job.skip_links (word_given job.path) name (known.claimed name) (known.sources name) (known.gathered (word_given job.file) name) before result after
put_by job order name known before result after is_file is_path is_mirror is_skips ends =
    let at_file = subst (λ (f : List ℕ). PutsFrom (is_stream f) order.mirror order.skip_links order.path.now name (known.claimed name) (known.sources name) (known.gathered f name) before result after) is_file ends in
    let at_path = subst (λ (p : List ℕ). PutsFrom (is_stream (word_given job.file)) order.mirror order.skip_links p name (known.claimed name) (known.sources name) (known.gathered (word_given job.file) name) before result after) is_path at_file in
    let at_mirror = subst (λ (b : Bool). PutsFrom (is_stream (word_given job.file)) b order.skip_links (word_given job.path) name (known.claimed name) (known.sources name) (known.gathered (word_given job.file) name) before result after) is_mirror at_path in
    subst (λ (b : Bool). PutsFrom (is_stream (word_given job.file)) job.mirror b (word_given job.path) name (known.claimed name) (known.sources name) (known.gathered (word_given job.file) name) before result after) is_skips at_mirror

-- files are put, where the word is none of a stream
pub put_files : (b mirror skips : Bool) (path name : List ℕ) (IsClaimed : List ℕ → Type 0) (Reads : List ℕ → List ℕ → Type 0) (gathered : Option (List Found)) (held saved : Held) (input out : Option (List ℕ)) (result : Result (Unit {0}) Failure) → false ≡ b
    → PutEnds mirror skips name path IsClaimed Reads held saved gathered result → KeepsOthers name held saved
    → PutsFrom b mirror skips path name IsClaimed Reads gathered (host_at held input out) result (host_at saved input out)
put_files b mirror skips path name IsClaimed Reads gathered held saved input out result is ends others =
    subst (λ (x : Bool). PutsFrom x mirror skips path name IsClaimed Reads gathered (host_at held input out) result (host_at saved input out)) is (ends, others, record { unread = refl; unprinted = refl })

-- else the input is
pub put_streamed : (b mirror skips : Bool) (path name : List ℕ) (IsClaimed : List ℕ → Type 0) (Reads : List ℕ → List ℕ → Type 0) (gathered : Option (List Found)) (before : Host) (result : Result (Unit {0}) Failure) (after : Host) → true ≡ b
    → StreamEnds (wants_folder mirror skips) path name IsClaimed before result after → PutsFrom b mirror skips path name IsClaimed Reads gathered before result after
put_streamed b mirror skips path name IsClaimed Reads gathered before result after is ends = subst (λ (x : Bool). PutsFrom x mirror skips path name IsClaimed Reads gathered before result after) is ends

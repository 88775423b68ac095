-- How the input is put into an image.
use Rattle.std.proofs.Common.{◌≡◌, ◌≤◌, ℕ, Option, Result, Ok, List, length, sym, subst}
use Rattle.fs_types.specs.Names.{Path}
use Rattle.fs_types.specs.declared.limits.TheConstants.{MAX_FILE_BYTES}
use Rattle.host_interface.specs.Files.{Held}
use Rattle.image_jobs.specs.declared.failure.Failure.{Failure}
use Rattle.image_jobs.specs.PathWords.{path_spelled}
use Rattle.put_jobs.specs.Groups.{EventsEnd}
use Rattle.put_jobs.specs.Inputs.{written, IsWholeInput}

-- all of it is put
pub input_put : (read bytes : List ℕ) (before after : Option (List ℕ)) (name word : List ℕ) (IsClaimed : List ℕ → Type 0) (path : Path) (held saved : Held) (result : Result (Unit {0}) Failure) → bytes ≡ read → path_spelled word ≡ Ok path
    → IsWholeInput before read after → (n : ℕ) → length read ≡ n → n ≤ MAX_FILE_BYTES → EventsEnd name IsClaimed (written path bytes) held saved result
    → (path : Path) × (bytes : List ℕ) × (path_spelled word ≡ Ok path) × IsWholeInput before bytes after × (length bytes ≤ MAX_FILE_BYTES) × EventsEnd name IsClaimed (written path bytes) held saved result
input_put read bytes before after name word IsClaimed path held saved result is spelled whole n len short ends = (
  path,
  bytes,
  spelled,
  subst (λ (b : List ℕ). IsWholeInput before b after) (sym is) whole,
  subst (λ (b : List ℕ). length b ≤ MAX_FILE_BYTES) (sym is) (subst (λ (m : ℕ). m ≤ MAX_FILE_BYTES) (sym len) short),
  ends,
)

-- What stands at a path of an image, for a file or a folder of the host.
use Rattle.std.proofs.Common.{◌≡◌, ◌⊎◌, inl, inr, ℕ, Option, Result, Ok, Err, List, IfErr, OnOk, IfSome, subst}
use Rattle.std.specs.Borrow.{Bor}
use Rattle.fs_types.specs.Names.{Path}
use Rattle.fs_types.specs.declared.call.View.{View}
use Rattle.flash_model.specs.Device.{Device}
use Rattle.flash_simulation.specs.Simulation.{device_of}
use Rattle.host_interface.specs.Files.{Held, KeepsOthers}
use Rattle.host_interface.specs.Folders.{Made}
use Rattle.history_machine.specs.Machine.{Machine}
use Rattle.working_state.specs.Seen.{machine_on}
use Rattle.image_words.specs.PathCopies.{IsCopy, IsCopiedOut}
use Rattle.image_words.specs.declared.path_copies.Copied.{Copied}
use Rattle.image_jobs.specs.Images.{IsUnclaimed, Unsaved}
use Rattle.image_jobs.specs.declared.failure.Failure.{Failure}
use Rattle.image_words.specs.ImageGets.{GetEnds, IsSaved, SaveEnds}

-- ---- whatever is known of what was made

module _ (d : Device) (view : View) (path : Path) (file : List ℕ) (P Q : List Made → Type 0) (all : (made : List Made) → P made → Q made) where
  copy_by : (m : Machine) (held saved : Held) (copied : Copied) → IsCopy m view path file P held saved copied → IsCopy m view path file Q held saved copied
  copy_by m held saved (Copied.File bytes) is = is
  copy_by m held saved Copied.Folder is = record { there = is.there; small = is.small; made = all _ is.made; holds = is.holds; others = is.others }

  pub copied_by : (held saved : Held) (copied : Copied) → IsCopiedOut d view path file P held saved copied → IsCopiedOut d view path file Q held saved copied
  copied_by held saved copied is = record { device = is.device; system = is.system; mounted = is.mounted; copy = copy_by (machine_on is.device is.system.state) held saved copied is.copy }

  saved_by : (held saved : Held) (copied : Copied) → IsSaved d view path file P held saved copied → IsSaved d view path file Q held saved copied
  saved_by held saved (Copied.File bytes) is = (copied_by held held (Copied.File bytes) is.0, is.1, is.2)
  saved_by held saved Copied.Folder is = copied_by held saved Copied.Folder is

  pub ends_by : (held saved : Held) (result : Result (Unit {0}) Failure) → SaveEnds d view path file P held saved result → SaveEnds d view path file Q held saved result
  ends_by held saved (Ok done) ends = (ends.0, saved_by held saved ends.0 ends.1)
  ends_by held saved (Err failure) (inl cause) = inl cause
  ends_by held saved (Err failure) (inr unsaved) = inr (unsaved.0, copied_by held held (Copied.File unsaved.0) unsaved.1, unsaved.2)

-- of a file nothing was made
file_by : (d : Device) (view : View) (path : Path) (file : List ℕ) (P Q : List Made → Type 0) (held saved : Held) (bytes : List ℕ) → IsCopiedOut d view path file P held saved (Copied.File bytes) → IsCopiedOut d view path file Q held saved (Copied.File bytes)
file_by d view path file P Q held saved bytes is = record { device = is.device; system = is.system; mounted = is.mounted; copy = is.copy }

-- the bytes of a file are saved, or not
pub file_saved : (d : Device) (view : View) (path : Path) (file : List ℕ) (P Q : List Made → Type 0) (held mid saved : Held) (bytes lent : List ℕ) (result : Result (Unit {0}) Failure)
    → IsCopiedOut d view path file P held mid (Copied.File bytes) → lent ≡ bytes → OnOk result (IfSome (saved file) (λ all. all ≡ lent))
    → IfErr result (λ failure. (IsUnclaimed failure × (saved ≡ mid)) ⊎ Unsaved (mid file) (saved file) lent failure) → KeepsOthers file mid saved
    → SaveEnds d view path file Q held saved result
file_saved d view path file P Q held mid saved bytes lent result is same ok err others =
    go result (subst (λ (l : List ℕ). OnOk result (IfSome (saved file) (λ all. all ≡ l))) same ok)
    (subst (λ (l : List ℕ). IfErr result (λ failure. (IsUnclaimed failure × (saved ≡ held)) ⊎ Unsaved (held file) (saved file) l failure)) same
    (subst (λ (h : Held). IfErr result (λ failure. (IsUnclaimed failure × (saved ≡ h)) ⊎ Unsaved (h file) (saved file) lent failure)) is.copy.2 err))
  where
    copied : IsCopiedOut d view path file Q held held (Copied.File bytes)
    copied = subst (λ (h : Held). IsCopiedOut d view path file Q held h (Copied.File bytes)) is.copy.2 (file_by d view path file P Q held mid bytes is)

    kept : KeepsOthers file held saved
    kept = subst (λ (h : Held). KeepsOthers file h saved) is.copy.2 others

    go : (r : Result (Unit {0}) Failure) → OnOk r (IfSome (saved file) (λ all. all ≡ bytes)) → IfErr r (λ failure. (IsUnclaimed failure × (saved ≡ held)) ⊎ Unsaved (held file) (saved file) bytes failure)
        → SaveEnds d view path file Q held saved r
    go (Ok done) there why = (Copied.File bytes, (copied, there, kept))
    go (Err failure) there why = inr (bytes, copied, (why, kept))

-- ---- to a file or a folder

pub got_by : (word : List ℕ) (seen : Option (Bor (List ℕ))) (name file : List ℕ) (P Q : List Made → Type 0) (held saved : Held) (result : Result (Unit {0}) Failure) → ((made : List Made) → P made → Q made)
    → GetEnds word seen name file P held saved result → GetEnds word seen name file Q held saved result
got_by word seen name file P Q held saved result all (inl (path, view, flash, apart, loaded, ends)) = inl (path, view, flash, apart, loaded, ends_by (device_of flash) view path file P Q all held saved result ends)
got_by word seen name file P Q held saved result all (inr not) = inr not

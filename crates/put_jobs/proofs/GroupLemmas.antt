-- Events that are carried out in one change group of an image.
use Rattle.std.proofs.Common.{◌≡◌, ◌⊎◌, ℕ, Result, Ok, Err, List, IfErr, OnOk, inl, inr, refl, subst, ◌∙◌}
use Rattle.fs_types.specs.declared.event.Event.{Event}
use Rattle.flash_simulation.specs.Simulation.{device_of}
use Rattle.flash_simulation.specs.declared.sim_flash.SimFlash.{SimFlash}
use Rattle.flash_simulation.specs.Images.{image_of}
use Rattle.host_interface.specs.Files.{Held, AreBytesRead}
use Rattle.image_jobs.specs.Images.{DecodeCause, IsUnclaimed, IsUnread, IsSpelledFlash, LoadCause, SavesChange, ChangeUnsaved}
use Rattle.image_jobs.specs.declared.failure.Failure.{Failure}
use Rattle.image_jobs.proofs.ImageLemmas.{loaded_front, cause_front, cause_unread}
use Rattle.script_runs.specs.Flashes.{IsDecoded}
use Rattle.put_jobs.specs.Groups.{WritesBy, WriteCause, EventsEnd}

writes_front : (held : Held) (name bytes : List ℕ) → AreBytesRead (held name) bytes → (events : List Event) (start end : SimFlash) → WritesBy (IsDecoded bytes) events start end
    → WritesBy (IsSpelledFlash (held name)) events start end
writes_front held name bytes front events start end (there, carries) = (loaded_front (held name) bytes front start there, carries)

write_cause : (held : Held) (name bytes : List ℕ) → AreBytesRead (held name) bytes → (events : List Event) (failure : Failure) → WriteCause (IsDecoded bytes) (DecodeCause bytes) events failure
    → WriteCause (IsSpelledFlash (held name)) (LoadCause (held name)) events failure
write_cause held name bytes front events failure (inl cause) = inl (cause_front (held name) bytes front failure cause)
write_cause held name bytes front events failure (inr (inl (start, end, fault, there, unmounted, why))) =
    inr (inl (start, end, fault, loaded_front (held name) bytes front start there, unmounted, why))
write_cause held name bytes front events failure (inr (inr (start, refusal, there, breaks, why))) = inr (inr (start, refusal, loaded_front (held name) bytes front start there, breaks, why))

once_claimed : (name : List ℕ) (IsClaimed : List ℕ → Type 0) (events : List Event) (held claimed saved : Held) (result : Result (Unit {0}) Failure) → claimed ≡ held
    → EventsEnd name IsClaimed events claimed saved result → EventsEnd name IsClaimed events held saved result
once_claimed name IsClaimed events held claimed saved result same ends = subst (λ (h : Held). EventsEnd name IsClaimed events h saved result) same ends

pub events_untaken : (name : List ℕ) (IsClaimed : List ℕ → Type 0) (events : List Event) (held claimed : Held) (failure : Failure) → claimed ≡ held → IsUnclaimed failure ⊎ IsUnread (claimed name) failure
    → EventsEnd name IsClaimed events held claimed (Err failure)
events_untaken name IsClaimed events held claimed failure same (inl unclaimed) = inl (inl unclaimed, same)
events_untaken name IsClaimed events held claimed failure same (inr unread) =
    once_claimed name IsClaimed events held claimed claimed (Err failure) same (inl (inr (inl (cause_unread (claimed name) failure unread)), refl))

pub events_undone : (name : List ℕ) (IsClaimed : List ℕ → Type 0) (events : List Event) (held claimed : Held) (bytes : List ℕ) (failure : Failure) → claimed ≡ held → AreBytesRead (claimed name) bytes
    → WriteCause (IsDecoded bytes) (DecodeCause bytes) events failure → EventsEnd name IsClaimed events held claimed (Err failure)
events_undone name IsClaimed events held claimed bytes failure same front cause =
    once_claimed name IsClaimed events held claimed claimed (Err failure) same (inl (inr (write_cause claimed name bytes front events failure cause), refl))

pub events_saved : (name : List ℕ) (IsClaimed : List ℕ → Type 0) (events : List Event) (held claimed saved : Held) (bytes lent : List ℕ) (start end : SimFlash) (result : Result (Unit {0}) Failure) → claimed ≡ held
    → IsClaimed bytes → AreBytesRead (claimed name) bytes → WritesBy (IsDecoded bytes) events start end → lent ≡ bytes → OnOk result (SavesChange name claimed saved lent (image_of (device_of end)))
    → IfErr result (ChangeUnsaved name claimed saved lent (image_of (device_of end))) → EventsEnd name IsClaimed events held saved result
events_saved name IsClaimed events held claimed saved bytes lent start end (Ok done) same held_so front writes is ok err =
    once_claimed name IsClaimed events held claimed saved (Ok done) same (
      start,
      end,
      subst IsClaimed writes.0.spelled held_so,
      writes_front claimed name bytes front events start end writes,
      subst (λ (was : List ℕ). SavesChange name claimed saved was (image_of (device_of end))) (is ∙ writes.0.spelled) ok,
    )
events_saved name IsClaimed events held claimed saved bytes lent start end (Err failure) same held_so front writes is ok err =
    once_claimed name IsClaimed events held claimed saved (Err failure) same (inr (
      start,
      end,
      subst IsClaimed writes.0.spelled held_so,
      writes_front claimed name bytes front events start end writes,
      subst (λ (was : List ℕ). ChangeUnsaved name claimed saved was (image_of (device_of end)) failure) (is ∙ writes.0.spelled) err,
    ))

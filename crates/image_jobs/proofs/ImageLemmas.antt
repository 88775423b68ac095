-- How what is done on an image ends, by how its parts do.
use Rattle.std.proofs.Common.{◌≡◌, ◌<◌, ◌⊎◌, ℕ, Bool, Option, Some, None, Result, Ok, Err, List, IfErr, OnOk, take, codes, inl, inr, refl, sym, ◌∙◌, subst, arith}
use Rattle.std.specs.Io.KnownBytes.{Appends}
use Rattle.fs_types.specs.declared.limits.TheConstants.{MIN_VERSIONS, MAX_VERSIONS}
use Rattle.fs_types.specs.declared.fault.Fault.{Fault}
use Rattle.flash_model.specs.Geometry.{IsGeometry}
use Rattle.flash_model.specs.Device.{Device}
use Rattle.flash_model.specs.Reading.{OnlyReads}
use Rattle.flash_simulation.specs.Simulation.{device_of}
use Rattle.flash_simulation.specs.declared.sim_flash.SimFlash.{SimFlash}
use Rattle.flash_model.specs.declared.geometry.Geometry.{Geometry}
use Rattle.flash_simulation.specs.Images.{image_of, IsFault}
use Rattle.system.specs.Mounts.{IsMountOf}
use Rattle.system.specs.declared.systems.System.{System}
use Rattle.image_jobs.specs.Failures.{of_system}
use Rattle.host_interface.specs.Files.{Held, KeepsOrSyncs, AreBytesRead}
use Rattle.script_runs.specs.Flashes.{IsNewFlash, AreLawful, IsDecoded, IsMade, IsUnformatted}
use Rattle.image_jobs.specs.Images.{DecodeCause, IsUnclaimed, IsUnread, IsSpelledFlash, LoadCause, IsImageFile, Unsaved, SavesChange, ChangeUnsaved, FaultRead, FormatEnds, FormatFailure, PlaysBy, Plays, host_at, RunEnds, CheckEnds}
use Rattle.script_runs.specs.Scripts.{streams_at}
use Rattle.image_jobs.specs.declared.failure.Failure.{Failure}

-- a limit that is not refused
pub lawful_limit : (sizes : Geometry) (limit : ℕ) → IsGeometry sizes → (limit < MIN_VERSIONS → ⊥) → (MAX_VERSIONS < limit → ⊥) → AreLawful sizes limit
lawful_limit sizes limit lawful low high = record { geometry = lawful; least = omega arith; most = omega arith }

pub format_saved : (sizes : Geometry) (limit : ℕ) (flash : SimFlash) (held saved : Option (List ℕ)) (result : Result (Unit {0}) Failure)
    → IsMade sizes limit flash → OnOk result (IsImageFile saved flash) → IfErr result (Unsaved held saved (image_of (device_of flash)))
    → FormatEnds sizes limit held saved result
format_saved sizes limit flash held saved (Ok done) made ok err = (flash, made, ok)
format_saved sizes limit flash held saved (Err failure) made ok err = inr (flash, made, err)

pub format_refused : (sizes : Geometry) (limit : ℕ) (start end : SimFlash) (fault : Fault) → IsNewFlash sizes start → IsUnformatted limit start end fault
    → FormatFailure sizes limit (of_system fault)
format_refused sizes limit start end Fault.NoMemory new cause = tt
format_refused sizes limit start end fault new cause = inr (start, end, new, cause)

pub front_same : (held : Option (List ℕ)) (bytes lent : List ℕ) → lent ≡ bytes → AreBytesRead held bytes → AreBytesRead held lent
front_same held bytes lent same front = subst (AreBytesRead held) (sym same) front

-- the flash of the bytes that are read of a file is that of the file
pub loaded_front : (held : Option (List ℕ)) (bytes : List ℕ) → AreBytesRead held bytes → (flash : SimFlash) → IsDecoded bytes flash → IsSpelledFlash held flash
loaded_front None bytes front flash decoded = record { spelled = tt; ready = decoded.ready; plan = decoded.plan }
loaded_front (Some all) bytes front flash decoded = record { spelled = sym front ∙ decoded.spelled; ready = decoded.ready; plan = decoded.plan }

-- so is the fault of these bytes
pub cause_front : (held : Option (List ℕ)) (bytes : List ℕ) → AreBytesRead held bytes → (failure : Failure) → DecodeCause bytes failure → LoadCause held failure
cause_front held bytes front Failure.Memory cause = tt
cause_front None bytes front (Failure.Image fault) cause = tt
cause_front (Some all) bytes front (Failure.Image fault) cause = subst (IsFault fault) front cause
cause_front held bytes front Failure.CannotRead cause = absurd cause
cause_front held bytes front Failure.Unavailable cause = absurd cause
cause_front held bytes front Failure.CannotWrite cause = absurd cause
cause_front held bytes front Failure.Unsynced cause = absurd cause
cause_front held bytes front (Failure.Refused refusal) cause = absurd cause
cause_front held bytes front Failure.TooManyLines cause = absurd cause
cause_front held bytes front (Failure.Stopped at) cause = absurd cause
cause_front held bytes front (Failure.Source fault) cause = absurd cause
cause_front held bytes front Failure.Differs cause = absurd cause
cause_front held bytes front Failure.NoFolder cause = absurd cause
cause_front held bytes front (Failure.Part fault) cause = absurd cause
cause_front held bytes front Failure.Input cause = absurd cause
cause_front held bytes front Failure.Output cause = absurd cause
cause_front held bytes front (Failure.System fault) cause = absurd cause

-- bytes that a read gave are at fault
pub fault_read : (Reads : List ℕ → Type 0) (bytes lent : List ℕ) → lent ≡ bytes → Reads bytes → (failure : Failure) → DecodeCause lent failure → FaultRead Reads failure
fault_read Reads bytes lent same given (Failure.Image fault) cause = (bytes, given, subst (IsFault fault) same cause)
fault_read Reads bytes lent same given _ cause = tt

-- a file that is not read has none
pub unread_fault : (Reads : List ℕ → Type 0) (held : Option (List ℕ)) (failure : Failure) → IsUnread held failure → FaultRead Reads failure
unread_fault Reads held (Failure.Image fault) unread = absurd unread
unread_fault Reads held _ unread = tt

-- a file that is not read gives no flash
pub cause_unread : (held : Option (List ℕ)) (failure : Failure) → IsUnread held failure → LoadCause held failure
cause_unread held Failure.CannotRead cause = cause
cause_unread held Failure.Memory cause = tt
cause_unread held Failure.Unavailable cause = absurd cause
cause_unread held Failure.CannotWrite cause = absurd cause
cause_unread held Failure.Unsynced cause = absurd cause
cause_unread held (Failure.Refused refusal) cause = absurd cause
cause_unread held Failure.TooManyLines cause = absurd cause
cause_unread held (Failure.Stopped at) cause = absurd cause
cause_unread held (Failure.Source fault) cause = absurd cause
cause_unread held Failure.Differs cause = absurd cause
cause_unread held Failure.NoFolder cause = absurd cause
cause_unread held (Failure.Part fault) cause = absurd cause
cause_unread held Failure.Input cause = absurd cause
cause_unread held Failure.Output cause = absurd cause
cause_unread held (Failure.Image fault) cause = absurd cause
cause_unread held (Failure.System fault) cause = absurd cause

-- a script is run on the flash of the bytes that are read of a file
pub plays_front : (stop : Bool) (held : Option (List ℕ)) (bytes : List ℕ) → AreBytesRead held bytes → (input left : Option (List ℕ)) (result : Result SimFlash Failure) (old new : Option (List ℕ))
    → PlaysBy stop (IsDecoded bytes) (DecodeCause bytes) (streams_at input old) result (streams_at left new) → Plays stop held (streams_at input old) result (streams_at left new)
plays_front stop held bytes front input left (Ok end) old new (start, decoded, ends) = (start, loaded_front held bytes front start decoded, ends)
plays_front stop held bytes front input left (Err failure) old new (inl (cause, unread, unwritten)) = inl (cause_front held bytes front failure cause, unread, unwritten)
plays_front stop held bytes front input left (Err failure) old new (inr (start, end, ended, decoded, ends, is)) = inr (start, end, ended, loaded_front held bytes front start decoded, ends, is)

-- a run ends so whatever the files hold that were claimed, since a claim changes none
after_claim : (stop : Bool) (name : List ℕ) (IsClaimed : List ℕ → Type 0) (held claimed saved : Held) (input left : Option (List ℕ)) (result : Result (Unit {0}) Failure) (old new : Option (List ℕ))
    → claimed ≡ held → RunEnds stop name IsClaimed (host_at claimed input old) result (host_at saved left new) → RunEnds stop name IsClaimed (host_at held input old) result (host_at saved left new)
after_claim stop name IsClaimed held claimed saved input left result old new same ends =
    subst (λ (h : Held). RunEnds stop name IsClaimed (host_at h input old) result (host_at saved left new)) same ends

-- what is written is brought to the disk
pub synced_alone : (held saved : Held) (IsSynced : Type 0) (result : Result (Unit {0}) Failure) → OnOk result IsSynced → OnOk result (KeepsOrSyncs held saved IsSynced)
synced_alone held saved IsSynced (Ok done) synced = inr synced
synced_alone held saved IsSynced (Err failure) synced = tt

-- what is saved since a claim is so since before it
pub synced_since : (held claimed saved : Held) (IsSynced : Type 0) (result : Result (Unit {0}) Failure) → claimed ≡ held → OnOk result (KeepsOrSyncs claimed saved IsSynced) → OnOk result (KeepsOrSyncs held saved IsSynced)
synced_since held claimed saved IsSynced result same synced = subst (λ (h : Held). OnOk result (KeepsOrSyncs h saved IsSynced)) same synced

-- what a script leaves is saved where it changed
pub run_saved : (stop : Bool) (name : List ℕ) (IsClaimed : List ℕ → Type 0) (held claimed saved : Held) (bytes kept : List ℕ) (input left : Option (List ℕ)) (end : SimFlash) (result : Result (Unit {0}) Failure) (old new : Option (List ℕ))
    → claimed ≡ held → IsClaimed bytes → AreBytesRead (claimed name) bytes → PlaysBy stop (IsDecoded bytes) (DecodeCause bytes) (streams_at input old) (Ok end) (streams_at left new) → kept ≡ bytes
    → OnOk result (SavesChange name claimed saved kept (image_of (device_of end))) → IfErr result (ChangeUnsaved name claimed saved kept (image_of (device_of end)))
    → RunEnds stop name IsClaimed (host_at held input old) result (host_at saved left new)
run_saved stop name IsClaimed held claimed saved bytes kept input left end (Ok done) old new same held_so front (start, decoded, ends) is ok err =
    after_claim stop name IsClaimed held claimed saved input left (Ok done) old new same (
      start,
      end,
      subst IsClaimed decoded.spelled held_so,
      loaded_front (claimed name) bytes front start decoded,
      ends,
      subst (λ (was : List ℕ). SavesChange name claimed saved was (image_of (device_of end))) (is ∙ decoded.spelled) ok,
    )
run_saved stop name IsClaimed held claimed saved bytes kept input left end (Err failure) old new same held_so front (start, decoded, ends) is ok err =
    after_claim stop name IsClaimed held claimed saved input left (Err failure) old new same (inr (
      start,
      end,
      subst IsClaimed decoded.spelled held_so,
      loaded_front (claimed name) bytes front start decoded,
      ends,
      subst (λ (was : List ℕ). ChangeUnsaved name claimed saved was (image_of (device_of end)) failure) (is ∙ decoded.spelled) err,
    ))

-- a script that does not run to its end changes no file
pub run_broken : (stop : Bool) (name : List ℕ) (IsClaimed : List ℕ → Type 0) (held claimed : Held) (bytes : List ℕ) (input left : Option (List ℕ)) (failure : Failure) (old new : Option (List ℕ))
    → claimed ≡ held → AreBytesRead (claimed name) bytes → PlaysBy stop (IsDecoded bytes) (DecodeCause bytes) (streams_at input old) (Err failure) (streams_at left new)
    → RunEnds stop name IsClaimed (host_at held input old) (Err failure) (host_at claimed left new)
run_broken stop name IsClaimed held claimed bytes input left failure old new same front plays =
    after_claim stop name IsClaimed held claimed claimed input left (Err failure) old new same (inl (inr (plays_front stop (claimed name) bytes front input left (Err failure) old new plays), refl))

-- nor does one of which the image is not claimed, or not read
run_unread : (stop : Bool) (name : List ℕ) (IsClaimed : List ℕ → Type 0) (held claimed : Held) (input : Option (List ℕ)) (failure : Failure) (old : Option (List ℕ))
    → claimed ≡ held → IsUnread (claimed name) failure → RunEnds stop name IsClaimed (host_at held input old) (Err failure) (host_at claimed input old)
run_unread stop name IsClaimed held claimed input failure old same unread =
    after_claim stop name IsClaimed held claimed claimed input input (Err failure) old old same (inl (inr (inl (cause_unread (claimed name) failure unread, refl, refl)), refl))

pub run_untaken : (stop : Bool) (name : List ℕ) (IsClaimed : List ℕ → Type 0) (held claimed : Held) (input : Option (List ℕ)) (failure : Failure) (old : Option (List ℕ))
    → claimed ≡ held → IsUnclaimed failure ⊎ IsUnread (claimed name) failure → RunEnds stop name IsClaimed (host_at held input old) (Err failure) (host_at claimed input old)
run_untaken stop name IsClaimed held claimed input failure old same (inl unclaimed) = inl (inl (unclaimed, refl, refl), same)
run_untaken stop name IsClaimed held claimed input failure old same (inr unread) = run_unread stop name IsClaimed held claimed input failure old same unread

pub check_said : (held : Option (List ℕ)) (start end : SimFlash) (system : System) (result : Result (Unit {0}) Failure) (old new : Option (List ℕ))
    → IsSpelledFlash held start → IsMountOf (device_of start) (device_of end) system → OnOk result (Appends old new (codes "ok\n"))
    → IfErr result (λ failure. (failure ≡ Failure.Output) × ((n : ℕ) × Appends old new (take n (codes "ok\n"))))
    → CheckEnds held result old new
check_said held start end system (Ok done) old new loaded mounted ok err = (start, end, system, loaded, mounted, ok)
check_said held start end system (Err failure) old new loaded mounted ok err = inr (inr (err.1.0, err.0, err.1.1))

-- reads alone leave the image of a flash as it was
pub image_read : (d e : Device) → OnlyReads d e → image_of e ≡ image_of d
image_read d e reads = λ i. image_of (record d { geometry = reads.geometry i; pages = λ p. reads.pages p i; worn = λ b. reads.worn b i })

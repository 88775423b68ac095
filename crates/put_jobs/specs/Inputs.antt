-- The input, and what is done where it is put into an image as a file.
use Rattle.std.specs.Prelude.{◌≡◌, ◌⊎◌, ◌≤◌, ◌<◌, ℕ, Option, Some, None, Result, Ok, Err, List, [], ◌∷◌, ◌++◌, length}
use Rattle.std.specs.Io.KnownBytes.{Consumes, IsAtEnd}
use Rattle.fs_types.specs.Names.{Path}
use Rattle.fs_types.specs.declared.call.Call.{Call}
use Rattle.fs_types.specs.declared.event.Event.{Event}
use Rattle.fs_types.specs.declared.limits.TheConstants.{MAX_FILE_BYTES}
use Rattle.image_jobs.specs.Images.{Host}
use Rattle.image_jobs.specs.declared.failure.Failure.{Failure}
use Rattle.image_jobs.specs.declared.source_fault.SourceFault.{SourceFault}
use Rattle.image_jobs.specs.PathWords.{path_spelled, SpellingCause}
use Rattle.put_jobs.specs.Groups.{EventsEnd}

-- these bytes are all that the input had, and it has ended
abbrev pub IsWholeInput : Option (List ℕ) → List ℕ → Option (List ℕ) → Type 0
IsWholeInput before bytes after = Consumes before after bytes × IsAtEnd after

-- some bytes of it are read
abbrev pub IsReadInPart : Option (List ℕ) → Option (List ℕ) → Type 0
IsReadInPart before after = (part : List ℕ) × Consumes before after part

-- why it is not had whole: it fails, or for want of memory, or more is read of it than it may have
abbrev pub IsUnreadInput : ℕ → Option (List ℕ) → Option (List ℕ) → Failure → Type 0
IsUnreadInput most before after Failure.Input = IsReadInPart before after
IsUnreadInput most before after Failure.Memory = IsReadInPart before after
IsUnreadInput most before after (Failure.Source fault) = (fault ≡ SourceFault.TooBig) × ((part : List ℕ) × Consumes before after part × (most < length part))
IsUnreadInput most before after _ = ⊥

-- the event that writes a file
abbrev pub written : Path → List ℕ → List Event
written path bytes = Event.Call (Call.WriteFile path bytes) ∷ []

-- the event that is left to write it, until it was given
abbrev pub writes_left : Path → Option (List ℕ) → List Event
writes_left path None = []
writes_left path (Some bytes) = written path bytes

-- nothing is put: the word spells no path, and nothing is read; or it does, and the input is not had whole
abbrev pub InputCause : List ℕ → Option (List ℕ) → Option (List ℕ) → Failure → Type 0
InputCause word before after failure = (SpellingCause word failure × (after ≡ before))
    ⊎ ((path : Path) × (path_spelled word ≡ Ok path) × IsUnreadInput MAX_FILE_BYTES before after failure)

-- the whole input is put into an image, as the file at the path that a word spells
abbrev pub InputEnds : List ℕ → List ℕ → (List ℕ → Type 0) → Host → Result (Unit {0}) Failure → Host → Type 0
InputEnds name word IsClaimed before result after =
    ((path : Path) × (bytes : List ℕ) × (path_spelled word ≡ Ok path) × IsWholeInput before.input bytes after.input × (length bytes ≤ MAX_FILE_BYTES)
    × EventsEnd name IsClaimed (written path bytes) before.files after.files result)
    ⊎ ((failure : Failure) × (result ≡ Err failure) × InputCause word before.input after.input failure × (after.files ≡ before.files))

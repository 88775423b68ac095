-- How an archive is put into an image.
use Rattle.std.specs.Prelude.{◌≡◌, ◌⊎◌, ◌≤◌, ◌<◌, ℕ, Bool, ◌||◌, ◌==◌, not, find, Option, Some, None, Result, Ok, Err, List, length, if◌then◌else◌}
use Rattle.std.specs.Io.KnownBytes.{Consumes}
use Rattle.fs_types.specs.Names.{Path}
use Rattle.fs_types.specs.declared.fault.Fault.{Fault}
use Rattle.image_jobs.specs.Images.{Host}
use Rattle.image_jobs.specs.declared.failure.Failure.{Failure}
use Rattle.image_jobs.specs.declared.source_fault.SourceFault.{SourceFault}
use Rattle.image_jobs.specs.PathWords.{path_spelled, SpellingCause}
use Rattle.put_jobs.specs.Groups.{EventsEnd}
use Rattle.put_jobs.specs.Inputs.{IsWholeInput, IsReadInPart}
use Rattle.put_jobs.specs.Puts.{lot_events}
use Rattle.put_lots.specs.Lots.{lots_of}
use Rattle.put_lots.specs.declared.thing.Thing.{Thing}
use Rattle.tar_format.specs.declared.header_fault.HeaderFault.{HeaderFault}
use Rattle.archives.specs.Wholes.{entries_read}
use Rattle.archives.specs.declared.archive_entry.ArchiveEntry.{ArchiveEntry}
use Rattle.archives.specs.declared.step.ArchiveFault.{ArchiveFault}
use Rattle.archives.specs.Things.{fits, things_below}
use Rattle.archive_jobs.specs.declared.putting.TheConstants.{MAX_ARCHIVE_BYTES}

-- the typeflags of a hard link and of a symbolic one
abbrev pub is_link : ℕ → Bool
is_link typeflag = (typeflag == 49) || (typeflag == 50)

-- by why an archive is not read: it has something that is not put, or it is broken
abbrev pub of_fault : ArchiveFault → Failure
of_fault ArchiveFault.Memory = Failure.Memory
of_fault (ArchiveFault.Unsupported typeflag) = Failure.Source (if is_link typeflag then SourceFault.Link else SourceFault.Special)
of_fault (ArchiveFault.Unread HeaderFault.TooLong) = Failure.Source SourceFault.TooBig
of_fault (ArchiveFault.Name Fault.NameTooLong) = Failure.Source SourceFault.TooLong
of_fault (ArchiveFault.Name fault) = Failure.Source SourceFault.BadName
of_fault fault = Failure.Source SourceFault.Unreadable

-- the first entry that has no place below a path, if there is one
abbrev pub too_deep : Path → List ArchiveEntry → Option ArchiveEntry
too_deep base entries = find (λ entry. not (fits base entry)) entries

-- why entries are not put below a path: for want of memory, or one has no place there
abbrev pub IsUnplaced : Path → List ArchiveEntry → Failure → Type 0
IsUnplaced base entries failure = (failure ≡ Failure.Memory)
    ⊎ ((failure ≡ Failure.Source SourceFault.TooLong) × ((entry : ArchiveEntry) × (too_deep base entries ≡ Some entry)))

-- each entry has a place below a path, and these are the lots in which they are put there
abbrev pub AreLots : Path → List ArchiveEntry → List Thing → Type 0
AreLots base entries lots = (too_deep base entries ≡ None) × (lots ≡ lots_of (things_below base entries))

-- what the archive of these bytes is put as below a path, in lots
abbrev pub ArePut : Bool → Path → List ℕ → List Thing → Type 0
ArePut skips base bytes lots = (entries : List ArchiveEntry) × (entries_read skips bytes ≡ Ok entries) × AreLots base entries lots

-- why it is not: it is not read, by its fault or for want of memory; or its entries have no place there
abbrev pub IsUnputArchive : Bool → Path → List ℕ → Failure → Type 0
IsUnputArchive skips base bytes failure = (failure ≡ Failure.Memory)
    ⊎ (((fault : ArchiveFault) × (entries_read skips bytes ≡ Err fault) × (failure ≡ of_fault fault))
    ⊎ ((entries : List ArchiveEntry) × (entries_read skips bytes ≡ Ok entries) × IsUnplaced base entries failure))

-- by why the input is not had whole: more than an archive may have is too much
abbrev pub of_input : Failure → Failure
of_input (Failure.Source fault) = Failure.TooManyLines
of_input failure = failure

-- why the input is not had whole: it fails, or for want of memory, or more is read of it than an archive may have
abbrev pub IsUnreadArchive : Option (List ℕ) → Option (List ℕ) → Failure → Type 0
IsUnreadArchive before after Failure.Input = IsReadInPart before after
IsUnreadArchive before after Failure.Memory = IsReadInPart before after
IsUnreadArchive before after Failure.TooManyLines = (part : List ℕ) × Consumes before after part × (MAX_ARCHIVE_BYTES < length part)
IsUnreadArchive before after _ = ⊥

-- nothing is put: the word spells no path, and nothing is read; or it does, and the input is not had whole, or is no archive that
-- is put there
abbrev pub UntarCause : Bool → List ℕ → Option (List ℕ) → Option (List ℕ) → Failure → Type 0
UntarCause skips word before after failure = (SpellingCause word failure × (after ≡ before))
    ⊎ ((base : Path) × (path_spelled word ≡ Ok base) × (IsUnreadArchive before after failure
    ⊎ ((bytes : List ℕ) × IsWholeInput before bytes after × IsUnputArchive skips base bytes failure)))

-- the whole input is an archive, and its entries are put into an image as one version, below the path that a word spells
abbrev pub UntarEnds : Bool → List ℕ → List ℕ → (List ℕ → Type 0) → Host → Result (Unit {0}) Failure → Host → Type 0
UntarEnds skips name word IsClaimed before result after =
    ((base : Path) × (bytes : List ℕ) × (entries : List ArchiveEntry) × (path_spelled word ≡ Ok base) × IsWholeInput before.input bytes after.input
    × (length bytes ≤ MAX_ARCHIVE_BYTES) × (entries_read skips bytes ≡ Ok entries) × (too_deep base entries ≡ None)
    × EventsEnd name IsClaimed (lot_events (things_below base entries)) before.files after.files result)
    ⊎ ((failure : Failure) × (result ≡ Err failure) × UntarCause skips word before.input after.input failure × (after.files ≡ before.files))

-- What is written of an archive whose writing ends before its end, and why it does.
use Rattle.std.specs.Prelude.{◌≡◌, ◌<◌, ℕ, Option, List, length, take}
use Rattle.std.specs.List.{flat_map}
use Rattle.std.specs.Io.KnownBytes.{Appends}
use Rattle.flash_model.specs.Device.{Device}
use Rattle.inquiries.specs.Readings.{Meets}
use Rattle.archives.specs.Archives.{archive_of, entry_text}
use Rattle.archives.specs.declared.archive_entry.ArchiveEntry.{ArchiveEntry}
use Rattle.archive_jobs.specs.declared.interruption.Interruption.{Interruption}

-- the first entries are written, each whole, and not all
pub record WritesFirst (entries : List ArchiveEntry) (old new : Option (List ℕ)) : Type 0 where
  pub count : ℕ
  pub more : count < length entries
  pub written : Appends old new (flat_map entry_text (take count entries))

-- why an entry is not written: by what the work met, and nothing of it is; or the output fails, and a beginning of it is
abbrev pub EntryStops : ArchiveEntry → Device → Device → Option (List ℕ) → Option (List ℕ) → Interruption → Type 0
EntryStops entry d e old new (Interruption.Met fault) = Meets d e fault × (new ≡ old)
EntryStops entry d e old new Interruption.Output = (n : ℕ) × Appends old new (take n (entry_text entry))

-- why an archive is not: by what the work met, and its first entries are; or the output fails, and a beginning of it is
abbrev pub Interrupts : List ArchiveEntry → Device → Device → Option (List ℕ) → Option (List ℕ) → Interruption → Type 0
Interrupts entries d e old new (Interruption.Met fault) = Meets d e fault × WritesFirst entries old new
Interrupts entries d e old new Interruption.Output = (n : ℕ) × Appends old new (take n (archive_of entries))

-- What is written of an archive, by what is written of an entry.
use Rattle.std.proofs.Common.{◌≡◌, ◌<◌, ℕ, Option, List, length, take, get_or, sym, subst}
use Rattle.std.specs.List.{flat_map}
use Rattle.std.specs.Io.KnownBytes.{Appends}
use Rattle.fs_types.specs.declared.fault.Fault.{Fault}
use Rattle.flash_model.specs.Device.{Device}
use Rattle.inquiries.specs.Readings.{Meets}
use Rattle.archives.specs.Archives.{entry_text}
use Rattle.archives.specs.declared.archive_entry.ArchiveEntry.{ArchiveEntry}
use Rattle.archives.proofs.Entries.{cut_entry}
use Rattle.archive_jobs.specs.Interruptions.{EntryStops, Interrupts}
use Rattle.archive_jobs.specs.declared.interruption.Interruption.{Interruption}

-- an entry stops the whole: those before it are written
pub stopped : (d e f : Device) (a b c : Option (List ℕ)) (entries : List ArchiveEntry) (i : ℕ) (entry : ArchiveEntry) (why : Interruption) → i < length entries → entry ≡ get_or entries i entry
    → ((fault : Fault) → Meets e f fault → Meets d f fault) → Appends a b (flat_map entry_text (take i entries)) → EntryStops entry e f b c why → Interrupts entries d f a c why
stopped d e f a b c entries i entry (Interruption.Met fault) within is later so_far stops =
    (later fault stops.0, record { count = i; more = within; written = subst (λ (o : Option (List ℕ)). Appends a o (flat_map entry_text (take i entries))) (sym stops.1) so_far })
stopped d e f a b c entries i entry Interruption.Output within is later so_far stops = cut_entry a b c entries i entry within is so_far stops

-- what the work met later, it met
pub interrupts_later : (d e f : Device) (entries : List ArchiveEntry) (old new : Option (List ℕ)) (why : Interruption) → ((fault : Fault) → Meets e f fault → Meets d f fault)
    → Interrupts entries e f old new why → Interrupts entries d f old new why
interrupts_later d e f entries old new (Interruption.Met fault) later stops = (later fault stops.0, stops.1)
interrupts_later d e f entries old new Interruption.Output later stops = stops

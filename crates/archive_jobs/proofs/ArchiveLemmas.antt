-- The archive of a tree, why there is none, and why it is not written to its end.
use Rattle.std.proofs.Common.{◌≡◌, ◌∙◌, ℕ, true, Option, None, Result, Ok, Err, List, map, inr, refl, sym, ap, subst}
use Rattle.std.specs.List.{list_all}
use Rattle.std.specs.Prelude.{OnOk}
use Rattle.std.specs.Io.KnownBytes.{Appends}
use Rattle.fs_types.specs.declared.call.View.{View}
use Rattle.flash_model.specs.Device.{Device}
use Rattle.flash_model.specs.Reading.{OnlyReads}
use Rattle.history_machine.specs.History.{view_refusal}
use Rattle.history_machine.specs.Machine.{Machine, view_tree}
use Rattle.working_state.specs.Seen.{machine_on}
use Rattle.system.specs.Mounts.{IsMountOf}
use Rattle.system.specs.declared.systems.System.{System}
use Rattle.inquiries.specs.Folders.{IsSmall}
use Rattle.inquiries.specs.Items.{items_of}
use Rattle.inquiries.specs.Readings.{Meets}
use Rattle.inquiries.specs.declared.items.Item.{Item}
use Rattle.archives.specs.Archives.{archive_of}
use Rattle.archive_jobs.specs.Archiving.{ArchiveCause, ArchiveFails, HasArchive, HasNoRoom, IsArchiveOf, IsArchived, Unspelled, UnwrittenCause, WriteFails}
use Rattle.archive_jobs.specs.Entries.{entry_of, has_room_for, tree_entries}
use Rattle.archive_jobs.specs.declared.interruption.Interruption.{Interruption}
use Rattle.archive_jobs.specs.declared.unarchived.Unarchived.{Unarchived}
use Rattle.archive_jobs.specs.declared.unwritten.Unwritten.{Unwritten}
use Rattle.archive_jobs.proofs.RoomLemmas.{entries_fit}

-- items that are not taken into an archive are those of the tree
pub fails_spelling : (m : Machine) (view : View) (d e : Device) (items : List Item) (why : Unarchived) → items ≡ items_of (view_tree m view) → Unspelled items why → ArchiveFails m view d e why
fails_spelling m view d e items (Unarchived.NoRoom path) are not = subst (λ (its : List Item). HasNoRoom its path) are not
fails_spelling m view d e items (Unarchived.Refused fault) are not = inr (subst (Meets d e) (sym not) tt)
fails_spelling m view d e items (Unarchived.Unmounted fault) are not = absurd not
fails_spelling m view d e items Unarchived.TooMuch are not = absurd not

-- a tree has an archive that is small enough and has room for each path
pub archive_there : (m : Machine) (view : View) → view_refusal m.history view ≡ None → IsSmall (view_tree m view) → list_all has_room_for (items_of (view_tree m view)) ≡ true → HasArchive m view
archive_there m view accepted small fits =
    record { accepted = accepted; small = small; fits = entries_fit (view_tree m view) (items_of (view_tree m view)) fits; are = refl }

-- the entries of a machine that shows what another does
pub same_entries : (m n : Machine) (view : View) (items lent : List Item) → n ≡ m → lent ≡ items → items ≡ items_of (view_tree m view)
    → map (entry_of (view_tree n view)) lent ≡ tree_entries (view_tree m view)
same_entries m n view items lent same are all =
    ap (λ (x : Machine). map (entry_of (view_tree x view)) lent) same ∙ ap (map (entry_of (view_tree m view))) (are ∙ all)

-- what the work left of the device is what the flash is left as
pub not_archived : (d was end left : Device) (view : View) (system : System) (why : Unarchived) → end ≡ left → IsMountOf d was system → OnlyReads d was → ArchiveFails (machine_on was system.state) view was end why
    → ArchiveCause d view left why
not_archived d was end left view system (Unarchived.Unmounted fault) same mounted reads fails = absurd fails
not_archived d was end left view system (Unarchived.Refused fault) same mounted reads fails =
    record { device = was; system = system; mounted = mounted; reads = reads; fails = subst (λ (e : Device). ArchiveFails (machine_on was system.state) view was e (Unarchived.Refused fault)) same fails }
not_archived d was end left view system Unarchived.TooMuch same mounted reads fails = record { device = was; system = system; mounted = mounted; reads = reads; fails = fails }
not_archived d was end left view system (Unarchived.NoRoom path) same mounted reads fails = record { device = was; system = system; mounted = mounted; reads = reads; fails = fails }

-- and what it left of an archive
pub not_written : (d was end left : Device) (view : View) (system : System) (old new : Option (List ℕ)) (why : Unwritten) → end ≡ left → IsMountOf d was system → OnlyReads d was
    → WriteFails (machine_on was system.state) view was end old new why → UnwrittenCause d view left old new why
not_written d was end left view system old new (Unwritten.Unarchived why) same mounted reads fails = (not_archived d was end left view system why same mounted reads fails.0, fails.1)
not_written d was end left view system old new (Unwritten.Interrupted (Interruption.Met fault)) same mounted reads fails =
    record { device = was; system = system; mounted = mounted; reads = reads; archive = fails.0; met = subst (λ (e : Device). Meets was e fault) same fails.1.0; written = fails.1.1 }
not_written d was end left view system old new (Unwritten.Interrupted Interruption.Output) same mounted reads fails =
    (archive_of (tree_entries (view_tree (machine_on was system.state) view)), fails.1.0, record { device = was; system = system; mounted = mounted; archive = fails.0 }, fails.1.1)

-- what is written of the machine is written of the flash
pub written_of : (r : Result (Unit {0}) Unwritten) (d was : Device) (view : View) (system : System) (old new : Option (List ℕ)) → IsMountOf d was system
    → OnOk r ((bytes : List ℕ) × IsArchiveOf (machine_on was system.state) view bytes × Appends old new bytes) → OnOk r ((bytes : List ℕ) × IsArchived d view bytes × Appends old new bytes)
written_of (Ok done) d was view system old new mounted is = (is.0, record { device = was; system = system; mounted = mounted; archive = is.1 }, is.2)
written_of (Err why) d was view system old new mounted is = tt

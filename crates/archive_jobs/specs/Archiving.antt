-- The archive of a view of a flash, why there is none, and why it is not written to its end.
use Rattle.std.specs.Prelude.{◌≡◌, ◌⊎◌, ℕ, true, not, Option, Some, None, List, take, position, option_map, slice_get}
use Rattle.std.specs.List.{list_all}
use Rattle.std.specs.Io.KnownBytes.{Appends}
use Rattle.fs_types.specs.Names.{Path}
use Rattle.fs_types.specs.declared.call.View.{View}
use Rattle.fs_types.specs.declared.fault.Fault.{Fault}
use Rattle.flash_model.specs.Device.{Device}
use Rattle.flash_model.specs.Reading.{OnlyReads}
use Rattle.history_machine.specs.History.{view_refusal}
use Rattle.history_machine.specs.Machine.{Machine, view_tree}
use Rattle.working_state.specs.Seen.{machine_on}
use Rattle.system.specs.Mounts.{IsMountOf}
use Rattle.system.specs.declared.systems.System.{System}
use Rattle.undofs.specs.Refusals.{RefusesMount}
use Rattle.inquiries.specs.Folders.{IsSmall}
use Rattle.inquiries.specs.Items.{items_of}
use Rattle.inquiries.specs.Readings.{Meets}
use Rattle.inquiries.specs.declared.items.Item.{Item}
use Rattle.archives.specs.Archives.{has_room, archive_of}
use Rattle.archive_jobs.specs.Entries.{has_room_for, tree_entries}
use Rattle.archive_jobs.specs.Interruptions.{Interrupts, WritesFirst}
use Rattle.archive_jobs.specs.declared.interruption.Interruption.{Interruption}
use Rattle.archive_jobs.specs.declared.unarchived.Unarchived.{Unarchived}
use Rattle.archive_jobs.specs.declared.unwritten.Unwritten.{Unwritten}

-- bytes are the archive of the tree of a view, which has no more than is copied out of one, and no path without room
pub record IsArchiveOf (m : Machine) (view : View) (bytes : List ℕ) : Type 0 where
  pub accepted : view_refusal m.history view ≡ None
  pub small : IsSmall (view_tree m view)
  pub fits : list_all has_room (tree_entries (view_tree m view)) ≡ true
  pub are : bytes ≡ archive_of (tree_entries (view_tree m view))

-- this is the first path for which the format has no room
pub record HasNoRoom (items : List Item) (path : Path) : Type 0 where
  pub place : ℕ
  pub first : position (λ item. not (has_room_for item)) items ≡ Some place
  pub there : option_map (λ item. item.path) (slice_get items place) ≡ Some path

-- why items are not taken into an archive: a path has no room, or for want of memory
abbrev pub Unspelled : List Item → Unarchived → Type 0
Unspelled items (Unarchived.NoRoom path) = HasNoRoom items path
Unspelled items (Unarchived.Refused fault) = fault ≡ Fault.NoMemory
Unspelled items _ = ⊥

-- that a path has no room is told, or memory is wanted to tell it
abbrev pub IsNoRoomFor : Path → Unarchived → Type 0
IsNoRoomFor path (Unarchived.NoRoom found) = found ≡ path
IsNoRoomFor path (Unarchived.Refused fault) = fault ≡ Fault.NoMemory
IsNoRoomFor path _ = ⊥

-- why there is no archive: the view is refused, or by what the work met; the tree has too much; or a path has no room
abbrev pub ArchiveFails : Machine → View → Device → Device → Unarchived → Type 0
ArchiveFails m view old new (Unarchived.Refused fault) = (view_refusal m.history view ≡ Some fault) ⊎ Meets old new fault
ArchiveFails m view old new Unarchived.TooMuch = IsSmall (view_tree m view) → ⊥
ArchiveFails m view old new (Unarchived.NoRoom path) = HasNoRoom (items_of (view_tree m view)) path
ArchiveFails m view old new (Unarchived.Unmounted fault) = ⊥

-- the tree of a view has an archive
abbrev pub HasArchive : Machine → View → Type 0
HasArchive m view = IsArchiveOf m view (archive_of (tree_entries (view_tree m view)))

-- why an archive is not written to its end: there is none, and nothing is written; or a first part of it is
abbrev pub WriteFails : Machine → View → Device → Device → Option (List ℕ) → Option (List ℕ) → Unwritten → Type 0
WriteFails m view d e old new (Unwritten.Unarchived why) = ArchiveFails m view d e why × (new ≡ old)
WriteFails m view d e old new (Unwritten.Interrupted why) = HasArchive m view × Interrupts (tree_entries (view_tree m view)) d e old new why

-- what the newest record of a flash holds is mounted, and these bytes are its archive
pub record IsArchived (d : Device) (view : View) (bytes : List ℕ) : Type 0 where
  pub device : Device
  pub system : System
  pub mounted : IsMountOf d device system
  pub archive : IsArchiveOf (machine_on device system.state) view bytes

-- it is mounted, and there is none
pub record ArchivesNot (d : Device) (view : View) (left : Device) (why : Unarchived) : Type 0 where
  pub device : Device
  pub system : System
  pub mounted : IsMountOf d device system
  pub reads : OnlyReads d device
  pub fails : ArchiveFails (machine_on device system.state) view device left why

-- why there is none of a flash that is left so: no system is mounted, or there is none
abbrev pub ArchiveCause : Device → View → Device → Unarchived → Type 0
ArchiveCause d view left (Unarchived.Unmounted fault) = RefusesMount d left fault
ArchiveCause d view left why = ArchivesNot d view left why

-- it is mounted and has an archive, whose first entries are written when the work meets this
pub record IsCutShort (d : Device) (view : View) (left : Device) (old new : Option (List ℕ)) (fault : Fault) : Type 0 where
  pub device : Device
  pub system : System
  pub mounted : IsMountOf d device system
  pub reads : OnlyReads d device
  pub archive : HasArchive (machine_on device system.state) view
  pub met : Meets device left fault
  pub written : WritesFirst (tree_entries (view_tree (machine_on device system.state) view)) old new

-- why the archive of a flash that is left so is not written to its end: there is none, and nothing is written; it is cut short by
-- what the work met; or the output fails, and a beginning of it is written
abbrev pub UnwrittenCause : Device → View → Device → Option (List ℕ) → Option (List ℕ) → Unwritten → Type 0
UnwrittenCause d view left old new (Unwritten.Unarchived why) = ArchiveCause d view left why × (new ≡ old)
UnwrittenCause d view left old new (Unwritten.Interrupted (Interruption.Met fault)) = IsCutShort d view left old new fault
UnwrittenCause d view left old new (Unwritten.Interrupted Interruption.Output) = (bytes : List ℕ) × (n : ℕ) × IsArchived d view bytes × Appends old new (take n bytes)

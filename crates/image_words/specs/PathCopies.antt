-- A directory of a tree as a folder of the host, and a file of it by its bytes.
use Rattle.std.specs.Prelude.{◌≡◌, ◌⊎◌, ℕ, Option, Some, None, List, ◌++◌, map, drop, length, codes}
use Rattle.std.specs.List.{flat_map}
use Rattle.std.specs.FinMap.{get}
use Rattle.fs_types.specs.Names.{Name, Path}
use Rattle.fs_types.specs.declared.call.Call.{Call}
use Rattle.fs_types.specs.declared.call.View.{View}
use Rattle.fs_types.specs.declared.fault.Fault.{Fault}
use Rattle.fs_types.specs.declared.limits.TheConstants.{MAX_NAMES}
use Rattle.plain_trees.specs.Contents.{Entry}
use Rattle.plain_trees.specs.Trees.{Tree, bytes_of_file}
use Rattle.flash_model.specs.Device.{Device}
use Rattle.flash_model.specs.Reading.{OnlyReads}
use Rattle.history_machine.specs.Machine.{Machine, refusal, view_tree}
use Rattle.working_state.specs.Seen.{machine_on}
use Rattle.system.specs.Mounts.{IsMountOf}
use Rattle.system.specs.declared.systems.System.{System}
use Rattle.undofs.specs.Refusals.{RefusesMount}
use Rattle.host_interface.specs.Files.{Held, new_name}
use Rattle.host_interface.specs.Folders.{Made, HoldsMade, KeepsBeside, KeepsOutside}
use Rattle.inquiries.specs.Folders.{IsSmall}
use Rattle.inquiries.specs.Items.{items_below, IsDirectoryOf}
use Rattle.inquiries.specs.Inquiries.{inquiry_refusal}
use Rattle.inquiries.specs.Readings.{Meets}
use Rattle.inquiries.specs.declared.inquiry.Inquiry.{Inquiry}
use Rattle.inquiries.specs.declared.items.Item.{Item}
use Rattle.inquiries.specs.declared.tell_fault.TellFault.{TellFault}
use Rattle.image_words.specs.declared.path_copies.Copied.{Copied}
use Rattle.image_jobs.specs.Failures.{of_system, of_refusal}
use Rattle.image_jobs.specs.declared.failure.Failure.{Failure}
use Rattle.script_runs.specs.declared.scripts.Refusal.{Refusal}

-- the way to a path from a directory that stands at so many of its names: each name with a slash before it
abbrev pub way_of : ℕ → Path → List ℕ
way_of skipped path = flat_map (λ (name : Name). codes "/" ++ name) (drop skipped path)

-- what is made for what stands at a path
abbrev pub made_by : List ℕ → Option Entry → Made
made_by way (Some (Entry.File bytes)) = Made.File way bytes
made_by way _ = Made.Folder way

abbrev pub made_of : Tree → ℕ → Item → Made
made_of t skipped item = made_by (way_of skipped item.path) (get t item.path)

-- all that is made for a directory of a tree: each directory before what stands in it
abbrev pub folder_made : Tree → Path → List Made
folder_made t directory = map (made_of t (length directory)) (items_below t MAX_NAMES directory)

-- why the host made nothing: it failed, or does not take a name; or for want of memory
abbrev pub IsHostFailure : Failure → Type 0
IsHostFailure Failure.CannotWrite = Unit {0}
IsHostFailure Failure.Memory = Unit {0}
IsHostFailure _ = ⊥

-- why something of a directory was not made: the host did not make it, or by what the work met
abbrev pub Unmade : Device → Device → Failure → Type 0
Unmade old new (Failure.Refused (Refusal.Fault fault)) = Meets old new fault
Unmade old new failure = IsHostFailure failure

-- by why a directory is not listed
abbrev pub of_list : TellFault → Failure
of_list (TellFault.Refused fault) = of_refusal (Refusal.Fault fault)
of_list TellFault.TooManyLines = Failure.TooManyLines

-- a folder that is begun was not given its name, or not for good
abbrev pub Unfinished : List ℕ → Held → Held → (List Made → Type 0) → Failure → Type 0
Unfinished name held saved IsMade Failure.Unsynced = ((made : List Made) → IsMade made → HoldsMade name saved made) × KeepsBeside name held saved
Unfinished name held saved IsMade failure = IsHostFailure failure × KeepsOutside (new_name name) held saved

-- why a folder that is begun did not become a directory's, and what the files hold: it was made, and not brought to the disk; or
-- something was not made, and nothing but the new folder changed
abbrev pub Unfilled : Tree → Path → List ℕ → Held → Held → Device → Device → Failure → Type 0
Unfilled t directory name held saved old new Failure.Unsynced = HoldsMade name saved (folder_made t directory) × KeepsBeside name held saved
Unfilled t directory name held saved old new failure = Unmade old new failure × KeepsOutside (new_name name) held saved

-- why no folder was made of a directory: the tree has too much, and no file changes; or the folder did not become the directory's
abbrev pub Uncopied : Tree → Path → List ℕ → Held → Held → Device → Device → Failure → Type 0
Uncopied t directory name held saved old new Failure.TooManyLines = (IsSmall t → ⊥) × (saved ≡ held)
Uncopied t directory name held saved old new failure = Unfilled t directory name held saved old new failure

-- a directory of a view is a folder of the host, all of it and nothing more
pub record IsFolderOf (m : Machine) (view : View) (directory : Path) (name : List ℕ) (IsMade : List Made → Type 0) (held saved : Held) : Type 0 where
  pub there : IsDirectoryOf m view directory
  pub small : IsSmall (view_tree m view)
  pub made : IsMade (folder_made (view_tree m view) directory)
  pub holds : HoldsMade name saved (folder_made (view_tree m view) directory)
  pub others : KeepsBeside name held saved

-- what stands at a path of a view is copied out: of a file its bytes, and no file of the host changes; a directory as a folder
abbrev pub IsCopy : Machine → View → Path → List ℕ → (List Made → Type 0) → Held → Held → Copied → Type 0
IsCopy m view path name IsMade held saved (Copied.File bytes) = (inquiry_refusal m (Inquiry.File view path) ≡ None) × (bytes ≡ bytes_of_file (view_tree m view) path) × (saved ≡ held)
IsCopy m view path name IsMade held saved Copied.Folder = IsFolderOf m view path name IsMade held saved

-- why it is not: by the refusal of `stat`, or by what the work met, and no file of the host changes; or no folder was made of a
-- directory
abbrev pub CopyFails : Machine → View → Path → List ℕ → Held → Held → Device → Device → Failure → Type 0
CopyFails m view path name held saved old new failure =
    ((fault : Fault) × ((refusal m (Call.Stat view path) ≡ Some fault) ⊎ Meets old new fault) × (failure ≡ of_refusal (Refusal.Fault fault)) × (saved ≡ held))
    ⊎ (IsDirectoryOf m view path × Uncopied (view_tree m view) path name held saved old new failure)

-- what the newest record of a flash holds is mounted, and what stands at a path of a view is copied out
pub record IsCopiedOut (d : Device) (view : View) (path : Path) (name : List ℕ) (IsMade : List Made → Type 0) (held saved : Held) (copied : Copied) : Type 0 where
  pub device : Device
  pub system : System
  pub mounted : IsMountOf d device system
  pub copy : IsCopy (machine_on device system.state) view path name IsMade held saved copied

-- it is mounted, and not copied out
pub record CopiesNot (d : Device) (view : View) (path : Path) (name : List ℕ) (held saved : Held) (left : Device) (failure : Failure) : Type 0 where
  pub device : Device
  pub system : System
  pub mounted : IsMountOf d device system
  pub reads : OnlyReads d device
  pub why : CopyFails (machine_on device system.state) view path name held saved device left failure

-- why nothing is copied out of a flash that is left so: no system is mounted, or it is not copied
abbrev pub CopyCause : Device → View → Path → List ℕ → Held → Held → Device → Failure → Type 0
CopyCause d view path name held saved left failure =
    ((fault : Fault) × RefusesMount d left fault × (failure ≡ of_system fault) × (saved ≡ held)) ⊎ CopiesNot d view path name held saved left failure

-- What is told of a file system to who asks: over the trees of its machine, and of what they keep of the flash.
use Rattle.std.specs.Prelude.{◌≡◌, ◌⊎◌, ◌≤◌, ◌<◌, ◌+◌, ℕ, Bool, true, false, Option, None, List, length, sum_by, All}
use Rattle.std.specs.Option.{option_or}
use Rattle.fs_types.specs.declared.call.Call.{Call}
use Rattle.fs_types.specs.declared.fault.Fault.{Fault}
use Rattle.fs_types.specs.declared.limits.TheConstants.{MAX_FILE_BYTES}
use Rattle.plain_trees.specs.Trees.{bytes_of_file}
use Rattle.history_machine.specs.History.{view_refusal}
use Rattle.history_machine.specs.Machine.{Machine, refusal, view_tree}
use Rattle.flash_model.specs.Device.{Device}
use Rattle.flash_model.specs.declared.flash.Flash.{Ghosts}
use Rattle.undofs.specs.declared.fs.Fs.{Fs}
use Rattle.working_state.specs.Seen.{machine_on}
use Rattle.working_state.specs.declared.state.State.{State}
use Rattle.inquiries.specs.Differences.{difference_lines}
use Rattle.inquiries.specs.Folders.{IsSmall}
use Rattle.inquiries.specs.Items.{items_of}
use Rattle.inquiries.specs.Listable.{IsListable}
use Rattle.inquiries.specs.PathHistories.{history_lines, kept_views, looked_at, nowhere_in, IsSmallAt}
use Rattle.inquiries.specs.Printed.{list_lines, tree_lines}
use Rattle.inquiries.specs.Readings.{shown, Fails}
use Rattle.inquiries.specs.Versions.{AreVersionLines}
use Rattle.inquiries.specs.declared.inquiry.Inquiry.{Inquiry}
use Rattle.inquiries.specs.declared.tell_fault.TellFault.{TellFault}
use Rattle.inquiries.specs.declared.tell_fault.TheConstants.{MAX_LINES}

-- why what is asked is not told: for a file as the call is refused that reads it
abbrev pub inquiry_refusal : Machine → Inquiry → Option Fault
inquiry_refusal m (Inquiry.File view path) = refusal m (Call.ReadAt view path 0 MAX_FILE_BYTES)
inquiry_refusal m (Inquiry.Tree view) = view_refusal m.history view
inquiry_refusal m (Inquiry.List view path) = refusal m (Call.Stat view path)
inquiry_refusal m (Inquiry.History path) = nowhere_in m path (kept_views m)
inquiry_refusal m (Inquiry.Differences old new) = option_or (view_refusal m.history old) (view_refusal m.history new)
inquiry_refusal m Inquiry.Versions = None

-- what is asked of all that is kept, and of no view
abbrev pub is_of_versions : Inquiry → Bool
is_of_versions Inquiry.Versions = true
is_of_versions _ = false

-- how many entries have to be looked at: those of one tree, each of which has a line, or of two, each of which has a line at most,
-- or those of each tree that is kept, where a directory stands at the path
abbrev pub look_count : Machine → Inquiry → ℕ
look_count m (Inquiry.Tree view) = length (items_of (view_tree m view))
look_count m (Inquiry.Differences old new) = length (items_of (view_tree m old)) + length (items_of (view_tree m new))
look_count m (Inquiry.History path) = sum_by (looked_at m path) (kept_views m)
look_count m _ = 0

-- a tree that is listed whole is listable, and one of which all may be read is small
abbrev pub HasSmallTrees : Machine → Inquiry → Type 0
HasSmallTrees m (Inquiry.Tree view) = IsListable (view_tree m view)
HasSmallTrees m (Inquiry.Differences old new) = IsSmall (view_tree m old) × IsSmall (view_tree m new)
HasSmallTrees m (Inquiry.History path) = All (IsSmallAt m path) (kept_views m)
HasSmallTrees m _ = Unit {0}

-- of two views of the same tree nothing differs, whatever stands in it
abbrev pub ShowSame : Machine → Inquiry → Type 0
ShowSame m (Inquiry.Differences old new) = view_tree m old ≡ view_tree m new
ShowSame m _ = ⊥

-- no more are looked at than may be, in trees that have not too much
abbrev pub HasFewLines : Machine → Inquiry → Type 0
HasFewLines m inquiry = ShowSame m inquiry ⊎ ((look_count m inquiry ≤ MAX_LINES) × HasSmallTrees m inquiry)

-- more would have to be
abbrev pub HasManyLines : Machine → Inquiry → Type 0
HasManyLines m inquiry = (MAX_LINES < look_count m inquiry) ⊎ (HasSmallTrees m inquiry → ⊥)

-- what is told of a system that is mounted on a flash
abbrev pub IsTold : Device → State → Inquiry → List ℕ → Type 0
IsTold d s (Inquiry.File view path) bytes = bytes ≡ bytes_of_file (view_tree (machine_on d s) view) path
IsTold d s (Inquiry.Tree view) bytes = bytes ≡ tree_lines (view_tree (machine_on d s) view)
IsTold d s (Inquiry.List view path) bytes = bytes ≡ list_lines (view_tree (machine_on d s) view) path
IsTold d s (Inquiry.History path) bytes = bytes ≡ history_lines (machine_on d s) path
IsTold d s (Inquiry.Differences old new) bytes = bytes ≡ difference_lines (view_tree (machine_on d s) old) (view_tree (machine_on d s) new)
IsTold d s Inquiry.Versions bytes = AreVersionLines d s bytes

module _ {F : Type 0} {flash : Ghosts F} where
  -- why it is not told: it is refused, or has too many lines
  abbrev pub Untold : Inquiry → Fs F flash → Fs F flash → TellFault → Type 0
  Untold inquiry old new (TellFault.Refused fault) = Fails (inquiry_refusal (shown old) inquiry) old new fault
  Untold inquiry old new TellFault.TooManyLines = (inquiry_refusal (shown old) inquiry ≡ None) × HasManyLines (shown old) inquiry

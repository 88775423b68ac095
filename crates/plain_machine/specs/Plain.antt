-- What the plain machine answers and leaves.
use Rattle.std.specs.Prelude.{◌≡◌, ℕ, ◌+◌, ◌-◌, ◌^◌, ◌<◌, not, Bool, true, false, ◌==◌, ◌&&◌, ◌⊎◌, nat_lt, Option, Some, None, Result, Err, List, length, is_some, unwrap_or, if◌then◌else◌}
use Rattle.std.specs.Option.{option_map_or}
use Rattle.fs_types.specs.declared.limits.TheConstants.{MAX_FILE_BYTES}
use Rattle.fs_types.specs.Names.{Path}
use Rattle.plain_trees.specs.Trees.{Tree, bare, entry_count, bytes_of_file}
use Rattle.history_machine.specs.History.{Past, fresh, changed, present_root, due_root, undo_refusal, redo_refusal, serial_refusal, forget_refusal, checkpoint_refusal, name_refusal}
use Rattle.history_machine.specs.Descriptors.{Descriptor, Descriptors}
use Rattle.history_machine.specs.Machine.{Machine, Space, Stepped, step, is_accepted, makes_version, version_after, history_moved, machine_with}
use Rattle.fs_types.specs.declared.call.Call.{Call}
use Rattle.fs_types.specs.declared.call.Group.{Group}
use Rattle.fs_types.specs.declared.call.Reply.{Reply}
use Rattle.fs_types.specs.declared.fault.Fault.{Fault}
use Rattle.fs_types.specs.declared.fault.Fault.TheVariants.{TooBig, NotEmpty, Overflow, NoMemory}

-- a machine with this present tree
abbrev pub machine_of_tree : Tree → Descriptors → Machine
machine_of_tree t descriptors = machine_with (fresh 2 t) None descriptors

-- a machine with this group
abbrev pub machine_in : Option (Group Tree) → Descriptors → Machine
machine_in group descriptors = machine_with (fresh 2 bare) group descriptors

-- a flash of nothing, for calls that do not tell of it
abbrev pub no_space : Space
no_space = record { blocks = 0; bad = 0; free = 0; anchors = 0 }

-- a call that makes a version, if it is not refused, has a serial for it
abbrev pub HasSerial : Machine → Call → Type 0
HasSerial m call = is_some (version_after m call) ≡ true → m.history.next < 2 ^ 64 - 1

-- an ftruncate to this length changes the file that is open
abbrev pub ftruncates : Tree → Option Descriptor → ℕ → Bool
ftruncates t d n = option_map_or (λ d. not (length (bytes_of_file t d.path) == n)) d false

-- why a call that makes no version can't be carried out on the history
abbrev pub moving_refusal : Past Tree → Call → Option Fault
moving_refusal h Call.Undo = undo_refusal h
moving_refusal h Call.Redo = redo_refusal h
moving_refusal h (Call.Goto serial) = serial_refusal h serial
moving_refusal h (Call.Forget count) = forget_refusal h count
moving_refusal h (Call.Checkpoint name) = checkpoint_refusal h name
moving_refusal h (Call.RemoveCheckpoint name) = name_refusal h name
moving_refusal h _ = None

-- what a call that changes no tree leaves of the history and of the group: an `end` makes a version, where one is due
abbrev pub history_still : Past Tree → Option (Group Tree) → Call → Past Tree
history_still h group Call.End = option_map_or (changed h) (due_root group) h
history_still h group call = history_moved h call

abbrev pub group_still : Past Tree → Option (Group Tree) → Call → Option (Group Tree)
group_still h group Call.Begin = Some (record { root = unwrap_or (present_root h) bare; is_due = false })
group_still h group Call.End = None
group_still h group Call.Abandon = None
group_still h group call = group

-- the file that a call opens, if it is an open
abbrev pub file_of : Call → Option Descriptor
file_of (Call.Open path flags) = Some (record { path = path; flags = flags })
file_of _ = None

-- why so many bytes don't fit a file from an offset on; no bytes always do
abbrev pub range_refusal : ℕ → List ℕ → Option Fault
range_refusal offset bytes = if length bytes == 0 then None else if nat_lt MAX_FILE_BYTES (offset + length bytes) then Some TooBig else None

-- why a directory is not empty
abbrev pub emptiness_refusal : Tree → Path → Option Fault
emptiness_refusal t p = if nat_lt 0 (entry_count t p) then Some NotEmpty else None

-- a change whose serial would pass the greatest u64
abbrev pub overflows : Machine → Call → Bool
overflows m call = makes_version m call && (m.history.next == 18446744073709551615)

-- the machine's step, where a change that overflows is refused
abbrev pub bounded_step : Space → Machine → Call → Stepped
bounded_step space m call = if overflows m call then record { reply = Err Overflow; machine = m } else step space m call

-- a call answers and leaves what the machine's step does; or it would not be refused, memory is not to be
-- had, and all stays
abbrev pub IsPlainStep : Space → Machine → Call → Result Reply Fault → Machine → Type 0
IsPlainStep space m call result n =
    (record { reply = result; machine = n } ≡ bounded_step space m call)
    ⊎ ((result ≡ Err NoMemory) × (n ≡ m) × (is_accepted m call ≡ true) × (overflows m call ≡ false))

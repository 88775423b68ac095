-- What is so of each call, whatever it works on: a row for each call.
use Rattle.std.specs.Prelude.{◌&&◌, Bool, true, false, Option, Some, None, is_some, is_none, List, [], ◌∷◌, if◌then◌else◌}
use Rattle.history_machine.specs.Descriptors.{Descriptors, any_open}
use Rattle.fs_types.specs.declared.call.Call.{Call}
use Rattle.fs_types.specs.declared.call.Group.{Group}
use Rattle.fs_types.specs.declared.fault.Fault.{Fault}
use Rattle.fs_types.specs.declared.fault.Fault.TheVariants.{Busy, NoGroup, InGroup}

pub record Facts : Type 0 where
  -- it does no device operation
  pub still : Bool
  -- and takes no memory
  pub light : Bool
  -- it only looks at what stands at paths, or at the bytes of a file
  pub looks : Bool
  -- it makes no version, and is refused in read-only mode all the same
  pub for_record : Bool
  -- it commits the history
  pub sync : Bool
  -- it tells what is no fact of the machine: the space that is left of the flash
  pub tells_space : Bool
  -- it is refused in a change group, before all else; or outside one
  pub outside : Bool
  pub inside : Bool
  -- it is refused while a file is open, after that
  pub closed : Bool

abbrev pub plain : Facts
plain = record {
  still = false;
  light = false;
  looks = false;
  for_record = false;
  sync = false;
  tells_space = false;
  outside = false;
  inside = false;
  closed = false;
}

-- calls on the history that change it alone, and those that move the present version or begin a group
abbrev pub on_history : Facts
on_history = record plain { still = true; for_record = true; outside = true }

abbrev pub travel : Facts
travel = record plain { still = true; light = true; outside = true; closed = true }

abbrev pub ending : Facts
ending = record plain { still = true; light = true; inside = true; closed = true }

abbrev pub is_nothing : {A : Type 0} → List A → Bool
is_nothing [] = true
is_nothing (x ∷ xs) = false

abbrev pub facts_of : Call → Facts
facts_of (Call.Open path flags) = plain
facts_of (Call.Close descriptor) = record plain { still = true; light = true }
facts_of (Call.Pread descriptor offset count) = record plain { looks = true }
facts_of (Call.Pwrite descriptor offset bytes) = record plain { light = is_nothing bytes }
facts_of (Call.Ftruncate descriptor length) = plain
facts_of (Call.WriteFile path bytes) = plain
facts_of (Call.WriteFiles directory files) = record plain { light = is_nothing files }
facts_of (Call.Rename old new) = plain
facts_of (Call.Unlink path) = plain
facts_of (Call.Mkdir path) = plain
facts_of (Call.Rmdir path) = plain
facts_of (Call.Fsync descriptor) = record plain { for_record = true; sync = true }
facts_of Call.Sync = record plain { for_record = true; sync = true; outside = true }
facts_of (Call.Stat view path) = record plain { looks = true }
facts_of (Call.List view path) = record plain { looks = true }
facts_of (Call.ReadAt view path offset count) = record plain { looks = true }
facts_of (Call.Entries view path from most) = record plain { looks = true }
facts_of Call.Log = record plain { still = true }
facts_of Call.Df = record plain { tells_space = true }
facts_of Call.Undo = travel
facts_of Call.Redo = travel
facts_of (Call.Goto serial) = travel
facts_of (Call.Rollback name) = record travel { light = false }
facts_of (Call.Forget count) = on_history
facts_of (Call.Checkpoint name) = on_history
facts_of (Call.RemoveCheckpoint name) = on_history
facts_of Call.Begin = travel
facts_of Call.End = ending
facts_of Call.Abandon = ending

-- the refusals of a call that come of the change group and the open files, before its own
abbrev pub group_refusal : {R : Type 0} → Option (Group R) → Descriptors → Call → Option Fault
group_refusal group files call =
    if (facts_of call).outside && is_some group then Some InGroup
    else if (facts_of call).inside && is_none group then Some NoGroup
    else if (facts_of call).closed && any_open files then Some Busy
    else None

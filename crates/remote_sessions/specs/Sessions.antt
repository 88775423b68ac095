-- Scripts on a flash.
use Rattle.std.specs.Prelude.{◌≡◌, ℕ, Option, Some, None, Result, Ok, Err}
use Rattle.fs_types.specs.declared.fault.Fault.{Fault}
use Rattle.flash_model.specs.Device.{Device}
use Rattle.mounting.specs.Formats.{IsFormatted, ListsFailed, IsNumbered, FormatCause}
use Rattle.script_runs.specs.Scripts.{EndsOnFlash, Streams, unplanned}
use Rattle.script_runs.specs.declared.scripts.ScriptFault.{ScriptFault}
use Rattle.remote_sessions.specs.declared.session_fault.SessionFault.{SessionFault}

-- a flash is made ready for a script: an empty file system is made on it where it is given how many versions are kept, else it
-- stays as it is
abbrev pub MakesReady : Option ℕ → Device → Device → Type 0
MakesReady None found ready = ready ≡ found
MakesReady (Some limit) found ready = IsFormatted limit ready × (ready.geometry ≡ found.geometry) × ListsFailed found ready × IsNumbered found ready

-- why it is not
abbrev pub IsNotReady : Option ℕ → Device → Fault → Device → Type 0
IsNotReady None found fault left = ⊥
IsNotReady (Some limit) found fault left = FormatCause found limit fault left

-- a script ended so, on a flash that was made ready
pub record RunsReady (history : Option ℕ) (old new : Device) (before : Streams) (result : Result (Unit {0}) ScriptFault) (after : Streams) : Type 0 where
  pub ready : Device
  pub made : MakesReady history old ready
  pub ends : EndsOnFlash (unplanned ready) (unplanned new) before result after

-- how it ends: by the script; or nothing is read or written, where no file system is made
abbrev pub SessionEnds : Option ℕ → Device → Device → Streams → Result (Unit {0}) SessionFault → Streams → Type 0
SessionEnds history old new before (Ok done) after = RunsReady history old new before (Ok done) after
SessionEnds history old new before (Err (SessionFault.Script fault)) after = RunsReady history old new before (Err fault) after
SessionEnds history old new before (Err (SessionFault.Format fault)) after = IsNotReady history old fault new × (after ≡ before)

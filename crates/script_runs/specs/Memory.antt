-- A script that is run on a flash in memory of its own.
use Rattle.std.specs.Prelude.{◌≡◌, ◌⊎◌, ℕ, Result, List}
use Rattle.fs_types.specs.declared.fault.Fault.{Fault}
use Rattle.flash_simulation.specs.declared.sim_flash.SimFlash.{SimFlash}
use Rattle.flash_model.specs.declared.geometry.Geometry.{Geometry}
use Rattle.script_runs.specs.Flashes.{IsNewFlash, IsFormatOf, IsUnformatted}
use Rattle.script_runs.specs.Plans.{FollowsPlan}
use Rattle.script_runs.specs.Scripts.{Streams, EndsBy, IsUnmounted, LineSession}
use Rattle.script.specs.declared.line_answer.LineAnswer.{LineAnswer}
use Rattle.script_runs.specs.declared.scripts.ScriptFault.{ScriptFault}

-- the sizes of the flash of `memory`
abbrev pub memory_sizes : Geometry
memory_sizes = record { page = 256; pages = 16; blocks = 32 }

-- how many versions the system of `memory` keeps
abbrev pub kept_versions : ℕ
kept_versions = 8

-- lines that were carried out on a new flash, once it was formatted, with what that left of its plan
abbrev pub NewSession : Geometry → List (List ℕ) → List LineAnswer → Type 0
NewSession sizes lines answers =
    (start : SimFlash) × (formatted : SimFlash) × (end : SimFlash) × IsNewFlash sizes start × IsFormatOf kept_versions start formatted × FollowsPlan start formatted × LineSession formatted end lines answers

-- why no system was made: for want of memory for the flash; or since it was not formatted, or not mounted then
abbrev pub NewCause : Geometry → Fault → Type 0
NewCause sizes fault = (fault ≡ Fault.NoMemory)
    ⊎ (((start : SimFlash) × (end : SimFlash) × IsNewFlash sizes start × IsUnformatted kept_versions start end fault)
    ⊎ ((start : SimFlash) × (formatted : SimFlash) × (end : SimFlash) × IsNewFlash sizes start × IsFormatOf kept_versions start formatted × FollowsPlan start formatted × IsUnmounted formatted end fault))

-- how a script ends on a new flash of its own
abbrev pub EndsInMemory : Geometry → Streams → Result (Unit {0}) ScriptFault → Streams → Type 0
EndsInMemory sizes before result after = EndsBy (NewSession sizes) (NewCause sizes) before result after

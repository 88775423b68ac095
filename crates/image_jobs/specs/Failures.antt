-- Why a job did not run to its end, by what ended it, and the status of the program.
use Rattle.std.specs.Prelude.{ℕ, Result, Ok, Err}
use Rattle.fs_types.specs.declared.fault.Fault.{Fault}
use Rattle.flash_simulation.specs.declared.image_fault.ImageFault.{ImageFault}
use Rattle.script_runs.specs.declared.scripts.ScriptFault.{ScriptFault}
use Rattle.part_file.specs.declared.part_file.PartFault.{PartFault}
use Rattle.image_jobs.specs.declared.failure.Failure.{Failure}
use Rattle.script_runs.specs.declared.scripts.Refusal.{Refusal}

-- a refused system; want of memory is told alike wherever it comes
abbrev pub of_system : Fault → Failure
of_system Fault.NoMemory = Failure.Memory
of_system fault = Failure.System fault

-- a script that did not run to its end
abbrev pub of_script : ScriptFault → Failure
of_script (ScriptFault.Mount fault) = of_system fault
of_script ScriptFault.Read = Failure.Input
of_script ScriptFault.Write = Failure.Output
of_script ScriptFault.Memory = Failure.Memory

-- a refused call
abbrev pub of_refusal : Refusal → Failure
of_refusal (Refusal.Fault Fault.NoMemory) = Failure.Memory
of_refusal refusal = Failure.Refused refusal

-- bytes that are no image
abbrev pub of_image : ImageFault → Failure
of_image ImageFault.Memory = Failure.Memory
of_image fault = Failure.Image fault

-- bytes that are no part; a file that cannot be read, and want of memory, are told as those of an image are
abbrev pub of_part : PartFault → Failure
of_part PartFault.Read = Failure.CannotRead
of_part PartFault.Memory = Failure.Memory
of_part fault = Failure.Part fault

-- 3 where the image, the part, a format or a mount was refused, but 1 where a page of a part cannot be read; 4 where a call or a
-- line of a script was, 5 where trees differ, 2 where the words want a folder, else 1
abbrev pub failure_status : Failure → ℕ
failure_status (Failure.Image fault) = 3
failure_status (Failure.Part (PartFault.Page page)) = 1
failure_status (Failure.Part fault) = 3
failure_status (Failure.System fault) = 3
failure_status (Failure.Refused refusal) = 4
failure_status Failure.TooManyLines = 4
failure_status (Failure.Stopped at) = 4
failure_status Failure.Differs = 5
failure_status Failure.NoFolder = 2
failure_status _ = 1

-- 0 where a job ran to its end
abbrev pub job_status : Result (Unit {0}) Failure → ℕ
job_status (Ok done) = 0
job_status (Err failure) = failure_status failure

-- the status of a script: 1 where the input, the output or memory failed, and 3 where the system was refused
abbrev pub fault_status : ScriptFault → ℕ
fault_status (ScriptFault.Mount Fault.NoMemory) = 1
fault_status (ScriptFault.Mount _) = 3
fault_status _ = 1

abbrev pub status_of : Result (Unit {0}) ScriptFault → ℕ
status_of (Ok done) = 0
status_of (Err fault) = fault_status fault

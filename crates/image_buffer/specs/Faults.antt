-- Why nothing was done with an image in a buffer, by what refused it, and the number of each.
use Rattle.std.specs.Prelude.{ℕ}
use Rattle.fs_types.specs.Faults as faults
use Rattle.fs_types.specs.declared.fault.Fault.{Fault}
use Rattle.flash_simulation.specs.declared.image_fault.ImageFault.{ImageFault}
use Rattle.script_runs.specs.declared.scripts.ScriptFault.{ScriptFault}
use Rattle.image_buffer.specs.declared.buffer_fault.BufferFault.{BufferFault}

-- bytes that are no image; want of memory is told alike wherever it comes
abbrev pub buffer_fault_of_image : ImageFault → BufferFault
buffer_fault_of_image ImageFault.Memory = BufferFault.Memory
buffer_fault_of_image fault = BufferFault.Image fault

-- a refused system
abbrev pub buffer_fault_of_system : Fault → BufferFault
buffer_fault_of_system Fault.NoMemory = BufferFault.Memory
buffer_fault_of_system fault = BufferFault.System fault

-- a script that did not run to its end: its replies are written into memory
abbrev pub buffer_fault_of_script : ScriptFault → BufferFault
buffer_fault_of_script (ScriptFault.Mount fault) = buffer_fault_of_system fault
buffer_fault_of_script ScriptFault.Read = BufferFault.Input
buffer_fault_of_script ScriptFault.Write = BufferFault.Memory
buffer_fault_of_script ScriptFault.Memory = BufferFault.Memory

-- the number of what is wrong with the bytes of an image
abbrev pub image_number_of : ImageFault → ℕ
image_number_of ImageFault.NotImage = 101
image_number_of ImageFault.BadGeometry = 102
image_number_of ImageFault.BadState = 103
image_number_of ImageFault.Truncated = 104
image_number_of ImageFault.Trailing = 105
image_number_of ImageFault.Memory = 25

-- the number
abbrev pub buffer_fault_number : BufferFault → ℕ
buffer_fault_number (BufferFault.System fault) = faults.number_of fault
buffer_fault_number BufferFault.Memory = 25
buffer_fault_number (BufferFault.Image fault) = image_number_of fault
buffer_fault_number BufferFault.Length = 110
buffer_fault_number BufferFault.ImageRoom = 111
buffer_fault_number BufferFault.ReplyRoom = 112
buffer_fault_number BufferFault.Input = 113

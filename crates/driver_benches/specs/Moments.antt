-- At how many moments a fault can be planned for an operation of a flash in memory.
use Rattle.std.specs.Prelude.{ℕ}
use Rattle.flash_model.specs.declared.flash.DevFault.{DevFault}
use Rattle.flash_model.specs.declared.flash.DevFault.TheVariants.{Failed, PowerCut}
use Rattle.flash_model.specs.declared.fault_kind.Operation.{Operation}
use Rattle.flash_model.specs.declared.fault_kind.Operation.TheVariants.{Read, Program, Erase}

-- a cut leaves a page as it was, torn or whole
abbrev pub memory_moments : Operation → DevFault → ℕ
memory_moments class Failed = 1
memory_moments class PowerCut = 3

-- an operation is two of a part: each of them fails, or power goes before, in or after it
abbrev pub part_moments : Operation → DevFault → ℕ
part_moments class Failed = 2
part_moments class PowerCut = 6

-- the same of the dense layout, where the erase of a block of two sectors is three operations of a part
abbrev pub dense_moments : Operation → DevFault → ℕ
dense_moments Erase Failed = 3
dense_moments Erase PowerCut = 9
dense_moments Read fault = part_moments Read fault
dense_moments Program fault = part_moments Program fault

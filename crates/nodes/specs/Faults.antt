-- Which refusals a read, a look and a write may answer.
use Rattle.std.specs.Prelude.{Bool, true, false, IsTrue}
use Rattle.fs_types.specs.declared.fault.Fault.{Fault}
use Rattle.fs_types.specs.declared.fault.Fault.TheVariants.{FlashFull, ReadOnly, ReadFailed, PowerCut, NoMemory, Damaged}

-- the refusals of a read: a failed read, no power, no memory, and no node there
abbrev pub is_read_fault : Fault → Bool
is_read_fault ReadFailed = true
is_read_fault PowerCut = true
is_read_fault NoMemory = true
is_read_fault Damaged = true
is_read_fault _ = false

abbrev pub IsReadFault : Fault → Type 0
IsReadFault fault = IsTrue (is_read_fault fault)

-- the refusals of a look at a block that may hold no node: those of a read, but that nothing is damaged
abbrev pub is_look_fault : Fault → Bool
is_look_fault Damaged = false
is_look_fault fault = is_read_fault fault

abbrev pub IsLookFault : Fault → Type 0
IsLookFault fault = IsTrue (is_look_fault fault)

-- the refusals of a write: no block left, a bad list at its limit, no power, and no memory
abbrev pub is_write_fault : Fault → Bool
is_write_fault FlashFull = true
is_write_fault ReadOnly = true
is_write_fault PowerCut = true
is_write_fault NoMemory = true
is_write_fault _ = false

abbrev pub IsWriteFault : Fault → Type 0
IsWriteFault fault = IsTrue (is_write_fault fault)

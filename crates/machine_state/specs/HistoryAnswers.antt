-- What a call answers that may be refused.
use Rattle.std.specs.Prelude.{Option, Some, None, Result, Ok, Err}
use Rattle.fs_types.specs.declared.fault.Fault.{Fault}

-- a refusal, or success with nothing to tell
abbrev pub told_nothing : Option Fault → Result (Unit {0}) Fault
told_nothing None = Ok tt
told_nothing (Some fault) = Err fault

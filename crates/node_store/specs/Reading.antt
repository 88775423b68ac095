-- What reads of pages bring.
use Rattle.std.specs.Prelude.{◌≡◌, ℕ, ◌<◌, false, List, Option, Some, None, Result, Ok, Err}
use Rattle.fs_types.specs.declared.fault.Fault.{Fault}
use Rattle.fs_types.specs.declared.fault.Fault.TheVariants.{ReadFailed, PowerCut, Damaged}
use Rattle.flash_model.specs.Device.{Device}

-- reads brought what there is, or were refused: a read failed, power is off, or nothing is there
abbrev pub Brings : Device → Device → Option (List ℕ) → List ℕ → Result (Unit {0}) Fault → Type 0
Brings old new there shown (Ok _) = there ≡ Some shown
Brings old new there shown (Err ReadFailed) = old.failed_reads < new.failed_reads
Brings old new there shown (Err PowerCut) = new.powered ≡ false
Brings old new there shown (Err Damaged) = there ≡ None
Brings old new there shown (Err _) = ⊥

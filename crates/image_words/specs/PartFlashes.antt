-- The bytes of a part that is made, and why a file gives none.
use Rattle.std.specs.Prelude.{◌≡◌, ℕ, Option, IfSome, List, length}
use Rattle.flash_model.specs.Device.{Device}
use Rattle.part_file.specs.Layout.{part_length}
use Rattle.part_file.specs.Pages.{IsPart}
use Rattle.part_file.specs.Reading.{IsPartFault}
use Rattle.part_file.specs.declared.part_file.PartFault.{PartFault}
use Rattle.image_jobs.specs.Failures.{of_part}
use Rattle.image_jobs.specs.declared.failure.Failure.{Failure}

-- the bytes of the part of a flash, which end with its last page
pub record IsWholePart (d : Device) (bytes : List ℕ) : Type 0 where
  pub part : IsPart d bytes
  pub len : length bytes ≡ part_length d.geometry

-- why a file gives no part: by the fault of its bytes. One that is no plain file, may not be written, or that another program has
-- cannot be read
abbrev pub PartCause : Option (List ℕ) → Failure → Type 0
PartCause placed failure = (fault : PartFault) × (failure ≡ of_part fault) × IfSome placed (IsPartFault fault)

-- A part in a flat file.
use Rattle.std.specs.Prelude.{Bool}
use Rattle.flash_model.specs.declared.geometry.Geometry.{Geometry}
use Rattle.part_file.specs.declared.file_driver.FileDriver.{FileDriver}
use Rattle.part_file.specs.declared.part_file.PartFile.{PartFile}

-- its sizes
abbrev pub sizes_of : {B : Type 0} → PartFile B → Geometry
sizes_of part = part.sizes

-- the bytes behind it
abbrev pub backing_of : {B : Type 0} → PartFile B → B
backing_of part = part.backing

-- the part of a driver, and its sizes
abbrev pub driven_part : {B : Type 0} → FileDriver B → PartFile B
driven_part driver = driver.part

abbrev pub sizes_driven : {B : Type 0} → FileDriver B → Geometry
sizes_driven driver = driver.part.sizes

-- whether a driver is lost
abbrev pub is_lost : {B : Type 0} → FileDriver B → Bool
is_lost driver = driver.is_lost

-- The flash of a part, and why bytes give none.
use Rattle.std.specs.Prelude.{◌≡◌, ◌≢◌, ◌<◌, ℕ, false, Option, IfSome, List, take, codes}
use Rattle.flash_model.specs.Geometry.{IsGeometry, page_count}
use Rattle.flash_model.specs.Device.{Device}
use Rattle.flash_simulation.specs.Images.{IsFresh}
use Rattle.part_file.specs.Layout.{sizes_in}
use Rattle.part_file.specs.Pages.{IsPart}
use Rattle.part_file.specs.declared.part_file.PartFault.{PartFault}

-- the flash of a part, with its power on and no block worn: what its bytes say, where they are known
pub record IsPartFlash (held : Option (List ℕ)) (d : Device) : Type 0 where
  pub fresh : IsFresh d
  pub unworn : (b : ℕ) → d.worn b ≡ false
  pub shown : IfSome held (IsPart d)

-- a flash of which no block is worn
abbrev pub without_wear : Device → Device
without_wear d = record d { worn = λ b. false }

-- bytes give no part: they begin with another word, have sizes that are not lawful, or a page of theirs cannot be read. A byte of
-- state that is none, a head that cannot be read and want of memory are told too
abbrev pub IsPartFault : PartFault → List ℕ → Type 0
IsPartFault PartFault.NotPart bytes = take 8 (take 20 bytes) ≢ codes "UFFSPART"
IsPartFault PartFault.BadGeometry bytes = ¬ IsGeometry (sizes_in (take 20 bytes))
IsPartFault (PartFault.Page page) bytes = page < page_count (sizes_in (take 20 bytes))
IsPartFault _ bytes = Unit {0}

-- What a driver tells at the start, and what is wrong with it.
use Rattle.std.specs.Prelude.{◌≡◌, ◌⊎◌, ℕ, ◌<◌, List, ◌++◌, length, ⊤}
use Rattle.byteorder.specs.Endian.{little_bytes}
use Rattle.flash_simulation.specs.declared.image_fault.ImageFault.{ImageFault}
use Rattle.flash_simulation.specs.declared.image_fault.ImageFault.TheVariants.{Trailing, Memory}
use Rattle.flash_simulation.specs.Images.{IsFault}
use Rattle.remote_flash.specs.declared.start.StartFault.{StartFault}
use Rattle.remote_flash.specs.declared.start.StartFault.TheVariants.{Read, Image}

-- the length of an image in eight bytes, the lowest first, and the image
abbrev pub start_text : List ℕ → List ℕ
start_text image = little_bytes 8 (length image) ++ image

-- so many bytes are told as no image has
pub record TellsTooMany (told : List ℕ) : Type 0 where
  pub count : ℕ
  pub many : 67387412 < count
  pub rest : List ℕ
  pub spelled : told ≡ little_bytes 8 count ++ rest

-- bytes are told that have this fault
pub record TellsNoImage (fault : ImageFault) (told : List ℕ) : Type 0 where
  pub bytes : List ℕ
  pub rest : List ℕ
  pub spelled : told ≡ start_text bytes ++ rest
  pub wrong : IsFault fault bytes

-- what is wrong with what is told; a stream that fails and a want of memory are no fault of it
abbrev pub IsStartFault : StartFault → List ℕ → Type 0
IsStartFault Read told = ⊤
IsStartFault (Image fault) told = (fault ≡ Memory) ⊎ (((fault ≡ Trailing) × TellsTooMany told) ⊎ TellsNoImage fault told)

-- What a file gives, by its head and its pages.
use Rattle.std.proofs.Common.{◌≡◌, ◌≢◌, ◌<◌, ℕ, false, Option, Some, None, Result, Ok, Err, IfOk, IfErr, List, take, codes, refl, sym, subst}
use Rattle.std.specs.Prelude.{IfSome}
use Rattle.flash_model.specs.declared.geometry.Geometry.{Geometry}
use Rattle.flash_model.specs.Geometry.{IsGeometry, page_count}
use Rattle.flash_model.specs.Device.{Device}
use Rattle.flash_simulation.specs.Simulation.{device_of}
use Rattle.flash_simulation.specs.declared.sim_flash.SimFlash.{SimFlash}
use Rattle.flash_simulation.specs.Images.{IsFresh}
use Rattle.part_file.specs.Layout.{IsHead, sizes_in}
use Rattle.part_file.specs.Pages.{HasPages, IsHeadFault, IsUnreadPart}
use Rattle.part_file.specs.declared.part_file.PartFault.{PartFault}
use Rattle.part_file.specs.Reading.{IsPartFlash, IsPartFault}

-- a head and the pages behind it are a part
pub flash_read : (held : Option (List ℕ)) (sizes : Geometry) (d : Device) → IfSome held (λ bytes. IsHead (take 20 bytes) sizes) → IfSome held (HasPages d) → d.geometry ≡ sizes
    → IsFresh d → ((b : ℕ) → d.worn b ≡ false) → IsPartFlash held d
flash_read None sizes d head pages same fresh unworn = record { fresh = fresh; unworn = unworn; shown = tt }
flash_read (Some bytes) sizes d head pages same fresh unworn = record {
  fresh = fresh;
  unworn = unworn;
  shown = record { head = subst (λ (g : Geometry). IsHead (take 20 bytes) g) (sym same) head; content = pages };
}

-- why there is no head
pub head_fault : (held : Option (List ℕ)) (fault : PartFault) → IsHeadFault fault
    → (fault ≡ PartFault.NotPart → IfSome held (λ bytes. take 8 (take 20 bytes) ≢ codes "UFFSPART"))
    → (fault ≡ PartFault.BadGeometry → IfSome held (λ bytes. ¬ IsGeometry (sizes_in (take 20 bytes)))) → IfSome held (IsPartFault fault)
head_fault None fault is magic sizes = tt
head_fault (Some bytes) PartFault.Read is magic sizes = tt
head_fault (Some bytes) PartFault.NotPart is magic sizes = magic refl
head_fault (Some bytes) PartFault.BadGeometry is magic sizes = sizes refl
head_fault (Some bytes) (PartFault.Page page) is magic sizes = absurd is
head_fault (Some bytes) PartFault.BadState is magic sizes = absurd is
head_fault (Some bytes) PartFault.Memory is magic sizes = absurd is

-- why the pages are not read
pub pages_fault : (held : Option (List ℕ)) (sizes : Geometry) (fault : PartFault) → IfSome held (λ bytes. IsHead (take 20 bytes) sizes) → IsUnreadPart sizes fault
    → IfSome held (IsPartFault fault)
pages_fault None sizes fault head unread = tt
pages_fault (Some bytes) sizes (PartFault.Page page) head unread = subst (λ (g : Geometry). page < page_count g) head.told unread
pages_fault (Some bytes) sizes PartFault.BadState head unread = tt
pages_fault (Some bytes) sizes PartFault.Memory head unread = tt
pages_fault (Some bytes) sizes PartFault.Read head unread = absurd unread
pages_fault (Some bytes) sizes PartFault.NotPart head unread = absurd unread
pages_fault (Some bytes) sizes PartFault.BadGeometry head unread = absurd unread

-- what is read behind a head, of bytes that stay as they were
pub flash_had : (held was : Option (List ℕ)) (sizes : Geometry) (result : Result SimFlash PartFault) → was ≡ held → IfSome held (λ bytes. IsHead (take 20 bytes) sizes)
    → IfOk result (λ flash. IfSome was (HasPages (device_of flash))) → IfOk result (λ flash. IsFresh (device_of flash)) → IfOk result (λ flash. (b : ℕ) → (device_of flash).worn b ≡ false)
    → IfOk result (λ flash. (device_of flash).geometry ≡ sizes) → IfOk result (λ flash. IsPartFlash held (device_of flash))
flash_had held was sizes (Ok flash) same head pages fresh unworn geometry =
    flash_read held sizes (device_of flash) head (subst (λ (h : Option (List ℕ)). IfSome h (HasPages (device_of flash))) same pages) geometry fresh unworn
flash_had held was sizes (Err fault) same head pages fresh unworn geometry = tt

pub flash_unread : (held : Option (List ℕ)) (sizes : Geometry) (result : Result SimFlash PartFault) → IfSome held (λ bytes. IsHead (take 20 bytes) sizes) → IfErr result (IsUnreadPart sizes)
    → IfErr result (λ fault. IfSome held (IsPartFault fault))
flash_unread held sizes (Ok flash) head unread = tt
flash_unread held sizes (Err fault) head unread = pages_fault held sizes fault head unread

-- Pages and their blocks, and what follows from one operation: lemmas for the laws of what stands on a flash.
use Rattle.std.specs.Prelude.{◌≡◌, ◌≢◌, ℕ, ◌+◌, ◌*◌, ◌/◌, ◌%◌, ◌<◌, ◌≤◌, IsTrue, List, Result}
use Rattle.std.proofs.Common.{ap, arith}
use Rattle.std.proofs.lemmas.Bool.Decides.{nat_tests}
use Rattle.std.proofs.lemmas.Nat.{div-mul-add, mod-mul-add, mul-add-lt, div_below, div-add-mod', mul-le}
use Rattle.flash_model.specs.declared.geometry.Geometry.{Geometry}
use Rattle.flash_model.specs.declared.flash.DevFault.{DevFault}
use Rattle.flash_model.specs.Geometry.{IsGeometry, is_page_size, page_count}
use Rattle.flash_model.specs.Device.{Device, block_of, Programs}

-- page j of block b lies in block b
pub block_of-at : (d : Device) (b j : ℕ) → j < d.geometry.pages → block_of d (b * d.geometry.pages + j) ≡ b
block_of-at d b j h = div-mul-add b d.geometry.pages j h

-- page j of block b has the place j
pub place-at : (d : Device) (b j : ℕ) → j < d.geometry.pages → (b * d.geometry.pages + j) % d.geometry.pages ≡ j
place-at d b j h = mod-mul-add b d.geometry.pages j h

-- a page of a block of the flash is a page of the flash
pub page-below : (g : Geometry) (b j : ℕ) → b < g.blocks → j < g.pages → b * g.pages + j < page_count g
page-below g b j h k = omega (arith, mul-add-lt b g.pages j g.blocks h k)

-- a page of the flash lies in one of its blocks
pub block_of-below : (d : Device) (p : ℕ) → 0 < d.geometry.pages → p < page_count d.geometry → block_of d p < d.geometry.blocks
block_of-below d p h k = div_below p d.geometry.pages d.geometry.blocks h k

-- a page is the one at its place of its block
pub page-is : (d : Device) (p : ℕ) → block_of d p * d.geometry.pages + p % d.geometry.pages ≡ p
page-is d p = div-add-mod' p d.geometry.pages

-- under one geometry each page has one block
pub block_of-same : (d e : Device) (p : ℕ) → e.geometry ≡ d.geometry → block_of e p ≡ block_of d p
block_of-same d e p same = ap (λ (g : Geometry). p / g.pages) same

-- a program leaves the pages of other blocks
pub Programs-others : (old : Device) (p : ℕ) (bytes : List ℕ) (new : Device) (result : Result (Unit {0}) DevFault)
    → Programs old p bytes new result → (q : ℕ) → block_of old q ≢ block_of old p → new.pages q ≡ old.pages q
Programs-others old p bytes new result programs q apart =
    programs.others q (λ same. apart (ap (block_of old) same))

page_size-least : (n : ℕ) → IsTrue (is_page_size n) → 256 ≤ n
page_size-least n h = grind (arith, nat_tests)

-- lawful sizes have at most 262,144 pages, so that a page number fits a u32
pub page_count-most : (g : Geometry) → IsGeometry g → page_count g ≤ 262144
page_count-most g lawful =
    let least : g.blocks * g.pages * 256 ≤ g.blocks * g.pages * g.page =
    mul-le (g.blocks * g.pages) 256 (g.blocks * g.pages) g.page (omega arith) (page_size-least g.page lawful.page_size) in
    let most : g.blocks * (g.pages * g.page) ≤ 67108864 = lawful.bytes_most in
    omega arith

-- Pages of the anchors.
use Rattle.std.specs.Prelude.{◌≡◌, ℕ, ◌+◌, ◌*◌, ◌/◌, ◌%◌, ◌<◌, ◌≤◌, List, length}
use Rattle.std.proofs.Common.{arith}
use Rattle.std.proofs.lemmas.Nat.{div_below, div-add-mod', mul-le}
use Rattle.flash_model.specs.declared.geometry.Geometry.{Geometry}
use Rattle.flash_model.specs.Geometry.{IsGeometry, page_count}
use Rattle.flash_model.specs.Geometry.{is_page_size}
use Rattle.std.proofs.lemmas.Bool.Decides.{nat_tests}
use Rattle.std.specs.Prelude.{IsTrue}
use Rattle.fs_types.specs.declared.limits.TheConstants.{ANCHORS}

page_size-least : (n : ℕ) → IsTrue (is_page_size n) → 256 ≤ n
page_size-least n h = grind (arith, nat_tests)

pub page_least : (g : Geometry) → IsGeometry g → 256 ≤ g.page
page_least g lawful = page_size-least g.page lawful.page_size

pub long_enough : (g : Geometry) (page : List ℕ) → IsGeometry g → length page ≡ g.page → 20 ≤ length page
long_enough g page lawful whole = let h = page_least g lawful in omega arith

pub anchor_below : (g : Geometry) (p : ℕ) → IsGeometry g → p < ANCHORS * g.pages → p / g.pages < ANCHORS
anchor_below g p lawful lt = div_below p g.pages ANCHORS (let h : 1 ≤ g.pages = lawful.some_pages in omega arith) lt

pub page_below : (g : Geometry) (p : ℕ) → IsGeometry g → p < ANCHORS * g.pages → p < page_count g
page_below g p lawful lt =
    let more : ANCHORS * g.pages ≤ g.blocks * g.pages = mul-le ANCHORS g.pages g.blocks g.pages (let h : 16 ≤ g.blocks = lawful.blocks_least in omega arith) (omega arith) in
    omega arith

-- pages that follow in the block of an anchor are pages of anchors
pub record_ends : (g : Geometry) (p count : ℕ) → IsGeometry g → p < ANCHORS * g.pages → p % g.pages + count ≤ g.pages → p + count ≤ ANCHORS * g.pages
record_ends g p count lawful lt le =
    let block : p / g.pages < ANCHORS = anchor_below g p lawful lt in
    let is : p / g.pages * g.pages + p % g.pages ≡ p = div-add-mod' p g.pages in
    let most : (p / g.pages + 1) * g.pages ≤ ANCHORS * g.pages = mul-le (p / g.pages + 1) g.pages ANCHORS g.pages (omega arith) (omega arith) in
    omega arith

pub anchor_on_flash : (g : Geometry) (anchor : ℕ) → IsGeometry g → anchor < ANCHORS → anchor < g.blocks
anchor_on_flash g anchor lawful lt = let h : 16 ≤ g.blocks = lawful.blocks_least in omega arith

pub below_end : (p n count end : ℕ) → p + count ≤ end → n < count → p + n < end
below_end p n count end le lt = omega arith

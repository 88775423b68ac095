-- How many bytes an image has at most.
use Rattle.std.proofs.Common.{◌≡◌, ℕ, zero, suc, ◌+◌, ◌*◌, ◌<◌, ◌≤◌, refl, true, false, Bool, List, length, ap, ◌∙◌, arith}
use Rattle.std.proofs.Math.Nat.{mul-add}
use Rattle.std.proofs.lemmas.List.{length-append}
use Rattle.std.proofs.lemmas.Nat.{mul-le}
use Rattle.flash_model.specs.declared.geometry.Geometry.{Geometry}
use Rattle.flash_model.specs.Geometry.{IsGeometry}
use Rattle.flash_model.specs.Device.{Device, Page, erased, bytes_of, unreadable}
use Rattle.flash_model.specs.Contents.{IsWhole}
use Rattle.flash_model.specs.Blocks.{page-below, page_count-most}
use Rattle.flash_simulation.specs.Images.{parts, page_text, worn_text, place_text, block_text, image_of, header, HasImage}
use Rattle.flash_simulation.proofs.ImageTexts.{length-header}

page-most : (size : ℕ) (page : Page) → IsWhole size page → length (page_text page) ≤ 1 + size
page-most size erased whole = omega arith
page-most size (bytes_of bytes) whole = omega (arith, whole)
page-most size unreadable whole = omega arith

length-worn : (worn : Bool) → length (worn_text worn) ≡ 1
length-worn true = refl
length-worn false = refl

-- a text of parts that have at most so many bytes
parts-most : (n : ℕ) (part : ℕ → List ℕ) (most : ℕ) → ((i : ℕ) → i < n → length (part i) ≤ most) → length (parts n part) ≤ n * most
unfolding parts
parts-most zero part most short = omega arith
parts-most (suc n) part most short =
    let front : length (parts n part) ≤ n * most = parts-most n part most (λ i below. short i (omega arith)) in
    let last : length (part n) ≤ most = short n (omega arith) in
    omega (arith, front, last, length-append (parts n part) (part n))

-- the bytes of a flash whose pages have data, with a byte for each block and each page
whole-most : (g : Geometry) → IsGeometry g → g.blocks * (1 + g.pages * (1 + g.page)) ≤ 67387392
whole-most g lawful =
    let size = g.pages * g.page in
    let few : g.blocks * 4096 ≤ g.blocks * size = mul-le g.blocks 4096 g.blocks size (omega arith) lawful.block_least in
    let pages : g.blocks * g.pages ≤ 262144 = page_count-most g lawful in
    let bytes : g.blocks * size ≤ 67108864 = lawful.bytes_most in
    let inner : g.pages * (1 + g.page) ≡ g.pages * 1 + size = mul-add g.pages 1 g.page in
    let outer : g.blocks * (1 + g.pages * (1 + g.page)) ≡ g.blocks * 1 + g.blocks * (g.pages * (1 + g.page)) = mul-add g.blocks 1 (g.pages * (1 + g.page)) in
    let split : g.blocks * (g.pages * (1 + g.page)) ≡ g.blocks * (g.pages * 1) + g.blocks * size =
    ap (λ n. g.blocks * n) inner ∙ mul-add g.blocks (g.pages * 1) size in
    let one : g.pages * 1 ≡ g.pages = omega arith in
    let plain : g.blocks * (g.pages * 1) ≡ g.blocks * g.pages = ap (λ n. g.blocks * n) one in
    omega (arith, few, pages, bytes, outer, split, plain)

pub length-image : (d : Device) → HasImage d → length (image_of d) ≤ 67387412
length-image d image =
    let g = d.geometry in
    let place : (b : ℕ) → b < g.blocks → (j : ℕ) → j < g.pages → length (place_text d b j) ≤ 1 + g.page =
    λ b inside j low. page-most g.page (d.pages (b * g.pages + j)) (image.whole (b * g.pages + j) (page-below g b j inside low)) in
    let block : (b : ℕ) → b < g.blocks → length (block_text d b) ≤ 1 + g.pages * (1 + g.page) =
    λ b inside. omega (arith, length-append (worn_text (d.worn b)) (parts g.pages (place_text d b)), length-worn (d.worn b), parts-most g.pages (place_text d b) (1 + g.page) (place b inside)) in
    let all : length (parts g.blocks (block_text d)) ≤ g.blocks * (1 + g.pages * (1 + g.page)) = parts-most g.blocks (block_text d) (1 + g.pages * (1 + g.page)) block in
    let most : g.blocks * (1 + g.pages * (1 + g.page)) ≤ 67387392 = whole-most g image.lawful in
    omega (arith, all, most, length-append (header g) (parts g.blocks (block_text d)), length-header g)

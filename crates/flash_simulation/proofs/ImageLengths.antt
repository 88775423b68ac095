-- The longest image: that of a flash of 16,384 blocks of 16 pages of 256 bytes, all with data.
use Rattle.std.proofs.Common.{◌≡◌, ℕ, zero, suc, ◌+◌, ◌*◌, ◌<◌, ◌≤◌, Bool, true, false, List, length, refl, ap, sym, ◌∙◌, add-one, arith}
use Rattle.std.proofs.Math.Nat.{suc-mul, mul-add, mul-le-mul_left}
use Rattle.std.proofs.lemmas.List.{length-append}
use Rattle.flash_model.specs.declared.geometry.Geometry.{Geometry}
use Rattle.flash_model.specs.Blocks.{page-below}
use Rattle.flash_model.specs.Device.{Device}
use Rattle.flash_simulation.specs.Images.{header, parts, worn_text, place_text, block_text, image_of, HasImage}
use Rattle.flash_simulation.proofs.ImageGrowing.{length-begun, page_text-most, page_size-least}
use Rattle.flash_simulation.proofs.ImageParts.{parts-more}
use Rattle.flash_simulation.proofs.ImageTexts.{length-header}

-- so many parts of at most so many bytes each
parts-most : (n most : ℕ) (part : ℕ → List ℕ) → ((k : ℕ) → k < n → length (part k) ≤ most) → length (parts n part) ≤ n * most
parts-most zero most part few = omega (arith, length-begun part)
parts-most (suc n) most part few =
    let one_more : length (parts (suc n) part) ≡ length (parts n part) + length (part n) =
    ap (λ (k : ℕ). length (parts k part)) (sym (add-one n)) ∙ ap length (parts-more n part) ∙ length-append (parts n part) (part n) in
    let before : length (parts n part) ≤ n * most = parts-most n most part (λ k less. few k (omega arith)) in
    let last : length (part n) ≤ most = few n (omega arith) in
    omega (arith, one_more, before, last, suc-mul n most)

length-worn_text : (is : Bool) → length (worn_text is) ≡ 1
length-worn_text true = refl
length-worn_text false = refl

block_text-most : (d : Device) (b : ℕ) → HasImage d → b < d.geometry.blocks → length (block_text d b) ≤ 1 + d.geometry.pages * (1 + d.geometry.page)
block_text-most d b image inside =
    let pages = parts-most d.geometry.pages (1 + d.geometry.page) (place_text d b)
    (λ j in_block. page_text-most d.geometry.page (d.pages (b * d.geometry.pages + j)) (image.whole (b * d.geometry.pages + j) (page-below d.geometry b j inside in_block))) in
    omega (arith, length-append (worn_text (d.worn b)) (parts d.geometry.pages (place_text d b)), length-worn_text (d.worn b), pages)

pub image_of-most : (d : Device) → HasImage d → length (image_of d) ≤ 67387412
image_of-most d image =
    let g : Geometry = d.geometry in
    let all = parts-most g.blocks (1 + g.pages * (1 + g.page)) (block_text d) (λ b inside. block_text-most d b image inside) in
    let bytes : g.blocks * (g.pages * g.page) ≤ 67108864 = image.lawful.bytes_most in
    let blocks : g.blocks * 4096 ≤ g.blocks * (g.pages * g.page) = mul-le-mul_left g.blocks image.lawful.block_least in
    let pages : g.blocks * (g.pages * 256) ≤ g.blocks * (g.pages * g.page) = mul-le-mul_left g.blocks (mul-le-mul_left g.pages (page_size-least g.page image.lawful.page_size)) in
    let each : g.pages * (1 + g.page) ≡ g.pages + g.pages * g.page = omega (arith, mul-add g.pages 1 g.page) in
    let spread : g.blocks * (1 + g.pages * (1 + g.page)) ≡ g.blocks + (g.blocks * g.pages + g.blocks * (g.pages * g.page)) =
    omega (arith, mul-add g.blocks 1 (g.pages * (1 + g.page)), ap (λ (n : ℕ). g.blocks * n) each, mul-add g.blocks g.pages (g.pages * g.page)) in
    omega (arith, all, bytes, blocks, pages, spread, length-append (header g) (parts g.blocks (block_text d)), length-header g)

-- A text that grows by one part, and its length.
use Rattle.std.proofs.Common.{◌≡◌, ℕ, ◌+◌, ◌*◌, ◌<◌, ◌≤◌, IsTrue, List, ◌++◌, length, sym, ap, ◌∙◌, append_assoc, arith}
use Rattle.std.proofs.lemmas.Bool.Decides.{nat_tests}
use Rattle.std.proofs.lemmas.List.{append-nil, length-append}
use Rattle.std.proofs.lemmas.Nat.{mul-le}
use Rattle.flash_model.specs.declared.geometry.Geometry.{Geometry}
use Rattle.flash_model.specs.Geometry.{IsGeometry, is_page_size}
use Rattle.flash_model.specs.Device.{Device, Page, erased, bytes_of, unreadable}
use Rattle.flash_model.specs.Contents.{IsWhole}
use Rattle.flash_model.specs.Blocks.{page-below}
use Rattle.flash_simulation.specs.Images.{parts, page_text, place_text, HasImage}
use Rattle.flash_simulation.proofs.ImageParts.{parts-none, parts-more}

pub begun : (front : List ℕ) (part : ℕ → List ℕ) → front ≡ front ++ parts 0 part
begun front part = sym (append-nil front) ∙ ap (λ (t : List ℕ). front ++ t) (sym (parts-none part))

pub grown : (front : List ℕ) (n : ℕ) (part : ℕ → List ℕ) (old new text : List ℕ) → old ≡ front ++ parts n part → new ≡ old ++ text → text ≡ part n
    → new ≡ front ++ parts (n + 1) part
grown front n part old new text so_far more is =
    more ∙ ap (λ (t : List ℕ). t ++ text) so_far ∙ append_assoc front (parts n part) text
    ∙ ap (λ (t : List ℕ). front ++ (parts n part ++ t)) is ∙ ap (λ (t : List ℕ). front ++ t) (sym (parts-more n part))

pub length-begun : (part : ℕ → List ℕ) → length (parts 0 part) ≡ 0
length-begun part = ap length (parts-none part)

pub length-grown : (n : ℕ) (part : ℕ → List ℕ) (base len more : ℕ) → len ≡ base + length (parts n part) → more ≡ length (part n)
    → len + more ≡ base + length (parts (n + 1) part)
length-grown n part base len more so_far is =
    let e : length (parts (n + 1) part) ≡ length (parts n part) + length (part n) = ap length (parts-more n part) ∙ length-append (parts n part) (part n) in
    omega (arith, e)

pub page_text-most : (size : ℕ) (page : Page) → IsWhole size page → length (page_text page) ≤ 1 + size
page_text-most size erased whole = omega arith
page_text-most size (bytes_of bytes) whole = omega (arith, whole)
page_text-most size unreadable whole = omega arith

pub page_size-least : (n : ℕ) → IsTrue (is_page_size n) → 256 ≤ n
page_size-least n h = grind (arith, nat_tests)

pub page_size-most : (n : ℕ) → IsTrue (is_page_size n) → n ≤ 4096
page_size-most n h = grind (arith, nat_tests)

-- a page has at most 4,097 bytes
pub place_text-most : (d : Device) (b j : ℕ) → HasImage d → b < d.geometry.blocks → j < d.geometry.pages → length (place_text d b j) ≤ 4097
place_text-most d b j image inside in_block =
    let most : length (place_text d b j) ≤ 1 + d.geometry.page =
    page_text-most d.geometry.page (d.pages (b * d.geometry.pages + j)) (image.whole (b * d.geometry.pages + j) (page-below d.geometry b j inside in_block)) in
    let size : d.geometry.page ≤ 4096 = page_size-most d.geometry.page image.lawful.page_size in
    omega arith

-- a block has at most 1,024 pages
pub pages-most : (g : Geometry) → IsGeometry g → g.pages ≤ 1024
pages-most g lawful =
    let least : g.pages * 256 ≤ g.pages * g.page = mul-le g.pages 256 g.pages g.page (omega arith) (page_size-least g.page lawful.page_size) in
    let most : g.pages * g.page ≤ 262144 = lawful.block_most in
    omega arith

-- Bytes that are the part of two flashes: these hold the same.
use Rattle.std.proofs.Common.{◌≡◌, ◌∙◌, ℕ, ◌<◌, ◌∷◌, [], Some, List, ◌++◌, refl, sym, ap, subst}
use Rattle.flash_model.specs.declared.geometry.Geometry.{Geometry}
use Rattle.flash_model.specs.Geometry.{page_count}
use Rattle.flash_model.specs.Device.{Device, Page, erased, bytes_of, unreadable}
use Rattle.flash_simulation.specs.Images.{header, parts, block_text, image_of}
use Rattle.flash_simulation.proofs.ImageFilling.{blocks-same}
use Rattle.part_file.specs.Pages.{HasPage, IsPart}
use Rattle.part_file.specs.Reading.{IsPartFlash, without_wear}

-- one page stands at a place
one_page : (bytes : List ℕ) (g : Geometry) (p : ℕ) (x y : Page) → HasPage bytes g p x → HasPage bytes g p y → y ≡ x
one_page bytes g p erased erased is too = refl
one_page bytes g p erased (bytes_of other) is too = let bad : 0 ∷ [] ≡ 1 ∷ [] = sym is ∙ too.0 in absurd cc
one_page bytes g p erased unreadable is too = let bad : 0 ∷ [] ≡ 2 ∷ [] = sym is ∙ too in absurd cc
one_page bytes g p (bytes_of content) erased is too = let bad : 1 ∷ [] ≡ 0 ∷ [] = sym is.0 ∙ too in absurd cc
one_page bytes g p (bytes_of content) (bytes_of other) is too = ap bytes_of (sym too.1 ∙ is.1)
one_page bytes g p (bytes_of content) unreadable is too = let bad : 1 ∷ [] ≡ 2 ∷ [] = sym is.0 ∙ too in absurd cc
one_page bytes g p unreadable erased is too = let bad : 2 ∷ [] ≡ 0 ∷ [] = sym is ∙ too in absurd cc
one_page bytes g p unreadable (bytes_of other) is too = let bad : 2 ∷ [] ≡ 1 ∷ [] = sym is ∙ too.0 in absurd cc
one_page bytes g p unreadable unreadable is too = refl

-- a part that is read back spells the image that was, with no block worn
pub round_trip : (d e : Device) (bytes : List ℕ) → IsPart d bytes → IsPartFlash (Some bytes) e → image_of e ≡ image_of (without_wear d)
round_trip d e bytes was back =
    let same : e.geometry ≡ d.geometry = back.shown.head.told ∙ sym was.head.told in
    let pages : (p : ℕ) → p < page_count d.geometry → e.pages p ≡ d.pages p = λ p low.
    one_page bytes d.geometry p (d.pages p) (e.pages p) (was.content.pages p low)
    (subst (λ (g : Geometry). HasPage bytes g p (e.pages p)) same (back.shown.content.pages p (subst (λ (g : Geometry). p < page_count g) (sym same) low))) in
    ap (λ (g : Geometry). header g ++ parts g.blocks (block_text e)) same
    ∙ ap (λ (t : List ℕ). header d.geometry ++ t) (blocks-same (without_wear d) e d.geometry.blocks same (λ b low. back.unworn b) pages)

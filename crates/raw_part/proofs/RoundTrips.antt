-- Bytes that are those of the part of two flashes: these hold the same.
use Rattle.std.proofs.Common.{◌≡◌, ◌∙◌, ℕ, ◌*◌, ◌/◌, ◌<◌, List, ◌++◌, sym, ap, subst, arith}
use Rattle.flash_model.specs.declared.geometry.Geometry.{Geometry}
use Rattle.flash_model.specs.Geometry.{page_count}
use Rattle.flash_model.specs.Device.{Device, Page}
use Rattle.flash_simulation.specs.Images.{header, parts, block_text, image_of}
use Rattle.flash_simulation.proofs.ImageFilling.{blocks-same}
use Rattle.nor_part.specs.Flashes as sure_flashes
use Rattle.nor_part.specs.Layout as sure
use Rattle.dense_nor.specs.Flashes as dense_flashes
use Rattle.dense_nor.specs.Layout as dense
use Rattle.dense_nor.specs.declared.dense_layout.DenseLayout.{DenseLayout}
use Rattle.part_file.specs.Reading.{without_wear}
use Rattle.raw_part.specs.Layouts.{pages_of, sectors_of, sizes_of}
use Rattle.raw_part.specs.Raws.{IsRaw, IsRawFlash, held_in}
use Rattle.raw_part.specs.declared.part_layout.PartLayout.{PartLayout}
use Rattle.raw_part.specs.declared.part_layout.PartLayout.TheVariants.{Sure, Dense}
use Rattle.raw_part.proofs.Placed.{blocks-one, page_in-one, place_split, sectors-one, sectors-some}

-- bytes that are read back spell the image that was, with no block worn
pub round_trip : (first second : PartLayout) (d e : Device) (bytes : List ℕ) → pages_of second ≡ pages_of first → IsRaw first d bytes → IsRawFlash second bytes e
    → image_of e ≡ image_of (without_wear d)
round_trip first second d e bytes alike was back =
    let blocks : e.geometry.blocks ≡ d.geometry.blocks = blocks-one (sectors_of first) (sectors_of second) d.geometry.blocks e.geometry.blocks
    (sectors-some first) (sectors-one first second alike) (sym back.raw.len ∙ was.len) in
    let same : e.geometry ≡ d.geometry = back.raw.sizes ∙ ap (sizes_of second) blocks ∙ ap (λ (k : ℕ). record { page = 256; pages = k; blocks = d.geometry.blocks }) alike ∙ sym was.sizes in
    let pages : (p : ℕ) → p < page_count d.geometry → e.pages p ≡ d.pages p = λ p low.
    sym (back.raw.pages p (subst (λ (g : Geometry). p < page_count g) (sym same) low)) ∙ page_in-one first second (held_in bytes) p alike ∙ was.pages p low in
    ap (λ (g : Geometry). header g ++ parts g.blocks (block_text e)) same
    ∙ ap (λ (t : List ℕ). header d.geometry ++ t) (blocks-same (without_wear d) e d.geometry.blocks same (λ b low. back.unworn b) pages)

-- a flash over the part has its sizes
pub sizes_over : (d e : Device) (bytes : List ℕ) → IsRaw Sure d bytes → sure_flashes.IsOver (held_in bytes) (32 * d.geometry.blocks) e → e.geometry ≡ d.geometry
sizes_over d e bytes raw over =
    let blocks : sure.blocks_of (32 * d.geometry.blocks) ≡ d.geometry.blocks = omega arith in
    over.geometry ∙ ap sure.part_sizes blocks ∙ sym raw.sizes

-- and its pages
pub pages_over : (d e : Device) (bytes : List ℕ) → IsRaw Sure d bytes → sure_flashes.IsOver (held_in bytes) (32 * d.geometry.blocks) e → (p : ℕ) → p < page_count d.geometry → e.pages p ≡ d.pages p
pages_over d e bytes raw over p low = ap (λ (f : ℕ → Page). f p) over.pages ∙ raw.pages p low

-- so it is in the layout `dense`
all_blocks : (layout : DenseLayout) (blocks : ℕ) → dense.blocks_of layout.sectors (16 * layout.sectors * blocks) ≡ blocks
unfolding dense.blocks_of
all_blocks layout blocks =
    let n : ℕ = 16 * layout.sectors in
    let some : 0 < n = omega (arith, layout.dense.0) in
    ap (λ (k : ℕ). k / n) (omega arith) ∙ (place_split n blocks 0 some).0

pub dense_sizes_over : (layout : DenseLayout) (d e : Device) (bytes : List ℕ) → IsRaw (Dense layout) d bytes → dense_flashes.IsOver layout.sectors (held_in bytes) (16 * layout.sectors * d.geometry.blocks) e
    → e.geometry ≡ d.geometry
dense_sizes_over layout d e bytes raw over = over.geometry ∙ ap (dense.dense_sizes layout.sectors) (all_blocks layout d.geometry.blocks) ∙ sym raw.sizes

pub dense_pages_over : (layout : DenseLayout) (d e : Device) (bytes : List ℕ) → IsRaw (Dense layout) d bytes → dense_flashes.IsOver layout.sectors (held_in bytes) (16 * layout.sectors * d.geometry.blocks) e
    → (p : ℕ) → p < page_count d.geometry → e.pages p ≡ d.pages p
dense_pages_over layout d e bytes raw over p low = ap (λ (f : ℕ → Page). f p) over.pages ∙ raw.pages p low

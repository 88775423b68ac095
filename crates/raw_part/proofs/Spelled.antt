-- The pages of a part one after the other, and what they show.
use Rattle.std.proofs.Common.{◌≡◌, ℕ, zero, suc, ◌+◌, ◌-◌, ◌*◌, ◌/◌, ◌%◌, ◌<◌, ◌≤◌, Bool, true, false, List, ◌++◌, length, take, drop, replicate, slice_index, refl, ap, subst, ◌∙◌, arith, if◌then◌else◌}
use Rattle.std.specs.Prelude.{nat_lt}
use Rattle.std.proofs.Math.Nat.{div-add-mod}
use Rattle.std.proofs.lemmas.Bool.{lt-ltb, le-ltb}
use Rattle.std.proofs.lemmas.List.{length-append, take_at, drop_at}
use Rattle.flash_model.specs.declared.geometry.Geometry.{Geometry}
use Rattle.flash_model.specs.Contents.{IsWhole}
use Rattle.flash_model.specs.Device.{Device, Page, erased, bytes_of, unreadable}
use Rattle.flash_model.specs.Geometry.{IsGeometry, page_count}
use Rattle.flash_simulation.specs.Images.{parts}
use Rattle.flash_simulation.proofs.ImageParts.{parts-split}
use Rattle.nor_part.specs.Layout as sure
use Rattle.dense_nor.specs.Layout.{data_pages, data_at, mark_at, place_of}
use Rattle.dense_nor.specs.Marks as dense
use Rattle.dense_nor.specs.declared.dense_layout.DenseLayout.{DenseLayout}
use Rattle.dense_nor.proofs.EntryBytes.{unmarked}
use Rattle.dense_nor.proofs.Marking.{page-marked, page-blank, page-spoilt}
use Rattle.dense_nor.proofs.Places.{pages_fit, in_block, data_first}
use Rattle.raw_part.specs.Layouts.{HasSizes, page_in, pages_of, sectors_of}
use Rattle.raw_part.specs.Raws.{held_in, IsRaw, data_text, mark_of, mark_text, entry_text, place_text, marks_text, block_page, part_page}
use Rattle.raw_part.specs.declared.part_layout.PartLayout.{PartLayout}
use Rattle.raw_part.specs.declared.part_layout.PartLayout.TheVariants.{Sure, Dense}
use Rattle.raw_part.proofs.Placed.{mark_inside, place_split}

-- so many bytes, where each part has w
pub parts-length : (w n : ℕ) (part : ℕ → List ℕ) → ((i : ℕ) → i < n → length (part i) ≡ w) → length (parts n part) ≡ w * n
unfolding parts
parts-length w zero part whole = omega arith
parts-length w (suc n) part whole =
    let front : length (parts n part) ≡ w * n = parts-length w n part (λ i below. whole i (omega arith)) in
    let last : length (part n) ≡ w = whole n (omega arith) in
    omega (arith, length-append (parts n part) (part n), front, last)

-- each part stands at its place
part_there : (w n i : ℕ) (part : ℕ → List ℕ) → i < n → ((j : ℕ) → j < n → length (part j) ≡ w) → take w (drop (w * i) (parts n part)) ≡ part i
part_there w n i part below whole =
    let split = parts-split n i part below in
    let before : length (parts i part) ≡ w * i = parts-length w i part (λ j low. whole j (omega arith)) in
    let rest : drop (w * i) (parts n part) ≡ part i ++ split.0 = ap (drop (w * i)) split.1 ∙ drop_at (parts i part) (part i ++ split.0) (w * i) before in
    ap (take w) rest ∙ take_at (part i) split.0 w (whole i below)

data-length : (page : Page) → IsWhole 256 page → length (data_text page) ≡ 256
data-length erased whole = refl
data-length (bytes_of bytes) whole = whole
data-length unreadable whole = refl

entry-length : (page : Page) → length (entry_text page) ≡ 8
entry-length erased = refl
entry-length (bytes_of bytes) = refl
entry-length unreadable = refl

either-length : (w : ℕ) (b : Bool) (x y : List ℕ) → length x ≡ w → length y ≡ w → length (if b then x else y) ≡ w
either-length w true x y first second = first
either-length w false x y first second = second

place-length : (k : ℕ) (pages : ℕ → Page) (place : ℕ) → length (place_text k pages place) ≡ 8
place-length k pages place = either-length 8 (nat_lt place k) (entry_text (pages place)) (replicate 8 255) (entry-length (pages place)) refl

marks-length : (k : ℕ) (pages : ℕ → Page) (number : ℕ) → length (marks_text k pages number) ≡ 256
marks-length k pages number = parts-length 8 32 (λ i. place_text k pages (32 * number + i)) (λ i below. place-length k pages (32 * number + i))

-- each page of the part has 256 bytes
block-length : (layout : PartLayout) (d : Device) → ((p : ℕ) → IsWhole 256 (d.pages p)) → (b at : ℕ) → length (block_page layout d b at) ≡ 256
block-length Sure d whole b at =
    either-length 256 (nat_lt at 16) (data_text (d.pages (16 * b + at))) (mark_text (d.pages (16 * b + at - 16))) (data-length (d.pages (16 * b + at)) (whole (16 * b + at))) refl
block-length (Dense layout) d whole b at =
    let k : ℕ = data_pages layout.sectors in
    either-length 256 (nat_lt at k) (data_text (d.pages (k * b + at))) (marks_text k (λ place. d.pages (k * b + place)) (at - k))
    (data-length (d.pages (k * b + at)) (whole (k * b + at))) (marks-length k (λ place. d.pages (k * b + place)) (at - k))

pub page-length : (layout : PartLayout) (d : Device) → ((p : ℕ) → IsWhole 256 (d.pages p)) → (n : ℕ) → length (part_page layout d n) ≡ 256
page-length layout d whole n = block-length layout d whole (n / (16 * sectors_of layout)) (n % (16 * sectors_of layout))

-- a page of the part that has all of them
part_held : (layout : PartLayout) (d : Device) (blocks x : ℕ) → ((q : ℕ) → IsWhole 256 (d.pages q)) → x < 16 * sectors_of layout * blocks
    → held_in (parts (16 * sectors_of layout * blocks) (part_page layout d)) x ≡ part_page layout d x
part_held layout d blocks x whole inside = part_there 256 (16 * sectors_of layout * blocks) x (part_page layout d) inside (λ j low. page-length layout d whole j)

-- in the layout `sure`: what is spelled is shown
shown : (page : Page) → sure.page_from (data_text page) (mark_of page) ≡ page
shown erased = refl
shown (bytes_of bytes) = refl
shown unreadable = refl

data_there : (d : Device) (p : ℕ) → part_page Sure d (sure.data_page p) ≡ data_text (d.pages p)
data_there d p =
    let x : ℕ = sure.data_page p in
    let low : x % 32 < 16 = omega arith in
    let same : 16 * (x / 32) + x % 32 ≡ p = omega arith in
    ap (λ (b : Bool). if b then data_text (d.pages (16 * (x / 32) + x % 32)) else mark_text (d.pages (16 * (x / 32) + x % 32 - 16))) (lt-ltb (x % 32) 16 low)
    ∙ ap (λ (q : ℕ). data_text (d.pages q)) same

mark_there : (d : Device) (p : ℕ) → part_page Sure d (sure.mark_page p) ≡ mark_text (d.pages p)
mark_there d p =
    let x : ℕ = sure.mark_page p in
    let high : 16 ≤ x % 32 = omega arith in
    let same : 16 * (x / 32) + x % 32 - 16 ≡ p = omega arith in
    ap (λ (b : Bool). if b then data_text (d.pages (16 * (x / 32) + x % 32)) else mark_text (d.pages (16 * (x / 32) + x % 32 - 16))) (le-ltb (x % 32) 16 high)
    ∙ ap (λ (q : ℕ). mark_text (d.pages q)) same

-- in the layout `dense`
dense_shown : (page : Page) → dense.page_from (data_text page) (entry_text page) ≡ page
dense_shown erased = page-blank (replicate 256 255) (replicate 8 255) (unmarked (replicate 8 255) (replicate 256 255) (λ same. absurd (omega (arith, same)))) refl refl
dense_shown (bytes_of bytes) = page-marked bytes (dense.mark_of bytes) refl
dense_shown unreadable = page-spoilt (replicate 256 255) (replicate 8 0) (unmarked (replicate 8 0) (replicate 256 255) (λ same. absurd (omega (arith, same)))) refl

-- a page of the part by its block
of_block : (layout : DenseLayout) (d : Device) (b j : ℕ) → j < 16 * layout.sectors → part_page (Dense layout) d (16 * layout.sectors * b + j) ≡ block_page (Dense layout) d b j
of_block layout d b j low =
    let n : ℕ = 16 * layout.sectors in
    let is = place_split n b j low in
    ap (λ (c : ℕ). block_page (Dense layout) d c ((n * b + j) % n)) is.0 ∙ ap (λ (k : ℕ). block_page (Dense layout) d b k) is.1

dense_data_there : (layout : DenseLayout) (d : Device) (p : ℕ) → part_page (Dense layout) d (data_at layout.sectors p) ≡ data_text (d.pages p)
unfolding data_at
dense_data_there layout d p =
    let k : ℕ = data_pages layout.sectors in
    let low : p % k < k = in_block layout.sectors p layout.dense in
    let fit : k ≤ 16 * layout.sectors = omega (arith, (pages_fit layout.sectors layout.dense).0) in
    of_block layout d (p / k) (p % k) (omega (arith, low, fit))
    ∙ ap (λ (b : Bool). if b then data_text (d.pages (k * (p / k) + p % k)) else marks_text k (λ place. d.pages (k * (p / k) + place)) (p % k - k)) (lt-ltb (p % k) k low)
    ∙ ap (λ (q : ℕ). data_text (d.pages q)) (div-add-mod p k)

-- the mark at a place of a page of marks
entry_there : (k : ℕ) (pages : ℕ → Page) (number i : ℕ) → i < 32 → 32 * number + i < k → dense.entry_of (marks_text k pages number) i ≡ entry_text (pages (32 * number + i))
entry_there k pages number i low inside =
    part_there 8 32 i (λ j. place_text k pages (32 * number + j)) low (λ j below. place-length k pages (32 * number + j))
    ∙ ap (λ (b : Bool). if b then entry_text (pages (32 * number + i)) else replicate 8 255) (lt-ltb (32 * number + i) k inside)

marks_there : (layout : DenseLayout) (d : Device) (p : ℕ)
    → part_page (Dense layout) d (mark_at layout.sectors p) ≡ marks_text (data_pages layout.sectors) (λ place. d.pages (data_pages layout.sectors * (p / data_pages layout.sectors) + place)) (p % data_pages layout.sectors / 32)
unfolding mark_at
marks_there layout d p =
    let k : ℕ = data_pages layout.sectors in
    let b : ℕ = p / k in
    let q : ℕ = p % k / 32 in
    let fits = pages_fit layout.sectors layout.dense in
    let low : p % k < k = in_block layout.sectors p layout.dense in
    let place : mark_at layout.sectors p ≡ 16 * layout.sectors * b + (k + q) = omega arith in
    ap (part_page (Dense layout) d) place
    ∙ of_block layout d b (k + q) (omega (arith, fits.0, fits.1, low))
    ∙ ap (λ (c : Bool). if c then data_text (d.pages (k * b + (k + q))) else marks_text k (λ at. d.pages (k * b + at)) (k + q - k)) (le-ltb (k + q) k (omega arith))
    ∙ ap (λ (number : ℕ). marks_text k (λ at. d.pages (k * b + at)) number) (omega arith)

dense_mark_there : (layout : DenseLayout) (d : Device) (p : ℕ) → dense.entry_of (part_page (Dense layout) d (mark_at layout.sectors p)) (place_of layout.sectors p) ≡ entry_text (d.pages p)
unfolding place_of
dense_mark_there layout d p =
    let k : ℕ = data_pages layout.sectors in
    let low : p % k < k = in_block layout.sectors p layout.dense in
    let is : 32 * (p % k / 32) + p % k % 32 ≡ p % k = div-add-mod (p % k) 32 in
    let place : p % k % 32 < 32 = omega arith in
    ap (λ (page : List ℕ). dense.entry_of page (p % k % 32)) (marks_there layout d p)
    ∙ entry_there k (λ at. d.pages (k * (p / k) + at)) (p % k / 32) (p % k % 32) place (omega (arith, is, low))
    ∙ ap (λ (at : ℕ). entry_text (d.pages (k * (p / k) + at))) is
    ∙ ap (λ (q : ℕ). entry_text (d.pages q)) (div-add-mod p k)

-- the part shows each page of the flash
sure_there : (d : Device) (blocks p : ℕ) → ((q : ℕ) → IsWhole 256 (d.pages q)) → p < blocks * 16 → page_in Sure (held_in (parts (32 * blocks) (part_page Sure d))) p ≡ d.pages p
sure_there d blocks p whole inside =
    let bytes : List ℕ = parts (32 * blocks) (part_page Sure d) in
    let in_marks : sure.mark_page p < 32 * blocks = mark_inside Sure blocks p inside in
    let in_data : sure.data_page p < 32 * blocks = omega (arith, in_marks) in
    let data_is : held_in bytes (sure.data_page p) ≡ data_text (d.pages p) = part_held Sure d blocks (sure.data_page p) whole in_data ∙ data_there d p in
    let mark_is : held_in bytes (sure.mark_page p) ≡ mark_text (d.pages p) = part_held Sure d blocks (sure.mark_page p) whole in_marks ∙ mark_there d p in
    ap (λ (x : List ℕ). sure.page_from x (slice_index (held_in bytes (sure.mark_page p)) 0)) data_is ∙ ap (λ (x : List ℕ). sure.page_from (data_text (d.pages p)) (slice_index x 0)) mark_is ∙ shown (d.pages p)

dense_there : (layout : DenseLayout) (d : Device) (blocks p : ℕ) → ((q : ℕ) → IsWhole 256 (d.pages q)) → p < blocks * data_pages layout.sectors
    → page_in (Dense layout) (held_in (parts (16 * layout.sectors * blocks) (part_page (Dense layout) d))) p ≡ d.pages p
dense_there layout d blocks p whole inside =
    let n : ℕ = layout.sectors in
    let bytes : List ℕ = parts (16 * n * blocks) (part_page (Dense layout) d) in
    let in_marks : mark_at n p < 16 * n * blocks = mark_inside (Dense layout) blocks p inside in
    let in_data : data_at n p < 16 * n * blocks = omega (arith, in_marks, data_first n p layout.dense) in
    let data_is : held_in bytes (data_at n p) ≡ data_text (d.pages p) = part_held (Dense layout) d blocks (data_at n p) whole in_data ∙ dense_data_there layout d p in
    let marks_are : held_in bytes (mark_at n p) ≡ part_page (Dense layout) d (mark_at n p) = part_held (Dense layout) d blocks (mark_at n p) whole in_marks in
    let mark_is : dense.entry_of (held_in bytes (mark_at n p)) (place_of n p) ≡ entry_text (d.pages p) =
    ap (λ (page : List ℕ). dense.entry_of page (place_of n p)) marks_are ∙ dense_mark_there layout d p in
    ap (λ (x : List ℕ). dense.page_from x (dense.entry_of (held_in bytes (mark_at n p)) (place_of n p))) data_is ∙ ap (dense.page_from (data_text (d.pages p))) mark_is ∙ dense_shown (d.pages p)

pub page_there : (layout : PartLayout) (d : Device) (blocks p : ℕ) → ((q : ℕ) → IsWhole 256 (d.pages q)) → p < blocks * pages_of layout
    → page_in layout (held_in (parts (16 * sectors_of layout * blocks) (part_page layout d))) p ≡ d.pages p
page_there Sure d blocks p whole inside = sure_there d blocks p whole inside
page_there (Dense layout) d blocks p whole inside = dense_there layout d blocks p whole inside

pub raw_is : (layout : PartLayout) (d : Device) (bytes : List ℕ) → IsGeometry d.geometry → HasSizes layout d.geometry → ((q : ℕ) → IsWhole d.geometry.page (d.pages q))
    → bytes ≡ parts (16 * sectors_of layout * d.geometry.blocks) (part_page layout d) → IsRaw layout d bytes
raw_is layout d bytes lawful sizes whole is =
    let each : (q : ℕ) → IsWhole 256 (d.pages q) = λ q. subst (λ (g : Geometry). IsWhole g.page (d.pages q)) sizes (whole q) in
    let count : ℕ = 16 * sectors_of layout * d.geometry.blocks in
    let long : length (parts count (part_page layout d)) ≡ 256 * count = parts-length 256 count (part_page layout d) (λ j low. page-length layout d each j) in
    record {
      lawful = lawful;
      sizes = sizes;
      len = ap length is ∙ long ∙ omega arith;
      pages = λ p below.
          let inside : p < d.geometry.blocks * pages_of layout = subst (λ (n : ℕ). p < n) (ap page_count sizes) below in
          ap (λ (x : List ℕ). page_in layout (held_in x) p) is ∙ page_there layout d d.geometry.blocks p each inside;
    }

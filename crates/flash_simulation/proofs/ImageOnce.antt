-- Bytes are the image of one flash at most, whatever follows it.
use Rattle.std.proofs.Common.{◌≡◌, ℕ, ◌+◌, ◌*◌, ◌%◌, ◌<◌, ◌≤◌, Bool, List, [], ◌++◌, refl, sym, ap, subst, ◌∙◌, append_assoc, arith}
use Rattle.flash_model.specs.declared.geometry.Geometry.{Geometry}
use Rattle.flash_model.specs.Geometry.{IsGeometry, page_count}
use Rattle.flash_model.specs.Device.{Device, Page, block_of}
use Rattle.flash_model.specs.Contents.{IsWhole}
use Rattle.flash_model.specs.Blocks.{page-below, block_of-below, page-is}
use Rattle.flash_simulation.specs.Images.{header, parts, page_text, worn_text, place_text, block_text, blocks_text, image_of, before_block, before_page, AreSizes, HasImage, HoldsTheSame}
use Rattle.flash_simulation.proofs.ImageParts.{parts-cancel}
use Rattle.flash_simulation.proofs.ImageTexts.{header-cancel, worn-cancel, page-cancel}
use Rattle.flash_simulation.proofs.ImageFilling.{block-same, blocks-same, places-same}
use Rattle.flash_simulation.proofs.ImageGrowing.{pages-most, page_size-most}

-- lawful sizes are of four bytes each
pub sizes-fit : (g : Geometry) → IsGeometry g → AreSizes g
sizes-fit g lawful = record {
  page = omega (arith, page_size-most g.page lawful.page_size);
  pages = omega (arith, pages-most g lawful);
  blocks = omega (arith, lawful.blocks_most);
}

-- ---- flashes of the same sizes

-- whole pages, for a flash of these sizes
abbrev pub AreWhole : Geometry → (ℕ → Page) → Type 0
AreWhole g pages = (p : ℕ) → p < page_count g → IsWhole g.page (pages p)

-- a flash of the same sizes with other pages and worn blocks
abbrev pub holding : Device → (ℕ → Page) → (ℕ → Bool) → Device
holding d pages worn = record d { pages = pages; worn = worn }

-- so many pages of a block
places-cancel : (d : Device) (pages : ℕ → Page) (worn : ℕ → Bool) (b n : ℕ) (u v : List ℕ) → HasImage d → AreWhole d.geometry pages → b < d.geometry.blocks → n ≤ d.geometry.pages
    → parts n (place_text d b) ++ u ≡ parts n (place_text (holding d pages worn) b) ++ v
    → ((j : ℕ) → j < n → d.pages (b * d.geometry.pages + j) ≡ pages (b * d.geometry.pages + j)) × (u ≡ v)
places-cancel d pages worn b n u v image whole inside few same =
    let one : (j : ℕ) → j < n → (s t : List ℕ) → place_text d b j ++ s ≡ place_text (holding d pages worn) b j ++ t → (d.pages (b * d.geometry.pages + j) ≡ pages (b * d.geometry.pages + j)) × (s ≡ t) =
    λ j below s t e.
    let in_block : j < d.geometry.pages = omega arith in
    let in_flash = page-below d.geometry b j inside in_block in
    page-cancel d.geometry.page (d.pages (b * d.geometry.pages + j)) (pages (b * d.geometry.pages + j)) s t
    (image.whole (b * d.geometry.pages + j) in_flash) (whole (b * d.geometry.pages + j) in_flash) e in
    let all = parts-cancel n (place_text d b) (place_text (holding d pages worn) b) u v (λ j below s t e. let p = one j below s t e in (ap page_text p.0, p.1)) same in
    (λ j below. (one j below [] [] (ap (λ (x : List ℕ). x ++ []) (all.0 j below))).0, all.1)

-- what two blocks with one text hold
pub record SameBlock (d : Device) (pages : ℕ → Page) (worn : ℕ → Bool) (b : ℕ) : Type 0 where
  pub is_worn : d.worn b ≡ worn b
  pub held : (j : ℕ) → j < d.geometry.pages → d.pages (b * d.geometry.pages + j) ≡ pages (b * d.geometry.pages + j)

block-cancel : (d : Device) (pages : ℕ → Page) (worn : ℕ → Bool) (b : ℕ) (u v : List ℕ) → HasImage d → AreWhole d.geometry pages → b < d.geometry.blocks
    → block_text d b ++ u ≡ block_text (holding d pages worn) b ++ v → SameBlock d pages worn b × (u ≡ v)
block-cancel d pages worn b u v image whole inside same =
    let e : Device = holding d pages worn in
    let regrouped = sym (append_assoc (worn_text (d.worn b)) (parts d.geometry.pages (place_text d b)) u) ∙ same ∙ append_assoc (worn_text (worn b)) (parts d.geometry.pages (place_text e b)) v in
    let first = worn-cancel (d.worn b) (worn b) _ _ regrouped in
    let rest = places-cancel d pages worn b d.geometry.pages u v image whole inside (omega arith) first.1 in
    (record { is_worn = first.0; held = rest.0 }, rest.1)

block-text : (d : Device) (pages : ℕ → Page) (worn : ℕ → Bool) (b : ℕ) → SameBlock d pages worn b → block_text d b ≡ block_text (holding d pages worn) b
block-text d pages worn b same = sym (block-same d (holding d pages worn) b refl (sym same.is_worn) (λ j below. sym (same.held j below)))

blocks-cancel : (d : Device) (pages : ℕ → Page) (worn : ℕ → Bool) (n : ℕ) (u v : List ℕ) → HasImage d → AreWhole d.geometry pages → n ≤ d.geometry.blocks
    → parts n (block_text d) ++ u ≡ parts n (block_text (holding d pages worn)) ++ v → ((b : ℕ) → b < n → SameBlock d pages worn b) × (u ≡ v)
blocks-cancel d pages worn n u v image whole few same =
    let e : Device = holding d pages worn in
    let all = parts-cancel n (block_text d) (block_text e) u v (λ b below s t eq.
    let inside : b < d.geometry.blocks = omega arith in
    let p = block-cancel d pages worn b s t image whole inside eq in
    (block-text d pages worn b p.0, p.1)) same in (
      λ b below.
          let inside : b < d.geometry.blocks = omega arith in
          (block-cancel d pages worn b [] [] image whole inside (ap (λ (x : List ℕ). x ++ []) (all.0 b below))).0,
      all.1,
    )

-- ---- any flashes

-- the pages of one are whole for the sizes of the other
whole-for : (d e : Device) → HasImage e → d.geometry ≡ e.geometry → AreWhole d.geometry e.pages
whole-for d e image same = subst (λ (g : Geometry). AreWhole g e.pages) (sym same) image.whole

-- a flash of the same sizes spells its blocks so
blocks-as : (d e : Device) (n : ℕ) → d.geometry ≡ e.geometry → parts n (block_text e) ≡ parts n (block_text (holding d e.pages e.worn))
blocks-as d e n same = blocks-same (holding d e.pages e.worn) e n (sym same) (λ b below. refl) (λ p below. refl)

places-as : (d e : Device) (b n : ℕ) → d.geometry ≡ e.geometry → parts n (place_text e b) ≡ parts n (place_text (holding d e.pages e.worn) b)
places-as d e b n same = places-same (holding d e.pages e.worn) e b n (sym same) (λ j below. refl)

same-pages : (d e : Device) → 0 < d.geometry.pages → ((b : ℕ) → b < d.geometry.blocks → SameBlock d e.pages e.worn b) → (p : ℕ) → p < page_count d.geometry → e.pages p ≡ d.pages p
same-pages d e some same p below =
    let b = block_of d p in
    let j = p % d.geometry.pages in
    let in_block : j < d.geometry.pages = omega arith in
    let held = (same b (block_of-below d p some below)).held j in_block in
    subst (λ (q : ℕ). e.pages q ≡ d.pages q) (page-is d p) (sym held)

-- two images of which one begins the other are one, and so is what follows them
pub image-once : (d e : Device) (x y : List ℕ) → HasImage d → HasImage e → image_of d ++ x ≡ image_of e ++ y → HoldsTheSame d e × (x ≡ y)
image-once d e x y image image' same =
    let regrouped = sym (append_assoc (header d.geometry) (blocks_text d) x) ∙ same ∙ append_assoc (header e.geometry) (blocks_text e) y in
    let sizes = header-cancel d.geometry e.geometry _ _ (sizes-fit d.geometry image.lawful) (sizes-fit e.geometry image'.lawful) regrouped in
    let f : Device = holding d e.pages e.worn in
    let blocks : blocks_text e ≡ parts d.geometry.blocks (block_text f) = ap (λ (g : Geometry). parts g.blocks (block_text e)) (sym sizes.0) ∙ blocks-as d e d.geometry.blocks sizes.0 in
    let rest : blocks_text d ++ x ≡ parts d.geometry.blocks (block_text f) ++ y = sizes.1 ∙ ap (λ (t : List ℕ). t ++ y) blocks in
    let all = blocks-cancel d e.pages e.worn d.geometry.blocks x y image (whole-for d e image' sizes.0) (omega arith) rest in (
      record {
        geometry = sym sizes.0;
        pages = same-pages d e image.lawful.some_pages all.0;
        worn = λ b below. sym (all.0 b below).is_worn;
      },
      all.1,
    )

-- what stands before a block, and what follows it there
pub before_block-cancel : (d e : Device) (b : ℕ) (x y : List ℕ) → HasImage d → HasImage e → b < d.geometry.blocks → before_block d b ++ x ≡ before_block e b ++ y → (d.geometry ≡ e.geometry) × (x ≡ y)
before_block-cancel d e b x y image image' inside same =
    let regrouped = sym (append_assoc (header d.geometry) (parts b (block_text d)) x) ∙ same ∙ append_assoc (header e.geometry) (parts b (block_text e)) y in
    let sizes = header-cancel d.geometry e.geometry _ _ (sizes-fit d.geometry image.lawful) (sizes-fit e.geometry image'.lawful) regrouped in
    let rest = sizes.1 ∙ ap (λ (t : List ℕ). t ++ y) (blocks-as d e b sizes.0) in
    let all = blocks-cancel d e.pages e.worn b x y image (whole-for d e image' sizes.0) (omega arith) rest in
    (sizes.0, all.1)

-- what stands before a page, and what follows it there
pub before_page-cancel : (d e : Device) (b j : ℕ) (x y : List ℕ) → HasImage d → HasImage e → b < d.geometry.blocks → j < d.geometry.pages
    → before_page d b j ++ x ≡ before_page e b j ++ y → x ≡ y
before_page-cancel d e b j x y image image' inside in_block same =
    let regrouped = sym (append_assoc (before_block d b) (worn_text (d.worn b) ++ parts j (place_text d b)) x) ∙ same ∙ append_assoc (before_block e b) (worn_text (e.worn b) ++ parts j (place_text e b)) y in
    let front = before_block-cancel d e b _ _ image image' inside regrouped in
    let block = sym (append_assoc (worn_text (d.worn b)) (parts j (place_text d b)) x) ∙ front.1 ∙ append_assoc (worn_text (e.worn b)) (parts j (place_text e b)) y in
    let worn = worn-cancel (d.worn b) (e.worn b) _ _ block in
    let rest = worn.1 ∙ ap (λ (t : List ℕ). t ++ y) (places-as d e b j front.0) in
    (places-cancel d e.pages e.worn b j x y image (whole-for d e image' front.0) inside (omega arith) rest).1

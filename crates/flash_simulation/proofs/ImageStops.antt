-- What is wrong with bytes at which reading stops.
use Rattle.std.proofs.Common.{◌≡◌, ◌≢◌, inl, inr, ℕ, ◌+◌, ◌*◌, ◌<◌, Bool, true, false, cond, eqb, List, [], ◌∷◌, ◌++◌, length, refl, sym, ap, ◌∙◌, append_assoc, arith}
use Rattle.std.proofs.lemmas.Bool.Decides.{eqb_tells}
use Rattle.std.proofs.lemmas.List.{append-nil}
use Rattle.flash_simulation.specs.declared.sim_flash.SimFlash.{SimFlash}
use Rattle.flash_model.specs.Device.{Device, Page, erased, bytes_of, unreadable}
use Rattle.flash_model.specs.Contents.{IsWhole}
use Rattle.flash_simulation.specs.Simulation.{device_of}
use Rattle.flash_simulation.specs.WholePages.{whole_pages_of}
use Rattle.flash_simulation.specs.declared.image_fault.ImageFault.{ImageFault}
use Rattle.flash_simulation.specs.declared.image_fault.ImageFault.TheVariants.{NotImage, BadGeometry, BadState, Truncated, Trailing, Memory}
use Rattle.flash_simulation.specs.Images.{parts, header, page_text, worn_text, place_text, block_text, image_of, before_block, before_page, HasImage, IsPartOf, EndsInside, IsFault}
use Rattle.flash_simulation.specs.ImageReading.{InPages, BlockFault, BlocksFault}
use Rattle.flash_simulation.proofs.ImageParts.{parts-split}
use Rattle.flash_simulation.proofs.ImageFilling.{places-same, blocks-same}

page-whole : (n : ℕ) (page : Page) → ((bytes : List ℕ) → page ≡ bytes_of bytes → length bytes ≡ n) → IsWhole n page
page-whole n erased whole = tt
page-whole n (bytes_of bytes) whole = whole bytes refl
page-whole n unreadable whole = tt

-- each flash in memory has an image
pub has_image : (flash : SimFlash) → HasImage (device_of flash)
has_image flash = record {
  lawful = flash.lawful;
  whole = λ p below. page-whole flash.geometry.page ((device_of flash).pages p) (λ bytes is. whole_pages_of flash p bytes is);
}

-- a block of an image, with what stands before and after it
pub before_block-splits : (d : Device) (b : ℕ) → b < d.geometry.blocks → (tail : List ℕ) × (image_of d ≡ before_block d b ++ (block_text d b ++ tail))
before_block-splits d b inside =
    let p = parts-split d.geometry.blocks b (block_text d) inside in
    (p.0, ap (λ (t : List ℕ). header d.geometry ++ t) p.1 ∙ sym (append_assoc (header d.geometry) (parts b (block_text d)) (block_text d b ++ p.0)))

-- a page of an image, with what stands before and after it
pub before_page-splits : (d : Device) (b j : ℕ) → b < d.geometry.blocks → j < d.geometry.pages → (tail : List ℕ) × (image_of d ≡ before_page d b j ++ (place_text d b j ++ tail))
before_page-splits d b j inside in_block =
    let block = before_block-splits d b inside in
    let p = parts-split d.geometry.pages j (place_text d b) in_block in
    let front = worn_text (d.worn b) in
    let pages : block_text d b ++ block.0 ≡ (front ++ parts j (place_text d b)) ++ (place_text d b j ++ (p.0 ++ block.0)) =
    ap (λ (t : List ℕ). (front ++ t) ++ block.0) p.1 ∙ simp append_assoc in
    (p.0 ++ block.0, block.1 ∙ ap (λ (t : List ℕ). before_block d b ++ t) pages ∙ simp append_assoc)

-- a flash with another page
abbrev pub with_page : Device → ℕ → Page → Device
with_page d n page = record d { pages = λ p. cond (eqb p n) page (d.pages p) }

with_page-own : (d : Device) (n : ℕ) (page : Page) → (with_page d n page).pages n ≡ page
with_page-own d n page = elim (eqb_tells n n) [
  | inl h ↦ ap (λ (b : Bool). cond b page (d.pages n)) h.0
  | inr h ↦ absurd (h.1 refl)
]

with_page-other : (d : Device) (n : ℕ) (page : Page) (p : ℕ) → p ≢ n → (with_page d n page).pages p ≡ d.pages p
with_page-other d n page p apart = elim (eqb_tells p n) [
  | inl h ↦ absurd (apart h.1)
  | inr h ↦ ap (λ (b : Bool). cond b page (d.pages p)) h.0
]

with_page-image : (d : Device) (n : ℕ) (page : Page) → HasImage d → IsWhole d.geometry.page page → HasImage (with_page d n page)
with_page-image d n page image whole = record {
  lawful = image.lawful;
  whole = λ p below. elim (eqb_tells p n) [
    | inl h ↦ rw (ap (λ (b : Bool). cond b page (d.pages p)) h.0) whole
    | inr h ↦ rw (ap (λ (b : Bool). cond b page (d.pages p)) h.0) (image.whole p below)
  ];
}

nonempty-front : (more tail : List ℕ) → more ≢ [] → more ++ tail ≢ []
nonempty-front [] tail some = λ same. some refl
nonempty-front (x ∷ more) tail some = λ same. cc

pub worn_text-some : (worn : Bool) (tail : List ℕ) → worn_text worn ++ tail ≢ []
worn_text-some true tail = λ same. cc
worn_text-some false tail = λ same. cc

-- the end comes before a block
ends_at_block : (d : Device) (b : ℕ) (bytes : List ℕ) → HasImage d → b < d.geometry.blocks → bytes ≡ before_block d b ++ [] → EndsInside bytes
ends_at_block d b bytes image inside spelled =
    let split = before_block-splits d b inside in
    let more = block_text d b ++ split.0 in
    let some : more ≢ [] = λ same. worn_text-some (d.worn b) (parts d.geometry.pages (place_text d b) ++ split.0) (sym (append_assoc (worn_text (d.worn b)) (parts d.geometry.pages (place_text d b)) split.0) ∙ same) in
    inr (d, image, record { more = more; some = some; whole = ap (λ (t : List ℕ). t ++ more) (spelled ∙ append-nil (before_block d b)) ∙ sym split.1 })

-- the end comes in a page
ends_in_page : (d : Device) (b j : ℕ) (page : Page) (bytes rest : List ℕ) → HasImage d → b < d.geometry.blocks → j < d.geometry.pages → IsWhole d.geometry.page page
    → IsPartOf (page_text page) rest → bytes ≡ before_page d b j ++ rest → EndsInside bytes
ends_in_page d b j page bytes rest image inside in_block whole part spelled =
    let n = b * d.geometry.pages + j in
    let e : Device = with_page d n page in
    let others : (p : ℕ) → p < n → e.pages p ≡ d.pages p = λ p below. let apart : p ≢ n = omega arith in with_page-other d n page p apart in
    let split = before_page-splits e b j inside in_block in
    let blocks : parts b (block_text e) ≡ parts b (block_text d) = blocks-same d e b refl (λ c below. refl) (λ p below. others p (omega arith)) in
    let places : parts j (place_text e b) ≡ parts j (place_text d b) = places-same d e b j refl (λ i below. others (b * d.geometry.pages + i) (omega arith)) in
    let front : before_page e b j ≡ before_page d b j =
    ap (λ (t : List ℕ). (header d.geometry ++ t) ++ (worn_text (d.worn b) ++ parts j (place_text e b))) blocks
    ∙ ap (λ (t : List ℕ). before_block d b ++ (worn_text (d.worn b) ++ t)) places in
    let own : place_text e b j ≡ page_text page = ap page_text (with_page-own d n page) in
    let more = part.more ++ split.0 in
    let regrouped : bytes ++ more ≡ before_page d b j ++ ((rest ++ part.more) ++ split.0) = ap (λ (t : List ℕ). t ++ more) spelled ∙ simp append_assoc in
    let spells : before_page d b j ++ ((rest ++ part.more) ++ split.0) ≡ image_of e =
    ap (λ (t : List ℕ). before_page d b j ++ (t ++ split.0)) (part.whole ∙ sym own) ∙ ap (λ (t : List ℕ). t ++ (place_text e b j ++ split.0)) (sym front) ∙ sym split.1 in
    inr (e, with_page-image d n page image whole, record { more = more; some = nonempty-front part.more split.0 part.some; whole = regrouped ∙ spells })

in_page : (d : Device) (b : ℕ) (fault : ImageFault) (bytes body rest : List ℕ) → bytes ≡ before_block d b ++ rest → (w : InPages d b fault rest)
    → bytes ≡ before_page d b w.wrong.place ++ w.wrong.rest
in_page d b fault bytes body rest spelled w =
    spelled ∙ ap (λ (t : List ℕ). before_block d b ++ t) (w.spelled ∙ ap (λ (t : List ℕ). worn_text (d.worn b) ++ t) w.wrong.spelled) ∙ simp append_assoc

block-wrong : (d : Device) (b : ℕ) (fault : ImageFault) (bytes rest : List ℕ) → HasImage d → b < d.geometry.blocks → bytes ≡ before_block d b ++ rest
    → BlockFault d b fault rest → IsFault fault bytes
block-wrong d b NotImage bytes rest image inside spelled (inl w) = absurd w
block-wrong d b NotImage bytes rest image inside spelled (inr w) = absurd w.wrong.wrong
block-wrong d b BadGeometry bytes rest image inside spelled (inl w) = absurd w
block-wrong d b BadGeometry bytes rest image inside spelled (inr w) = absurd w.wrong.wrong
block-wrong d b BadState bytes rest image inside spelled (inl w) =
    inl (record {
      flash = d;
      image = image;
      block = b;
      in_flash = inside;
      byte = w.0;
      unknown = w.2;
      rest = w.1;
      spelled = spelled ∙ ap (λ (t : List ℕ). before_block d b ++ t) w.3;
    })
block-wrong d b BadState bytes rest image inside spelled (inr w) =
    inr (record {
      flash = d;
      image = image;
      block = b;
      in_flash = inside;
      place = w.wrong.place;
      in_block = w.wrong.in_block;
      byte = w.wrong.wrong.0;
      unknown = w.wrong.wrong.2;
      rest = w.wrong.wrong.1;
      spelled = in_page d b BadState bytes rest rest spelled w ∙ ap (λ (t : List ℕ). before_page d b w.wrong.place ++ t) w.wrong.wrong.3;
    })
block-wrong d b Truncated bytes rest image inside spelled (inl w) = ends_at_block d b bytes image inside (spelled ∙ ap (λ (t : List ℕ). before_block d b ++ t) w)
block-wrong d b Truncated bytes rest image inside spelled (inr w) =
    ends_in_page d b w.wrong.place w.wrong.wrong.0 bytes w.wrong.rest image inside w.wrong.in_block w.wrong.wrong.1 w.wrong.wrong.2 (in_page d b Truncated bytes rest rest spelled w)
block-wrong d b Trailing bytes rest image inside spelled (inl w) = absurd w
block-wrong d b Trailing bytes rest image inside spelled (inr w) = absurd w.wrong.wrong
block-wrong d b Memory bytes rest image inside spelled (inl w) = absurd w
block-wrong d b Memory bytes rest image inside spelled (inr w) = absurd w.wrong.wrong

-- a header of these sizes, and blocks that go wrong
pub stops : (d : Device) (fault : ImageFault) (bytes body : List ℕ) → HasImage d → bytes ≡ header d.geometry ++ body → BlocksFault d fault body → IsFault fault bytes
stops d fault bytes body image spelled w =
    block-wrong d w.block fault bytes w.rest image w.in_flash (spelled ∙ ap (λ (t : List ℕ). header d.geometry ++ t) w.spelled ∙ sym (append_assoc (header d.geometry) (parts w.block (block_text d)) w.rest)) w.wrong

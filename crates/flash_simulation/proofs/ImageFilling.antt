-- A flash that is filled from the left: what it spells as far as it is filled.
use Rattle.std.proofs.Common.{◌≡◌, ◌≢◌, ℕ, ◌+◌, ◌*◌, ◌<◌, ◌≤◌, Bool, List, ◌++◌, sym, ap, ◌∙◌, append_assoc, arith}
use Rattle.std.proofs.lemmas.Nat.{mul-add-lt}
use Rattle.flash_model.specs.declared.geometry.Geometry.{Geometry}
use Rattle.flash_model.specs.Device.{Device, Page}
use Rattle.flash_model.specs.Contents.{PutsPage, PutsWear}
use Rattle.flash_simulation.specs.declared.image_fault.ImageFault.{ImageFault}
use Rattle.flash_simulation.specs.Images.{parts, page_text, worn_text, place_text, block_text}
use Rattle.flash_simulation.specs.ImageReading.{BlockFault, BlocksFault, FillsPages, FillsBlocks}
use Rattle.flash_simulation.proofs.ImageParts.{parts-more, parts-same}

-- a page that is the same spells the same
pub place-same : (d e : Device) (b j : ℕ) → e.geometry ≡ d.geometry → e.pages (b * d.geometry.pages + j) ≡ d.pages (b * d.geometry.pages + j) → place_text e b j ≡ place_text d b j
place-same d e b j geometry same = ap (λ (g : Geometry). page_text (e.pages (b * g.pages + j))) geometry ∙ ap page_text same

-- pages that are the same spell the same
pub places-same : (d e : Device) (b n : ℕ) → e.geometry ≡ d.geometry → ((j : ℕ) → j < n → e.pages (b * d.geometry.pages + j) ≡ d.pages (b * d.geometry.pages + j))
    → parts n (place_text e b) ≡ parts n (place_text d b)
places-same d e b n geometry same = parts-same n (place_text e b) (place_text d b) (λ j below. place-same d e b j geometry (same j below))

-- a block that is the same spells the same
pub block-same : (d e : Device) (b : ℕ) → e.geometry ≡ d.geometry → e.worn b ≡ d.worn b
    → ((j : ℕ) → j < d.geometry.pages → e.pages (b * d.geometry.pages + j) ≡ d.pages (b * d.geometry.pages + j)) → block_text e b ≡ block_text d b
block-same d e b geometry worn same =
    ap (λ (g : Geometry). worn_text (e.worn b) ++ parts g.pages (place_text e b)) geometry
    ∙ ap (λ (w : Bool). worn_text w ++ parts d.geometry.pages (place_text e b)) worn
    ∙ ap (λ (t : List ℕ). worn_text (d.worn b) ++ t) (places-same d e b d.geometry.pages geometry same)

-- blocks that are the same spell the same
pub blocks-same : (d e : Device) (n : ℕ) → e.geometry ≡ d.geometry → ((b : ℕ) → b < n → e.worn b ≡ d.worn b)
    → ((p : ℕ) → p < n * d.geometry.pages → e.pages p ≡ d.pages p) → parts n (block_text e) ≡ parts n (block_text d)
blocks-same d e n geometry worn same =
    parts-same n (block_text e) (block_text d) (λ b below.
    block-same d e b geometry (worn b below) (λ j inside. same (b * d.geometry.pages + j) (omega (arith, mul-add-lt b d.geometry.pages j n below inside))))

-- ---- one page more

pub put_page-fills : (old d e : Device) (first n : ℕ) (page : Page) → first ≤ n → FillsPages old first d → PutsPage d n page e → FillsPages old first e
put_page-fills old d e first n page from fills puts = record {
  earlier = λ p below. let apart : p ≢ n = omega arith in puts.others p apart ∙ fills.earlier p below;
  others = puts.rest ∙ ap (λ (x : Device). record x { pages = e.pages }) fills.others;
}

pub put_page-spells : (d e : Device) (b j n : ℕ) (page : Page) (bytes rest after : List ℕ) → n ≡ b * d.geometry.pages + j → PutsPage d n page e
    → bytes ≡ parts j (place_text d b) ++ rest → rest ≡ page_text page ++ after → bytes ≡ parts (j + 1) (place_text e b) ++ after
put_page-spells d e b j n page bytes rest after number puts spelled next =
    let geometry : e.geometry ≡ d.geometry = ap (λ (x : Device). x.geometry) puts.rest in
    let front : parts j (place_text e b) ≡ parts j (place_text d b) =
    places-same d e b j geometry (λ i below. let apart : b * d.geometry.pages + i ≢ n = omega arith in puts.others (b * d.geometry.pages + i) apart) in
    let last : place_text e b j ≡ page_text page =
    ap (λ (g : Geometry). page_text (e.pages (b * g.pages + j))) geometry ∙ ap (λ (p : ℕ). page_text (e.pages p)) (sym number) ∙ ap page_text puts.own in
    let grown : parts (j + 1) (place_text e b) ≡ parts j (place_text d b) ++ page_text page =
    parts-more j (place_text e b) ∙ ap (λ (t : List ℕ). t ++ place_text e b j) front ∙ ap (λ (t : List ℕ). parts j (place_text d b) ++ t) last in
    spelled ∙ ap (λ (t : List ℕ). parts j (place_text d b) ++ t) next ∙ sym (append_assoc (parts j (place_text d b)) (page_text page) after)
    ∙ ap (λ (t : List ℕ). t ++ after) (sym grown)

-- ---- one block

pub block-fills : (old d e : Device) (b : ℕ) (worn : Bool) → PutsWear old b worn d → FillsPages d (b * d.geometry.pages) e → FillsBlocks old b e
block-fills old d e b worn puts fills =
    let geometry : d.geometry ≡ old.geometry = ap (λ (x : Device). x.geometry) puts.rest in
    let all_worn : e.worn ≡ d.worn = ap (λ (x : Device). x.worn) fills.others in
    let all_pages : d.pages ≡ old.pages = ap (λ (x : Device). x.pages) puts.rest in
    record {
      earlier = λ p below.
          let in_front : p < b * d.geometry.pages = rw geometry below in
          fills.earlier p in_front ∙ ap (λ (f : ℕ → Page). f p) all_pages;
      worn = λ c below.
          let apart : c ≢ b = omega arith in
          ap (λ (f : ℕ → Bool). f c) all_worn ∙ puts.others c apart;
      others = fills.others ∙ ap (λ (x : Device). record x { pages = e.pages }) puts.rest
          ∙ ap (λ (f : ℕ → Bool). let x : Device = record old { pages = e.pages; worn = f } in x) (sym all_worn);
    }

-- the block is worn as said
pub block-worn : (old d e : Device) (b first : ℕ) (worn : Bool) → PutsWear old b worn d → FillsPages d first e → e.worn b ≡ worn
block-worn old d e b first worn puts fills =
    let all_worn : e.worn ≡ d.worn = ap (λ (x : Device). x.worn) fills.others in
    ap (λ (f : ℕ → Bool). f b) all_worn ∙ puts.own

pub block-spells : (e : Device) (b : ℕ) (worn : Bool) (bytes rest after : List ℕ) → e.worn b ≡ worn → bytes ≡ worn_text worn ++ rest
    → rest ≡ parts e.geometry.pages (place_text e b) ++ after → bytes ≡ block_text e b ++ after
block-spells e b worn bytes rest after is spelled next =
    spelled ∙ ap (λ (w : Bool). worn_text w ++ rest) (sym is) ∙ ap (λ (t : List ℕ). worn_text (e.worn b) ++ t) next
    ∙ sym (append_assoc (worn_text (e.worn b)) (parts e.geometry.pages (place_text e b)) after)

-- ---- one block more

pub blocks-fill : (old d e : Device) (b : ℕ) → FillsBlocks old 0 d → FillsBlocks d b e → FillsBlocks old 0 e
blocks-fill old d e b fills more = record {
  earlier = λ p below. absurd (omega arith);
  worn = λ c below. absurd (omega arith);
  others = more.others ∙ ap (λ (x : Device). record x { pages = e.pages; worn = e.worn }) fills.others;
}

pub blocks-front : (d e : Device) (b : ℕ) → FillsBlocks d b e → parts b (block_text e) ≡ parts b (block_text d)
blocks-front d e b more = blocks-same d e b (ap (λ (x : Device). x.geometry) more.others) more.worn more.earlier

pub blocks-spell : (d e : Device) (b : ℕ) (bytes rest after : List ℕ) → FillsBlocks d b e → bytes ≡ parts b (block_text d) ++ rest → rest ≡ block_text e b ++ after
    → bytes ≡ parts (b + 1) (block_text e) ++ after
blocks-spell d e b bytes rest after more spelled next =
    spelled ∙ ap (λ (t : List ℕ). t ++ rest) (sym (blocks-front d e b more)) ∙ ap (λ (t : List ℕ). parts b (block_text e) ++ t) next
    ∙ sym (append_assoc (parts b (block_text e)) (block_text e b) after) ∙ ap (λ (t : List ℕ). t ++ after) (sym (parts-more b (block_text e)))

-- a block that goes wrong, after blocks that do not
pub block-stops : (d e : Device) (b : ℕ) (fault : ImageFault) (bytes rest : List ℕ) → b < e.geometry.blocks → FillsBlocks d b e → bytes ≡ parts b (block_text d) ++ rest
    → BlockFault e b fault rest → BlocksFault e fault bytes
block-stops d e b fault bytes rest inside more spelled wrong = record {
  block = b;
  in_flash = inside;
  rest = rest;
  spelled = spelled ∙ ap (λ (t : List ℕ). t ++ rest) (sym (blocks-front d e b more));
  wrong = wrong;
}

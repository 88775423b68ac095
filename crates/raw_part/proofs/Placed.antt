-- Where the pages of a flash stand on its part, in each layout.
use Rattle.std.proofs.Common.{◌≡◌, ◌≢◌, ◌≤◌, ◌<◌, ℕ, ◌+◌, ◌*◌, ◌/◌, ◌%◌, List, refl, sym, ap, ◌∙◌, arith}
use Rattle.std.proofs.Math.Nat.{mul-le-mul_left, div-add-mod, mod-lt}
use Rattle.flash_model.specs.declared.geometry.Geometry.{Geometry}
use Rattle.dense_nor.specs.Layout.{IsDense, data_pages, mark_pages, mark_at, page_in as dense_page_in}
use Rattle.dense_nor.proofs.Places.{split, mark_of_block, block_below}
use Rattle.raw_part.specs.Layouts.{HasLayout, HasSizes, mark_page, page_in, pages_of, part_block, sectors_of}
use Rattle.raw_part.specs.declared.part_layout.PartLayout.{PartLayout}
use Rattle.raw_part.specs.declared.part_layout.PartLayout.TheVariants.{Sure, Dense}

-- sizes of this form
pub sized : (layout : PartLayout) (g : Geometry) → g.page ≡ 256 → pages_of layout ≡ g.pages → HasSizes layout g
sized layout g page pages = λ i. record { page = page i; pages = sym pages i; blocks = g.blocks }

pub sized_by : (layout : PartLayout) (g told : Geometry) → told ≡ g → told.page ≡ 256 → pages_of layout ≡ told.pages → HasSizes layout g
sized_by layout g told same page pages = sized layout g (ap (λ (x : Geometry). x.page) (sym same) ∙ page) (pages ∙ ap (λ (x : Geometry). x.pages) same)

-- there is no layout of other pages, or of other blocks
pub other_pages : (g : Geometry) → g.page ≢ 256 → ¬ HasLayout g
other_pages g other of = other (ap (λ (x : Geometry). x.page) of.1)

pub other_blocks : (g : Geometry) → ((layout : PartLayout) → pages_of layout ≢ g.pages) → ¬ HasLayout g
other_blocks g none of = none of.0 (sym (ap (λ (x : Geometry). x.pages) of.1))

-- the first pages of a part, in blocks of n sectors
pub place_split : (n b j : ℕ) → j < n → ((n * b + j) / n ≡ b) × ((n * b + j) % n ≡ j)
place_split n b j low =
    let some : 0 < n = omega (arith, low) in
    let rest : (n * b + j) % n < n = mod-lt (n * b + j) some in
    split n ((n * b + j) / n) b ((n * b + j) % n) j rest low (div-add-mod (n * b + j) n)

-- the mark of a page of so many blocks is on the part
dense_inside : (n blocks p : ℕ) → IsDense n → p < blocks * data_pages n → mark_at n p < 16 * n * blocks
dense_inside n blocks p dense below =
    let block : p / data_pages n < blocks = block_below (data_pages n) p blocks below in
    let over : 16 * n * (p / data_pages n + 1) ≤ 16 * n * blocks = mul-le-mul_left (16 * n) (omega (arith, block)) in
    omega (arith, (mark_of_block n p dense).1, over)

pub mark_inside : (layout : PartLayout) (blocks p : ℕ) → p < blocks * pages_of layout → mark_page layout p < 16 * sectors_of layout * blocks
mark_inside Sure blocks p below = omega arith
mark_inside (Dense layout) blocks p below = dense_inside layout.sectors blocks p layout.dense below

-- and among its bytes
pub bytes_inside : (layout : PartLayout) (blocks p long : ℕ) → p < blocks * pages_of layout → part_block layout * blocks ≤ long → 256 * mark_page layout p + 256 ≤ long
bytes_inside layout blocks p long below whole = omega (arith, mark_inside layout blocks p below, whole)

-- the pages of blocks of two layouts are as many only where their sectors are
data_pages-one : (m n : ℕ) → IsDense m → IsDense n → data_pages m ≡ data_pages n → m ≡ n
unfolding data_pages mark_pages
data_pages-one m n first second same = omega arith

data_pages-other : (n : ℕ) → IsDense n → data_pages n ≢ 16
unfolding data_pages mark_pages
data_pages-other n dense same = absurd (omega arith)

pub sectors-one : (first second : PartLayout) → pages_of second ≡ pages_of first → sectors_of second ≡ sectors_of first
sectors-one Sure Sure same = refl
sectors-one Sure (Dense other) same = absurd (data_pages-other other.sectors other.dense same)
sectors-one (Dense layout) Sure same = absurd (data_pages-other layout.sectors layout.dense (sym same))
sectors-one (Dense layout) (Dense other) same = data_pages-one other.sectors layout.sectors other.dense layout.dense same

pub sectors-some : (layout : PartLayout) → 0 < sectors_of layout
sectors-some Sure = omega arith
sectors-some (Dense layout) = omega (arith, layout.dense.0)

-- so their blocks are as many where their bytes are
pub blocks-one : (m n b c : ℕ) → 0 < m → n ≡ m → 4096 * n * c ≡ 4096 * m * b → c ≡ b
blocks-one m n b c some same long =
    let low : 0 < 4096 * m = omega (arith, some) in
    let again : 4096 * m * c ≡ 4096 * m * b = ap (λ (k : ℕ). 4096 * k * c) (sym same) ∙ long in
    (split (4096 * m) c b 0 0 low low (omega (arith, again))).0

-- and so are the pages that they hold
pub page_in-one : (first second : PartLayout) (held : ℕ → List ℕ) (p : ℕ) → pages_of second ≡ pages_of first → page_in second held p ≡ page_in first held p
page_in-one Sure Sure held p same = refl
page_in-one Sure (Dense other) held p same = absurd (data_pages-other other.sectors other.dense same)
page_in-one (Dense layout) Sure held p same = absurd (data_pages-other layout.sectors layout.dense (sym same))
page_in-one (Dense layout) (Dense other) held p same = ap (λ (n : ℕ). dense_page_in n held p) (data_pages-one other.sectors layout.sectors other.dense layout.dense same)

-- The texts of sizes, pages and blocks: no one begins another.
use Rattle.std.proofs.Common.{◌≡◌, ℕ, Bool, true, false, List, ◌++◌, length, take, drop, refl, sym, ap, ◌∙◌, append_assoc}
use Rattle.std.proofs.lemmas.List.{take_at, drop_at, append_cancel_left}
use Rattle.byteorder.specs.Endian.{little_bytes}
use Rattle.fields.proofs.NumberLaws.{number_cancel}
use Rattle.flash_model.specs.declared.geometry.Geometry.{Geometry}
use Rattle.flash_model.specs.Device.{Page, erased, bytes_of, unreadable}
use Rattle.flash_model.specs.Contents.{IsWhole}
use Rattle.flash_simulation.specs.Images.{magic, header, page_text, worn_text, AreSizes}

-- two texts of one length, and what follows them
pub fronts : (a b u v : List ℕ) → length a ≡ length b → a ++ u ≡ b ++ v → (a ≡ b) × (u ≡ v)
fronts a b u v len same =
    let front : a ≡ b = sym (take_at a u (length b) len) ∙ ap (take (length b)) same ∙ take_at b v (length b) refl in
    let back : u ≡ v = sym (drop_at a u (length b) len) ∙ ap (drop (length b)) same ∙ drop_at b v (length b) refl in
    (front, back)

pub length-header : (g : Geometry) → length (header g) ≡ 20
unfolding header
length-header g = refl

pub header-then : (g : Geometry) (u : List ℕ) → header g ++ u ≡ magic ++ (little_bytes 4 g.page ++ (little_bytes 4 g.pages ++ (little_bytes 4 g.blocks ++ u)))
unfolding header
header-then g u = refl

-- a header that was put after what was there, piece by piece
pub header-pushed : (g : Geometry) (o p q r s : List ℕ) → p ≡ o ++ magic → q ≡ p ++ little_bytes 4 g.page → r ≡ q ++ little_bytes 4 g.pages → s ≡ r ++ little_bytes 4 g.blocks → s ≡ o ++ header g
unfolding header
header-pushed g o p q r s e f h k =
    let a : List ℕ = little_bytes 4 g.page in
    let b : List ℕ = little_bytes 4 g.pages in
    let c : List ℕ = little_bytes 4 g.blocks in
    k ∙ ap (λ (t : List ℕ). t ++ c) (h ∙ ap (λ (t : List ℕ). t ++ b) (f ∙ ap (λ (t : List ℕ). t ++ a) e))
    ∙ append_assoc ((o ++ magic) ++ a) b c ∙ append_assoc (o ++ magic) a (b ++ c) ∙ append_assoc o magic (a ++ (b ++ c))

abbrev sizes_of : ℕ → ℕ → ℕ → Geometry
sizes_of page pages blocks = record { page = page; pages = pages; blocks = blocks }

sizes-same : (g h : Geometry) → g.page ≡ h.page → g.pages ≡ h.pages → g.blocks ≡ h.blocks → g ≡ h
sizes-same g h page pages blocks =
    ap (λ (n : ℕ). sizes_of n g.pages g.blocks) page ∙ ap (λ (n : ℕ). sizes_of h.page n g.blocks) pages ∙ ap (λ (n : ℕ). sizes_of h.page h.pages n) blocks

pub header-cancel : (g h : Geometry) (u v : List ℕ) → AreSizes g → AreSizes h → header g ++ u ≡ header h ++ v → (g ≡ h) × (u ≡ v)
header-cancel g h u v fit fit' same =
    let all = append_cancel_left magic _ _ (sym (header-then g u) ∙ same ∙ header-then h v) in
    let a = number_cancel 4 g.page h.page _ _ fit.page fit'.page all in
    let b = number_cancel 4 g.pages h.pages _ _ fit.pages fit'.pages a.1 in
    let c = number_cancel 4 g.blocks h.blocks u v fit.blocks fit'.blocks b.1 in
    (sizes-same g h a.0 b.0 c.0, c.1)

pub worn-cancel : (a b : Bool) (u v : List ℕ) → worn_text a ++ u ≡ worn_text b ++ v → (a ≡ b) × (u ≡ v)
worn-cancel true true u v same = (refl, cc)
worn-cancel true false u v same = absurd cc
worn-cancel false true u v same = absurd cc
worn-cancel false false u v same = (refl, cc)

pub page-cancel : (size : ℕ) (p q : Page) (u v : List ℕ) → IsWhole size p → IsWhole size q → page_text p ++ u ≡ page_text q ++ v → (p ≡ q) × (u ≡ v)
page-cancel size erased erased u v whole whole' same = (refl, cc)
page-cancel size erased (bytes_of b) u v whole whole' same = absurd cc
page-cancel size erased unreadable u v whole whole' same = absurd cc
page-cancel size (bytes_of a) erased u v whole whole' same = absurd cc
page-cancel size (bytes_of a) (bytes_of b) u v whole whole' same =
    let rest : a ++ u ≡ b ++ v = cc in
    let both = fronts a b u v (whole ∙ sym whole') rest in
    (ap bytes_of both.0, both.1)
page-cancel size (bytes_of a) unreadable u v whole whole' same = absurd cc
page-cancel size unreadable erased u v whole whole' same = absurd cc
page-cancel size unreadable (bytes_of b) u v whole whole' same = absurd cc
page-cancel size unreadable unreadable u v whole whole' same = (refl, cc)

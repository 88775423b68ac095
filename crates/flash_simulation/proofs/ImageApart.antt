-- No bytes have two faults, and an image has none.
use Rattle.std.proofs.Common.{◌≡◌, ◌≢◌, ◌⊎◌, inl, inr, ℕ, ◌+◌, ◌*◌, ◌<◌, ◌≤◌, Bool, true, false, List, [], ◌∷◌, ◌++◌, length, get_or, refl, sym, ap, subst, ◌∙◌, append_assoc, arith, Result, Ok, Err}
use Rattle.std.specs.Prelude.{MatchResult, IfOk, IfErr}
use Rattle.std.proofs.lemmas.List.{append-nil, length-append, get_or_append_left}
use Rattle.byteorder.specs.Endian.{little_bytes}
use Rattle.flash_model.specs.declared.geometry.Geometry.{Geometry}
use Rattle.flash_model.specs.Geometry.{IsGeometry}
use Rattle.flash_model.specs.Device.{Device, Page, erased, bytes_of, unreadable}
use Rattle.flash_simulation.specs.declared.image_fault.ImageFault.{ImageFault}
use Rattle.flash_simulation.specs.declared.image_fault.ImageFault.TheVariants.{NotImage, BadGeometry, BadState, Truncated, Trailing, Memory}
use Rattle.flash_simulation.specs.Images.{magic, header, parts, page_text, worn_text, place_text, block_text, blocks_text, image_of, before_block, before_page, AreSizes, HasImage, HasOtherMagic, HasOtherSizes, IsPartOf, EndsInside, HasOtherWorn, HasOtherPage, IsLongerImage, IsFault, HoldsTheSame}
use Rattle.flash_simulation.proofs.ImageTexts.{length-header, header-then, header-cancel}
use Rattle.flash_simulation.proofs.ImageStops.{before_block-splits, before_page-splits}
use Rattle.flash_simulation.proofs.ImageOnce.{sizes-fit, image-once, before_block-cancel, before_page-cancel}

-- ---- what the bytes begin with

-- with more behind them the bytes begin with a header of these sizes
record Begins (bytes : List ℕ) (g : Geometry) : Type 0 where
  fit : AreSizes g
  more : List ℕ
  rest : List ℕ
  whole : bytes ++ more ≡ header g ++ rest

-- the same, of lawful sizes
record BeginsLawful (bytes : List ℕ) : Type 0 where
  sizes : Geometry
  lawful : IsGeometry sizes
  begins : Begins bytes sizes

-- the bytes begin with a whole header of lawful sizes
record HasHeader (bytes : List ℕ) : Type 0 where
  sizes : Geometry
  lawful : IsGeometry sizes
  rest : List ℕ
  whole : bytes ≡ header sizes ++ rest

from_header : (bytes : List ℕ) → HasHeader bytes → BeginsLawful bytes
from_header bytes h = record {
  sizes = h.sizes;
  lawful = h.lawful;
  begins = record { fit = sizes-fit h.sizes h.lawful; more = []; rest = h.rest; whole = append-nil bytes ∙ h.whole };
}

-- another byte of the first eight, and a header
not-image : (bytes : List ℕ) (g : Geometry) → HasOtherMagic bytes → Begins bytes g → ⊥
not-image bytes g other begins =
    let i = other.place in
    let here : get_or bytes i 0 ≡ get_or magic i 0 =
    sym (get_or_append_left bytes begins.more 0 i other.inside) ∙ ap (λ (t : List ℕ). get_or t i 0) (begins.whole ∙ header-then g begins.rest)
    ∙ get_or_append_left magic (little_bytes 4 g.page ++ (little_bytes 4 g.pages ++ (little_bytes 4 g.blocks ++ begins.rest))) 0 i other.early in
    other.differs here

-- unlawful sizes, and a lawful header
other-sizes : (bytes : List ℕ) → HasOtherSizes bytes → BeginsLawful bytes → ⊥
other-sizes bytes other h =
    let both : header other.sizes ++ (other.rest ++ h.begins.more) ≡ header h.sizes ++ h.begins.rest =
    sym (append_assoc (header other.sizes) other.rest h.begins.more) ∙ ap (λ (t : List ℕ). t ++ h.begins.more) (sym other.spelled) ∙ h.begins.whole in
    let same = header-cancel other.sizes h.sizes _ _ other.fit h.begins.fit both in
    other.unlawful (subst (λ (g : Geometry). IsGeometry g) (sym same.0) h.lawful)

-- ---- the end in a header

length-some : (xs : List ℕ) → xs ≢ [] → 0 < length xs
length-some [] some = absurd (some refl)
length-some (x ∷ xs) some = omega arith

part-short : (g : Geometry) (bytes : List ℕ) → IsPartOf (header g) bytes → length bytes < 20
part-short g bytes part =
    let len : length (bytes ++ part.more) ≡ length (header g) = ap length part.whole in
    let some : 0 < length part.more = length-some part.more part.some in
    omega (arith, len, length-append bytes part.more, length-header g)

header-long : (bytes rest : List ℕ) (g : Geometry) → bytes ≡ header g ++ rest → 20 ≤ length bytes
header-long bytes rest g whole = omega (arith, ap length whole, length-append (header g) rest, length-header g)

-- ---- images

image-header : (d : Device) (bytes : List ℕ) → HasImage d → bytes ≡ image_of d → HasHeader bytes
image-header d bytes image is = record { sizes = d.geometry; lawful = image.lawful; rest = blocks_text d; whole = is }

more-header : (bytes : List ℕ) → IsLongerImage bytes → HasHeader bytes
more-header bytes g = record {
  sizes = g.flash.geometry;
  lawful = g.image.lawful;
  rest = blocks_text g.flash ++ g.more;
  whole = g.spelled ∙ append_assoc (header g.flash.geometry) (blocks_text g.flash) g.more;
}

worn-header : (bytes : List ℕ) → HasOtherWorn bytes → HasHeader bytes
worn-header bytes w = record {
  sizes = w.flash.geometry;
  lawful = w.image.lawful;
  rest = parts w.block (block_text w.flash) ++ w.byte ∷ w.rest;
  whole = w.spelled ∙ append_assoc (header w.flash.geometry) (parts w.block (block_text w.flash)) (w.byte ∷ w.rest);
}

page-header : (bytes : List ℕ) → HasOtherPage bytes → HasHeader bytes
page-header bytes w =
    let place = worn_text (w.flash.worn w.block) ++ parts w.place (place_text w.flash w.block) in
    record {
      sizes = w.flash.geometry;
      lawful = w.image.lawful;
      rest = parts w.block (block_text w.flash) ++ (place ++ w.byte ∷ w.rest);
      whole = w.spelled ∙ append_assoc (before_block w.flash w.block) place (w.byte ∷ w.rest)
          ∙ append_assoc (header w.flash.geometry) (parts w.block (block_text w.flash)) (place ++ w.byte ∷ w.rest);
    }

state-header : (bytes : List ℕ) → HasOtherWorn bytes ⊎ HasOtherPage bytes → HasHeader bytes
state-header bytes (inl w) = worn-header bytes w
state-header bytes (inr w) = page-header bytes w

part-begins : (d : Device) (bytes : List ℕ) → HasImage d → IsPartOf (image_of d) bytes → BeginsLawful bytes
part-begins d bytes image part = record {
  sizes = d.geometry;
  lawful = image.lawful;
  begins = record { fit = sizes-fit d.geometry image.lawful; more = part.more; rest = blocks_text d; whole = part.whole };
}

-- the end inside, and an image
part-image : (d e : Device) (bytes rest : List ℕ) → HasImage d → IsPartOf (image_of d) bytes → HasImage e → bytes ≡ image_of e ++ rest → ⊥
part-image d e bytes rest image part image' is =
    let both : image_of e ++ (rest ++ part.more) ≡ image_of d ++ [] =
    sym (append_assoc (image_of e) rest part.more) ∙ ap (λ (t : List ℕ). t ++ part.more) (sym is) ∙ part.whole ∙ sym (append-nil (image_of d)) in
    let none : rest ++ part.more ≡ [] = (image-once e d _ _ image' image both).1 in
    let some : 0 < length part.more = length-some part.more part.some in
    let len : length (rest ++ part.more) ≡ 0 = ap length none in
    absurd (omega (arith, len, length-append rest part.more))

-- an image, and more behind an image
image-more : (d : Device) (bytes : List ℕ) → HasImage d → bytes ≡ image_of d → IsLongerImage bytes → ⊥
image-more d bytes image is g =
    let both : image_of g.flash ++ g.more ≡ image_of d ++ [] = sym g.spelled ∙ is ∙ sym (append-nil (image_of d)) in
    g.some (image-once g.flash d _ _ g.image image both).1

-- an unknown byte is none of a worn block
other-worn : (worn : Bool) (byte : ℕ) (u v : List ℕ) → 1 < byte → byte ∷ u ≡ worn_text worn ++ v → ⊥
other-worn true byte u v unknown same = let b : byte ≡ 1 = cc in absurd (omega arith)
other-worn false byte u v unknown same = let b : byte ≡ 0 = cc in absurd (omega arith)

-- an unknown byte is none of a page
other-page : (page : Page) (byte : ℕ) (u v : List ℕ) → 2 < byte → byte ∷ u ≡ page_text page ++ v → ⊥
other-page erased byte u v unknown same = let b : byte ≡ 0 = cc in absurd (omega arith)
other-page (bytes_of bytes) byte u v unknown same = let b : byte ≡ 1 = cc in absurd (omega arith)
other-page unreadable byte u v unknown same = let b : byte ≡ 2 = cc in absurd (omega arith)

-- an unknown byte for a worn block, and an image
worn-image : (d : Device) (bytes more rest : List ℕ) → HasOtherWorn bytes → HasImage d → bytes ++ more ≡ image_of d ++ rest → ⊥
unfolding worn-header
worn-image d bytes more rest w image is =
    let e = w.flash in
    let b = w.block in
    let header' = worn-header bytes w in
    let whole : header e.geometry ++ (header'.rest ++ more) ≡ header d.geometry ++ (blocks_text d ++ rest) =
    sym (append_assoc (header e.geometry) header'.rest more) ∙ ap (λ (t : List ℕ). t ++ more) (sym header'.whole) ∙ is ∙ append_assoc (header d.geometry) (blocks_text d) rest in
    let sizes = (header-cancel e.geometry d.geometry _ _ (sizes-fit e.geometry w.image.lawful) (sizes-fit d.geometry image.lawful) whole).0 in
    let inside : b < d.geometry.blocks = subst (λ (g : Geometry). b < g.blocks) sizes w.in_flash in
    let split = before_block-splits d b inside in
    let both : before_block e b ++ (w.byte ∷ (w.rest ++ more)) ≡ before_block d b ++ ((block_text d b ++ split.0) ++ rest) =
    sym (append_assoc (before_block e b) (w.byte ∷ w.rest) more) ∙ ap (λ (t : List ℕ). t ++ more) (sym w.spelled) ∙ is ∙ ap (λ (t : List ℕ). t ++ rest) split.1
    ∙ append_assoc (before_block d b) (block_text d b ++ split.0) rest in
    let same = (before_block-cancel e d b _ _ w.image image w.in_flash both).1 in
    other-worn (d.worn b) w.byte (w.rest ++ more) ((parts d.geometry.pages (place_text d b) ++ split.0) ++ rest) w.unknown (same ∙ simp append_assoc)

-- an unknown byte for a page, and an image
page-image : (d : Device) (bytes more rest : List ℕ) → HasOtherPage bytes → HasImage d → bytes ++ more ≡ image_of d ++ rest → ⊥
unfolding page-header
page-image d bytes more rest w image is =
    let e = w.flash in
    let b = w.block in
    let j = w.place in
    let header' = page-header bytes w in
    let whole : header e.geometry ++ (header'.rest ++ more) ≡ header d.geometry ++ (blocks_text d ++ rest) =
    sym (append_assoc (header e.geometry) header'.rest more) ∙ ap (λ (t : List ℕ). t ++ more) (sym header'.whole) ∙ is ∙ append_assoc (header d.geometry) (blocks_text d) rest in
    let sizes = (header-cancel e.geometry d.geometry _ _ (sizes-fit e.geometry w.image.lawful) (sizes-fit d.geometry image.lawful) whole).0 in
    let inside : b < d.geometry.blocks = subst (λ (g : Geometry). b < g.blocks) sizes w.in_flash in
    let in_block : j < d.geometry.pages = subst (λ (g : Geometry). j < g.pages) sizes w.in_block in
    let split = before_page-splits d b j inside in_block in
    let both : before_page e b j ++ (w.byte ∷ (w.rest ++ more)) ≡ before_page d b j ++ ((place_text d b j ++ split.0) ++ rest) =
    sym (append_assoc (before_page e b j) (w.byte ∷ w.rest) more) ∙ ap (λ (t : List ℕ). t ++ more) (sym w.spelled) ∙ is ∙ ap (λ (t : List ℕ). t ++ rest) split.1
    ∙ append_assoc (before_page d b j) (place_text d b j ++ split.0) rest in
    let same = before_page-cancel e d b j _ _ w.image image w.in_flash w.in_block both in
    other-page (d.pages (b * d.geometry.pages + j)) w.byte (w.rest ++ more) (split.0 ++ rest) w.unknown (same ∙ append_assoc (place_text d b j) split.0 rest)

state-image : (d : Device) (bytes more rest : List ℕ) → HasOtherWorn bytes ⊎ HasOtherPage bytes → HasImage d → bytes ++ more ≡ image_of d ++ rest → ⊥
state-image d bytes more rest (inl w) image is = worn-image d bytes more rest w image is
state-image d bytes more rest (inr w) image is = page-image d bytes more rest w image is

-- ---- pairs

part-magic : (bytes : List ℕ) → HasOtherMagic bytes → EndsInside bytes → ⊥
part-magic bytes other (inl p) = not-image bytes p.0 other (record { fit = p.1; more = p.2.more; rest = []; whole = p.2.whole ∙ sym (append-nil (header p.0)) })
part-magic bytes other (inr p) = let b = part-begins p.0 bytes p.1 p.2 in not-image bytes b.sizes other b.begins

header-magic : (bytes : List ℕ) → HasOtherMagic bytes → HasHeader bytes → ⊥
header-magic bytes other h = let b = from_header bytes h in not-image bytes b.sizes other b.begins

sizes-magic : (bytes : List ℕ) → HasOtherMagic bytes → HasOtherSizes bytes → ⊥
sizes-magic bytes other s = not-image bytes s.sizes other (record { fit = s.fit; more = []; rest = s.rest; whole = append-nil bytes ∙ s.spelled })

header-sizes : (bytes : List ℕ) → HasOtherSizes bytes → HasHeader bytes → ⊥
header-sizes bytes s h = other-sizes bytes s (from_header bytes h)

part-sizes : (bytes : List ℕ) → HasOtherSizes bytes → EndsInside bytes → ⊥
part-sizes bytes s (inl p) = absurd (omega (arith, part-short p.0 bytes p.2, header-long bytes s.rest s.sizes s.spelled))
part-sizes bytes s (inr p) = other-sizes bytes s (part-begins p.0 bytes p.1 p.2)

part-state : (bytes : List ℕ) → EndsInside bytes → HasOtherWorn bytes ⊎ HasOtherPage bytes → ⊥
part-state bytes (inl p) s = let h = state-header bytes s in absurd (omega (arith, part-short p.0 bytes p.2, header-long bytes h.rest h.sizes h.whole))
part-state bytes (inr p) s = state-image p.0 bytes p.2.more [] s p.1 (p.2.whole ∙ sym (append-nil (image_of p.0)))

part-more : (bytes : List ℕ) → EndsInside bytes → IsLongerImage bytes → ⊥
part-more bytes (inl p) g = let h = more-header bytes g in absurd (omega (arith, part-short p.0 bytes p.2, header-long bytes h.rest h.sizes h.whole))
part-more bytes (inr p) g = part-image p.0 g.flash bytes g.more p.1 p.2 g.image g.spelled

more-state : (bytes : List ℕ) → IsLongerImage bytes → HasOtherWorn bytes ⊎ HasOtherPage bytes → ⊥
more-state bytes g s = state-image g.flash bytes [] g.more s g.image (append-nil bytes ∙ g.spelled)

-- bytes have one fault at most
pub one_fault : (f g : ImageFault) (bytes : List ℕ) → IsFault f bytes → IsFault g bytes → f ≡ g
one_fault Memory g bytes a b = absurd a
one_fault NotImage Memory bytes a b = absurd b
one_fault NotImage NotImage bytes a b = refl
one_fault NotImage BadGeometry bytes a b = absurd (sizes-magic bytes a b)
one_fault NotImage BadState bytes a b = absurd (header-magic bytes a (state-header bytes b))
one_fault NotImage Truncated bytes a b = absurd (part-magic bytes a b)
one_fault NotImage Trailing bytes a b = absurd (header-magic bytes a (more-header bytes b))
one_fault BadGeometry Memory bytes a b = absurd b
one_fault BadGeometry NotImage bytes a b = absurd (sizes-magic bytes b a)
one_fault BadGeometry BadGeometry bytes a b = refl
one_fault BadGeometry BadState bytes a b = absurd (header-sizes bytes a (state-header bytes b))
one_fault BadGeometry Truncated bytes a b = absurd (part-sizes bytes a b)
one_fault BadGeometry Trailing bytes a b = absurd (header-sizes bytes a (more-header bytes b))
one_fault BadState Memory bytes a b = absurd b
one_fault BadState NotImage bytes a b = absurd (header-magic bytes b (state-header bytes a))
one_fault BadState BadGeometry bytes a b = absurd (header-sizes bytes b (state-header bytes a))
one_fault BadState BadState bytes a b = refl
one_fault BadState Truncated bytes a b = absurd (part-state bytes b a)
one_fault BadState Trailing bytes a b = absurd (more-state bytes b a)
one_fault Truncated Memory bytes a b = absurd b
one_fault Truncated NotImage bytes a b = absurd (part-magic bytes b a)
one_fault Truncated BadGeometry bytes a b = absurd (part-sizes bytes b a)
one_fault Truncated BadState bytes a b = absurd (part-state bytes a b)
one_fault Truncated Truncated bytes a b = refl
one_fault Truncated Trailing bytes a b = absurd (part-more bytes a b)
one_fault Trailing Memory bytes a b = absurd b
one_fault Trailing NotImage bytes a b = absurd (header-magic bytes b (more-header bytes a))
one_fault Trailing BadGeometry bytes a b = absurd (header-sizes bytes b (more-header bytes a))
one_fault Trailing BadState bytes a b = absurd (more-state bytes a b)
one_fault Trailing Truncated bytes a b = absurd (part-more bytes b a)
one_fault Trailing Trailing bytes a b = refl

-- an image has no fault
pub no_fault : (d : Device) (f : ImageFault) (bytes : List ℕ) → HasImage d → bytes ≡ image_of d → IsFault f bytes → ⊥
no_fault d NotImage bytes image is f = header-magic bytes f (image-header d bytes image is)
no_fault d BadGeometry bytes image is f = header-sizes bytes f (image-header d bytes image is)
no_fault d BadState bytes image is f = state-image d bytes [] [] f image (append-nil bytes ∙ is ∙ sym (append-nil (image_of d)))
no_fault d Truncated bytes image is (inl p) = let h = image-header d bytes image is in absurd (omega (arith, part-short p.0 bytes p.2, header-long bytes h.rest h.sizes h.whole))
no_fault d Truncated bytes image is (inr p) = part-image p.0 d bytes [] p.1 p.2 image (is ∙ sym (append-nil (image_of d)))
no_fault d Trailing bytes image is f = image-more d bytes image is f
no_fault d Memory bytes image is f = f

-- a result that is an image's, or the fault of the bytes, is so wherever the bytes are an image
pub image-read : {F : Type 0} (view : F → Device) (r : Result F ImageFault) (bytes : List ℕ) → ((flash : F) → HasImage (view flash))
    → IfOk r (λ flash. bytes ≡ image_of (view flash)) → IfErr r (λ fault. (fault ≡ Memory) ⊎ IsFault fault bytes)
    → (d : Device) → HasImage d → bytes ≡ image_of d → MatchResult r (λ flash. HoldsTheSame d (view flash)) (λ fault. fault ≡ Memory)
image-read view (Ok flash) bytes images spelled wrong d image is =
    (image-once d (view flash) [] [] image (images flash) (ap (λ (t : List ℕ). t ++ []) (sym is ∙ spelled))).0
image-read view (Err fault) bytes images spelled (inl memory) d image is = memory
image-read view (Err fault) bytes images spelled (inr wrong) d image is = absurd (no_fault d fault bytes image is wrong)

-- and so wherever they have a fault
pub fault-found : {F : Type 0} (view : F → Device) (r : Result F ImageFault) (bytes : List ℕ) → ((flash : F) → HasImage (view flash))
    → IfOk r (λ flash. bytes ≡ image_of (view flash)) → IfErr r (λ fault. (fault ≡ Memory) ⊎ IsFault fault bytes)
    → (fault : ImageFault) → IsFault fault bytes → MatchResult r (λ flash. ⊥) (λ found. (found ≡ Memory) ⊎ (found ≡ fault))
fault-found view (Ok flash) bytes images spelled wrong fault is = no_fault (view flash) fault bytes (images flash) spelled is
fault-found view (Err found) bytes images spelled (inl memory) fault is = inl memory
fault-found view (Err found) bytes images spelled (inr wrong) fault is = inr (one_fault found fault bytes wrong is)

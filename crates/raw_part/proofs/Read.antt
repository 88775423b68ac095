-- The pages of a part, read one after the other.
use Rattle.std.proofs.Common.{◌≡◌, ℕ, ◌+◌, ◌*◌, ◌<◌, ◌≤◌, false, List, length, drop, sym, ap, subst, ◌∙◌, inl, inr, arith}
use Rattle.std.proofs.lemmas.Bool.{cases_lt}
use Rattle.std.proofs.lemmas.List.{length-take-le, length-drop}
use Rattle.flash_model.specs.declared.geometry.Geometry.{Geometry}
use Rattle.flash_model.specs.Contents.{PutsPage}
use Rattle.flash_model.specs.Device.{Device, Page}
use Rattle.flash_model.specs.Geometry.{IsGeometry, page_count}
use Rattle.flash_simulation.specs.Simulation.{IsNew}
use Rattle.flash_simulation.specs.Images.{IsFresh}
use Rattle.raw_part.specs.Layouts.{page_in, pages_of, part_block, sizes_of}
use Rattle.raw_part.specs.Raws.{held_in, IsRawFlash}
use Rattle.raw_part.specs.declared.part_layout.PartLayout.{PartLayout}

-- a page of the part has 256 bytes
pub held-length : (bytes : List ℕ) (n : ℕ) → 256 * n + 256 ≤ length bytes → length (held_in bytes n) ≡ 256
held-length bytes n inside = length-take-le 256 (drop (256 * n) bytes) (omega (arith, length-drop (256 * n) bytes, inside))

-- the first pages are read
pub record HasRead (layout : PartLayout) (blocks : ℕ) (bytes : List ℕ) (d : Device) (n : ℕ) : Type 0 where
  pub geometry : d.geometry ≡ sizes_of layout blocks
  pub fresh : IsFresh d
  pub unworn : (b : ℕ) → d.worn b ≡ false
  pub pages : (p : ℕ) → p < n → page_in layout (held_in bytes) p ≡ d.pages p

pub none_read : (layout : PartLayout) (blocks : ℕ) (bytes : List ℕ) (d : Device) → IsNew (sizes_of layout blocks) d → HasRead layout blocks bytes d 0
none_read layout blocks bytes d new = record {
  geometry = new.geometry;
  fresh = record { powered = new.powered; failed_reads = new.failed_reads; failures = new.failures; cuts = new.cuts; operations = new.operations };
  unworn = new.worn;
  pages = λ p low. absurd (omega arith);
}

fresh_after : (d e : Device) → e ≡ record d { pages = e.pages } → IsFresh d → IsFresh e
fresh_after d e rest fresh = record {
  powered = ap (λ (x : Device). x.powered) rest ∙ fresh.powered;
  failed_reads = ap (λ (x : Device). x.failed_reads) rest ∙ fresh.failed_reads;
  failures = ap (λ (x : Device). x.failures) rest ∙ fresh.failures;
  cuts = ap (λ (x : Device). x.cuts) rest ∙ fresh.cuts;
  operations = ap (λ (x : Device). x.operations) rest ∙ fresh.operations;
}

pub one_read : (layout : PartLayout) (blocks : ℕ) (bytes : List ℕ) (d e : Device) (n : ℕ) (page : Page) → HasRead layout blocks bytes d n → page ≡ page_in layout (held_in bytes) n
    → PutsPage d n page e → HasRead layout blocks bytes e (n + 1)
one_read layout blocks bytes d e n page so_far is puts = record {
  geometry = ap (λ (x : Device). x.geometry) puts.rest ∙ so_far.geometry;
  fresh = fresh_after d e puts.rest so_far.fresh;
  unworn = λ b. ap (λ (x : Device). x.worn b) puts.rest ∙ so_far.unworn b;
  pages = λ p low. elim (cases_lt p n) [
    | inl less ↦ so_far.pages p less ∙ sym (puts.others p (λ same. absurd (omega (arith, same, less))))
    | inr more ↦ let here : p ≡ n = omega (arith, low, more) in subst (λ q. page_in layout (held_in bytes) q ≡ e.pages q) (sym here) (sym is ∙ sym puts.own)
  ];
}

pub all_read : (layout : PartLayout) (blocks : ℕ) (bytes : List ℕ) (d : Device) (n : ℕ) → HasRead layout blocks bytes d n → IsGeometry (sizes_of layout blocks)
    → length bytes ≡ part_block layout * blocks → blocks * pages_of layout ≤ n → IsRawFlash layout bytes d
all_read layout blocks bytes d n so_far lawful long end =
    let is : d.geometry ≡ sizes_of layout blocks = so_far.geometry in
    let count : d.geometry.blocks ≡ blocks = ap (λ (g : Geometry). g.blocks) is in
    record {
      fresh = so_far.fresh;
      unworn = so_far.unworn;
      raw = record {
        lawful = subst IsGeometry (sym is) lawful;
        sizes = is ∙ ap (sizes_of layout) (sym count);
        len = long ∙ ap (λ (k : ℕ). part_block layout * k) (sym count);
        pages = λ p below.
            let inside : p < blocks * pages_of layout = subst (λ (k : ℕ). p < k) (ap page_count is) below in
            so_far.pages p (omega (arith, inside, end));
      };
    }

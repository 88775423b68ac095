-- Each page with data in a flash in memory has the bytes of a whole page.
use Rattle.std.specs.Prelude.{◌≡◌, ℕ, ◌*◌, List, length, slice_index_or}
use Rattle.std.specs.Fork.{slice_chunk}
use Rattle.std.proofs.Common.{inl, inr, sym, ap, ◌∙◌}
use Rattle.std.proofs.lemmas.Bool.{cases_lt}
use Rattle.std.proofs.Math.ListN.{get_or-eq_default}
use Rattle.flash_model.specs.declared.flash.PageState.{PageState}
use Rattle.flash_model.specs.declared.flash.PageState.TheVariants.{Erased, Data, Unreadable}
use Rattle.flash_simulation.specs.declared.sim_pages.SimPages.{SimPages}
use Rattle.flash_simulation.specs.declared.sim_flash.SimFlash.{SimFlash}
use Rattle.flash_model.specs.Device.{bytes_of}
use Rattle.flash_simulation.specs.Stored.{page_at}
use Rattle.flash_model.specs.Contents.{page_of}
use Rattle.flash_simulation.specs.StoredLaws.{length-chunk}

length-page : (state : PageState) (held bytes : List ℕ) → page_of state held ≡ bytes_of bytes → length bytes ≡ length held
length-page Erased held bytes same = cc
length-page Data held bytes same = cc
length-page Unreadable held bytes same = cc

length-stored : (pages : SimPages) (p : ℕ) (bytes : List ℕ) → page_at pages p ≡ bytes_of bytes → length bytes ≡ pages.size
length-stored pages p bytes same = elim (cases_lt p (length pages.states.items)) [
  | inl below ↦
      length-page (slice_index_or pages.states.items p Erased) (slice_chunk pages.bytes.items pages.size p) bytes same
      ∙ length-chunk pages.bytes.items pages.size (length pages.states.items) p (sym pages.bytes.ok.0 ∙ pages.room ∙ ap (λ (n : ℕ). n * pages.size) pages.states.ok.0) below
  | inr past ↦
      let state = get_or-eq_default pages.states.items Erased past in
      let none : page_of Erased (slice_chunk pages.bytes.items pages.size p) ≡ bytes_of bytes =
      ap (λ (s : PageState). page_of s (slice_chunk pages.bytes.items pages.size p)) (sym state) ∙ same in
      absurd cc
]

pub whole_pages_of : (flash : SimFlash) (p : ℕ) (bytes : List ℕ) → page_at flash.pages p ≡ bytes_of bytes → length bytes ≡ flash.geometry.page
whole_pages_of flash p bytes same = length-stored flash.pages p bytes same ∙ flash.whole_pages

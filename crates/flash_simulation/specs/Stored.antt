-- The pages of a flash in memory.
use Rattle.std.specs.Prelude.{◌≡◌, ◌≢◌, ℕ, ◌/◌, ◌%◌, ◌==◌, List, slice_index_or, vec_len, Option, Some, None, if◌then◌else◌}
use Rattle.std.specs.Fork.{slice_chunk}
use Rattle.flash_model.specs.declared.flash.PageState.TheVariants.{Erased}
use Rattle.flash_model.specs.declared.fault_kind.FaultKind.{FaultKind}
use Rattle.flash_model.specs.declared.fault_kind.FaultKind.TheVariants.{ProgramCutNone, ProgramCutWhole, EraseCutNone, EraseCutWhole}
use Rattle.flash_simulation.specs.declared.sim_pages.SimPages.{SimPages}
use Rattle.flash_model.specs.Contents.{page_of}
use Rattle.flash_model.specs.Device.{Page, erased, bytes_of, unreadable}

-- the page of a number; past the last one they are erased
abbrev pub page_at : SimPages → ℕ → Page
page_at pages p = page_of (slice_index_or pages.states.items p Erased) (slice_chunk pages.bytes.items pages.size p)

-- the page of a number is this one, and nothing else changes
pub record SetsPage (old : SimPages) (number : ℕ) (page : Page) (new : SimPages) : Type 0 where
  pub own : page_at new number ≡ page
  pub others : (p : ℕ) → p ≢ number → page_at new p ≡ page_at old p
  pub count : vec_len new.states ≡ vec_len old.states
  pub size : new.size ≡ old.size

-- a programmed page, by what befalls the program: a failure and a torn cut spoil it
abbrev pub programmed : Option FaultKind → Page → List ℕ → Page
programmed None was bytes = bytes_of bytes
programmed (Some ProgramCutNone) was bytes = was
programmed (Some ProgramCutWhole) was bytes = bytes_of bytes
programmed (Some _) was bytes = unreadable

-- the page at a place of an erased block, by what befalls the erase: a failure and a torn cut spoil those of even place
abbrev pub erased_to : Option FaultKind → ℕ → Page → Page
erased_to None place was = erased
erased_to (Some EraseCutNone) place was = was
erased_to (Some EraseCutWhole) place was = erased
erased_to (Some _) place was = if place % 2 == 0 then unreadable else was

-- the pages of a block, of so many each, change by what befalls its erase, and no other page does
pub record ErasesPages (old : ℕ → Page) (count b : ℕ) (due : Option FaultKind) (new : ℕ → Page) : Type 0 where
  pub others : (p : ℕ) → p / count ≢ b → new p ≡ old p
  pub own : (p : ℕ) → p / count ≡ b → new p ≡ erased_to due (p % count) (old p)

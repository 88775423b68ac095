-- What a flash holds, put there by no operation.
use Rattle.std.specs.Prelude.{◌≡◌, ◌≢◌, ℕ, List, length, Bool}
use Rattle.flash_model.specs.declared.flash.PageState.{PageState}
use Rattle.flash_model.specs.declared.flash.PageState.TheVariants.{Erased, Data, Unreadable}
use Rattle.flash_model.specs.declared.page_view.PageView.{PageView}
use Rattle.flash_model.specs.declared.page_view.PageView.TheVariants as view
use Rattle.flash_model.specs.Device.{Device, Page, erased, bytes_of, unreadable}

-- a page with data has this many bytes
abbrev pub IsWhole : ℕ → Page → Type 0
IsWhole n erased = Unit {0}
IsWhole n (bytes_of bytes) = length bytes ≡ n
IsWhole n unreadable = Unit {0}

-- a page is in the place of what it held, and nothing else changes
pub record PutsPage (old : Device) (p : ℕ) (page : Page) (new : Device) : Type 0 where
  pub own : new.pages p ≡ page
  pub others : (q : ℕ) → q ≢ p → new.pages q ≡ old.pages q
  pub rest : new ≡ record old { pages = new.pages }

-- a block is worn or not, as said, and nothing else changes
pub record PutsWear (old : Device) (b : ℕ) (worn : Bool) (new : Device) : Type 0 where
  pub own : new.worn b ≡ worn
  pub others : (c : ℕ) → c ≢ b → new.worn c ≡ old.worn c
  pub rest : new ≡ record old { worn = new.worn }

-- the page of this state whose room holds these bytes
abbrev pub page_of : PageState → List ℕ → Page
page_of Erased bytes = erased
page_of Data bytes = bytes_of bytes
page_of Unreadable bytes = unreadable

-- what a view of a page shows
abbrev pub shown_page : PageView → Page
shown_page view.Erased = erased
shown_page (view.Data bytes) = bytes_of bytes.now
shown_page view.Unreadable = unreadable

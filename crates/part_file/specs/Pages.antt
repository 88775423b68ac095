-- What the bytes of a part say that a flash holds.
use Rattle.std.specs.Prelude.{◌≡◌, ℕ, ◌<◌, ◌≤◌, Bool, false, List, [], ◌∷◌, length, take, drop, Option, None, Some, IfSome}
use Rattle.flash_model.specs.declared.geometry.Geometry.{Geometry}
use Rattle.flash_model.specs.declared.flash.PageState.{PageState}
use Rattle.flash_model.specs.declared.flash.PageState.TheVariants.{Erased, Data, Unreadable}
use Rattle.flash_model.specs.Geometry.{page_count}
use Rattle.flash_model.specs.Device.{Device, Page, erased, bytes_of, unreadable}
use Rattle.host_interface.specs.Steps.{overwritten}
use Rattle.part_file.specs.declared.part_file.PartFault.{PartFault}
use Rattle.part_file.specs.Layout.{IsHead, state_place, data_place, part_length}

-- the byte of a state
abbrev pub state_code : PageState → ℕ
state_code Erased = 0
state_code Data = 1
state_code Unreadable = 2

-- the byte of a page's state
abbrev pub HasState : List ℕ → ℕ → ℕ → Type 0
HasState bytes p state = take 1 (drop (state_place p) bytes) ≡ state ∷ []

-- a page stands there: its state, and its bytes where it has data
abbrev pub HasPage : List ℕ → Geometry → ℕ → Page → Type 0
HasPage bytes g p erased = HasState bytes p 0
HasPage bytes g p (bytes_of content) = HasState bytes p 1 × (take g.page (drop (data_place g p) bytes) ≡ content)
HasPage bytes g p unreadable = HasState bytes p 2

-- bytes of a part into which a page is put that was erased there
abbrev pub page_put : Geometry → ℕ → Page → List ℕ → List ℕ
page_put g p erased bytes = bytes
page_put g p (bytes_of content) bytes = overwritten (state_place p) (1 ∷ []) (overwritten (data_place g p) content bytes)
page_put g p unreadable bytes = overwritten (state_place p) (2 ∷ []) bytes

-- why a part is not opened: its head cannot be read, begins with another word, or has sizes that are not lawful
abbrev pub IsHeadFault : PartFault → Type 0
IsHeadFault PartFault.Read = Unit {0}
IsHeadFault PartFault.NotPart = Unit {0}
IsHeadFault PartFault.BadGeometry = Unit {0}
IsHeadFault _ = ⊥

-- why the pages of a part are not read: one of them cannot be, or has a state that is none; or for want of memory
abbrev pub IsUnreadPart : Geometry → PartFault → Type 0
IsUnreadPart g (PartFault.Page page) = page < page_count g
IsUnreadPart g PartFault.BadState = Unit {0}
IsUnreadPart g PartFault.Memory = Unit {0}
IsUnreadPart g _ = ⊥

-- each page stands there, and the bytes go up to the end of the last one
pub record HasPages (d : Device) (bytes : List ℕ) : Type 0 where
  pub whole : part_length d.geometry ≤ length bytes
  pub pages : (p : ℕ) → p < page_count d.geometry → HasPage bytes d.geometry p (d.pages p)

-- the bytes are the part of a flash: the head has its sizes, and its pages stand there
pub record IsPart (d : Device) (bytes : List ℕ) : Type 0 where
  pub head : IsHead (take 20 bytes) d.geometry
  pub content : HasPages d bytes

-- bytes that were the part of a flash are that of what it has become, where they are known
abbrev pub KeepsPart : Option (List ℕ) → Device → Option (List ℕ) → Device → Type 0
KeepsPart old d new e = IfSome old (λ bytes. IsPart d bytes → IfSome new (IsPart e))

-- bytes of a part changed in some of its pages alone: there are as many, and its head and all other pages are as before
pub record KeepsOthers (g : Geometry) (is_own : ℕ → Type 0) (old new : List ℕ) : Type 0 where
  pub long : length new ≡ length old
  pub head : take 20 new ≡ take 20 old
  pub pages : (q : ℕ) → q < page_count g → (is_own q → ⊥) → (page : Page) → HasPage old g q page → HasPage new g q page

-- this is so of whole parts, where the bytes are known; what is not known stays unknown
abbrev pub KeepsOtherPages : Geometry → (ℕ → Type 0) → Option (List ℕ) → Option (List ℕ) → Type 0
KeepsOtherPages g is_own None new = new ≡ None
KeepsOtherPages g is_own (Some old) None = ⊥
KeepsOtherPages g is_own (Some old) (Some new) = part_length g ≤ length old → KeepsOthers g is_own old new

-- while a driver is not lost, the bytes behind it are the part of a flash, where they are known
abbrev pub HoldsPart : Bool → Option (List ℕ) → Device → Type 0
HoldsPart lost held d = lost ≡ false → IfSome held (IsPart d)

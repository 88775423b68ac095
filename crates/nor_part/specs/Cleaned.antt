-- The blocks of a part that were erased, as was answered, and not programmed since.
use Rattle.std.specs.Prelude.{◌≡◌, ℕ, ◌/◌, List, Bool, true, false, slice_index_or}
use Rattle.flash_model.specs.Device.{erased}
use Rattle.nor_part.specs.Layout.{page_in}

-- each page of such a block is erased
abbrev pub AreClean : (ℕ → List ℕ) → List Bool → Type 0
AreClean held cleaned = (b : ℕ) → slice_index_or cleaned b false ≡ true → (p : ℕ) → p / 16 ≡ b → page_in held p ≡ erased

-- The blocks of a part that were erased, as was answered, and not programmed since.
use Rattle.std.specs.Prelude.{◌≡◌, ℕ, ◌/◌, List, Bool, true, false, slice_index_or}
use Rattle.flash_model.specs.Device.{erased}
use Rattle.dense_nor.specs.Layout.{data_pages, page_in}

-- each page of such a block is erased
abbrev pub AreClean : ℕ → (ℕ → List ℕ) → List Bool → Type 0
AreClean n held cleaned = (b : ℕ) → slice_index_or cleaned b false ≡ true → (p : ℕ) → p / data_pages n ≡ b → page_in n held p ≡ erased

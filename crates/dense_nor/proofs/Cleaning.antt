-- Blocks that were cleaned stay so until they are programmed.
use Rattle.std.proofs.Common.{◌≡◌, ◌≢◌, ◌∙◌, ℕ, ◌/◌, List, Bool, true, false, sym, ap, inl, inr}
use Rattle.std.specs.Prelude.{slice_index_or}
use Rattle.std.proofs.lemmas.Bool.{cases_eq}
use Rattle.flash_model.specs.Device.{erased}
use Rattle.dense_nor.specs.Cleaned.{AreClean}
use Rattle.dense_nor.specs.Layout.{data_pages, page_in}

-- one block was noted, in which alone pages changed
pub noted : (n : ℕ) (held now : ℕ → List ℕ) (was after : List Bool) (b : ℕ) (x : Bool) → AreClean n held was
    → ((p : ℕ) → p / data_pages n ≢ b → page_in n now p ≡ page_in n held p) → slice_index_or after b false ≡ x
    → (x ≡ true → (p : ℕ) → p / data_pages n ≡ b → page_in n now p ≡ erased)
    → ((c : ℕ) → c ≢ b → slice_index_or after c false ≡ slice_index_or was c false) → AreClean n now after
noted n held now was after b x clean others own erases rest c is p here = elim (cases_eq c b) [
  | inl same ↦ erases (sym own ∙ ap (λ (k : ℕ). slice_index_or after k false) (sym same) ∙ is) p (here ∙ same)
  | inr apart ↦ others p (λ there. apart (sym here ∙ there)) ∙ clean c (sym (rest c apart) ∙ is) p here
]

-- An erase of a block, page by page.
use Rattle.std.proofs.Common.{◌≡◌, ◌≢◌, ◌⊎◌, inl, inr, ℕ, ◌+◌, ◌*◌, ◌/◌, ◌%◌, ◌<◌, ◌≤◌, Option, sym, ap, ◌∙◌, subst, arith}
use Rattle.std.proofs.lemmas.Bool.{cases_lt}
use Rattle.std.proofs.lemmas.Nat.{div-mul-add, mod-mul-add, div-add-mod'}
use Rattle.flash_model.specs.declared.fault_kind.FaultKind.{FaultKind}
use Rattle.flash_model.specs.Device.{Page}
use Rattle.flash_simulation.specs.Stored.{erased_to}

-- the pages of a block below a place are erased, and nothing else changed
pub record ErasedBelow (xs ys : ℕ → Page) (block count i : ℕ) (due : Option FaultKind) : Type 0 where
  pub others : (p : ℕ) → p / count ≢ block → ys p ≡ xs p
  pub below : (p : ℕ) → p / count ≡ block → p % count < i → ys p ≡ erased_to due (p % count) (xs p)
  pub ahead : (p : ℕ) → p / count ≡ block → i ≤ p % count → ys p ≡ xs p

-- one page of a block is erased, and nothing else changes
pub record ErasesPage (ys zs : ℕ → Page) (number place : ℕ) (due : Option FaultKind) : Type 0 where
  pub others : (p : ℕ) → p ≢ number → zs p ≡ ys p
  pub own : zs number ≡ erased_to due place (ys number)

number-is : (p block count i : ℕ) → p / count ≡ block → p % count ≡ i → p ≡ block * count + i
number-is p block count i row place = sym (div-add-mod' p count) ∙ ap (λ b. b * count + p % count) row ∙ ap (λ j. block * count + j) place

-- a page at the place i
here : (xs ys zs : ℕ → Page) (block count i : ℕ) (due : Option FaultKind)
    → ErasedBelow xs ys block count i due → ErasesPage ys zs (block * count + i) i due
    → (p : ℕ) → p / count ≡ block → p % count ≡ i → zs p ≡ erased_to due (p % count) (xs p)
here xs ys zs block count i due so_far step p row place =
    let number = number-is p block count i row place in
    let before : ys p ≡ xs p = so_far.ahead p row (omega (arith, place)) in
    let own : zs p ≡ erased_to due i (ys p) =
    let P : ℕ → Type 0 = λ q. zs q ≡ erased_to due i (ys q) in subst P (sym number) step.own in
    own ∙ ap (erased_to due i) before ∙ ap (λ j. erased_to due j (xs p)) (sym place)

-- another page
elsewhere : (ys zs : ℕ → Page) (block count i : ℕ) (due : Option FaultKind) → i < count
    → ErasesPage ys zs (block * count + i) i due → (p : ℕ) → (p / count ≡ block → p % count ≡ i → ⊥) → zs p ≡ ys p
elsewhere ys zs block count i due small step p apart =
    step.others p (λ same. apart (ap (λ q. q / count) same ∙ div-mul-add block count i small)
    (ap (λ q. q % count) same ∙ mod-mul-add block count i small))

pub ErasedBelow-more : (xs ys zs : ℕ → Page) (block count i : ℕ) (due : Option FaultKind) → i < count
    → ErasedBelow xs ys block count i due → ErasesPage ys zs (block * count + i) i due → ErasedBelow xs zs block count (i + 1) due
ErasedBelow-more xs ys zs block count i due small so_far step = record {
  others = λ p far. elsewhere ys zs block count i due small step p (λ row _. far row) ∙ so_far.others p far;
  below = λ p row low. elim (split p low) [
    | inl less ↦ elsewhere ys zs block count i due small step p (λ _ place. absurd (omega (arith, less, place))) ∙ so_far.below p row less
    | inr place ↦ here xs ys zs block count i due so_far step p row place
  ];
  ahead = λ p row high. elsewhere ys zs block count i due small step p (λ _ place. absurd (omega (arith, high, place))) ∙ so_far.ahead p row (omega (arith, high));
}
  where
    split : (p : ℕ) → p % count < i + 1 → (p % count < i) ⊎ (p % count ≡ i)
    split p low = elim (cases_lt (p % count) i) [ inl less ↦ inl less | inr more ↦ inr (omega (arith, more, low)) ]

-- The pages of a block, set one after the other.
use Rattle.std.proofs.Common.{◌≡◌, ◌≢◌, ℕ, ◌+◌, ◌*◌, ◌%◌, ◌<◌, sym, ap, subst, ◌∙◌, refl, inl, inr, arith}
use Rattle.std.proofs.lemmas.Bool.{cases_lt}
use Rattle.flash_model.specs.Device.{Device, Page, block_of}
use Rattle.flash_model.specs.Contents.{PutsPage}
use Rattle.flash_model.specs.Blocks.{block_of-at, page-is}

-- the pages of a block below a place hold this, and nothing else changed
pub record SetsBelow (old : Device) (block place : ℕ) (page : Page) (new : Device) : Type 0 where
  pub below : (j : ℕ) → j < place → new.pages (block * old.geometry.pages + j) ≡ page
  pub others : (p : ℕ) → block_of old p ≢ block → new.pages p ≡ old.pages p
  pub rest : new ≡ record old { pages = new.pages }

pub SetsBelow-none : (old : Device) (block : ℕ) (page : Page) → SetsBelow old block 0 page old
SetsBelow-none old block page = record {
  below = λ j low. absurd (omega arith);
  others = λ p apart. refl;
  rest = refl;
}

pub SetsBelow-more : (old : Device) (block place : ℕ) (page : Page) (mid new : Device) → place < old.geometry.pages
    → SetsBelow old block place page mid → PutsPage mid (block * old.geometry.pages + place) page new → SetsBelow old block (place + 1) page new
SetsBelow-more old block place page mid new small so_far step = record {
  below = λ j low. elim (cases_lt j place) [
    | inl less ↦ step.others (block * old.geometry.pages + j) (λ same. absurd (omega (arith, same))) ∙ so_far.below j less
    | inr more ↦ let here : j ≡ place = omega arith in rw here step.own
  ];
  others = λ p apart. step.others p (λ same. apart (ap (block_of old) same ∙ block_of-at old block place small)) ∙ so_far.others p apart;
  rest = step.rest ∙ ap (λ (d : Device). record d { pages = new.pages }) so_far.rest;
}

-- each page of the block stands at a place
pub SetsBelow-own : (old : Device) (block : ℕ) (page : Page) (new : Device) → SetsBelow old block old.geometry.pages page new
    → (p : ℕ) → p % old.geometry.pages < old.geometry.pages → block_of old p ≡ block → new.pages p ≡ page
SetsBelow-own old block page new all p small here =
    let number : block * old.geometry.pages + p % old.geometry.pages ≡ p = ap (λ b. b * old.geometry.pages + p % old.geometry.pages) (sym here) ∙ page-is old p in
    subst (λ q. new.pages q ≡ page) number (all.below (p % old.geometry.pages) small)

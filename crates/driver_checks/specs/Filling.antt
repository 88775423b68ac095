-- Blocks that are erased and filled.
use Rattle.std.specs.Prelude.{ℕ, zero, suc, List, ◌∷◌, Ok}
use Rattle.driver_checks.specs.declared.area.Area.{Area}
use Rattle.driver_checks.specs.declared.step.Step.{Step}
use Rattle.driver_checks.specs.declared.step.Step.TheVariants.{Programs, Erases}
use Rattle.driver_checks.specs.Areas.{area_page}

-- the page at a place of a block was programmed
abbrev pub page_filled : Area → ℕ → ℕ → List Step → List Step
page_filled g block place steps = Programs (area_page g block place) (Ok tt) ∷ steps

-- so many pages of a block were programmed, each once, from the first on
abbrev pub filled : Area → ℕ → ℕ → List Step → List Step
filled g block zero steps = steps
filled g block (suc places) steps = page_filled g block places (filled g block places steps)

-- so many pages of each of three blocks were programmed, a page of each in turn
abbrev pub filled_in_turn : Area → ℕ → ℕ → ℕ → ℕ → List Step → List Step
filled_in_turn g lower own upper zero steps = steps
filled_in_turn g lower own upper (suc places) steps =
    page_filled g upper places (page_filled g own places (page_filled g lower places (filled_in_turn g lower own upper places steps)))

-- two blocks were filled
abbrev pub sides_filled : Area → ℕ → ℕ → List Step → List Step
sides_filled g lower upper steps = filled g upper g.sizes.pages (filled g lower g.sizes.pages steps)

-- three blocks were erased
abbrev pub cleared : ℕ → ℕ → ℕ → List Step → List Step
cleared lower own upper steps = Erases upper (Ok tt) ∷ Erases own (Ok tt) ∷ Erases lower (Ok tt) ∷ steps

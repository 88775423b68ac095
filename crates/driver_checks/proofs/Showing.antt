-- What was shown before other looks is shown after them.
use Rattle.std.specs.Prelude.{ℕ, ◌+◌, ◌<◌, ◌≤◌}
use Rattle.std.proofs.Common.{sym, ◌∙◌, subst, below_more, arith}
use Rattle.flash_model.specs.Device.{Page}
use Rattle.driver_checks.specs.declared.area.Area.{Area}
use Rattle.driver_checks.specs.declared.expected.Expected.{Expected}
use Rattle.driver_checks.specs.Areas.{area_page}
use Rattle.driver_checks.specs.Driver.{Driver, OnlyAsks}
use Rattle.driver_checks.specs.Expectations.{MeetsExpectation, PageMeets, BlockMeets}

pub looks_on : (a b c : Driver) (m n : ℕ) → OnlyAsks a b m → OnlyAsks b c n → OnlyAsks a c (m + n)
looks_on a b c m n first second = record {
  area = second.area ∙ first.area;
  told = second.told ∙ first.told;
  pages = λ p. second.pages p ∙ first.pages p;
  moments = second.moments ∙ first.moments;
  steps = second.steps ∙ first.steps;
  operations = omega arith;
}

pub page_meets_on : (a b : Driver) (n : ℕ) (expected : Expected) (g : Area) (p : ℕ) → OnlyAsks a b n → PageMeets expected g a.pages p → PageMeets expected g b.pages p
page_meets_on a b n expected g p looks meets = subst (λ held. MeetsExpectation expected g.sizes.page p held) (sym (looks.pages p)) meets

pub block_meets_on : (a b : Driver) (n : ℕ) (expected : Expected) (g : Area) (block from to : ℕ) → OnlyAsks a b n
    → BlockMeets expected g a.pages block from to → BlockMeets expected g b.pages block from to
block_meets_on a b n expected g block from to looks meets = record {
  each = λ place least below. page_meets_on a b n expected g (area_page g block place) looks (meets.each place least below);
}

-- the pages of the places below one show what is expected
abbrev pub MeetsBelow : Expected → Area → (ℕ → Page) → ℕ → ℕ → ℕ → Type 0
MeetsBelow expected g pages block from place = (k : ℕ) → k < place → from ≤ k → PageMeets expected g pages (area_page g block k)

pub meets_more : (a b : Driver) (n : ℕ) (expected : Expected) (g : Area) (block from place : ℕ) → OnlyAsks a b n
    → MeetsBelow expected g a.pages block from place → PageMeets expected g b.pages (area_page g block place)
    → MeetsBelow expected g b.pages block from (place + 1)
meets_more a b n expected g block from place looks below here =
    below_more (λ k. from ≤ k → PageMeets expected g b.pages (area_page g block k)) place
    (λ k less least. page_meets_on a b n expected g (area_page g block k) looks (below k less least)) (λ _. here)

pub looks_in : (a b : Driver) (m n : ℕ) → m ≤ n → OnlyAsks a b m → OnlyAsks a b n
looks_in a b m n least looks = record { area = looks.area; told = looks.told; pages = looks.pages; moments = looks.moments; steps = looks.steps; operations = omega arith }

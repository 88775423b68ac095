-- Where pages and their states stand apart from each other, and what a part is after a page or a block of it was written.
use Rattle.std.proofs.Common.{◌≡◌, ◌≢◌, ◌⊎◌, ℕ, ◌+◌, ◌*◌, ◌/◌, ◌<◌, ◌≤◌, inl, inr, arith}
use Rattle.std.proofs.lemmas.Bool.{cases_lt}
use Rattle.std.proofs.lemmas.Nat.{mul-le}
use Rattle.flash_model.specs.declared.geometry.Geometry.{Geometry}
use Rattle.flash_model.specs.Geometry.{page_count}
use Rattle.part_file.specs.Layout.{state_place, data_place}

-- the states are filled up
filled : (n : ℕ) → n ≤ (n + 4095) / 4096 * 4096
filled n = omega arith

-- all states stand before all pages
pub state-before : (g : Geometry) (p q : ℕ) → p < page_count g → state_place p + 1 ≤ data_place g q
state-before g p q inside = omega (arith, filled (page_count g))

-- a page ends where the next begins
pub page-end : (g : Geometry) (p : ℕ) → data_place g p + g.page ≡ data_place g (p + 1)
page-end g p = omega arith

-- pages of other numbers stand apart
pub page-apart : (g : Geometry) (p q : ℕ) → q ≢ p → (data_place g q + g.page ≤ data_place g p) ⊎ (data_place g p + g.page ≤ data_place g q)
page-apart g p q other = elim (cases_lt q p) [
  | inl less ↦ let most = mul-le (q + 1) g.page p g.page (omega arith) (omega arith) in inl (omega (arith, most))
  | inr more ↦ let most = mul-le (p + 1) g.page q g.page (omega (arith, other)) (omega arith) in inr (omega (arith, most))
]

-- a page ends inside the part
pub page-inside : (g : Geometry) (p : ℕ) → p < page_count g → data_place g p + g.page ≤ data_place g (page_count g)
page-inside g p inside =
    let most = mul-le (p + 1) g.page (page_count g) g.page (omega arith) (omega arith) in
    omega (arith, most)

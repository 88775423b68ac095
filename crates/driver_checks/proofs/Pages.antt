-- Pages of blocks that may be used up may be used up.
use Rattle.std.specs.Prelude.{ℕ, ◌+◌, ◌*◌, ◌<◌, ◌≤◌}
use Rattle.std.proofs.Common.{arith}
use Rattle.std.proofs.lemmas.Nat.{mul-add-lt, mul-le}
use Rattle.driver_checks.specs.declared.area.Area.{Area}
use Rattle.driver_checks.specs.Areas.{GivesBlock, GivesPage, area_page}

pub page_given : (g : Area) (b place : ℕ) → GivesBlock g b → place < g.sizes.pages → GivesPage g (area_page g b place)
page_given g b place given within =
    let lowest : g.first * g.sizes.pages ≤ b * g.sizes.pages = mul-le g.first g.sizes.pages b g.sizes.pages given.from (omega arith) in
    let inside : b < g.sizes.blocks = omega (arith, given.below, g.in_flash) in
    record {
      from = omega (arith, lowest);
      below = omega (arith, mul-add-lt b g.sizes.pages place (g.first + g.count) given.below within);
      in_flash = omega (arith, mul-add-lt b g.sizes.pages place g.sizes.blocks inside within);
    }

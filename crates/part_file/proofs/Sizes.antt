-- How many pages a block has at most.
use Rattle.std.proofs.Common.{ℕ, ◌*◌, ◌≤◌, IsTrue, arith}
use Rattle.std.proofs.lemmas.Bool.Decides.{nat_tests}
use Rattle.std.proofs.lemmas.Nat.{mul-le}
use Rattle.flash_model.specs.declared.geometry.Geometry.{Geometry}
use Rattle.flash_model.specs.Geometry.{IsGeometry, is_page_size}

page_size-least : (n : ℕ) → IsTrue (is_page_size n) → 256 ≤ n
page_size-least n h = grind (arith, nat_tests)

pub pages-most : (g : Geometry) → IsGeometry g → g.pages ≤ 1024
pages-most g lawful =
    let least : g.pages * 256 ≤ g.pages * g.page = mul-le g.pages 256 g.pages g.page (omega arith) (page_size-least g.page lawful.page_size) in
    let most : g.pages * g.page ≤ 262144 = lawful.block_most in
    omega arith

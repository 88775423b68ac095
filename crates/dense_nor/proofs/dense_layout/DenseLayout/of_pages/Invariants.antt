use Rattle.std.proofs.Common.{◌≢◌, ◌<◌, ◌≤◌, ℕ}
use Rattle.dense_nor.specs.Layout.{data_pages}
use Rattle.dense_nor.proofs.dense_layout.DenseLayout.of_pages.Given as goal

abbrev pub invariant-loop-sectors : goal.invariant-loop-sectors
invariant-loop-sectors l = (n : ℕ) → 2 ≤ n → n < l.sectors → data_pages n ≢ l.pages

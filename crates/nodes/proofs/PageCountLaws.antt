-- How many pages fewer bytes take.
use Rattle.std.proofs.Common.{◌≡◌, ℕ, ◌+◌, ◌*◌, ◌<◌, ◌≤◌, arith}
use Rattle.std.proofs.lemmas.Grind.{div_ceil_times}
use Rattle.std.proofs.Math.Nat.{lt_of_mul-lt-mul_right}
use Rattle.nodes.specs.PageCounts.{pages_for}

-- fewer bytes need no more pages
pub fewer_pages : (page less more : ℕ) → 0 < page → less ≤ more → pages_for page less ≤ pages_for page more
fewer_pages page less more some h =
    let low = div_ceil_times less page some in
    let high = div_ceil_times more page some in
    let below : pages_for page less * page < (pages_for page more + 1) * page = omega (arith, low.1, high.0) in
    let fewer : pages_for page less < pages_for page more + 1 = lt_of_mul-lt-mul_right page below in
    omega arith

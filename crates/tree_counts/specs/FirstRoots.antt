-- The first of some roots that reaches a block.
use Rattle.std.specs.Prelude.{◌≡◌, ◌↔◌, ℕ, ◌+◌, ◌<◌, ◌≤◌, ◌==◌, ◌&&◌, ◌||◌, not, nat_lt, nat_le, Bool, List, length, take, slice_index}
use Rattle.std.specs.FinSet as set
use Rattle.std.specs.Ordering.{nat_cmp}
use Rattle.nodes.specs.Bodies.{Blocks}
use Rattle.nodes.specs.Reached.{Reached}

-- of each block the number, from 1 on, of the first root that reaches it; 0 of a block that none reaches: so the first k roots
-- reach exactly the blocks whose number is one of 1 to k
pub record AreFirstRoots (f : Blocks) (roots numbers : List ℕ) : Type 0 where
  pub within : (b : ℕ) → slice_index numbers b ≤ length roots
  pub reached : (b k : ℕ) → k ≤ length roots → ((0 < slice_index numbers b) × (slice_index numbers b ≤ k)) ↔ Reached f (take k roots) b

-- one of the first so many roots reaches the block
abbrev pub is_reached : List ℕ → ℕ → ℕ → Bool
is_reached firsts kept b = nat_lt 0 (slice_index firsts b) && nat_le (slice_index firsts b) kept

-- the block is neither bad nor reached by one of them
abbrev pub is_free : List ℕ → set.FinSet nat_cmp → ℕ → ℕ → Bool
is_free firsts bad kept b = not (set.contains bad b || is_reached firsts kept b)

-- the block is not bad, and a root reaches it, but none of the first so many
abbrev pub is_freed : List ℕ → set.FinSet nat_cmp → ℕ → ℕ → Bool
is_freed firsts bad kept b = not (set.contains bad b) && nat_lt kept (slice_index firsts b)

-- the root of a number is the first of so many that reaches the block, and from the other end the first one too
abbrev pub is_only : List ℕ → List ℕ → ℕ → ℕ → ℕ → Bool
is_only firsts lasts number roots b = (slice_index firsts b == number) && (slice_index lasts b + number == roots + 1)

-- the block is not bad, and that root reaches it alone
abbrev pub is_alone : List ℕ → List ℕ → set.FinSet nat_cmp → ℕ → ℕ → ℕ → Bool
is_alone firsts lasts bad number roots b = not (set.contains bad b) && is_only firsts lasts number roots b

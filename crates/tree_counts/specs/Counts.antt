-- How many blocks are free beside some roots, and how many one of them keeps alone.
use Rattle.std.specs.Prelude.{◌≡◌, ◌≢◌, ◌↔◌, ℕ, ◌+◌, ◌<◌, ◌&&◌, ◌||◌, not, true, List, [], ◌∷◌, length, take, slice_index, count_by}
use Rattle.std.specs.FinSet as set
use Rattle.std.specs.Ordering.{nat_cmp}
use Rattle.block_ring.specs.Ring.{data_blocks}
use Rattle.nodes.specs.Bodies.{Blocks}
use Rattle.nodes.specs.Reached.{Reached}

-- so many data blocks are neither bad nor reached by the roots
pub record CountsFree (f : Blocks) (blocks : ℕ) (bad : set.FinSet nat_cmp) (roots : List ℕ) (count : ℕ) : Type 0 where
  pub reached : set.FinSet nat_cmp
  pub are_reached : (b : ℕ) → (set.contains reached b ≡ true) ↔ Reached f roots b
  pub free : count ≡ count_by (λ b. not (set.contains bad b || set.contains reached b)) (data_blocks blocks)

-- so many blocks more are free beside the first so many roots than beside all of them
pub record CountsFreed (f : Blocks) (blocks : ℕ) (bad : set.FinSet nat_cmp) (roots : List ℕ) (kept count : ℕ) : Type 0 where
  pub before : ℕ
  pub after : ℕ
  pub was : CountsFree f blocks bad roots before
  pub is : CountsFree f blocks bad (take kept roots) after
  pub more : after ≡ before + count

-- the root at a place reaches the block, and none at another place does
pub record IsAlone (f : Blocks) (roots : List ℕ) (place b : ℕ) : Type 0 where
  pub own : Reached f (slice_index roots place ∷ []) b
  pub others : (other : ℕ) → other < length roots → other ≢ place → Reached f (slice_index roots other ∷ []) b → ⊥

-- so many data blocks that are not bad are reached by the root at a place alone
pub record CountsAlone (f : Blocks) (blocks : ℕ) (bad : set.FinSet nat_cmp) (roots : List ℕ) (place count : ℕ) : Type 0 where
  pub alone : set.FinSet nat_cmp
  pub are_alone : (b : ℕ) → (set.contains alone b ≡ true) ↔ IsAlone f roots place b
  pub kept : count ≡ count_by (λ b. not (set.contains bad b) && set.contains alone b) (data_blocks blocks)

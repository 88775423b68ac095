-- A walk over what roots reach, one root after the other.
use Rattle.std.specs.Prelude.{◌≡◌, ℕ, ◌+◌, ◌≤◌, List, length}
use Rattle.nodes.specs.Bodies.{Blocks}
use Rattle.reclaim.specs.Kinds.{Knows}
use Rattle.reclaim.specs.Passes.{Pass, AreReached, IsPass, IsFinished}
use Rattle.tree_counts.specs.FirstRoots.{AreFirstRoots}

-- all that the roots of a marking reach was read, and the first root that reaches each block is known
pub record IsWalked (limit : ℕ) (f : Blocks) (p : Pass) (firsts : List ℕ) : Type 0 where
  pub pass : IsPass f p
  pub finished : IsFinished p
  pub known : Knows limit f p
  pub numbered : AreFirstRoots f p.roots firsts
  pub sized : length firsts ≡ p.blocks

-- so many blocks were read before; with the reads that came since there are no more than blocks that the roots reach
pub record ReadsOn (f : Blocks) (roots : List ℕ) (seen before after : ℕ) : Type 0 where
  pub blocks : List ℕ
  pub are : AreReached f roots blocks
  pub most : after + seen ≤ before + length blocks

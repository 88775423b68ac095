-- A marking that goes on from one root more.
use Rattle.std.specs.Prelude.{◌≡◌, ℕ, [], ◌∷◌, ◌++◌}
use Rattle.reclaim.specs.Passes.{Pass, Begins}

-- a root was added: it comes after the others, nothing was read, and what was marked is marked, in the same order
pub record AddsRoot (old : Pass) (root : ℕ) (new : Pass) : Type 0 where
  pub blocks : new.blocks ≡ old.blocks
  pub roots : new.roots ≡ old.roots ++ root ∷ []
  pub begins : Begins old.order new.order
  pub next : new.next ≡ old.next

-- What a call leaves of nodes that are kept, in the words of the trait `Nodes`.
use Rattle.std.specs.Prelude.{◌≡◌, ℕ, Bool, List, Option}

-- a call that only reads: it came of the old state, and no node, no kept block and no count of writes changed
pub record OnlyLooks {S : Type 0} (node : S → ℕ → Option (List ℕ)) (kept : S → ℕ → Bool) (writes : S → ℕ) (follows : S → S → Type 0) (is_sound : S → Type 0) (limit blocks : S → ℕ) (old new : S) : Type 0 where
  pub same_nodes : node new ≡ node old
  pub same_kept : kept new ≡ kept old
  pub same_writes : writes new ≡ writes old
  pub came : follows old new
  pub sound : is_sound new
  pub same_limit : limit new ≡ limit old
  pub same_blocks : blocks new ≡ blocks old

-- a call that may write: it came of the old state, and is as sound and as large
pub record Works {S : Type 0} (follows : S → S → Type 0) (is_sound : S → Type 0) (limit blocks : S → ℕ) (old new : S) : Type 0 where
  pub came : follows old new
  pub sound : is_sound new
  pub same_limit : limit new ≡ limit old
  pub same_blocks : blocks new ≡ blocks old

-- Calls one after the other.
use Rattle.std.specs.Prelude.{ℕ, Bool, List, Option}
use Rattle.std.proofs.Common.{◌∙◌}
use Rattle.nodes.specs.Frames.{OnlyLooks, Works}

module _ {S : Type 0} {follows : S → S → Type 0} {is_sound : S → Type 0} {limit blocks : S → ℕ} (on : (s t u : S) → follows s t → follows t u → follows s u) where
  pub Looks_on : {node : S → ℕ → Option (List ℕ)} {kept : S → ℕ → Bool} {writes : S → ℕ} (s t u : S) → OnlyLooks node kept writes follows is_sound limit blocks s t → OnlyLooks node kept writes follows is_sound limit blocks t u → OnlyLooks node kept writes follows is_sound limit blocks s u
  Looks_on s t u first then = record {
    same_nodes = then.same_nodes ∙ first.same_nodes;
    same_kept = then.same_kept ∙ first.same_kept;
    same_writes = then.same_writes ∙ first.same_writes;
    came = on s t u first.came then.came;
    sound = then.sound;
    same_limit = then.same_limit ∙ first.same_limit;
    same_blocks = then.same_blocks ∙ first.same_blocks;
  }

  pub Works_on : (s t u : S) → Works follows is_sound limit blocks s t → Works follows is_sound limit blocks t u → Works follows is_sound limit blocks s u
  Works_on s t u first then = record {
    came = on s t u first.came then.came;
    sound = then.sound;
    same_limit = then.same_limit ∙ first.same_limit;
    same_blocks = then.same_blocks ∙ first.same_blocks;
  }

module _ {S : Type 0} {node : S → ℕ → Option (List ℕ)} {kept : S → ℕ → Bool} {writes : S → ℕ} {follows : S → S → Type 0} {is_sound : S → Type 0} {limit blocks : S → ℕ} where
  pub Looks_works : (s t : S) → OnlyLooks node kept writes follows is_sound limit blocks s t → Works follows is_sound limit blocks s t
  Looks_works s t looks = record { came = looks.came; sound = looks.sound; same_limit = looks.same_limit; same_blocks = looks.same_blocks }

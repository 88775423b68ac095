-- Roots that are whole by themselves.
use Rattle.std.specs.Prelude.{◌≡◌, ℕ, Bool, false, List, [], ◌∷◌, All}
use Rattle.flash_model.specs.Device.{Device}
use Rattle.flash_model.specs.Geometry.{block_bytes}
use Rattle.node_store.specs.NodePages.{node_of}
use Rattle.reclaim.specs.Verified.{AreAllowed}
use Rattle.salvages.specs.Kept.{is_lost}

-- each of some roots has a tree of linked bodies; where they are to be plain, each directory in these is a node that stands alone
abbrev pub AreAllWhole : Bool → Device → List ℕ → Type 0
AreAllWhole plain d roots = AreAllowed (block_bytes d.geometry) (node_of d) roots plain

-- so is a root alone
abbrev pub IsWhole : Bool → Device → ℕ → Type 0
IsWhole plain d root = AreAllWhole plain d (root ∷ [])

-- of some roots exactly those are lost that are not whole
pub record AreLost (plain : Bool) (d : Device) (roots lost : List ℕ) : Type 0 where
  pub broken : All (λ root. IsWhole plain d root → ⊥) lost
  pub others : All (λ root. is_lost lost root ≡ false → IsWhole plain d root) roots

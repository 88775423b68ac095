-- What looks at roots ask of the device.
use Rattle.std.specs.Prelude.{ℕ, ◌+◌, ◌≤◌, Bool, List, [], ◌∷◌}
use Rattle.flash_model.specs.Device.{Device}
use Rattle.node_store.specs.NodePages.{node_of}
use Rattle.reclaim.specs.Passes.{AreReached}
use Rattle.mounting.specs.Costs.{verify_pages}
use Rattle.salvages.specs.Wholes.{AreAllWhole}

-- between two counts of operations no more was asked for than one verification of each of some roots in turn asks for
abbrev pub AsksToLook : Device → List ℕ → ℕ → ℕ → Type 0
AsksToLook d [] before after = after ≤ before
AsksToLook d (root ∷ roots) before after = (blocks : List ℕ) × AreReached (node_of d) (root ∷ []) blocks × AsksToLook d roots (before + verify_pages d blocks) after

-- no more was asked for than one verification of all roots together asks for, and where not all are whole one of each in turn
pub record AsksToFind (plain : Bool) (old : Device) (roots : List ℕ) (new : Device) : Type 0 where
  pub blocks : List ℕ
  pub are : AreReached (node_of old) roots blocks
  pub most : AsksToLook old roots (old.operations + verify_pages old blocks) new.operations
  pub once : AreAllWhole plain old roots → new.operations ≤ old.operations + verify_pages old blocks

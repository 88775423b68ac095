-- What the root of a path of directories written anew reaches.
use Rattle.std.specs.Prelude.{◌≡◌, ◌⊎◌, ℕ, Bool, Option, Some, [], ◌∷◌}
use Rattle.node_format.specs.declared.place.Place.{Place}
use Rattle.nodes.specs.Bodies.{Blocks}
use Rattle.nodes.specs.Reached.{Reached, PlaceNames}
use Rattle.nodes.specs.Rewritten.{IsFreshNode}

-- each block that the new root reaches was reached by the old one, or is a new node of a chain in one that was not kept, or is
-- reached from the new entry
abbrev pub OnlyReaches : Blocks → Blocks → (ℕ → Bool) → ℕ → ℕ → Option Place → Type 0
OnlyReaches old new kept from to at =
    (block : ℕ) → Reached new (to ∷ []) block → Reached old (from ∷ []) block ⊎ IsFreshNode kept new block ⊎ ((root : ℕ) × (place : Place) × (at ≡ Some place) × PlaceNames place root × Reached new (root ∷ []) block)

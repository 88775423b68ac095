-- What the root of a path written anew reaches.
use Rattle.std.proofs.Common.{◌≡◌, ℕ, ◌⊎◌, inl, inr, Bool, Option, Some, None, Result, Ok, Err, [], ◌∷◌, sym, subst}
use Rattle.std.specs.Prelude.{IfOk}
use Rattle.fs_types.specs.Names.{Path}
use Rattle.fs_types.specs.declared.fault.Fault.{Fault}
use Rattle.node_format.specs.declared.place.Place.{Place}
use Rattle.node_format.specs.declared.place.Place.TheVariants.{Dir}
use Rattle.nodes.specs.Bodies.{Blocks}
use Rattle.nodes.specs.Reached.{IsHeld, Keeps, Reached, PlaceNames}
use Rattle.nodes.specs.Rewritten.{IsFreshNode, IsRewritten}
use Rattle.nodes.proofs.EditedTrees.{edit_law}
use Rattle.nodes.proofs.EmptyDirectories.{reaches_itself}
use Rattle.nodes.proofs.Entries.{place_is}
use Rattle.directory.specs.Edits.{OnlyReaches}
use Rattle.directory.specs.Making.{IsNewDirectory}

pub only_reaches : (old new : Blocks) (kept kept' : ℕ → Bool) (from : ℕ) (path : Path) (at : Option Place) (result : Result ℕ Fault) → Keeps kept old kept' new → IsHeld old kept (Dir from)
    → IfOk result (λ to. IsRewritten old new kept kept' from to path at) → IfOk result (λ to. OnlyReaches old new kept from to at)
only_reaches old new kept kept' from path at (Ok to) keeps held rewritten = (edit_law old new kept kept' from to path at keeps held rewritten).reached
only_reaches old new kept kept' from path at (Err fault) keeps held rewritten = tt

-- ---- a new empty directory

pub made_reaches : (old new : Blocks) (kept kept' : ℕ → Bool) (from to : ℕ) (path : Path) → Keeps kept old kept' new → IsHeld old kept (Dir from) → IsNewDirectory old new kept kept' from to path → OnlyReaches old new kept from to None
made_reaches old new kept kept' from to path keeps held made b reached =
    on ((edit_law old new kept kept' from to path (Some (Dir made.block)) keeps held made.rewritten).reached b reached)
  where
    entry : Option Place
    entry = Some (Dir made.block)

    free : (root : ℕ) (place : Place) → entry ≡ Some place → PlaceNames place root → Reached new (root ∷ []) b → IsFreshNode kept new b
    free root place is names below =
        let root_is : made.block ≡ root = subst (λ (p : Place). PlaceNames p root) (sym (place_is (Dir made.block) place is)) names in
        subst (IsFreshNode kept new) (sym (reaches_itself new made.block made.empty b (subst (λ (r : ℕ). Reached new (r ∷ []) b) (sym root_is) below))) made.fresh

    on : Reached old (from ∷ []) b ⊎ IsFreshNode kept new b ⊎ ((root : ℕ) × (place : Place) × (entry ≡ Some place) × PlaceNames place root × Reached new (root ∷ []) b)
        → Reached old (from ∷ []) b ⊎ IsFreshNode kept new b ⊎ ((root : ℕ) × (place : Place) × (let none : Option Place = None in none ≡ Some place) × PlaceNames place root × Reached new (root ∷ []) b)
    on (inl before) = inl before
    on (inr (inl fresh)) = inr (inl fresh)
    on (inr (inr (root, place, is, names, below))) = inr (inl (free root place is names below))

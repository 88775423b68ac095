-- The steps are a struct without fields that owns nothing, whatever they are. Assumes `Logic`.
use Rattle.std.proofs.Common.{List, [], ◌∷◌, refl}
use seplogic.Ra.Ura.{Ura}
use mir.Val.{Val, vstruct, vnil}
use types.Logic.{Logic}
use types.Kit.{Goal, Step, step, Item, ‵, ◌$◌, fjoin, fpack, feq_i}
use denote.RattleType.{Valss}
use denote.Steps.{nothing}
use denote.Struct.Struct.{within}
use Rattle.driver_checks.specs.contracts.steps.Steps.{the_row}
use Rattle.driver_checks.specs.declared.step.Step.{Step as Asked}

-- the machine value of a struct without fields
abbrev pub bare : Val
bare = vstruct vnil

-- steps of any kind may be added to what is owned
pub steps_owned : {M : Type 1} {𝓤 : Ura M} {𝓛 : Logic 𝓤} {K : Type 0} {Γ : List (Item 𝓤)} {G : Goal 𝓤 𝓛.H}
    → K → (asked : List Asked) → Step K 𝓛 (‵ (the_row.own_val (record { list = asked }) (bare ∷ [])) ∷ Γ) G Γ G
steps_owned t n = step (λ s.
    nothing t $ nothing t $ feq_i t (List Val) (bare ∷ []) (bare ∷ []) refl $ fjoin t $
    fpack t (Valss []) (within (record { name = []; args = []; types = []; fields = [] }) tt (bare ∷ [])) tt $
    fjoin t $ s)

-- A count is a struct without fields that owns nothing, whatever its number is. Assumes `Logic`.
use Rattle.std.proofs.Common.{ℕ, List, [], ◌∷◌, refl}
use seplogic.Ra.Ura.{Ura}
use mir.Val.{Val, vstruct, vnil}
use types.Logic.{Logic}
use types.Kit.{Goal, Step, step, Item, ‵, ◌$◌, fjoin, fpack, feq_i}
use denote.RattleType.{Valss}
use denote.Steps.{nothing}
use denote.Struct.Struct.{within}
use Rattle.fs_types.specs.contracts.count.Count.{the_row}

-- the machine value of a struct without fields
abbrev pub bare : Val
bare = vstruct vnil

-- a count of any number may be added to what is owned
pub count_owned : {M : Type 1} {𝓤 : Ura M} {𝓛 : Logic 𝓤} {K : Type 0} {Γ : List (Item 𝓤)} {G : Goal 𝓤 𝓛.H}
    → K → (n : ℕ) → Step K 𝓛 (‵ (the_row.own_val (record { n = n }) (bare ∷ [])) ∷ Γ) G Γ G
count_owned t n = step (λ s.
    nothing t $ nothing t $ feq_i t (List Val) (bare ∷ []) (bare ∷ []) refl $ fjoin t $
    fpack t (Valss []) (within (record { name = []; args = []; types = []; fields = [] }) tt (bare ∷ [])) tt $
    fjoin t $ s)

-- What is left of a damaged flash, made on another one and added to a copy.
use Rattle.std.proofs.Common.{◌≡◌, ◌∙◌, ◌⊎◌, inl, inr, ℕ, true, Option, Some, None, Result, Ok, Err, List, [], ◌∷◌, refl, sym, ap, subst}
use Rattle.std.specs.Prelude.{IfOk, IfSome, OnOk, slice_get, unwrap_or}
use Rattle.std.specs.Option.{option_map}
use Rattle.std.proofs.lemmas.Option.{same_Some, none-some}
use Rattle.fs_types.specs.declared.call.Version.{Version}
use Rattle.fs_types.specs.declared.fault.Fault.{Fault}
use Rattle.flash_model.specs.Device.{Device}
use Rattle.flash_model.specs.Reading.{OnlyReads}
use Rattle.flash_model.specs.declared.geometry.Geometry.{Geometry}
use Rattle.flash_simulation.specs.Simulation.{device_of}
use Rattle.flash_simulation.specs.declared.sim_flash.SimFlash.{SimFlash}
use Rattle.plain_trees.specs.Trees.{Tree, bare}
use Rattle.history_copies.specs.Copies.{roots_in}
use Rattle.history_machine.specs.History.{Past}
use Rattle.history_machine.specs.Machine.{mounted, present_tree}
use Rattle.node_store.specs.NodePages.{node_of}
use Rattle.record_format.specs.declared.record.Record.{Record}
use Rattle.mounting.specs.Saved.{saved_trees}
use Rattle.tree_differences.specs.UpdateLaws.{Brings}
use Rattle.salvages.specs.Remade.{IsRestAt, IsRestOf}
use Rattle.salvages.specs.Told.{rest_root}
use Rattle.salvages.specs.Salvages.{IsSalvageOf, SalvageCause}
use Rattle.salvages.specs.declared.making.Rest.{Rest}
use Rattle.salvages.specs.declared.salvaged.Salvaged.{Salvaged}
use Rattle.copies.specs.Added.{HasOneMore, HoldsAlone}
use Rattle.copies.specs.Copied.{HasTrees}
use Rattle.image_jobs.specs.Failures.{of_system}
use Rattle.image_jobs.specs.declared.failure.Failure.{Failure}
use Rattle.copy_jobs.specs.Adding.{AddsOne, HasOneAfter}
use Rattle.copy_jobs.specs.Copied.{sizes_of}
use Rattle.copy_jobs.specs.Lefts.{HasRestAt, HoldsRest, HoldsRestOf, IsRestFlash, IsUnformed, LeadOn}
use Rattle.copy_jobs.specs.Sources.{IsSourceOf, UnsalvagedCause, source_alone, source_in}
use Rattle.copy_jobs.specs.declared.asked_sizes.AskedSizes.{AskedSizes}
use Rattle.copy_jobs.specs.declared.source.Source.{Source}

-- the calls of what is left lead on
pub leads : (d : Device) (found : Option Rest) → IsRestOf d found → IfSome found (λ rest. LeadOn rest.calls.items)
leads d None is = tt
leads d (Some rest) is = on (rest_root (node_of d) is.newest) (is.broken (λ whole. none-some rest (sym (is.whole whole))))
  where
    on : (o : Option ℕ) → IsRestAt d is.newest o (Some rest) → LeadOn rest.calls.items
    on None e = absurd (none-some rest (sym e))
    on (Some root) (other, same, left) = subst (λ (r : Rest). LeadOn r.calls.items) (sym (same_Some rest other same)) (left.makes.tree, left.makes.brings)

-- a flash that has what the calls make has what is left
held_at : (d : Device) (newest : Record) (sizes : Geometry) (o : Option ℕ) (found : Option Rest) (one : Option SimFlash) → IsRestAt d newest o found → HoldsRestOf sizes found one → HasRestAt d newest sizes o one
held_at d newest sizes None found one is holds = subst (λ (f : Option Rest). HoldsRestOf sizes f one) is holds
held_at d newest sizes (Some root) found one (rest, same, left) holds =
    let held : HoldsRestOf sizes (Some rest) one = subst (λ (f : Option Rest). HoldsRestOf sizes f one) same holds in (
      held.0,
      held.1,
      record {
        tree = left.makes.tree;
        is_rest = left.makes.has;
        alone = subst (λ (n : ℕ). HoldsAlone n left.makes.tree (device_of held.0)) left.beside.limit (held.2.holds left.makes.tree left.makes.brings);
        geometry = held.2.geometry;
      },
    )

pub rest_flash : (d : Device) (sizes wanted : Geometry) (found : Option Rest) (one : Option SimFlash) → sizes ≡ wanted → IsRestOf d found → HoldsRestOf sizes found one → IsRestFlash d wanted one
rest_flash d sizes wanted found one same is holds = record {
  newest = is.newest;
  holds = is.holds;
  present = is.present;
  is_present = is.is_present;
  whole = λ whole. subst (λ (f : Option Rest). HoldsRestOf sizes f one) (is.whole whole) holds;
  broken = λ broken. subst (λ (s : Geometry). HasRestAt d is.newest s (rest_root (node_of d) is.newest) one) same
      (held_at d is.newest sizes (rest_root (node_of d) is.newest) found one (is.broken broken) holds);
}

-- ---- a version more

-- the present tree of a history of one version
alone_tree : (limit : ℕ) (t : Tree) (h : Past Tree) → HasTrees limit (t ∷ []) 0 [] h → present_tree (mounted h) ≡ t
alone_tree limit t h has = ap (λ (n : ℕ). unwrap_or (option_map (λ (v : Version Tree). v.root) (slice_get h.versions n)) bare) has.cursor ∙ first h.versions has.trees
  where
    first : (vs : List (Version Tree)) → roots_in vs ≡ t ∷ [] → unwrap_or (option_map (λ (v : Version Tree). v.root) (slice_get vs 0)) bare ≡ t
    first [] e = absurd cc
    first (v ∷ vs) e = let is : v.root ≡ t = cc in is

pub adds_one : (copy one more : SimFlash)
    → ((new old : Past Tree) → saved_trees (device_of one) ≡ Some new → saved_trees (device_of copy) ≡ Some old → HasOneMore old (present_tree (mounted new)) (device_of more)) → AddsOne copy one more
adds_one copy one more adds limit t old alone stands =
    subst (λ (x : Tree). HasOneMore old x (device_of more)) (alone_tree limit t alone.history alone.has) (adds alone.history old alone.saved stands)

-- a copy of which the sizes were looked at
pub sized : (result : Result SimFlash Failure) (copy one more : SimFlash) (sizes : Geometry) → AddsOne copy one more → sizes ≡ (device_of copy).geometry → IfOk result (λ same. same ≡ more)
    → OnOk result ((device_of more).geometry ≡ sizes) → IfOk result (HasOneAfter copy one)
sized (Ok found) copy one more sizes adds is same fits = subst (HasOneAfter copy one) (sym same) (record { adds = adds; sizes = fits ∙ is })
sized (Err failure) copy one more sizes adds is same fits = tt

-- a flash of which the sizes were looked at
pub rest_sized : (result : Result SimFlash Failure) (rest : Rest) (made : SimFlash) (sizes : Geometry) → ((t : Tree) → Brings bare t rest.calls.items → HoldsAlone rest.limit t (device_of made))
    → IfOk result (λ same. same ≡ made) → OnOk result ((device_of made).geometry ≡ sizes) → IfOk result (HoldsRest sizes rest)
rest_sized (Ok found) rest made sizes holds same fits = subst (HoldsRest sizes rest) (sym same) (record { holds = holds; geometry = fits })
rest_sized (Err failure) rest made sizes holds same fits = tt

-- ---- why nothing is copied

-- what is left is not made
pub unmade : (asked : AskedSizes) (flash : SimFlash) (sizes : Geometry) (found : Option Rest) (failure : Failure) → sizes ≡ sizes_of asked (device_of flash).geometry → IsRestOf (device_of flash) found
    → (rest : Rest) × (found ≡ Some rest) × IsUnformed sizes rest failure → UnsalvagedCause asked true flash failure
unmade asked flash sizes found failure same is (rest, there, cause) =
    inr (inr (record { rest = rest; is_rest = subst (IsRestOf (device_of flash)) there is; cause = subst (λ (s : Geometry). IsUnformed s rest failure) same cause }))

-- nothing is saved, or that is not made
pub unsaved : (asked : AskedSizes) (flash read left : SimFlash) (sizes : Geometry) (fault : Fault) (found : Option Rest) (failure : Failure) → sizes ≡ sizes_of asked (device_of flash).geometry
    → OnlyReads (device_of flash) (device_of read) → SalvageCause (device_of read) (device_of left) fault → IsRestOf (device_of flash) found
    → (failure ≡ of_system fault) ⊎ ((rest : Rest) × (found ≡ Some rest) × IsUnformed sizes rest failure) → UnsalvagedCause asked true flash failure
unsaved asked flash read left sizes fault found failure same reads cause is (inl own) = inr (inl (record { read = read; reads = reads; left = left; fault = fault; cause = cause; is = own }))
unsaved asked flash read left sizes fault found failure same reads cause is (inr unformed) = unmade asked flash sizes found failure same is unformed

-- ---- what is copied

-- what is saved, and what is left after it
pub saved_with : (asked : AskedSizes) (flash read : SimFlash) (sizes : Geometry) (found : Salvaged) (rest : Option Rest) (source : Source) → sizes ≡ sizes_of asked (device_of flash).geometry
    → OnlyReads (device_of flash) (device_of read) → IsSalvageOf (device_of read) found → IsRestOf (device_of flash) rest → HoldsRestOf sizes rest source.rest × (source ≡ source_in found source.rest) → IsSourceOf asked true flash source
saved_with asked flash read sizes found rest source same reads saved is both = inl (record {
  read = read;
  reads = reads;
  found = found;
  saved = saved;
  rest = rest_flash (device_of flash) sizes (sizes_of asked (device_of flash).geometry) rest source.rest same is both.0;
  is = both.1;
})

-- what is left alone
pub saved_alone : (asked : AskedSizes) (flash read left : SimFlash) (sizes : Geometry) (fault : Fault) (rest : Option Rest) (source : Source) → sizes ≡ sizes_of asked (device_of flash).geometry
    → OnlyReads (device_of flash) (device_of read) → SalvageCause (device_of read) (device_of left) fault → IsRestOf (device_of flash) rest
    → (one : Rest) × (rest ≡ Some one) × (fault ≡ Fault.Damaged) × HoldsRest sizes one source.flash × (source ≡ source_alone source.flash) → IsSourceOf asked true flash source
saved_alone asked flash read left sizes fault rest source same reads cause is (one, there, damaged, holds, alone) = inr (record {
  read = read;
  reads = reads;
  left = left;
  none = subst (SalvageCause (device_of read) (device_of left)) damaged cause;
  rest = rest_flash (device_of flash) sizes (sizes_of asked (device_of flash).geometry) (Some one) (Some source.flash) same (subst (IsRestOf (device_of flash)) there is) (source.flash, refl, holds);
  is = alone;
})

-- what is left is there beside what is saved
pub source_with : (sizes : Geometry) (rest : Option Rest) (left : Rest) (found : Salvaged) (one : SimFlash) (source : Source) → rest ≡ Some left → HoldsRest sizes left one → source ≡ source_in found (Some one)
    → HoldsRestOf sizes rest source.rest × (source ≡ source_in found source.rest)
source_with sizes rest left found one source there holds is =
    let one_is : source.rest ≡ Some one = ap (λ (s : Source). s.rest) is in
    let held : HoldsRestOf sizes (Some left) source.rest = (one, one_is, holds) in
    (subst (λ (r : Option Rest). HoldsRestOf sizes r source.rest) (sym there) held, is ∙ ap (λ (r : Option SimFlash). source_in found r) (sym one_is))

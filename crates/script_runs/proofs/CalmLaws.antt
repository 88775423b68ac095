-- Where no fault is planned for a flash, no mount and no format is refused since an operation failed.
use Rattle.std.specs.Prelude.{◌≡◌, ◌≢◌, ◌⊎◌, ℕ, ◌+◌, ◌<◌, ◌≤◌, Bool, true, false, List, [], ◌∷◌, refl}
use Rattle.std.specs.List.{count_by, range_with_len}
use Rattle.std.specs.FinSet as set
use Rattle.std.specs.Ordering.{nat_cmp}
use Rattle.std.proofs.Common.{sym, ◌∙◌, ap, subst, arith, cond, inl, inr}
use Rattle.std.proofs.lemmas.Bool.{true≢false}
use Rattle.std.proofs.lemmas.List.Sums.{sum_by-cons}
use mathlib.Core.Logic.{∥∥₁_elim}
use mathlib.Core.HLevel.{⊥_prop}
use Rattle.fs_types.specs.declared.limits.TheConstants.{ANCHORS}
use Rattle.fs_types.specs.declared.fault.Fault.{Fault}
use Rattle.fs_types.specs.declared.fault.Fault.TheVariants.{NoAnchors, FlashFull, ReadFailed, PowerCut}
use Rattle.flash_model.specs.Geometry.{IsGeometry}
use Rattle.flash_simulation.specs.Simulation.{device_of, plan_of}
use Rattle.flash_simulation.specs.declared.sim_flash.SimFlash.{SimFlash}
use Rattle.bad_blocks.specs.Mode.{bad_anchors}
use Rattle.mounting.specs.Formats.{FormatCause, HaveFailed, LacksAnchors, LacksBlocks}
use Rattle.system.specs.Mounts.{MountCause}
use Rattle.script_runs.specs.Flashes.{IsUnformatted, CalmFormatLaw}
use Rattle.script_runs.specs.Plans.{IsCalm, StaysCalm, FollowsPlan}
use Rattle.script_runs.specs.Scripts.{IsUnmounted, CalmMountLaw}

-- what follows from a flash that stayed calm follows from its plan
by_plan : (start end : SimFlash) → IsCalm (device_of start) (plan_of start) → FollowsPlan start end → (StaysCalm (device_of start) (device_of end) (plan_of end) → ⊥) → ⊥
by_plan start end calm goes never = ∥∥₁_elim goes ⊥_prop (λ so. never (so.calm calm))

pub calm_mount : CalmMountLaw
calm_mount start end fault calm (left, goes) = (no_failed_read, no_cut)
  where
    no_failed_read : fault ≢ ReadFailed
    no_failed_read is = by_plan start end calm goes (λ stays.
        let failed : (device_of start).failed_reads < (device_of end).failed_reads = subst (MountCause (device_of start) (device_of end)) is left.cause in
        let same = stays.no_failed_read in
        omega (arith, failed, same))

    no_cut : fault ≢ PowerCut
    no_cut is = by_plan start end calm goes (λ stays.
        let off : (device_of end).powered ≡ false = subst (MountCause (device_of start) (device_of end)) is left.cause in
        true≢false (sym stays.calm.powered ∙ off))

none_counted : (p : ℕ → Bool) (xs : List ℕ) → ((k : ℕ) → p k ≡ false) → count_by p xs ≡ 0
none_counted p [] none = refl
none_counted p (k ∷ xs) none = sum_by-cons (λ x. cond (p x) 1 0) k xs ∙ ap (λ (b : Bool). cond b 1 0 + count_by p xs) (none k) ∙ (let rest = none_counted p xs none in omega (arith, rest))

-- no block failed where nothing did
none_failed : (start end : SimFlash) (bad : set.FinSet nat_cmp) → HaveFailed (device_of start) bad (device_of end) → StaysCalm (device_of start) (device_of end) (plan_of end) → set.len bad ≡ 0
none_failed start end bad failed stays = let counted = failed.failures in let same = stays.no_failure in omega (arith, counted, same)

none_bad : (bad : set.FinSet nat_cmp) → set.len bad ≡ 0 → (b : ℕ) → set.contains bad b ≡ false
none_bad bad none b = ap (λ (s : set.FinSet nat_cmp). set.contains s b) (set.empty_of_len bad none) ∙ set.contains-empty nat_cmp b

pub calm_format : CalmFormatLaw
calm_format limit start end fault calm lawful (cause, goes) = (no_failed_read, no_cut, no_lack_of_anchors, no_lack_of_blocks)
  where
    no_failed_read : fault ≢ ReadFailed
    no_failed_read is = by_plan start end calm goes (λ stays.
        let failed : (device_of start).failed_reads < (device_of end).failed_reads = subst (λ (x : Fault). FormatCause (device_of start) limit x (device_of end)) is cause in
        let same = stays.no_failed_read in
        omega (arith, failed, same))

    no_cut : fault ≢ PowerCut
    no_cut is = by_plan start end calm goes (λ stays.
        let off : (device_of end).powered ≡ false = subst (λ (x : Fault). FormatCause (device_of start) limit x (device_of end)) is cause in
        true≢false (sym stays.calm.powered ∙ off))

    no_lack_of_anchors : fault ≢ NoAnchors
    no_lack_of_anchors is = by_plan start end calm goes (λ stays.
        let lacks : LacksAnchors (device_of start) (device_of end) = subst (λ (x : Fault). FormatCause (device_of start) limit x (device_of end)) is cause in
        let none : bad_anchors lacks.0 ≡ 0 = none_counted (set.contains lacks.0) (range_with_len 0 ANCHORS) (none_bad lacks.0 (none_failed start end lacks.0 lacks.1 stays)) in
        let many = lacks.2 in
        omega (arith, none, many))

    no_lack_of_blocks : fault ≢ FlashFull
    no_lack_of_blocks is = by_plan start end calm goes (λ stays.
        let lacks : LacksBlocks (device_of start) (device_of end) = subst (λ (x : Fault). FormatCause (device_of start) limit x (device_of end)) is cause in
        let none = none_failed start end lacks.0 lacks.1 stays in
        elim lacks.3 [
          | inl all ↦ let least = lawful.blocks_least in true≢false (sym (all ANCHORS (omega arith, omega (arith, least))) ∙ none_bad lacks.0 none ANCHORS)
          | inr full ↦ omega (arith, full, none)
        ])

-- A look at what history holds leaves a system.
use Rattle.std.proofs.Common.{◌≡◌, Bool, true, false, ◌||◌, Option, Some, None, Result, refl, sym, ap, subst, ◌∙◌}
use Rattle.std.specs.FinSet as set
use Rattle.std.specs.Prelude.{IfSome}
use Rattle.fs_types.specs.declared.fault.Fault.{Fault}
use Rattle.history_machine.specs.History.{map_roots, map_group}
use Rattle.history_machine.specs.Machine.{machine_with}
use Rattle.flash_model.specs.Device.{Device}
use Rattle.block_ring.specs.Ring.{Ring}
use Rattle.reclaim.specs.Passes.{Pass}
use Rattle.working_state.specs.Moments.{moment}
use Rattle.working_state.specs.Seen.{tree_on}
use Rattle.working_state.specs.Steps.{is_cut_answer}
use Rattle.working_state.specs.Worked.{IsLooked}
use Rattle.working_state.specs.declared.state.State.{State}
use Rattle.system.specs.HistorySpace.{Looks}
use Rattle.system.specs.Reclaiming.{Stays}
use Rattle.system.specs.Systems.{IsSystem, IsRunning}
use Rattle.system.specs.declared.systems.System.{System}
use Rattle.system.proofs.Passing.{Keeps, must_used, kept_system, kept_stays, kept_running, with_power, power_system}
use Rattle.system.proofs.StateSteps.{with_state}

module _ {T : Type 0} (d e : Device) (m : System) (u : State) (answer : Result T Fault) (s : IsSystem d m) (on : m.state.is_off ≡ false) (l : IsLooked (moment d m.state) (moment e u)) (cut : is_cut_answer answer ≡ true → e.powered ≡ false) where
  still_on : u.is_off ≡ false
  still_on = l.rest.is_off ∙ on

  keeps : Keeps d e m (with_state m u)
  keeps = record {
    reads = l.untouched.device;
    history = l.rest.history;
    group = l.rest.group;
    bodies = refl;
    sized = refl;
    prepared = λ b has unused. (has, sym (ap (λ (r : Ring). set.contains r.used b) l.untouched.ring) ∙ unused);
    rest = λ i. machine_with (map_roots (tree_on d) (l.rest.history i)) (map_group (tree_on d) (l.rest.group i)) (l.rest.files i);
    is_on = still_on;
    bad = l.untouched.bad;
    blocks = ap (λ (r : Ring). r.blocks) l.untouched.ring;
    last = ap (λ (r : Ring). r.last) l.untouched.ring;
    takes = ap (λ (r : Ring). r.takes) l.untouched.ring;
    fits = l.fits;
    anchors = refl;
    record_roots = refl;
    used = λ b must. ap (λ (r : Ring). set.contains r.used b) l.untouched.ring ∙ must_used d m s on b must;
    listed = λ b bad unused. s.listed b bad (sym (ap (λ (r : Ring). set.contains r.used b) l.untouched.ring) ∙ unused);
  }

  running : IfSome m.pass (IsRunning e (with_state m u))
  running = by m.pass (s.passing on)
    where
      by : (o : Option Pass) → IfSome o (IsRunning d m) → IfSome o (IsRunning e (with_state m u))
      by None none = tt
      by (Some p) runs =
          kept_running d e m (with_state m u) s on keeps p (λ b used. ap (λ (r : Ring). set.contains r.used b) l.untouched.ring ∙ used) (ap (λ (r : Ring). r.note) l.untouched.ring) runs

  abbrev left : System
  left = with_power (with_state m u) (u.is_off || is_cut_answer answer)

  is_left : IsSystem e left
  is_left =
      power_system e (with_state m u) (u.is_off || is_cut_answer answer) (kept_system d e m (with_state m u) s on keeps running) still_on
      (λ off. cut (sym (ap (λ (b : Bool). b || is_cut_answer answer) still_on) ∙ off))

  is_looked : Looks d m answer e left
  is_looked =
      let stays : Stays d m e (with_state m u) = kept_stays d e m (with_state m u) s on keeps in
      record {
        stays = record { reads = stays.reads; history = stays.history; group = stays.group; machine = stays.machine; bad = stays.bad; last = stays.last; takes = stays.takes; anchors = stays.anchors; room = stays.room; prepared = stays.prepared };
        ring = l.untouched.ring;
        pass = refl;
        record_roots = refl;
        off = ap (λ (b : Bool). b || is_cut_answer answer) still_on;
      }

  pub looked_history : (t : State) (result : Result T Fault) → t ≡ left.state → result ≡ answer → IsSystem e (with_state m t) × Looks d m result e (with_state m t)
  looked_history t result is same =
      subst (λ (r : Result T Fault). IsSystem e (with_state m t) × Looks d m r e (with_state m t)) (sym same)
      (subst (λ (v : State). IsSystem e (with_state m v) × Looks d m answer e (with_state m v)) (sym is) (is_left, is_looked))

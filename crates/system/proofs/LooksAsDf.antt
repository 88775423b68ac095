-- A look at what history holds leaves a system as a call `df`.
use Rattle.std.proofs.Common.{◌≡◌, ℕ, zero, suc, false, Result, Ok, Err, refl, arith}
use Rattle.std.specs.Prelude.{IfOk, IfErr}
use Rattle.history_machine.specs.Machine.{Space, reply_of}
use Rattle.fs_types.specs.declared.call.Call.{Call}
use Rattle.fs_types.specs.declared.call.Reply.{Reply}
use Rattle.fs_types.specs.declared.fault.Fault.{Fault}
use Rattle.fs_types.specs.declared.fault.Fault.TheVariants.{FlashFull}
use Rattle.flash_model.specs.Device.{Device}
use Rattle.working_state.specs.Moments.{moment, machine_at}
use Rattle.working_state.specs.Roots.{IsSpace}
use Rattle.working_state.specs.Seen.{seen_on}
use Rattle.working_state.specs.Steps.{replied}
use Rattle.working_state.specs.Worked.{IsLooked, ReadCause}
use Rattle.working_state.specs.declared.state.State.{State}
use Rattle.working_state.proofs.Refusals.{remembering}
use Rattle.system.specs.HistorySpace.{FreeAfter, Finds, df_answer}
use Rattle.system.specs.Steps.{SystemStep}
use Rattle.system.specs.Systems.{IsSystem}
use Rattle.system.specs.VersionSpace.{IsHistorySpace}
use Rattle.system.specs.declared.systems.System.{System}
use Rattle.system.specs.declared.version_space.HistorySpace.{HistorySpace}
use Rattle.system.proofs.Measured.{IsMeasured, measured, measured_mounted}
use Rattle.system.proofs.StateSteps.{with_state, state_step}
use Rattle.system.proofs.Twice.{step_once}

-- what is free with no version forgotten is free
space_now : (d : Device) (s : State) (free : ℕ) → FreeAfter d s 0 free → (space : Space) × IsSpace d s space
space_now d s free is = (is.space, record { blocks = is.is.blocks; bad = is.is.bad; reached = is.is.reached; are_reached = is.is.are_reached; free = is.is.free; anchors = is.is.anchors })

module _ (d e : Device) (m : System) (u : State) (s : IsSystem d m) (on : m.state.is_off ≡ false) (l : IsLooked (moment d m.state) (moment e u)) where
  df_step : (r : Result Reply Fault) → IsMeasured (moment d m.state) (moment e u) r → SystemStep d m Call.Df r e (with_state m (remembering u r))
  df_step r is =
      let left = measured_mounted (moment d m.state) (moment e u) s.mounted r is in
      let step = measured (moment d m.state) (moment e u) s.mounted r is on in
      step_once d e m (with_state m (remembering u r)) Call.Df r (state_step d e m (remembering u r) m.bodies Call.Df r s step refl (λ _. refl)) s (λ capacity x. refl)

  -- nodes were read
  read : (free : ℕ) → FreeAfter e u 0 free → (reply : Reply) × SystemStep d m Call.Df (Ok reply) e (with_state m (remembering {T = Reply} u (Ok reply)))
  read free is =
      let (space, told) = space_now e u free is in
      let reply : Reply = reply_of space (machine_at (moment d m.state)) Call.Df in
      (reply, df_step (Ok reply) (record { looked = l; told = (space, told, refl); why = tt }))

  -- they were not
  refused : (fault : Fault) → ReadCause (seen_on d m.state) fault (seen_on e u) → SystemStep d m Call.Df (Err fault) e (with_state m (remembering {T = Reply} u (Err fault)))
  refused fault why = df_step (Err fault) (record { looked = l; told = tt; why = why })

  -- a reply that tells nothing
  any : Reply
  any = Reply.Empty

  pub found_df : (blocks : ℕ) (r : Result ℕ Fault) → Finds d m.state blocks r e u → (reply : Reply) × SystemStep d m Call.Df (df_answer reply r) e (with_state m (remembering u r))
  found_df blocks (Ok zero) finds = read finds.enough.0 finds.enough.1
  found_df blocks (Ok (suc k)) finds = let x = finds.least 0 (omega arith) in read x.0 x.1
  found_df blocks (Err FlashFull) finds = let x = finds 0 (omega arith) in read x.0 x.1
  found_df blocks (Err fault) finds = (any, refused fault finds)

  pub space_df : (r : Result HistorySpace Fault) → IfOk r (IsHistorySpace e u) → IfErr r (λ fault. ReadCause (seen_on d m.state) fault (seen_on e u))
      → (reply : Reply) × SystemStep d m Call.Df (replied (λ space. reply) r) e (with_state m (remembering u r))
  space_df (Ok space) told why = read told.free told.now
  space_df (Err fault) told why = (any, refused fault why)

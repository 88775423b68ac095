-- A call that is carried out, and once more where room was made for it.
use Rattle.std.proofs.Common.{◌≡◌, ℕ, inl, inr, Bool, true, false, Result, Ok, Err, refl, sym, subst}
use Rattle.std.proofs.lemmas.Bool.{true≢false}
use Rattle.fs_types.specs.declared.call.Call.{Call}
use Rattle.fs_types.specs.declared.call.Reply.{Reply}
use Rattle.fs_types.specs.declared.fault.Fault.{Fault}
use Rattle.fs_types.specs.declared.fault.Fault.TheVariants.{FlashFull}
use Rattle.history_machine.specs.Machine.{Machine, change_need}
use Rattle.flash_model.specs.Device.{Device}
use Rattle.system.specs.Commits.{TriesOnce}
use Rattle.system.specs.Rooms.{MakesRoom}
use Rattle.system.specs.Steps.{SystemStep}
use Rattle.system.specs.Systems.{IsSystem}
use Rattle.system.specs.declared.systems.System.{System}
use Rattle.system.proofs.Retried.{once_step, twice_step, full_on, never_full}

-- a call that needs no node is tried once
pub step_once : (d e : Device) (m n : System) (call : Call) (result : Result Reply Fault) → TriesOnce d m call result e n → IsSystem d m → ((capacity : ℕ) (x : Machine) → change_need capacity x call ≡ 0) → SystemStep d m call result e n
step_once d e m n call result once s none = once_step d e m n call result s once (never_full d e m n call result once none)

-- what is known of a call that was tried
pub record IsTriedOnce (d b : Device) (m k : System) (call : Call) (first : Result Reply Fault) : Type 0 where
  pub system : IsSystem d m
  pub once : TriesOnce d m call first b k
  pub left : IsSystem b k

pub tried_call : (d b : Device) (m k : System) (call : Call) (first : Result Reply Fault) → IsSystem d m → IsSystem b k → TriesOnce d m call first b k → IsTriedOnce d b m k call first
tried_call d b m k call first s left once = record { system = s; once = once; left = left }

module _ (d b : Device) (m k : System) (call : Call) (first : Result Reply Fault) (tried : IsTriedOnce d b m k call first) where
  was_full : first ≡ Err FlashFull → TriesOnce d m call (Err FlashFull) b k
  was_full is = subst (λ (r : Result Reply Fault). TriesOnce d m call r b k) is tried.once

  pub still_on : first ≡ Err FlashFull → k.state.is_off ≡ false
  still_on is = full_on d b m k call (was_full is)

  -- it is answered
  pub is_done : (e : Device) (n : System) (room : Bool) → room ≡ false → MakesRoom first b k (Ok room) e n → SystemStep d m call first e n
  is_done e n false is_no (other, device, system) =
      subst (λ (x : Device). SystemStep d m call first x n) (sym device)
      (subst (λ (x : System). SystemStep d m call first b x) (sym system) (once_step d b m k call first tried.system tried.once other))
  is_done e n true is_no made = absurd (true≢false is_no)

  -- no room is made
  pub is_refused : (e : Device) (n : System) (fault : Fault) → MakesRoom first b k (Err fault) e n → (result : Result Reply Fault) → result ≡ Err fault → SystemStep d m call result e n
  is_refused e n fault (is, why) result answers =
      twice_step d e m n call result tried.system
      (record { device = b; system = k; first = was_full is; full = tried.left; rest = inl (record { fault = fault; answers = answers; why = why }) })

  -- it is tried again
  pub is_again : (c e : Device) (q n : System) (room : Bool) → (room ≡ false → ⊥) → MakesRoom first b k (Ok room) c q → IsSystem c q → (result : Result Reply Fault) → TriesOnce c q call result e n → SystemStep d m call result e n
  is_again c e q n false not_no made ready result second = absurd (not_no refl)
  is_again c e q n true not_no (is, made) ready result second =
      twice_step d e m n call result tried.system
      (record { device = b; system = k; first = was_full is; full = tried.left; rest = inr (record { device = c; system = q; room = made; ready = ready; second = second }) })

-- Versions forgotten until so many blocks are free: what was found, and the call after it.
use Rattle.std.proofs.Common.{◌≡◌, ℕ, zero, suc, false, None, Result, Ok, Err, refl, sym, ap, ◌∙◌, arith}
use Rattle.std.proofs.lemmas.Bool.{true≢false, both_ways}
use Rattle.std.specs.Prelude.{is_some}
use Rattle.fs_types.specs.declared.call.Call.{Call}
use Rattle.fs_types.specs.declared.call.Reply.{Reply}
use Rattle.fs_types.specs.declared.fault.Fault.{Fault}
use Rattle.flash_model.specs.Device.{Device}
use Rattle.mounting.specs.Costs.{AsksEach}
use Rattle.mounting.specs.Records.{working_roots}
use Rattle.system.specs.HistorySpace.{Looks, Finds, LooksAndForgets, ForgetsUntil, df_answer}
use Rattle.system.specs.Steps.{SystemStep}
use Rattle.system.specs.Systems.{IsSystem}
use Rattle.system.specs.declared.systems.System.{System}

module _ (d : Device) (m : System) (blocks : ℕ) (e : Device) (n : System) where
  -- it left the flash and the system as a call `df`
  abbrev AsDf : Result ℕ Fault → Type 0
  AsDf found = (reply : Reply) × SystemStep d m Call.Df (df_answer reply found) e n

  pub forgets_until : (result : Result ℕ Fault) → m.state.is_off ≡ false → m.state.group ≡ None → LooksAndForgets d m blocks result e n → ForgetsUntil d m blocks result e n
  forgets_until result on none works = record {
    stopped = λ off. absurd (both_ways m.state.is_off on off);
    grouped = λ _ some. absurd (true≢false (sym some ∙ ap is_some none));
    works = λ _ _. works;
  }

  pub found_fault : (fault : Fault) → Looks {T = ℕ} d m (Err fault) e n → IsSystem e n → Finds d m.state blocks (Err fault) e n.state → AsksEach d (working_roots m.state) e → AsDf (Err fault) → LooksAndForgets d m blocks (Err fault) e n
  found_fault fault looks mounted finds asks as_df = record { device = e; system = n; found = Err fault; looks = looks; mounted = mounted; finds = finds; asks = asks; as_df = as_df; forgets = (refl, refl, refl) }

  pub found_none : (count : ℕ) → count ≡ 0 → Looks d m (Ok count) e n → IsSystem e n → Finds d m.state blocks (Ok count) e n.state → AsksEach d (working_roots m.state) e → AsDf (Ok count) → LooksAndForgets d m blocks (Ok 0) e n
  found_none zero is looks mounted finds asks as_df = record { device = e; system = n; found = Ok 0; looks = looks; mounted = mounted; finds = finds; asks = asks; as_df = as_df; forgets = (refl, refl, refl) }
  found_none (suc k) is looks mounted finds asks as_df = absurd (omega (arith, is))

  module _ (f : Device) (o : System) where
    pub found_some : (count : ℕ) (reply : Reply) → (count ≡ 0 → ⊥) → Looks d m (Ok count) e n → IsSystem e n → Finds d m.state blocks (Ok count) e n.state → AsksEach d (working_roots m.state) e → AsDf (Ok count)
        → SystemStep e n (Call.Forget count) (Ok reply) f o → LooksAndForgets d m blocks (Ok count) f o
    found_some zero reply some looks mounted finds asks as_df step = absurd (some refl)
    found_some (suc k) reply some looks mounted finds asks as_df step = record { device = e; system = n; found = Ok (suc k); looks = looks; mounted = mounted; finds = finds; asks = asks; as_df = as_df; forgets = (refl, reply, step) }

    pub found_refused : (count : ℕ) (fault : Fault) → (count ≡ 0 → ⊥) → Looks d m (Ok count) e n → IsSystem e n → Finds d m.state blocks (Ok count) e n.state → AsksEach d (working_roots m.state) e → AsDf (Ok count)
        → SystemStep e n (Call.Forget count) (Err fault) f o → LooksAndForgets d m blocks (Err fault) f o
    found_refused zero fault some looks mounted finds asks as_df step = absurd (some refl)
    found_refused (suc k) fault some looks mounted finds asks as_df step = record { device = e; system = n; found = Ok (suc k); looks = looks; mounted = mounted; finds = finds; asks = asks; as_df = as_df; forgets = step }

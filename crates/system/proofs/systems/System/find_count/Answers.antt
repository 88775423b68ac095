use Rattle.std.proofs.Common.{◌≡◌, ℕ, ◌||◌, true, false, Result, Ok, Err, sym, subst}
use Rattle.std.proofs.lemmas.Bool.{true≢false}
use Rattle.fs_types.specs.declared.call.Call.{Call}
use Rattle.fs_types.specs.declared.call.Reply.{Reply}
use Rattle.fs_types.specs.declared.fault.Fault.{Fault}
use Rattle.fs_types.specs.declared.fault.Fault.TheVariants.{PowerCut}
use Rattle.flash_model.specs.Device.{Device}
use Rattle.working_state.specs.Steps.{is_cut_answer}
use Rattle.working_state.specs.declared.state.State.{State}
use Rattle.system.specs.HistorySpace.{Finds, df_answer}
use Rattle.system.specs.Steps.{SystemStep}
use Rattle.system.proofs.FreeSpace.{finds_still}
use Rattle.system.proofs.HistoryLooks.{looked_history}
use Rattle.system.proofs.LooksAsDf.{found_df}
use Rattle.system.proofs.StateSteps.{with_state}
use Rattle.system.proofs.systems.System.find_count.Goals as goal

-- a look that found the power off found it so
cut_off : (d : Device) (s : State) (blocks : ℕ) (e : Device) (t : State) (r : Result ℕ Fault) → Finds d s blocks r e t → is_cut_answer r ≡ true → e.powered ≡ false
cut_off d s blocks e t (Ok count) finds cut = absurd (true≢false (sym cut))
cut_off d s blocks e t (Err PowerCut) finds cut = finds
cut_off d s blocks e t (Err _) finds cut = absurd (true≢false (sym cut))

pub returns : goal.returns
returns g c =
    let d = g.F.Flash.device c.args.flash.now in
    let e = g.F.Flash.device c.find_least-found.new.flash in
    let found = c.find_least-found.ensures in
    let u = c.find_least-found.new.state in
    let left = looked_history d e c.args.self.now u c.find_least-found.result c.requires.system c.requires.is_on found.looked (cut_off d c.args.self.now.state c.args.blocks e u c.find_least-found.result found.finds)
    c.remember_cut.new.self c.remember_cut.result c.remember_cut.ensures.off c.remember_cut.ensures.same in
    record {
      system = left.0;
      looks = left.1;
      finds = subst (λ (r : Result ℕ Fault). Finds d c.args.self.now.state c.args.blocks r e c.remember_cut.new.self) (sym c.remember_cut.ensures.same)
          (subst (λ (v : State). Finds d c.args.self.now.state c.args.blocks c.find_least-found.result e v) (sym c.remember_cut.ensures.off)
          (finds_still d c.args.self.now.state c.args.blocks e u (u.is_off || is_cut_answer c.find_least-found.result) c.find_least-found.result found.finds));
      asks = found.asks;
      as_df = subst (λ (r : Result ℕ Fault). (reply : Reply) × SystemStep d c.args.self.now Call.Df (df_answer reply r) e (with_state c.args.self.now c.remember_cut.new.self)) (sym c.remember_cut.ensures.same)
          (subst (λ (v : State). (reply : Reply) × SystemStep d c.args.self.now Call.Df (df_answer reply c.find_least-found.result) e (with_state c.args.self.now v)) (sym c.remember_cut.ensures.off)
          (found_df d e c.args.self.now u c.requires.system c.requires.is_on found.looked c.args.blocks c.find_least-found.result found.finds));
    }

use Rattle.std.proofs.Common.{◌||◌, Result, sym, subst}
use Rattle.std.specs.Prelude.{IfOk, IfErr}
use Rattle.fs_types.specs.declared.call.Call.{Call}
use Rattle.fs_types.specs.declared.call.Reply.{Reply}
use Rattle.fs_types.specs.declared.fault.Fault.{Fault}
use Rattle.working_state.specs.Seen.{seen_on}
use Rattle.working_state.specs.Steps.{is_cut_answer, replied}
use Rattle.working_state.specs.Worked.{ReadCause}
use Rattle.working_state.specs.declared.state.State.{State}
use Rattle.system.specs.Steps.{SystemStep}
use Rattle.system.specs.VersionSpace.{IsHistorySpace}
use Rattle.system.specs.declared.version_space.HistorySpace.{HistorySpace}
use Rattle.system.proofs.HistoryLooks.{looked_history}
use Rattle.system.proofs.LooksAsDf.{space_df}
use Rattle.system.proofs.StateSteps.{with_state}
use Rattle.system.proofs.VersionSpaces.{cut_off, told_still}
use Rattle.system.proofs.systems.System.look_at_space.Goals as goal

pub returns : goal.returns
returns g c =
    let d = g.F.Flash.device c.args.flash.now in
    let e = g.F.Flash.device c.find_space-space.new.flash in
    let m = c.args.self.now in
    let found = c.find_space-space.ensures in
    let u = c.find_space-space.new.state in
    let r = c.find_space-space.result in
    let left = looked_history d e m u r c.requires.system c.requires.is_on found.looked (cut_off d m.state e u r found.why)
    c.remember_cut.new.self c.remember_cut.result c.remember_cut.ensures.off c.remember_cut.ensures.same in
    record {
      system = left.0;
      looks = left.1;
      told = subst (λ (x : Result HistorySpace Fault). IfOk x (IsHistorySpace e c.remember_cut.new.self)) (sym c.remember_cut.ensures.same)
          (subst (λ (v : State). IfOk r (IsHistorySpace e v)) (sym c.remember_cut.ensures.off) (told_still e u (u.is_off || is_cut_answer r) r found.told));
      why = subst (λ (x : Result HistorySpace Fault). IfErr x (λ fault. ReadCause (seen_on d m.state) fault (seen_on e c.remember_cut.new.self))) (sym c.remember_cut.ensures.same)
          (subst (λ (v : State). IfErr r (λ fault. ReadCause (seen_on d m.state) fault (seen_on e v))) (sym c.remember_cut.ensures.off) found.why);
      asks = found.asks;
      as_df = subst (λ (x : Result HistorySpace Fault). (reply : Reply) × SystemStep d m Call.Df (replied (λ space. reply) x) e (with_state m c.remember_cut.new.self)) (sym c.remember_cut.ensures.same)
          (subst (λ (v : State). (reply : Reply) × SystemStep d m Call.Df (replied (λ space. reply) r) e (with_state m v)) (sym c.remember_cut.ensures.off)
          (space_df d e m u c.requires.system c.requires.is_on found.looked r found.told found.why));
    }

use Rattle.std.proofs.Common.{rules, ◌≡◌, inl, inr, refl, subst}
use Rattle.std.proofs.lemmas.Result.{IfOk-weaker, IfErr-weaker}
use Rattle.fs_types.specs.declared.fault.Fault.{Fault}
use Rattle.flash_model.specs.Device.{Device}
use Rattle.flash_model.specs.Reading.{OnlyReads}
use Rattle.working_state.specs.Seen.{machine_on}
use Rattle.system.specs.Mounts.{IsMountOf}
use Rattle.system.specs.declared.systems.System.{System}
use Rattle.undofs.specs.Refusals.{RefusesMount}
use Rattle.inquiries.specs.declared.asking.AskFault.{AskFault}
use Rattle.updates.specs.Asked.{SecondCause, RefusesUpdate, UpdateCause}
use Rattle.updates.proofs.asking.ask_update.Goals as goal

-- what the work left of the first device is what that flash is left as
not_told : (d was end left e other : Device) (system : System) (fault : AskFault) → end ≡ left → IsMountOf d was system → OnlyReads d was
    → SecondCause (machine_on was system.state) was end e other fault → RefusesUpdate d e left other fault
not_told d was end left e other system fault same mounted reads why = record {
  device = was;
  system = system;
  mounted = mounted;
  reads = reads;
  why = subst (λ (x : Device). SecondCause (machine_on was system.state) was x e other fault) same why;
}

not_mounted : (d was left e other : Device) (fault : Fault) → was ≡ left → RefusesMount d was fault → UpdateCause d e left other (AskFault.Unmounted fault)
not_mounted d was left e other fault same refused = inl (fault, subst (λ (x : Device). RefusesMount d x fault) same refused, refl)

pub returns-in-Ok-clause-ok : goal.returns-in-Ok-clause-ok
returns-in-Ok-clause-ok g c =
    IfOk-weaker c.ask_second-told.result _ _ (λ bytes second. record { device = g.F.Flash.device c.in-Ok.fs.flash.now; system = c.in-Ok.fs.system; mounted = c.in-Ok.ensures.mounted; second = second }) c.ask_second-told.ensures.ok

pub returns-in-Ok-clause-err : goal.returns-in-Ok-clause-err
returns-in-Ok-clause-err g c =
    IfErr-weaker c.ask_second-told.result _ _ (λ fault why. inr (not_told (g.F.Flash.device c.args.first.now) (g.F.Flash.device c.in-Ok.fs.flash.now) (g.F.Flash.device c.ask_second-told.new.first.flash.now) _
    (g.G.Flash.device c.args.second.now) (g.G.Flash.device c.ask_second-told.new.second) c.in-Ok.fs.system fault (search rules) c.in-Ok.ensures.mounted c.in-Ok.ensures.only_reads why))
    c.ask_second-told.ensures.err

pub returns-in-Err-clause-err : goal.returns-in-Err-clause-err
returns-in-Err-clause-err g c =
    not_mounted (g.F.Flash.device c.args.first.now) (g.F.Flash.device c.in-Err.refused.flash.now) (g.F.Flash.device _) (g.G.Flash.device c.args.second.now) _ c.in-Err.refused.fault (search rules) c.in-Err.ensures.refused

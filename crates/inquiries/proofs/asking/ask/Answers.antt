use Rattle.std.proofs.Common.{rules, ◌≡◌, ◌∙◌, ◌⊎◌, Some, sym, subst}
use Rattle.std.specs.Prelude.{IfOk, IfErr}
use Rattle.fs_types.specs.declared.fault.Fault.{Fault}
use Rattle.flash_model.specs.Device.{Device}
use Rattle.flash_model.specs.Reading.{OnlyReads}
use Rattle.working_state.specs.Seen.{machine_on}
use Rattle.system.specs.Mounts.{IsMountOf}
use Rattle.system.specs.declared.systems.System.{System}
use Rattle.inquiries.specs.Asked.{AskCause, RefusesInquiry, Tells}
use Rattle.inquiries.specs.Inquiries.{inquiry_refusal}
use Rattle.inquiries.specs.Readings.{Meets}
use Rattle.inquiries.specs.declared.inquiry.Inquiry.{Inquiry}
use Rattle.inquiries.proofs.KeptTrees.{only_versions}
use Rattle.inquiries.proofs.asking.ask.Goals as goal

-- what the work left of the device is what the flash is left as
refused_on : (d was end left : Device) (inquiry : Inquiry) (system : System) (fault : Fault) → end ≡ left → IsMountOf d was system → OnlyReads d was
    → (inquiry_refusal (machine_on was system.state) inquiry ≡ Some fault) ⊎ Meets was end fault → RefusesInquiry d inquiry left fault
refused_on d was end left inquiry system fault same mounted reads why = record {
  device = was;
  system = system;
  mounted = mounted;
  reads = reads;
  why = subst (λ (e : Device). (inquiry_refusal (machine_on was system.state) inquiry ≡ Some fault) ⊎ Meets was e fault) same why;
}

pub returns-then-is_of_versions-clause-ok : goal.returns-then-is_of_versions-clause-ok
returns-then-is_of_versions-clause-ok g c =
    let versions = only_versions c.args.inquiry.now (sym c.is_of_versions.ensures ∙ c.if-is_of_versions.true) in
    subst (λ (inquiry : Inquiry). IfOk c.ask_versions.result (Tells (g.F.Flash.device c.args.flash.now) inquiry)) (sym versions) c.ask_versions.ensures.ok

pub returns-then-is_of_versions-clause-err : goal.returns-then-is_of_versions-clause-err
returns-then-is_of_versions-clause-err g c =
    let versions = only_versions c.args.inquiry.now (sym c.is_of_versions.ensures ∙ c.if-is_of_versions.true) in
    subst (λ (inquiry : Inquiry). IfErr c.ask_versions.result (AskCause (g.F.Flash.device c.args.flash.now) inquiry (g.F.Flash.device c.ask_versions.new.flash))) (sym versions) c.ask_versions.ensures.err

pub returns-in-Refused-clause-err : goal.returns-in-Refused-clause-err
returns-in-Refused-clause-err g c =
    let why = rw c.in-Refused.is at c.in-Err-told.ensures.err in
    refused_on (g.F.Flash.device c.args.flash.now) (g.F.Flash.device c.in-Ok.fs.flash.now) (g.F.Flash.device c.tell-told.new.fs.flash.now) _ c.args.inquiry.now c.in-Ok.fs.system c.in-Refused.refusal
    (search rules) c.in-Ok.ensures.mounted c.in-Ok.ensures.only_reads why

pub returns-in-TooManyLines-clause-err : goal.returns-in-TooManyLines-clause-err
returns-in-TooManyLines-clause-err g c =
    let many = rw c.in-TooManyLines.is at c.in-Err-told.ensures.err in
    record {
      device = g.F.Flash.device c.in-Ok.fs.flash.now;
      system = c.in-Ok.fs.system;
      mounted = c.in-Ok.ensures.mounted;
      accepted = many.0;
      many = many.1;
    }

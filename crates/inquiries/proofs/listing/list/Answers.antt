use Rattle.std.proofs.Common.{rules, ◌≡◌, ◌⊎◌, Some, subst}
use Rattle.fs_types.specs.declared.fault.Fault.{Fault}
use Rattle.flash_model.specs.Device.{Device}
use Rattle.flash_model.specs.Reading.{OnlyReads}
use Rattle.working_state.specs.Seen.{machine_on}
use Rattle.system.specs.Mounts.{IsMountOf}
use Rattle.system.specs.declared.systems.System.{System}
use Rattle.inquiries.specs.Asked.{RefusesInquiry}
use Rattle.inquiries.specs.Inquiries.{inquiry_refusal}
use Rattle.inquiries.specs.Readings.{Meets}
use Rattle.fs_types.specs.declared.call.View.{View}
use Rattle.inquiries.specs.declared.inquiry.Inquiry.{Inquiry}
use Rattle.inquiries.proofs.listing.list.Goals as goal

-- what the work left of the device is what the flash is left as
refused_on : (d was end left : Device) (inquiry : Inquiry) (system : System) (fault : Fault) → end ≡ left → IsMountOf d was system → OnlyReads d was
    → (inquiry_refusal (machine_on was system.state) inquiry ≡ Some fault) ⊎ Meets was end fault → RefusesInquiry d inquiry left fault
refused_on d was end left inquiry system fault same mounted reads why = record {
  device = was;
  system = system;
  mounted = mounted;
  reads = reads;
  why = subst (λ (e : Device). (inquiry_refusal (machine_on was system.state) inquiry ≡ Some fault) ⊎ Meets was e fault) same why;
}

pub returns-in-Refused-clause-err : goal.returns-in-Refused-clause-err
returns-in-Refused-clause-err g c =
    let why = rw c.in-Refused.is at c.in-Err-found.ensures.err in
    refused_on (g.F.Flash.device c.args.flash.now) (g.F.Flash.device c.in-Ok.fs.flash.now) (g.F.Flash.device c.few_items-found.new.fs.flash.now) _ (Inquiry.Tree View.Present) c.in-Ok.fs.system c.in-Refused.refusal
    (search rules) c.in-Ok.ensures.mounted c.in-Ok.ensures.only_reads why

pub returns-in-TooManyLines-clause-err : goal.returns-in-TooManyLines-clause-err
returns-in-TooManyLines-clause-err g c =
    let many = rw c.in-TooManyLines.is at c.in-Err-found.ensures.err in
    record {
      device = g.F.Flash.device c.in-Ok.fs.flash.now;
      system = c.in-Ok.fs.system;
      mounted = c.in-Ok.ensures.mounted;
      accepted = many.0;
      many = many.1;
    }

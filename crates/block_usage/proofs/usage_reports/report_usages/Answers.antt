use Rattle.std.proofs.Common.{sym, subst}
use Rattle.block_usage.specs.UsageReports.{ReportCause}
use Rattle.block_usage.proofs.ReportLemmas.{report_cause}
use Rattle.block_usage.proofs.usage_reports.report_usages.Goals as goal

pub returns-in-Ok-usages_of_state-clause-ok : goal.returns-in-Ok-usages_of_state-clause-ok
returns-in-Ok-usages_of_state-clause-ok g c = record {
  device = g.F.Flash.device c.mount.new.flash;
  system = c.in-Ok.system;
  reads = c.mount.ensures.only_reads;
  mounted = c.in-Ok.ensures.ok;
  are = c.in-Ok-usages_of_state.ensures.ok;
}

pub returns-clause-err : goal.returns-clause-err
returns-clause-err g c =
    let given = g.F.Flash.device c.args.flash.now in
    let left = g.F.Flash.device c.usages_of_state.new.flash in
    subst (ReportCause given c.args.view.now c.args.path.now left) (sym c.of_usages.ensures)
    (report_cause given (g.F.Flash.device c.mount.new.flash) left c.in-Ok.system c.args.view.now c.args.path.now c.in-Err-usages_of_state.fault c.mount.ensures.only_reads c.in-Ok.ensures.ok c.in-Err-usages_of_state.ensures.err)

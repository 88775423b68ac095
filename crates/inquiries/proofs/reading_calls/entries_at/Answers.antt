use Rattle.std.proofs.Common.{None, arith}
use Rattle.std.proofs.lemmas.Result.{IfOk-weaker}
use Rattle.fs_types.specs.declared.call.Call.{Call}
use Rattle.fs_types.specs.declared.call.Reply.{Reply}
use Rattle.inquiries.proofs.Entries.{told_all}
use Rattle.inquiries.proofs.Readings.{entries_reads, same_machine, more_failed, told_of, refused_of}
use Rattle.inquiries.proofs.reading_calls.entries_at.Goals as goal

pub returns-clause-same : goal.returns-clause-same
returns-clause-same g c = record {
  machine = same_machine _ _ c.args.fs.now.system c.entries.new.self.system (Call.Entries c.args.view.now c.args.path.now None 18446744073709551615) _ (entries_reads c.args.view.now c.args.path.now None 18446744073709551615) c.entries.ensures.step.step;
  pages = c.entries.ensures.pages;
  failed_reads = more_failed _ _ c.args.fs.now.system c.entries.new.self.system (Call.Entries c.args.view.now c.args.path.now None 18446744073709551615) _ (entries_reads c.args.view.now c.args.path.now None 18446744073709551615) c.entries.ensures.step.step;
  same_flash = c.entries.ensures.step.same_flash;
}

pub returns-clause-ok : goal.returns-clause-ok
returns-clause-ok g c =
    IfOk-weaker c.entries.result _ _ (λ x same. told_all _ c.args.view.now c.args.path.now 18446744073709551615 x c.args.fs.now.mounted.mounted.machine (omega arith) same)
    (told_of Reply.Entries _ _ c.args.fs.now.system c.entries.new.self.system (Call.Entries c.args.view.now c.args.path.now None 18446744073709551615) (entries_reads c.args.view.now c.args.path.now None 18446744073709551615) c.entries.result c.entries.ensures.step.step)

pub returns-clause-err : goal.returns-clause-err
returns-clause-err g c = refused_of Reply.Entries _ _ c.args.fs.now.system c.entries.new.self.system (Call.Entries c.args.view.now c.args.path.now None 18446744073709551615) (entries_reads c.args.view.now c.args.path.now None 18446744073709551615) c.entries.result c.args.fs.now.mounted c.entries.ensures.step.step

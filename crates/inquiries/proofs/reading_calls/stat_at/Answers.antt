use Rattle.std.proofs.lemmas.Result.{IfOk-weaker}
use Rattle.fs_types.specs.declared.call.Call.{Call}
use Rattle.fs_types.specs.declared.call.Reply.{Reply}
use Rattle.inquiries.proofs.Readings.{stat_reads, same_machine, more_failed, accepted_of, told_of, refused_of}
use Rattle.inquiries.proofs.reading_calls.stat_at.Goals as goal

pub returns-clause-same : goal.returns-clause-same
returns-clause-same g c = record {
  machine = same_machine _ _ c.args.fs.now.system c.stat.new.self.system (Call.Stat c.args.view.now c.args.path.now) _ (stat_reads c.args.view.now c.args.path.now) c.stat.ensures.step.step;
  pages = c.stat.ensures.pages;
  failed_reads = more_failed _ _ c.args.fs.now.system c.stat.new.self.system (Call.Stat c.args.view.now c.args.path.now) _ (stat_reads c.args.view.now c.args.path.now) c.stat.ensures.step.step;
  same_flash = c.stat.ensures.step.same_flash;
}

pub returns-clause-accepted : goal.returns-clause-accepted
returns-clause-accepted g c = accepted_of Reply.Stat _ _ c.args.fs.now.system c.stat.new.self.system (Call.Stat c.args.view.now c.args.path.now) (stat_reads c.args.view.now c.args.path.now) c.stat.result c.stat.ensures.step.step

pub returns-clause-ok : goal.returns-clause-ok
returns-clause-ok g c = IfOk-weaker c.stat.result _ _ (λ x same. cc) (told_of Reply.Stat _ _ c.args.fs.now.system c.stat.new.self.system (Call.Stat c.args.view.now c.args.path.now) (stat_reads c.args.view.now c.args.path.now) c.stat.result c.stat.ensures.step.step)

pub returns-clause-err : goal.returns-clause-err
returns-clause-err g c = refused_of Reply.Stat _ _ c.args.fs.now.system c.stat.new.self.system (Call.Stat c.args.view.now c.args.path.now) (stat_reads c.args.view.now c.args.path.now) c.stat.result c.args.fs.now.mounted c.stat.ensures.step.step

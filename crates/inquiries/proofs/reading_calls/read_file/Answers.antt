use Rattle.fs_types.specs.declared.call.Call.{Call}
use Rattle.fs_types.specs.declared.call.Reply.{Reply}
use Rattle.inquiries.proofs.Readings.{file_reads, same_machine, more_failed, accepted_of, file_of, refused_of}
use Rattle.inquiries.proofs.reading_calls.read_file.Goals as goal

pub returns-clause-same : goal.returns-clause-same
returns-clause-same g c = record {
  machine = same_machine _ _ c.args.fs.now.system c.read_at.new.self.system (Call.ReadAt c.args.view.now c.args.path.now 0 16777216) _ (file_reads c.args.view.now c.args.path.now 0 16777216) c.read_at.ensures.step.step;
  pages = c.read_at.ensures.pages;
  failed_reads = more_failed _ _ c.args.fs.now.system c.read_at.new.self.system (Call.ReadAt c.args.view.now c.args.path.now 0 16777216) _ (file_reads c.args.view.now c.args.path.now 0 16777216) c.read_at.ensures.step.step;
  same_flash = c.read_at.ensures.step.same_flash;
}

pub returns-clause-accepted : goal.returns-clause-accepted
returns-clause-accepted g c = accepted_of Reply.Bytes _ _ c.args.fs.now.system c.read_at.new.self.system (Call.ReadAt c.args.view.now c.args.path.now 0 16777216) (file_reads c.args.view.now c.args.path.now 0 16777216) c.read_at.result c.read_at.ensures.step.step

pub returns-clause-err : goal.returns-clause-err
returns-clause-err g c = refused_of Reply.Bytes _ _ c.args.fs.now.system c.read_at.new.self.system (Call.ReadAt c.args.view.now c.args.path.now 0 16777216) (file_reads c.args.view.now c.args.path.now 0 16777216) c.read_at.result c.args.fs.now.mounted c.read_at.ensures.step.step

pub returns-clause-ok : goal.returns-clause-ok
returns-clause-ok g c = file_of _ _ c.args.fs.now.system c.read_at.new.self.system c.args.view.now c.args.path.now c.read_at.result c.args.fs.now.mounted c.read_at.ensures.step.step

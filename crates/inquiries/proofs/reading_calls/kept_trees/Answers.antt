use Rattle.inquiries.proofs.Readings.{logged_versions, logged_cursor, logged_checkpoints, log_met}
use Rattle.inquiries.proofs.reading_calls.kept_trees.Goals as goal

pub returns-clause-serials : goal.returns-clause-serials
returns-clause-serials g c = logged_versions (g.F.Flash.device c.args.fs.now.flash.now) c.args.fs.now.system c.log.result c.log.ensures.step

pub returns-clause-cursor : goal.returns-clause-cursor
returns-clause-cursor g c = logged_cursor (g.F.Flash.device c.args.fs.now.flash.now) c.args.fs.now.system c.log.result c.log.ensures.step

pub returns-clause-checkpoints : goal.returns-clause-checkpoints
returns-clause-checkpoints g c = logged_checkpoints (g.F.Flash.device c.args.fs.now.flash.now) c.args.fs.now.system c.log.result c.log.ensures.step

pub returns-clause-err : goal.returns-clause-err
returns-clause-err g c = log_met (g.F.Flash.device c.args.fs.now.flash.now) c.args.fs.now.system c.log.result c.log.ensures.step c.args.fs.now.mounted

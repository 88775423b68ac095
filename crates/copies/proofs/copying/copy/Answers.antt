use Rattle.std.proofs.Common.{Err, Ok, inl}
use Rattle.inquiries.proofs.Readings.{log_met, logged_checkpoints, logged_cursor, logged_versions}
use Rattle.copies.proofs.copying.copy.Goals as goal

pub copy_kept-requires-clause-serials : goal.copy_kept-requires-clause-serials
copy_kept-requires-clause-serials g c = logged_versions _ c.args.from.now.system (Ok c.in-Ok.log) c.in-Ok.ensures.step

pub copy_kept-requires-clause-cursor : goal.copy_kept-requires-clause-cursor
copy_kept-requires-clause-cursor g c = logged_cursor _ c.args.from.now.system (Ok c.in-Ok.log) c.in-Ok.ensures.step

pub copy_kept-requires-clause-names : goal.copy_kept-requires-clause-names
copy_kept-requires-clause-names g c = logged_checkpoints _ c.args.from.now.system (Ok c.in-Ok.log) c.in-Ok.ensures.step

pub returns-in-Err-clause-err : goal.returns-in-Err-clause-err
returns-in-Err-clause-err g c = inl (log_met _ c.args.from.now.system (Err c.in-Err.fault) c.in-Err.ensures.step c.args.from.now.mounted)

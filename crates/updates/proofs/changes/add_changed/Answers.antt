use Rattle.std.proofs.Common.{inl, inr, refl}
use Rattle.std.proofs.lemmas.Result.{err_from_is_err_and}
use Rattle.fs_types.specs.declared.call.Call.{Call}
use Rattle.fs_types.specs.declared.call.View.{View}
use Rattle.plain_trees.specs.Trees.{bytes_of_file}
use Rattle.history_machine.specs.Machine.{working_tree}
use Rattle.inquiries.specs.Readings.{shown}
use Rattle.inquiries.proofs.Entries.{file_accepted}
use Rattle.inquiries.proofs.Readings.{unchanged-refl, met_only}
use Rattle.updates.proofs.changes.add_changed.Goals as goal

pub returns-in_err-bytes-clause-err : goal.returns-in_err-bytes-clause-err
returns-in_err-bytes-clause-err g c =
    let r = err_from_is_err_and c.from_residual.result c.from_residual.ensures.1 in
    let m = shown c.args.first.now in
    let p = c.args.item.now.path in
    rw (r.1, r.2) (inl (met_only c.args.first.now c.args.first.now c.read_file.new.fs (Call.ReadAt View.Present p 0 16777216) c.in_err-bytes.field-0.0 (unchanged-refl c.args.first.now)
    (file_accepted m View.Present c.args.first.now.mounted.mounted.machine refl p (bytes_of_file (working_tree m) p) 0 16777216 c.requires.first.there) c.in_err-bytes.ensures.err))

pub returns-in_err-others-clause-err : goal.returns-in_err-others-clause-err
returns-in_err-others-clause-err g c =
    let r = err_from_is_err_and c.from_residual-in_err-others.result c.from_residual-in_err-others.ensures.1 in
    rw (r.1, r.2) (inr c.in_err-others.ensures.err)

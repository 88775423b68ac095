use Rattle.std.proofs.lemmas.Result.{err_from_is_err_and}
use Rattle.fs_types.specs.declared.call.Call.{Call}
use Rattle.plain_trees.specs.Trees.{bytes_of_file}
use Rattle.history_machine.specs.Machine.{view_tree}
use Rattle.inquiries.specs.Readings.{shown}
use Rattle.inquiries.proofs.Entries.{file_accepted}
use Rattle.inquiries.proofs.Readings.{unchanged-refl, met_only}
use Rattle.inquiries.proofs.differences.has_other_bytes.Goals as goal

pub returns-in_err-bytes-clause-err : goal.returns-in_err-bytes-clause-err
returns-in_err-bytes-clause-err g c =
    let p = err_from_is_err_and c.from_residual.result c.from_residual.ensures.1 in
    let m = shown c.args.fs.now in
    rw (p.1, p.2) (met_only c.args.fs.now c.args.fs.now c.read_file.new.fs (Call.ReadAt c.args.view.now c.args.path.now 0 16777216) c.in_err-bytes.field-0.0 (unchanged-refl c.args.fs.now)
    (file_accepted m c.args.view.now c.args.fs.now.mounted.mounted.machine c.requires.view.accepted c.args.path.now (bytes_of_file (view_tree m c.args.view.now) c.args.path.now) 0 16777216 c.requires.view.there) c.in_err-bytes.ensures.err)

pub returns-in_err-others-clause-err : goal.returns-in_err-others-clause-err
returns-in_err-others-clause-err g c =
    let p = err_from_is_err_and c.from_residual-in_err-others.result c.from_residual-in_err-others.ensures.1 in
    let m = shown c.args.fs.now in
    rw (p.1, p.2) (met_only c.args.fs.now c.read_file.new.fs c.read_file-2.new.fs (Call.ReadAt c.args.other.now c.args.path.now 0 16777216) c.in_err-others.field-0.0 c.read_file.ensures.same
    (file_accepted m c.args.other.now c.args.fs.now.mounted.mounted.machine c.requires.other.accepted c.args.path.now (bytes_of_file (view_tree m c.args.other.now) c.args.path.now) 0 16777216 c.requires.other.there) c.in_err-others.ensures.err)

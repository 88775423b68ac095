use Rattle.std.proofs.lemmas.Result.{err_from_is_err_and}
use Rattle.fs_types.specs.declared.call.Call.{Call}
use Rattle.plain_trees.specs.Trees.{bytes_of_file}
use Rattle.history_machine.specs.Machine.{view_tree}
use Rattle.inquiries.specs.Readings.{shown}
use Rattle.inquiries.proofs.Entries.{file_accepted}
use Rattle.inquiries.proofs.Readings.{met_only}
use Rattle.inquiries.proofs.differences.add_change.Goals as goal

pub returns-in_err-others-clause-err : goal.returns-in_err-others-clause-err
returns-in_err-others-clause-err g c =
    let p = err_from_is_err_and c.from_residual-in_err-others.result c.from_residual-in_err-others.ensures.1 in
    let m = shown c.args.fs.now in
    rw (p.1, p.2) (met_only c.args.fs.now c.read_item.new.fs c.read_file.new.fs (Call.ReadAt c.args.other.now c.args.item.now.path 0 16777216) c.in_err-others.field-0.0 c.read_item.ensures.same
    (file_accepted m c.args.other.now c.args.fs.now.mounted.mounted.machine c.requires.other.accepted c.args.item.now.path (bytes_of_file (view_tree m c.args.other.now) c.args.item.now.path) 0 16777216 c.requires.other.there) c.in_err-others.ensures.err)

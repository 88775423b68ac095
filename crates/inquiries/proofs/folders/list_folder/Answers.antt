use Rattle.std.proofs.Common.{sym, subst}
use Rattle.std.proofs.lemmas.Result.{err_from_is_err_and}
use Rattle.history_machine.specs.Machine.{Machine}
use Rattle.inquiries.specs.Items.{IsDirectoryOf}
use Rattle.inquiries.proofs.Readings.{meets-later}
use Rattle.inquiries.proofs.folders.list_folder.Goals as goal

pub list_below-requires : goal.list_below-requires
list_below-requires g c = subst (λ (m : Machine). IsDirectoryOf m c.args.view.now c.args.directory.now) (sym c.check_small.ensures.same.machine) c.requires

pub returns-in_err-list_below-clause-err : goal.returns-in_err-list_below-clause-err
returns-in_err-list_below-clause-err g c =
    let p = err_from_is_err_and c.from_residual-in_err-list_below.result c.from_residual-in_err-list_below.ensures.1 in
    rw (p.1, p.2) (meets-later c.args.fs.now c.check_small.new.fs c.list_below.new.fs c.in_err-list_below.field-0.0 c.check_small.ensures.same c.in_err-list_below.ensures.err)

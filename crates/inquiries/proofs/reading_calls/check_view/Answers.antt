use Rattle.std.proofs.Common.{◌≡◌, ◌∙◌, ap, subst}
use Rattle.std.proofs.lemmas.Result.{err_from_is_err_and}
use Rattle.fs_types.specs.Names.{Path}
use Rattle.fs_types.specs.declared.call.Call.{Call}
use Rattle.history_machine.specs.History.{view_refusal}
use Rattle.history_machine.specs.Machine.{refusal}
use Rattle.inquiries.specs.Readings.{shown, Fails}
use Rattle.inquiries.proofs.Entries.{root_refusal}
use Rattle.inquiries.proofs.reading_calls.check_view.Goals as goal

pub returns-in_err-stat_at-clause-err : goal.returns-in_err-stat_at-clause-err
returns-in_err-stat_at-clause-err g c =
    let p = err_from_is_err_and c.from_residual.result c.from_residual.ensures.1 in
    let m = shown c.args.fs.now in
    let same : refusal m (Call.Stat c.args.view.now c.root.result) ≡ view_refusal m.history c.args.view.now =
    ap (λ (path : Path). refusal m (Call.Stat c.args.view.now path)) c.root.ensures ∙ root_refusal m c.args.view.now c.args.fs.now.mounted.mounted.machine in
    rw (p.1, p.2) (subst (λ own. Fails own c.args.fs.now c.stat_at-2.new.fs c.in_err-stat_at.field-0.0) same c.in_err-stat_at.ensures.err)

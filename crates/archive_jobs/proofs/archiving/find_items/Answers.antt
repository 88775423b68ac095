use Rattle.std.proofs.Common.{◌≡◌, ◌∙◌, Option, ap, subst}
use Rattle.fs_types.specs.Names.{Path}
use Rattle.fs_types.specs.declared.call.Call.{Call}
use Rattle.fs_types.specs.declared.fault.Fault.{Fault}
use Rattle.history_machine.specs.History.{view_refusal}
use Rattle.history_machine.specs.Machine.{refusal}
use Rattle.inquiries.specs.Readings.{shown, Fails}
use Rattle.inquiries.proofs.Entries.{root_refusal}
use Rattle.archive_jobs.proofs.archiving.find_items.Goals as goal

pub returns-clause-err : goal.returns-clause-err
returns-clause-err g c =
    let m = shown c.args.fs.now in
    let same : refusal m (Call.Stat c.args.view.now c.root.result) ≡ view_refusal m.history c.args.view.now =
    ap (λ (path : Path). refusal m (Call.Stat c.args.view.now path)) c.root.ensures ∙ root_refusal m c.args.view.now c.args.fs.now.mounted.mounted.machine in
    subst (λ (own : Option Fault). Fails own c.args.fs.now c.stat_at-2.new.fs c.in-Err.fault) same c.in-Err.ensures.err

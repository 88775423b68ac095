use Rattle.std.proofs.Common.{◌∙◌, sym}
use Rattle.fs_types.specs.declared.call.Call.{Call}
use Rattle.history_machine.specs.Machine.{refusal}
use Rattle.inquiries.specs.Readings.{shown}
use Rattle.inquiries.proofs.DifferenceLemmas.{own_missing, none_there, met_else}
use Rattle.inquiries.proofs.counterpart.stat_if_there.Goals as goal

pub returns-then-is_missing-clause-ok : goal.returns-then-is_missing-clause-ok
returns-then-is_missing-clause-ok g c =
    none_there (shown c.args.fs.now) c.args.view.now c.args.fs.now.mounted.mounted.machine c.requires c.args.path.now c.in-Err.fault
    (own_missing (refusal (shown c.args.fs.now) (Call.Stat c.args.view.now c.args.path.now)) (g.F.Flash.device c.args.fs.now.flash.now) (g.F.Flash.device c.stat_at.new.fs.flash.now)
    c.in-Err.fault (sym c.is_missing.ensures ∙ c.if-is_missing.true) c.in-Err.ensures.err)

pub returns-else-is_missing-clause-err : goal.returns-else-is_missing-clause-err
returns-else-is_missing-clause-err g c =
    met_else (shown c.args.fs.now) c.args.view.now c.args.fs.now.mounted.mounted.machine c.requires c.args.path.now (g.F.Flash.device c.args.fs.now.flash.now) (g.F.Flash.device c.stat_at.new.fs.flash.now)
    c.in-Err.fault (sym c.is_missing.ensures ∙ c.if-is_missing.false) c.in-Err.ensures.err

use Rattle.std.proofs.Common.{Err, refl, sym, subst}
use Rattle.std.proofs.lemmas.Result.{err_from_is_err_and}
use Rattle.std.specs.Option.{option_copied}
use Rattle.fs_types.specs.declared.call.Call.{Call}
use Rattle.fs_types.specs.declared.fault.Fault.{Fault}
use Rattle.working_state.specs.Seen.{machine_on}
use Rattle.system.specs.Commits.{TriesOnce}
use Rattle.system.proofs.Syncs.{ungrouped_on, refused_in_group, grouped_step, fsync_grouped, fsync_syncs, committed, is_open_there, copied_some}
use Rattle.system.proofs.systems.System.fsync.Goals as goal

pub returns-clause-step : goal.returns-clause-step
returns-clause-step g c =
    let d = g.F.Flash.device c.args.flash.now in
    let e = g.F.Flash.device c.commit.new.flash in
    committed d e c.args.self.now c.commit.new.self c.commit.result c.requires c.in_ok-check_power.ensures.ok c.commit.ensures.saves (Call.Fsync c.args.descriptor) (fsync_syncs (machine_on d c.args.self.now.state) c.args.descriptor (is_open_there (machine_on d c.args.self.now.state) c.args.descriptor (ungrouped_on d c.args.self.now c.in_ok-check_outside.ensures.ok) (option_copied c.get.result) c.get.ensures (copied_some c.get.result c.if-is_none.ensures))) c.commit.ensures.why c.commit.ensures.pass c.commit.ensures.prepared c.commit.ensures.last

pub returns-in_err-check_outside-clause-step : goal.returns-in_err-check_outside-clause-step
returns-in_err-check_outside-clause-step g c =
    let d = g.F.Flash.device c.args.flash.now in
    let p = err_from_is_err_and c.from_residual-in_err-check_outside.result c.from_residual-in_err-check_outside.ensures.1 in
    rw (p.1, p.2) (subst (λ (fault : Fault). TriesOnce d c.args.self.now (Call.Fsync c.args.descriptor) (Err fault) d c.args.self.now) (sym c.in_err-check_outside.ensures.err.0) (grouped_step d c.args.self.now (Call.Fsync c.args.descriptor) refl c.in_ok-check_power.ensures.ok (fsync_grouped (machine_on d c.args.self.now.state) c.args.descriptor (option_copied c.get.result) c.get.ensures (copied_some c.get.result c.if-is_none.ensures) (refused_in_group d c.args.self.now c.in_err-check_outside.ensures.err.1))))

use Rattle.system.proofs.Passing.{reclaimed}
use Rattle.system.proofs.systems.System.reclaim_step.Goals as goal

pub returns : goal.returns
returns g c =
    let d = g.F.Flash.device c.args.flash.now in
    let e = g.F.Flash.device c.step_pass-is_done.new.flash in
    let done = c.step_pass-is_done.ensures in
    let left = reclaimed d e c.args.self.now c.step_pass-is_done.new.self c.args.budget c.step_pass-is_done.result c.in_ok-check_power.ensures.ok done.system done.is_on done.stays done.ends done.asks
    c.remember_cut.new.self c.remember_cut.result c.remember_cut.ensures.off c.remember_cut.ensures.same in
    record { system = left.0; step = left.1 }

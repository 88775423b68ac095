use Rattle.system.proofs.Prepared.{prepared_ahead}
use Rattle.system.proofs.systems.System.prepare_step.Goals as goal

pub returns : goal.returns
returns g c =
    let d = g.F.Flash.device c.args.flash.now in
    let e = g.F.Flash.device c.prepare_on-is_done.new.flash in
    let done = c.prepare_on-is_done.ensures in
    let left = prepared_ahead d e c.args.self.now c.prepare_on-is_done.new.self c.args.budget c.prepare_on-is_done.result c.in_ok-check_power.ensures.ok done.system done.is_on done.undisturbed done.cleaned_to done.prepares
    c.remember_cut.new.self c.remember_cut.result c.remember_cut.ensures.off c.remember_cut.ensures.same in
    record { system = left.0; step = left.1 }

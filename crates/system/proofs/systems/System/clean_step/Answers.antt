use Rattle.system.proofs.Cleaned.{cleaned}
use Rattle.system.proofs.systems.System.clean_step.Goals as goal

pub returns : goal.returns
returns g c =
    let d = g.F.Flash.device c.args.flash.now in
    let e = g.F.Flash.device c.clean_on-is_over.new.flash in
    let done = c.clean_on-is_over.ensures in
    let left = cleaned d e c.args.self.now c.clean_on-is_over.new.self c.args.budget c.clean_on-is_over.result c.in_ok-check_power.ensures.ok done.system done.is_on done.undisturbed done.anchors done.prepared done.cleans
    c.remember_cut.new.self c.remember_cut.result c.remember_cut.ensures.off c.remember_cut.ensures.same in
    record { system = left.0; step = left.1 }

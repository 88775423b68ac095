use Rattle.std.proofs.Common.{sym, subst}
use Rattle.fs_types.specs.declared.fault.Fault.{Fault}
use Rattle.mounting.specs.Formats.{FirstRootCause}
use Rattle.mounting.proofs.Formatting.{root_why}
use Rattle.mounting.proofs.formats.write_first_root.Goals as goal

pub returns-in-Err-clause-why : goal.returns-in-Err-clause-why
returns-in-Err-clause-why g c =
    let d = g.F.Flash.device c.args.flash.now in
    let e = g.F.Flash.device c.with_empty_root.new.flash in
    subst (λ (x : Fault). FirstRootCause d c.args.bad x e) (sym c.full_fault.ensures) (root_why d c.args.bad c.in-Err.fault e c.in-Err.ensures.why)

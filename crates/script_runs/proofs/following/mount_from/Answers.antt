use Rattle.std.proofs.Common.{IfErr, subst}
use Rattle.system.specs.Mounts.{MountCause}
use Rattle.script_runs.proofs.following.mount_from.Goals as goal

pub returns-clause-why : goal.returns-clause-why
returns-clause-why g c =
    let same = c.on-following.ensures.same in
    subst (λ (flash : g.row.F.Denot). IfErr c.mount.result (MountCause (g.F.Flash.device flash) (g.F.Flash.device c.mount.new.flash.flash.now))) same c.mount.ensures.why

use Rattle.inquiries.proofs.KeptSpace.{look_ended}
use Rattle.inquiries.proofs.versions.kept_space.Goals as goal

pub returns-clause-still : goal.returns-clause-still
returns-clause-still g c =
    let e = look_ended (g.F.Flash.device c.args.flash.now) c.args.system.now c.space_by_version.result (g.F.Flash.device c.space_by_version.new.flash) c.space_by_version.new.self c.requires c.space_by_version.ensures.tells in
    record { machine = e.machine; pages = e.pages; failed_reads = e.failed_reads }

pub returns-clause-space : goal.returns-clause-space
returns-clause-space g c =
    (look_ended (g.F.Flash.device c.args.flash.now) c.args.system.now c.space_by_version.result (g.F.Flash.device c.space_by_version.new.flash) c.space_by_version.new.self c.requires c.space_by_version.ensures.tells).space

pub returns-clause-err : goal.returns-clause-err
returns-clause-err g c =
    (look_ended (g.F.Flash.device c.args.flash.now) c.args.system.now c.space_by_version.result (g.F.Flash.device c.space_by_version.new.flash) c.space_by_version.new.self c.requires c.space_by_version.ensures.tells).err

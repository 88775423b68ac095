use Rattle.system.proofs.VersionSpaces.{mounted_between}
use Rattle.system.proofs.version_space.find_space.Goals as goal

pub returns-clause-told : goal.returns-clause-told
returns-clause-told g c =
    let d = g.F.Flash.device c.args.flash.now in
    let e = g.F.Flash.device c.find_ends.new.flash in
    let t = c.find_ends.new.state in
    c.in_ok-tell_space.ensures e (mounted_between d e e c.args.state.now t t c.requires c.find_ends.ensures.looked) c.in_ok-ends.ensures.ends

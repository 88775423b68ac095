use Rattle.inquiries.proofs.PrunedLemmas.{ended_so}
use Rattle.inquiries.proofs.pruned.paths_elsewhere.Goals as goal

pub returns-clause-same : goal.returns-clause-same
returns-clause-same g c =
    let e = ended_so (g.F.Flash.device c.args.fs.now.flash.now) c.args.fs.now.system c.args.view.now c.args.other.now c.differing_paths.result (g.F.Flash.device c.differing_paths.new.self.flash.now) c.differing_paths.new.self.system
    c.args.fs.now.mounted c.differing_paths.ensures.step c.requires.view c.requires.other in
    record { machine = e.machine; pages = e.pages; failed_reads = e.failed_reads; same_flash = c.differing_paths.ensures.same_flash }

pub returns-clause-ok : goal.returns-clause-ok
returns-clause-ok g c =
    (ended_so (g.F.Flash.device c.args.fs.now.flash.now) c.args.fs.now.system c.args.view.now c.args.other.now c.differing_paths.result (g.F.Flash.device c.differing_paths.new.self.flash.now) c.differing_paths.new.self.system
    c.args.fs.now.mounted c.differing_paths.ensures.step c.requires.view c.requires.other).ok

pub returns-clause-err : goal.returns-clause-err
returns-clause-err g c =
    (ended_so (g.F.Flash.device c.args.fs.now.flash.now) c.args.fs.now.system c.args.view.now c.args.other.now c.differing_paths.result (g.F.Flash.device c.differing_paths.new.self.flash.now) c.differing_paths.new.self.system
    c.args.fs.now.mounted c.differing_paths.ensures.step c.requires.view c.requires.other).err

use Rattle.inquiries.proofs.Counted.{ended}
use Rattle.inquiries.proofs.reading_calls.size_of_tree.Goals as goal

pub returns-clause-same : goal.returns-clause-same
returns-clause-same g c =
    let e = ended (g.F.Flash.device c.args.fs.now.flash.now) c.args.fs.now.system c.args.view.now c.count_tree.result (g.F.Flash.device c.count_tree.new.self.flash.now) c.count_tree.new.self.system c.args.fs.now.mounted c.count_tree.ensures.step in
    record { machine = e.machine; pages = e.pages; failed_reads = e.failed_reads; same_flash = c.count_tree.ensures.same_flash }

pub returns-clause-accepted : goal.returns-clause-accepted
returns-clause-accepted g c =
    (ended (g.F.Flash.device c.args.fs.now.flash.now) c.args.fs.now.system c.args.view.now c.count_tree.result (g.F.Flash.device c.count_tree.new.self.flash.now) c.count_tree.new.self.system c.args.fs.now.mounted c.count_tree.ensures.step).accepted

pub returns-clause-size : goal.returns-clause-size
returns-clause-size g c =
    (ended (g.F.Flash.device c.args.fs.now.flash.now) c.args.fs.now.system c.args.view.now c.count_tree.result (g.F.Flash.device c.count_tree.new.self.flash.now) c.count_tree.new.self.system c.args.fs.now.mounted c.count_tree.ensures.step).size

pub returns-clause-err : goal.returns-clause-err
returns-clause-err g c =
    (ended (g.F.Flash.device c.args.fs.now.flash.now) c.args.fs.now.system c.args.view.now c.count_tree.result (g.F.Flash.device c.count_tree.new.self.flash.now) c.count_tree.new.self.system c.args.fs.now.mounted c.count_tree.ensures.step).err

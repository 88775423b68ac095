use Rattle.block_usage.proofs.ReportLemmas.{marked_apart}
use Rattle.block_usage.proofs.blocks_apart.mark_apart.Goals as goal

pub returns-clause-apart : goal.returns-clause-apart
returns-clause-apart g c =
    marked_apart (g.F.Flash.device c.args.flash.now) c.args.others.now c.args.storage.now.bad c.marked_on.new.storage.bad c.in_ok-marks.marks.members c.add_bad.new.marks.members c.in_ok-marks.marks.blocks
    c.in_ok-marks.ensures.blocks c.marked_on.ensures.looked.untouched.bad c.in_ok-marks.ensures.reached c.add_bad.ensures

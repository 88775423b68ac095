use Rattle.anchors.specs.Parts.{parts_on}
use Rattle.anchors.proofs.Places.{anchor_below}
use Rattle.anchors.proofs.ReadParts.{data_part, part_head}
use Rattle.block_usage.proofs.newest_records.head_at.Goals as goal

pub returns-in-Ok-Data-clause-head : goal.returns-in-Ok-Data-clause-head
returns-in-Ok-Data-clause-head g c =
    let size = c.args.geometry in
    let pages = (g.F.Flash.device c.args.flash.now).pages in
    part_head (parts_on size pages) c.args.page c.read.new.buffer c.of.result
    (data_part size pages c.args.page c.read.new.buffer c.of.result (anchor_below size c.args.page c.requires.lawful c.requires.in_range) (rw c.in-Ok-Data.field-0-is at c.in-Ok-Data.ensures.shows) c.of.ensures)

use Rattle.history_machine.specs.Machine.{view_tree}
use Rattle.inquiries.specs.Readings.{shown}
use Rattle.updates.proofs.ChangeLemmas.{is_file}
use Rattle.copies.proofs.shapes.shape_of.Goals as goal

pub read_item-requires-clause-file : goal.read_item-requires-clause-file
read_item-requires-clause-file g c =
    record { accepted = c.requires.view; there = is_file (view_tree (shown c.args.fs.now) c.args.view.now) c.args.item.now c.requires.there _ c.in-File.is }

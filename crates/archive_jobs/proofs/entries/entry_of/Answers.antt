use Rattle.history_machine.specs.Machine.{view_tree}
use Rattle.inquiries.specs.Readings.{shown}
use Rattle.inquiries.proofs.Readings.{unchanged-refl}
use Rattle.archive_jobs.proofs.EntryLemmas.{folder_entry, file_there, file_entry}
use Rattle.archive_jobs.proofs.entries.entry_of.Goals as goal

pub returns-in_default-clause-same : goal.returns-in_default-clause-same
returns-in_default-clause-same g c = unchanged-refl c.args.fs.now

pub returns-in-Dir-clause-same : goal.returns-in-Dir-clause-same
returns-in-Dir-clause-same g c = unchanged-refl c.args.fs.now

pub returns-in-Dir-clause-ok : goal.returns-in-Dir-clause-ok
returns-in-Dir-clause-ok g c =
    folder_entry (view_tree (shown c.args.fs.now) c.args.view.now) c.args.item.now c.in-Ok.path _ c.requires.there c.in-Ok.ensures c.in-Dir.is

pub read_item-requires-clause-file : goal.read_item-requires-clause-file
read_item-requires-clause-file g c =
    record { accepted = c.requires.view; there = file_there (view_tree (shown c.args.fs.now) c.args.view.now) c.args.item.now _ c.requires.there c.in-File.is }

pub returns-in-Ok-read_item-clause-ok : goal.returns-in-Ok-read_item-clause-ok
returns-in-Ok-read_item-clause-ok g c =
    file_entry (view_tree (shown c.args.fs.now) c.args.view.now) c.args.item.now c.in-Ok.path c.in-Ok-read_item.bytes c.in-Ok.ensures c.in-Ok-read_item.ensures.ok

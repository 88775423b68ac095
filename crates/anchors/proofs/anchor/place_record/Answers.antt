use Rattle.std.specs.FinSet as set
use Rattle.anchors.proofs.Anchoring.{ok_with_room}
use Rattle.anchors.proofs.Ending.{blank_for}
use Rattle.anchors.proofs.Wrote.{wrote_whole, wrote_half, wrote_either}
use Rattle.anchors.proofs.anchor.place_record.Goals as goal

pub program_record-requires-clause-blank : goal.program_record-requires-clause-blank
program_record-requires-clause-blank g c =
    let pages = (g.F.Flash.device c.args.flash.now).pages in
    blank_for c.args.geometry pages pages c.args.anchor c.args.place c.args.draft.now.sequence c.args.draft.now.payload.now c.args.draft.now.count c.requires.blank c.requires.in_block

pub unwrap-requires : goal.unwrap-requires
unwrap-requires g c = ok_with_room c.add.result (set.len c.args.bad.now) c.add.ensures.full c.requires.may.room

pub returns-in-Ok-clause-wrote : goal.returns-in-Ok-clause-wrote
returns-in-Ok-clause-wrote g c =
    let done = c.in-Ok.ensures in
    wrote_whole c.page_laws.ensures c.args.geometry (g.F.Flash.device c.args.flash.now) (g.F.Flash.device c.program_record.new.flash) c.args.bad.now c.args.anchor c.args.place c.args.draft.now c.requires.may c.requires.in_block c.requires.blank
    c.in-Ok.field-0 done.programmed done.touches done.tries done.operations

pub returns-in-Err-Failed-clause-wrote : goal.returns-in-Err-Failed-clause-wrote
returns-in-Err-Failed-clause-wrote g c =
    let failed = rw c.in-Err-Failed.field-0-is at c.in-Err-Failed.ensures in
    wrote_half c.page_laws.ensures c.args.geometry (g.F.Flash.device c.args.flash.now) (g.F.Flash.device c.program_record.new.flash) c.args.bad.now c.args.anchor c.args.place c.args.draft.now c.requires.may c.requires.in_block c.requires.blank
    c.add.new.self (rw c.unwrap.ensures at c.add.ensures.ok) failed.programmed failed.touches failed.tries failed.operations

pub returns-in-Err-PowerCut-clause-wrote : goal.returns-in-Err-PowerCut-clause-wrote
returns-in-Err-PowerCut-clause-wrote g c =
    let cut = rw c.in-Err-PowerCut.field-0-is at c.in-Err-PowerCut.ensures in
    wrote_either c.page_laws.ensures c.args.geometry (g.F.Flash.device c.args.flash.now) (g.F.Flash.device c.program_record.new.flash) c.args.bad.now c.args.anchor c.args.place c.args.draft.now c.requires.may c.requires.in_block c.requires.blank
    cut.programmed cut.touches cut.operations

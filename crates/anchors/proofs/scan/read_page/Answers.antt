use Rattle.std.proofs.Common.{◌<◌, sym, ap, subst, ◌∙◌}
use Rattle.flash_model.specs.declared.geometry.Geometry.{Geometry}
use Rattle.flash_model.specs.Geometry.{page_count}
use Rattle.anchors.specs.Parts.{part_of}
use Rattle.anchors.proofs.Places.{long_enough, anchor_below, page_below}
use Rattle.anchors.proofs.ReadParts.{data_part, no_part, reads_done, reads_failed, reads_cut}
use Rattle.anchors.proofs.scan.read_page.Goals as goal

pub read-requires-clause-in_range : goal.read-requires-clause-in_range
read-requires-clause-in_range g c =
    subst (λ (h : Geometry). c.args.page < page_count h) (sym c.requires.may.same) (page_below c.args.geometry c.args.page c.requires.may.lawful c.requires.in_range)

pub read-requires-clause-whole : goal.read-requires-clause-whole
read-requires-clause-whole g c = c.requires.may.whole ∙ ap (λ (h : Geometry). h.page) (sym c.requires.may.same)

pub of-requires : goal.of-requires
of-requires g c = long_enough c.args.geometry c.read.new.buffer c.requires.may.lawful (c.read.auto.buffer ∙ c.requires.may.whole)

pub returns-in-Ok-Data-clause-part : goal.returns-in-Ok-Data-clause-part
returns-in-Ok-Data-clause-part g c =
    data_part c.args.geometry (g.F.Flash.device c.args.flash.now).pages c.args.page c.read.new.buffer c.of.result
    (anchor_below c.args.geometry c.args.page c.requires.may.lawful c.requires.in_range) (rw c.in-Ok-Data.field-0-is at c.in-Ok-Data.ensures.shows) c.of.ensures

pub returns-in-Ok-Data-clause-reads : goal.returns-in-Ok-Data-clause-reads
returns-in-Ok-Data-clause-reads g c = reads_done _ _ _ _ _ _ _ c.in-Ok-Data.ensures

pub returns-in-Ok-Erased-clause-part : goal.returns-in-Ok-Erased-clause-part
returns-in-Ok-Erased-clause-part g c =
    no_part c.args.geometry (g.F.Flash.device c.args.flash.now).pages c.args.page (ap part_of (rw c.in-Ok-Erased.field-0-is at c.in-Ok-Erased.ensures.shows).0)

pub returns-in-Ok-Erased-clause-reads : goal.returns-in-Ok-Erased-clause-reads
returns-in-Ok-Erased-clause-reads g c = reads_done _ _ _ _ _ _ _ c.in-Ok-Erased.ensures

pub returns-in-Ok-Unreadable-clause-part : goal.returns-in-Ok-Unreadable-clause-part
returns-in-Ok-Unreadable-clause-part g c =
    no_part c.args.geometry (g.F.Flash.device c.args.flash.now).pages c.args.page (ap part_of (rw c.in-Ok-Unreadable.field-0-is at c.in-Ok-Unreadable.ensures.shows).0)

pub returns-in-Ok-Unreadable-clause-reads : goal.returns-in-Ok-Unreadable-clause-reads
returns-in-Ok-Unreadable-clause-reads g c = reads_done _ _ _ _ _ _ _ c.in-Ok-Unreadable.ensures

pub returns-in-Err-Failed-clause-reads : goal.returns-in-Err-Failed-clause-reads
returns-in-Err-Failed-clause-reads g c = reads_failed _ _ _ _ _ (rw c.in-Err-Failed.field-0-is at c.in-Err-Failed.ensures)

pub returns-in-Err-PowerCut-clause-reads : goal.returns-in-Err-PowerCut-clause-reads
returns-in-Err-PowerCut-clause-reads g c = reads_cut _ _ _ _ _ (rw c.in-Err-PowerCut.field-0-is at c.in-Err-PowerCut.ensures)

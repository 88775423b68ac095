use Rattle.std.proofs.Common.{refl, subst, ◌∙◌}
use Rattle.std.proofs.lemmas.Result.{err_from_is_err_and}
use Rattle.flash_model.specs.declared.geometry.Geometry.{Geometry}
use Rattle.flash_model.specs.Reading.{OnlyReads_on}
use Rattle.flash_simulation.specs.Simulation.{device_of}
use Rattle.anchors.proofs.Committed.{committed_stays}
use Rattle.mounting.specs.Records.{knows_plain_only}
use Rattle.salvages.specs.Copies.{IsSure, HasDataOf}
use Rattle.salvages.specs.Kept.{roots_in, kept_record, lost_serials, lost_names}
use Rattle.salvages.proofs.Saving.{cause_back, lost_back, data_saved, same_saved, trees_saved, whole_saved}
use Rattle.salvages.proofs.SureFlashes.{still_sure}
use Rattle.salvages.proofs.salvaged.salvage.Goals as goal

pub keep_whole-requires-clause-holds : goal.keep_whole-requires-clause-holds
keep_whole-requires-clause-holds g c = committed_stays (g.F.Flash.device c.args.flash.now) (g.F.Flash.device c.read_newest.new.flash) c.read_newest.ensures.only_reads ∙ c.in_ok-newest.ensures.holds

pub returns-in_err-kept-clause-why : goal.returns-in_err-kept-clause-why
returns-in_err-kept-clause-why g c =
    let p = err_from_is_err_and c.from_residual-in_err-kept.result c.from_residual-in_err-kept.ensures.1 in
    rw (p.1, p.2)
    (cause_back (g.F.Flash.device c.args.flash.now) (g.F.Flash.device c.read_newest.new.flash) (g.F.Flash.device c.keep_whole.new.flash) c.in_err-kept.field-0.0
    c.in_ok-newest.ensures.lawful c.read_newest.ensures.only_reads c.in_err-kept.ensures.why)

pub returns-in_err-put_record-clause-only_reads : goal.returns-in_err-put_record-clause-only_reads
returns-in_err-put_record-clause-only_reads g c =
    let d = g.F.Flash.device c.args.flash.now in
    let mid = g.F.Flash.device c.keep_whole.new.flash in
    OnlyReads_on d mid (g.F.Flash.device c.copy_data.new.flash)
    (OnlyReads_on d (g.F.Flash.device c.read_newest.new.flash) mid c.read_newest.ensures.only_reads c.keep_whole.ensures.only_reads) c.copy_data.ensures.only_reads

pub returns-in_err-lost_versions-clause-only_reads : goal.returns-in_err-lost_versions-clause-only_reads
returns-in_err-lost_versions-clause-only_reads g c =
    let d = g.F.Flash.device c.args.flash.now in
    let mid = g.F.Flash.device c.keep_whole.new.flash in
    OnlyReads_on d mid (g.F.Flash.device c.copy_data.new.flash)
    (OnlyReads_on d (g.F.Flash.device c.read_newest.new.flash) mid c.read_newest.ensures.only_reads c.keep_whole.ensures.only_reads) c.copy_data.ensures.only_reads

pub returns-in_err-lost_checkpoints-clause-only_reads : goal.returns-in_err-lost_checkpoints-clause-only_reads
returns-in_err-lost_checkpoints-clause-only_reads g c =
    let d = g.F.Flash.device c.args.flash.now in
    let mid = g.F.Flash.device c.keep_whole.new.flash in
    OnlyReads_on d mid (g.F.Flash.device c.copy_data.new.flash)
    (OnlyReads_on d (g.F.Flash.device c.read_newest.new.flash) mid c.read_newest.ensures.only_reads c.keep_whole.ensures.only_reads) c.copy_data.ensures.only_reads

pub returns-clause-only_reads : goal.returns-clause-only_reads
returns-clause-only_reads g c =
    let d = g.F.Flash.device c.args.flash.now in
    let mid = g.F.Flash.device c.keep_whole.new.flash in
    OnlyReads_on d mid (g.F.Flash.device c.copy_data.new.flash)
    (OnlyReads_on d (g.F.Flash.device c.read_newest.new.flash) mid c.read_newest.ensures.only_reads c.keep_whole.ensures.only_reads) c.copy_data.ensures.only_reads

pub returns-clause-saved : goal.returns-clause-saved
returns-clause-saved g c =
    let d = g.F.Flash.device c.args.flash.now in
    let first = g.F.Flash.device c.read_newest.new.flash in
    let mid = g.F.Flash.device c.keep_whole.new.flash in
    let r = c.in_ok-newest.newest in
    let lost = c.in_ok-kept.lost.items in
    let copy = c.in_ok-saved.saved in
    let made = c.put_record.new.flash in
    let lawful = c.in_ok-newest.ensures.lawful in
    let reads = OnlyReads_on d first mid c.read_newest.ensures.only_reads c.keep_whole.ensures.only_reads in
    let copied : IsSure d.geometry copy = subst (λ (s : Geometry). IsSure s copy) reads.geometry c.in_ok-saved.ensures.sure in
    let sure = still_sure d.geometry copy made c.put_record.ensures.only c.put_record.ensures.plan copied in
    let pages : HasDataOf d (device_of made) = data_saved d mid (device_of copy) (device_of made) copied.geometry reads c.in_ok-saved.ensures.data c.put_record.ensures.data in
    let are = lost_back (knows_plain_only r) d first (roots_in r) lost lawful c.read_newest.ensures.only_reads c.in_ok-kept.ensures.lost in
    let saved = same_saved (device_of made) (kept_record lost r) c.in_ok-kept.kept c.in_ok-kept.ensures.kept refl c.in_ok-put_record.ensures.newest in
    record {
      newest = r;
      holds = c.in_ok-newest.ensures.holds;
      lost = lost;
      are_lost = are;
      saved = saved;
      trees = trees_saved d (device_of made) lawful sure.geometry pages r lost are saved;
      whole = whole_saved d (device_of made) lawful sure.geometry pages r lost are saved;
      versions = c.in_ok-lost_versions.ensures ∙ (λ i. lost_serials (c.deref.ensures.value i) (c.as_slice.ensures i));
      checkpoints = c.in_ok-lost_checkpoints.ensures ∙ (λ i. lost_names (c.deref-2.ensures.value i) (c.as_slice-2.ensures i));
      sure = sure;
      pages = pages;
    }

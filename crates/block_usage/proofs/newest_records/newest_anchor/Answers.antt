use Rattle.std.proofs.Common.{◌≡◌, ℕ, ap, ◌∙◌}
use Rattle.flash_model.specs.Device.{Page}
use Rattle.flash_model.specs.Reading.{OnlyReads_itself, OnlyReads_on, same_pages}
use Rattle.anchors.specs.Parts.{parts_on, record_head}
use Rattle.block_usage.proofs.NewestRecordLemmas.{newest_none, newest_on}
use Rattle.block_usage.proofs.newest_records.newest_anchor.Goals as goal

pub loop-page-init : goal.loop-page-init
loop-page-init g c =
    let old = g.F.Flash.device c.args.flash.now in
    record { only_reads = OnlyReads_itself old; newest = newest_none c.args.geometry (parts_on c.args.geometry old.pages) }

pub loop-page-preserved : goal.loop-page-preserved
loop-page-preserved g c =
    let old = g.F.Flash.device c.args.flash.now in
    let size = c.args.geometry in
    let page = c.loop-page.page in
    let so_far = c.loop-page.invariant in
    let read : c.in_ok-head.head ≡ record_head size (parts_on size old.pages) page =
    c.in_ok-head.ensures.head ∙ ap (λ (pages : ℕ → Page). record_head size (parts_on size pages) page) (same_pages so_far.only_reads) in
    record {
      only_reads = OnlyReads_on old (g.F.Flash.device c.loop-page.flash) (g.F.Flash.device c.record_at.new.flash) so_far.only_reads c.in_ok-head.ensures.only_reads;
      newest = newest_on size (parts_on size old.pages) page c.loop-page.newest c.in_ok-head.head c.later-newest.result so_far.newest read c.later-newest.ensures;
    }

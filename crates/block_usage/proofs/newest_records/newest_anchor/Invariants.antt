use Rattle.std.proofs.Common.{◌≡◌}
use Rattle.flash_model.specs.Reading.{OnlyReads}
use Rattle.anchors.specs.Parts.{best_below, parts_on}
use Rattle.block_usage.proofs.NewestRecordLemmas.{place_of}
use Rattle.block_usage.proofs.newest_records.newest_anchor.Given as goal

abbrev pub invariant-loop-page : goal.invariant-loop-page
invariant-loop-page g l = record {
  only_reads : OnlyReads (g.F.Flash.device l.initial.flash) (g.F.Flash.device l.flash);
  newest : l.newest ≡ place_of (best_below l.geometry (parts_on l.geometry (g.F.Flash.device l.initial.flash).pages) l.page).found;
}

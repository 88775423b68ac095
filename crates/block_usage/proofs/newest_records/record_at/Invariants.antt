use Rattle.std.proofs.Common.{◌≡◌, ◌-◌}
use Rattle.flash_model.specs.Reading.{OnlyReads}
use Rattle.anchors.specs.Parts.{are_parts, parts_on}
use Rattle.block_usage.proofs.newest_records.record_at.Given as goal

abbrev pub invariant-loop-n : goal.invariant-loop-n
invariant-loop-n g l =
    let parts = parts_on l.geometry (g.F.Flash.device l.fn.flash).pages in
    record {
      only_reads : OnlyReads (g.F.Flash.device l.fn.flash) (g.F.Flash.device l.flash);
      parts : are_parts l.geometry parts l.page l.first l.n (l.first.count - l.n) ≡ are_parts l.geometry parts l.page l.first 0 l.first.count;
    }

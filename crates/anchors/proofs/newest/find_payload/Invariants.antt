use Rattle.std.proofs.Common.{◌≡◌, ◌≤◌, ◌+◌, ◌-◌, ◌++◌}
use Rattle.flash_model.specs.Reading.{OnlyReads}
use Rattle.anchors.specs.Parts.{parts_on, bytes_from, payload_of}
use Rattle.anchors.proofs.newest.find_payload.Given as goal

abbrev pub invariant-loop-n : goal.invariant-loop-n
invariant-loop-n g l = record {
  only_reads : OnlyReads (g.F.Flash.device l.initial.flash) (g.F.Flash.device l.flash);
  operations : (g.F.Flash.device l.flash).operations ≤ (g.F.Flash.device l.initial.flash).operations + l.n;
  bytes : l.payload.items ++ bytes_from l.geometry (parts_on l.geometry (g.F.Flash.device l.initial.flash).pages) l.found.page l.n (l.found.head.count - l.n)
      ≡ payload_of l.geometry (parts_on l.geometry (g.F.Flash.device l.initial.flash).pages) l.found;
}

use Rattle.std.proofs.Common.{◌+◌, ◌*◌, ◌≤◌}
use Rattle.flash_model.specs.Reading.{OnlyReads}
use Rattle.anchors.specs.Parts.{parts_on}
use Rattle.anchors.specs.Reading.{IsEnd}
use Rattle.anchors.specs.Scanning.{IsMet}
use Rattle.anchors.proofs.scan.scan_anchor.Given as goal

abbrev pub invariant-loop-place : goal.invariant-loop-place
invariant-loop-place g l = record {
  only_reads : OnlyReads (g.F.Flash.device l.initial.flash) (g.F.Flash.device l.flash);
  operations : (g.F.Flash.device l.flash).operations ≤ (g.F.Flash.device l.initial.flash).operations + l.place;
  met : IsMet l.geometry (parts_on l.geometry (g.F.Flash.device l.initial.flash).pages) (l.anchor * l.geometry.pages) (l.anchor * l.geometry.pages + l.place) l.scan.best l.scan.run;
  so_far : IsEnd l.geometry (g.F.Flash.device l.initial.flash).pages l.anchor l.place l.end;
}

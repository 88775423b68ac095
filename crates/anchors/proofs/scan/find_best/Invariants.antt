use Rattle.std.proofs.Common.{◌≡◌, ◌+◌, ◌*◌, ◌≤◌, Some}
use Rattle.std.specs.Prelude.{◌/◌}
use Rattle.flash_model.specs.Reading.{OnlyReads}
use Rattle.anchors.specs.declared.best.Found.{Found}
use Rattle.anchors.specs.Parts.{parts_on, best_below}
use Rattle.anchors.specs.Reading.{IsEnd}
use Rattle.anchors.proofs.scan.find_best.Given as goal

abbrev pub invariant-loop-anchor : goal.invariant-loop-anchor
invariant-loop-anchor g l = record {
  only_reads : OnlyReads (g.F.Flash.device l.initial.flash) (g.F.Flash.device l.flash);
  operations : (g.F.Flash.device l.flash).operations ≤ (g.F.Flash.device l.initial.flash).operations + l.anchor * l.geometry.pages;
  best : l.best ≡ best_below l.geometry (parts_on l.geometry (g.F.Flash.device l.initial.flash).pages) (l.anchor * l.geometry.pages);
  end : (found : Found) → l.best.found ≡ Some found → IsEnd l.geometry (g.F.Flash.device l.initial.flash).pages (found.page / l.geometry.pages) l.geometry.pages l.end;
}

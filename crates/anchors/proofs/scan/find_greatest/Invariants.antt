use Rattle.std.proofs.Common.{◌≡◌, ℕ, ◌+◌, ◌*◌, ◌<◌, ◌≤◌, false}
use Rattle.std.specs.FinSet as set
use Rattle.fs_types.specs.declared.limits.TheConstants.{ANCHORS}
use Rattle.flash_model.specs.Reading.{OnlyReads}
use Rattle.anchors.specs.Parts.{parts_on, best_below}
use Rattle.anchors.proofs.scan.find_greatest.Given as goal

abbrev pub invariant-loop-anchor : goal.invariant-loop-anchor
invariant-loop-anchor g l = record {
  only_reads : OnlyReads (g.F.Flash.device l.initial.flash) (g.F.Flash.device l.flash);
  operations : (g.F.Flash.device l.flash).operations ≤ (g.F.Flash.device l.initial.flash).operations + l.anchor * l.geometry.pages;
  quiet : ((b : ℕ) → b < ANCHORS → set.contains l.bad b ≡ false) → (g.F.Flash.device l.flash).operations ≡ (g.F.Flash.device l.initial.flash).operations;
  best : l.best ≡ best_below l.geometry (parts_on l.geometry (g.F.Flash.device l.initial.flash).pages) (l.anchor * l.geometry.pages);
}

use Rattle.std.proofs.Common.{◌≡◌}
use Rattle.dense_nor.proofs.Erasing.{IsSpoiling}
use Rattle.dense_nor.proofs.blocks.spoil_marks.Given as goal

abbrev pub invariant-loop-page : goal.invariant-loop-page
invariant-loop-page g l = record {
  count : g.P.Nor.count l.part ≡ g.P.Nor.count l.initial.part;
  spoiling : IsSpoiling l.fn.layout.sectors l.block l.page (g.P.Nor.held l.initial.part) (g.P.Nor.held l.part);
}

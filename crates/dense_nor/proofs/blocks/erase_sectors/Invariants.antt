use Rattle.std.proofs.Common.{◌≡◌}
use Rattle.dense_nor.proofs.Erasing.{IsErasing}
use Rattle.dense_nor.proofs.blocks.erase_sectors.Given as goal

abbrev pub invariant-loop-sector : goal.invariant-loop-sector
invariant-loop-sector g l = record {
  count : g.P.Nor.count l.part ≡ g.P.Nor.count l.initial.part;
  erasing : IsErasing l.fn.layout.sectors l.block l.sector (g.P.Nor.held l.initial.part) (g.P.Nor.held l.part);
}

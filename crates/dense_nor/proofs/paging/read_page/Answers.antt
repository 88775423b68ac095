-- The data of a page stand before its mark.
use Rattle.std.proofs.Common.{arith}
use Rattle.dense_nor.proofs.Places.{data_first}
use Rattle.dense_nor.proofs.paging.read_page.Goals as goal

pub read_whole-requires-2 : goal.read_whole-requires-2
read_whole-requires-2 g c = let first = data_first c.args.layout.sectors c.args.page c.args.layout.dense in omega (arith, first)

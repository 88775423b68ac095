use Rattle.std.proofs.Common.{arith}
use Rattle.std.proofs.lemmas.List.{length-take}
use Rattle.part_tests.proofs.directories.store.Goals as goal

pub slice_bounds-first-end : goal.slice_bounds-first-end
slice_bounds-first-end c = let enough = c.if-node-lt512.false in omega (arith, enough, length-take 256 c.args.node.now)

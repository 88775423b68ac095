use Rattle.std.proofs.Common.{◌≡◌, ◌+◌, ◌≤◌, take}
use Rattle.std.specs.Prelude.{sum_by}
use Rattle.salvages.specs.Lefts.{size_of}
use Rattle.known_nodes.specs.Tables.{blocks_in}
use Rattle.salvages.specs.declared.making.TheConstants.{MAX_BYTES}
use Rattle.salvages.proofs.making.are_few.Given as goal

abbrev pub invariant-loop-left : goal.invariant-loop-left
invariant-loop-left l = l.left_over + sum_by (size_of l.known.capacity (blocks_in l.known.nodes)) (take l.left-index l.lefts) ≡ MAX_BYTES

use Rattle.std.proofs.Common.{◌≡◌, take}
use Rattle.std.specs.List.{flat_map}
use Rattle.salvages.specs.Lefts.{next_left}
use Rattle.known_nodes.specs.Tables.{blocks_in}
use Rattle.salvages.proofs.lefts.list_next.Given as goal

abbrev pub invariant-loop-left : goal.invariant-loop-left
invariant-loop-left l = l.next.items ≡ flat_map (next_left (blocks_in l.known.nodes)) (take l.left-index l.lefts)

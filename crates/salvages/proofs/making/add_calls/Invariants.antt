use Rattle.std.proofs.Common.{◌≡◌, ◌++◌, take}
use Rattle.std.specs.List.{flat_map}
use Rattle.salvages.specs.Lefts.{made_of}
use Rattle.known_nodes.specs.Tables.{blocks_in}
use Rattle.salvages.proofs.making.add_calls.Given as goal

abbrev pub invariant-loop-left : goal.invariant-loop-left
invariant-loop-left l = l.calls.items ≡ l.fn.calls.items ++ flat_map (made_of l.known.capacity (blocks_in l.known.nodes)) (take l.left-index l.lefts)

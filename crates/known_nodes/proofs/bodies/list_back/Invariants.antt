use Rattle.std.proofs.Common.{◌≡◌, ◌-◌, ◌++◌}
use Rattle.known_nodes.specs.FileBytes.{blocks_back}
use Rattle.known_nodes.specs.Tables.{blocks_in}
use Rattle.known_nodes.proofs.bodies.list_back.Given as goal

-- the nodes that are left are left
abbrev pub invariant-loop : goal.invariant-loop
invariant-loop l = l.blocks.items ++ blocks_back (blocks_in l.table) (l.index - l.counter) l.at ≡ blocks_back (blocks_in l.table) l.index l.block

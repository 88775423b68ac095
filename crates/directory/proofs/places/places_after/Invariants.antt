use Rattle.std.proofs.Common.{◌-◌, ◌+◌, Ok}
use Rattle.std.specs.Option.{option_copied}
use Rattle.nodes.specs.Faults.{IsReadFault}
use Rattle.nodes.specs.Words.{LooksWithin}
use Rattle.nodes.specs.Chains.{most_after}
use Rattle.directory.proofs.Placed.{HasPlaced}
use Rattle.directory.proofs.places.places_after.Given as goal

-- the entries of the nodes so far
abbrev pub invariant-loop : goal.invariant-loop
invariant-loop g l = record {
  walk : HasPlaced (option_copied l.fn.from) l.fn.most (g.N.Nodes.node l.fn.nodes) l.fn.block (most_after - l.counter) l.next (l.counter + 1) l.places;
  calls : LooksWithin g.N.Nodes IsReadFault (l.counter + 1) l.fn.nodes (Ok l.next) l.nodes;
}

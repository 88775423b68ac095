use Rattle.std.proofs.Common.{◌≡◌, ◌-◌, ◌+◌, ℕ, List, Ok}
use Rattle.nodes.specs.Faults.{IsReadFault}
use Rattle.nodes.specs.Words.{LooksWithin}
use Rattle.nodes.specs.Chains.{most_after}
use Rattle.nodes.specs.Trees.{names_of}
use Rattle.directory.specs.Seeking.{entries_along}
use Rattle.directory.proofs.Walks.{IsWalk}
use Rattle.directory.proofs.listings.names.Given as goal

-- the names of the nodes so far
abbrev pub invariant-loop : goal.invariant-loop
invariant-loop g l = record {
  walk : (front : List ℕ) × IsWalk (g.N.Nodes.node l.fn.nodes) l.block (most_after - l.counter) l.next (l.counter + 1) front × (l.names ≡ names_of (entries_along (g.N.Nodes.node l.fn.nodes) front));
  calls : LooksWithin g.N.Nodes IsReadFault (l.counter + 1) l.fn.nodes (Ok l.next) l.nodes;
}

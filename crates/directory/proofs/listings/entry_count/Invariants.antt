use Rattle.std.proofs.Common.{◌≡◌, ◌≤◌, ◌-◌, ◌+◌, ◌*◌, ℕ, List, length, Ok}
use Rattle.fs_types.specs.declared.limits.TheConstants.{NODE_ENTRIES}
use Rattle.nodes.specs.Faults.{IsReadFault}
use Rattle.nodes.specs.Words.{LooksWithin}
use Rattle.nodes.specs.Chains.{most_after}
use Rattle.directory.specs.Seeking.{entries_along}
use Rattle.directory.proofs.Walks.{IsWalk}
use Rattle.directory.proofs.listings.entry_count.Given as goal

-- the entries of the nodes so far
abbrev pub invariant-loop : goal.invariant-loop
invariant-loop g l = record {
  walk : (front : List ℕ) × IsWalk (g.N.Nodes.node l.fn.nodes) l.block (most_after - l.counter) l.next (l.counter + 1) front × (length (entries_along (g.N.Nodes.node l.fn.nodes) front) ≡ l.count);
  few : l.count ≤ NODE_ENTRIES * (l.counter + 1);
  calls : LooksWithin g.N.Nodes IsReadFault (l.counter + 1) l.fn.nodes (Ok l.next) l.nodes;
}

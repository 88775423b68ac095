use Rattle.std.proofs.Common.{◌≡◌, ◌≤◌, ◌+◌, ℕ, length, drop, Ok}
use Rattle.nodes.specs.Words.{LooksWithin}
use Rattle.directory.specs.Lookups.{look_up, way_nodes, LeadsToDirectories, IsLookupFault}
use Rattle.directory.specs.Trails.{IsWay}
use Rattle.directory.proofs.Ways.{Goes}
use Rattle.directory.proofs.trail.find_from.Given as goal

-- the nodes of the directories so far were read, and the names left lead from the block to what those that were left at first did
abbrev pub invariant-loop-i : goal.invariant-loop-i
invariant-loop-i g l = record {
  looked : look_up (g.N.Nodes.node l.initial.nodes) l.block (drop l.i l.names) ≡ look_up (g.N.Nodes.node l.initial.nodes) l.fn.block (drop (length l.fn.trail) l.names);
  counted : length l.trail ≡ l.i;
  goes : (root : ℕ) → LeadsToDirectories (g.N.Nodes.node l.initial.nodes) root → IsWay (g.N.Nodes.node l.initial.nodes) root l.names l.fn.trail l.fn.block → Goes (g.N.Nodes.node l.initial.nodes) root l.names l.i l.trail l.block;
  calls : (r : ℕ) × LooksWithin g.N.Nodes IsLookupFault r l.initial.nodes (Ok l.block) l.nodes
      × (r + way_nodes (g.N.Nodes.node l.initial.nodes) l.block (drop l.i l.names) ≤ way_nodes (g.N.Nodes.node l.initial.nodes) l.fn.block (drop (length l.fn.trail) l.names));
}

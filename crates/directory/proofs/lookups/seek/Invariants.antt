use Rattle.std.proofs.Common.{◌-◌, ◌+◌, ◌*◌, ◌≤◌, Ok}
use Rattle.fs_types.specs.declared.limits.TheConstants.{NODE_ENTRIES}
use Rattle.nodes.specs.Faults.{IsReadFault}
use Rattle.nodes.specs.Words.{LooksWithin}
use Rattle.nodes.specs.Chains.{most_after}
use Rattle.directory.proofs.Sights.{IsSought}
use Rattle.directory.proofs.lookups.seek.Given as goal

-- what was found so far, or what the nodes after it say, is what the directory says
abbrev pub invariant-loop : goal.invariant-loop
invariant-loop g l = record {
  sought : IsSought (g.N.Nodes.node l.fn.nodes) l.name l.block (most_after - l.counter) l.sight.next (l.counter + 1) l.count l.sight.place;
  few : l.count ≤ NODE_ENTRIES * (l.counter + 1);
  calls : LooksWithin g.N.Nodes IsReadFault (l.counter + 1) l.fn.nodes (Ok l.sight) l.nodes;
}

use Rattle.std.proofs.Common.{◌-◌, Ok}
use Rattle.fs_types.specs.declared.limits.TheConstants.{CHAIN_NODES}
use Rattle.nodes.specs.Faults.{IsLookFault}
use Rattle.nodes.specs.Words.{LooksWithin}
use Rattle.directory.proofs.ReadLists.{GoesOn}
use Rattle.directory.proofs.node_lists.read_list.Given as goal

-- so many nodes are read
abbrev pub invariant-loop : goal.invariant-loop
invariant-loop g l = record {
  goes : GoesOn (g.N.Nodes.node l.fn.nodes) l.block (CHAIN_NODES - l.counter) l.counter l.list l.seen.next l.name l.puts l.seen.has_name;
  calls : LooksWithin g.N.Nodes IsLookFault l.counter l.fn.nodes (Ok l.seen) l.nodes;
}

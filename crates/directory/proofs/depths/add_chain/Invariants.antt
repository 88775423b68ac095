use Rattle.std.proofs.Common.{◌≡◌, ◌+◌, ◌-◌, Ok}
use Rattle.std.specs.FinSet as set
use Rattle.nodes.specs.Faults.{IsLookFault}
use Rattle.nodes.specs.Words.{LooksWithin}
use Rattle.directory.specs.Depths.{count_below, is_loud}
use Rattle.directory.proofs.LevelNodes.{IsOnWay}
use Rattle.directory.proofs.depths.add_chain.Given as goal

-- the nodes of the directory were read as far as the one that comes next
abbrev pub invariant-chain : goal.invariant-chain
invariant-chain g l = record {
  way : IsOnWay (g.N.Nodes.node l.fn.nodes) (g.N.Nodes.blocks l.fn.nodes) l.fn.block l.at l.fn.seen.members l.fn.found.members l.seen.members l.found.members;
  seen_size : l.seen.blocks ≡ l.fn.seen.blocks;
  found_size : l.found.blocks ≡ l.fn.found.blocks;
  calls : LooksWithin g.N.Nodes IsLookFault (count_below (is_loud l.quiet.members l.seen.members) l.fn.seen.blocks - count_below (is_loud l.quiet.members l.fn.seen.members) l.fn.seen.blocks) l.fn.nodes (Ok l.at) l.nodes;
  reads : g.N.Nodes.reads l.nodes + count_below (is_loud l.quiet.members l.fn.seen.members) l.fn.seen.blocks ≡ g.N.Nodes.reads l.fn.nodes + count_below (is_loud l.quiet.members l.seen.members) l.fn.seen.blocks;
}

abbrev pub decreases-chain : goal.decreases-chain
decreases-chain g l = l.seen.blocks - count_below (set.contains l.seen.members) l.seen.blocks

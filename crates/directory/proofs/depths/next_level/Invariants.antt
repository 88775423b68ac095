use Rattle.std.proofs.Common.{◌≡◌, Ok}
use Rattle.nodes.specs.Faults.{IsLookFault}
use Rattle.nodes.specs.Words.{LooksWithin}
use Rattle.directory.specs.Depths.{count_below, is_loud}
use Rattle.directory.proofs.LevelNodes.{IsLevelRead}
use Rattle.directory.proofs.depths.next_level.Given as goal

-- the nodes of the directories of the blocks so far were read
abbrev pub invariant-loop-block : goal.invariant-loop-block
invariant-loop-block g l = record {
  level : IsLevelRead (g.N.Nodes.node l.fn.nodes) (g.N.Nodes.blocks l.fn.nodes) l.block l.level.members l.seen.members l.next.members;
  seen_size : l.seen.blocks ≡ l.level.blocks;
  next_size : l.next.blocks ≡ l.level.blocks;
  calls : LooksWithin g.N.Nodes IsLookFault (count_below (is_loud l.quiet.members l.seen.members) l.level.blocks) l.fn.nodes (Ok l.block) l.nodes;
}

use Rattle.std.proofs.Common.{◌≡◌, take}
use Rattle.directory.specs.Depths.{HasBlocks}
use Rattle.directory.proofs.depths.first_level.Given as goal

-- the blocks so far
abbrev pub invariant-loop-block : goal.invariant-loop-block
invariant-loop-block l = record {
  has : HasBlocks l.blocks (take l.block-index l.list) l.level.members;
  size : l.level.blocks ≡ l.blocks;
}

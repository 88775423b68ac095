use Rattle.std.proofs.Common.{◌≡◌, take}
use Rattle.reclaim.specs.Passes.{AreNoted}
use Rattle.reclaim.proofs.pass.add_blocks.Given as goal

-- the blocks so far are in the set
abbrev pub invariant-loop-block : goal.invariant-loop-block
invariant-loop-block l = record {
  noted : AreNoted l.initial.found.members (take l.block-index l.list) l.initial.found.blocks l.found.members;
  size : l.found.blocks ≡ l.initial.found.blocks;
}

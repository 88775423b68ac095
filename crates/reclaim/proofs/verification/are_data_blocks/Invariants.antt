use Rattle.std.proofs.Common.{take}
use Rattle.std.specs.Prelude.{All}
use Rattle.block_ring.specs.Ring.{IsDataBlock}
use Rattle.reclaim.proofs.verification.are_data_blocks.Given as goal

-- the blocks so far are data blocks
abbrev pub invariant-loop-block : goal.invariant-loop-block
invariant-loop-block l = All (IsDataBlock l.blocks) (take l.block-index l.list)

use Rattle.std.proofs.Common.{true}
use Rattle.arrayvec.specs.ArrayVec.{array_vec_len}
use Rattle.record_format.specs.Payloads.{block_field}
use Rattle.record_format.proofs.Pushed.{IsPushed}
use Rattle.record_format.proofs.writing.push_blocks.Given as goal

abbrev pub invariant-loop-block : goal.invariant-loop-block
invariant-loop-block l = IsPushed block_field (λ block. true) 4 l.blocks l.block-index l.initial.out.items l.out.items (array_vec_len l.initial.out) (array_vec_len l.out)

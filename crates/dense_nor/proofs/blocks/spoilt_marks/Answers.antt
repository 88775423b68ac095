use Rattle.std.proofs.Common.{refl, arith}
use Rattle.std.proofs.lemmas.List.{get_or-replicate}
use Rattle.dense_nor.proofs.blocks.spoilt_marks.Goals as goal

pub loop-k-init : goal.loop-k-init
loop-k-init c = record {
  zeros = λ k low rest. get_or-replicate 256 k 0 0 low;
  sums = λ k low rest. absurd (omega arith);
  len = refl;
}

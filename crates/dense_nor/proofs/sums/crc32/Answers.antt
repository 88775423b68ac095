use Rattle.std.proofs.Common.{◌∙◌, ℕ, ap, arith}
use Rattle.std.specs.Prelude.{bit_xor, fold}
use Rattle.std.proofs.lemmas.List.{take_all}
use Rattle.dense_nor.specs.Sums.{crc_of, with_byte}
use Rattle.dense_nor.proofs.sums.crc32.Goals as goal

pub returns : goal.returns
unfolding crc_of
returns c =
    ap (λ (k : ℕ). bit_xor k 0xFFFFFFFF) (c.loop-byte.invariant ∙ ap (fold with_byte 0xFFFFFFFF) (take_all c.loop-byte.byte-index c.args.bytes.now (omega arith)))

use Rattle.std.proofs.Common.{◌≡◌, ◌∙◌, ℕ, ap, sym, arith}
use Rattle.std.specs.Prelude.{bit_xor}
use Rattle.dense_nor.specs.Sums.{shifted, shifted_by, with_byte}
use Rattle.dense_nor.proofs.Shifts.{shifted_none, shifted_more}
use Rattle.dense_nor.proofs.sums.take_byte.Goals as goal

pub loop-init : goal.loop-init
loop-init c = sym (shifted_none (bit_xor c.args.crc c.args.byte))

pub loop-preserved : goal.loop-preserved
loop-preserved c = c.shift-crc.ensures ∙ ap shifted c.loop.invariant ∙ sym (shifted_more c.loop.counter (bit_xor c.args.crc c.args.byte))

pub returns : goal.returns
unfolding with_byte
returns c = let end : c.loop.counter ≡ 8 = omega arith in c.loop.invariant ∙ ap (λ (n : ℕ). shifted_by n (bit_xor c.args.crc c.args.byte)) end

use Rattle.std.proofs.Common.{◌≡◌}
use Rattle.dense_nor.specs.Sums.{shifted_by}
use Rattle.dense_nor.proofs.sums.take_byte.Given as goal

abbrev pub invariant-loop : goal.invariant-loop
invariant-loop l = l.crc ≡ shifted_by l.counter l.initial.crc

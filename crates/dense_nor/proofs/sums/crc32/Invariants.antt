use Rattle.std.proofs.Common.{◌≡◌, take}
use Rattle.std.specs.Prelude.{fold}
use Rattle.dense_nor.specs.Sums.{with_byte}
use Rattle.dense_nor.proofs.sums.crc32.Given as goal

abbrev pub invariant-loop-byte : goal.invariant-loop-byte
invariant-loop-byte l = l.crc ≡ fold with_byte 0xFFFFFFFF (take l.byte-index l.bytes)

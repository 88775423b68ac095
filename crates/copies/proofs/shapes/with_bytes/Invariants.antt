use Rattle.std.proofs.Common.{◌≡◌, take}
use Rattle.std.specs.Prelude.{fold}
use Rattle.copies.specs.Shapes.{with_byte}
use Rattle.copies.proofs.shapes.with_bytes.Given as goal

abbrev pub invariant-loop-byte : goal.invariant-loop-byte
invariant-loop-byte l = l.shape ≡ fold with_byte l.fn.shape (take l.byte-index l.bytes)

use Rattle.std.proofs.Common.{◌<◌, get_or, arith}
use Rattle.script.proofs.PrintedLemmas.{hex_more}
use Rattle.script.proofs.digits.print_hex.Goals as goal

pub loop-byte-preserved : goal.loop-byte-preserved
loop-byte-preserved c =
    let digits = rw c.unwrap.ensures at c.encode_to_slice.ensures.written in
    let small : get_or c.args.bytes.now c.loop-byte.byte-index 0 < 256 = omega (arith, c.type_inv.bytes c.loop-byte.byte-index) in
    hex_more _ _ _ _ c.args.bytes.now c.loop-byte.byte-index c.loop-byte-test.true small digits c.loop-byte.invariant c.in_ok-extend_from_slice.ensures.items

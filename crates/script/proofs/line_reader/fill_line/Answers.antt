use Rattle.std.proofs.Common.{◌≡◌, length, arith}
use Rattle.std.proofs.lemmas.Grind.{common_steps}
use Rattle.script.proofs.StreamLemmas.{full_taken}
use Rattle.script.proofs.line_reader.fill_line.Goals as goal

pub returns-then-len-eq-LINE_LIMIT-clause-taken : goal.returns-then-len-eq-LINE_LIMIT-clause-taken
returns-then-len-eq-LINE_LIMIT-clause-taken g c =
    let byte = rw c.in-Some.is at c.in_ok-byte.ensures.taken in
    let full : length c.loop-byte.buffer.items ≡ 65536 = grind (arith, common_steps) in
    full_taken _ _ _ _ c.skip_long.result c.loop-byte.buffer.items c.in-Some.byte _ c.loop-byte.invariant byte c.if-byte-eq10.false full c.skip_long.ensures.long c.skip_long.ensures.rest

use Rattle.std.proofs.Common.{sym}
use Rattle.script.proofs.SpelledLemmas.{found_here, found_later, found_none}
use Rattle.script.proofs.spelled.find_spelled.Goals as goal

pub returns-then-eq : goal.returns-then-eq
returns-then-eq g c = found_here c.args.word.now c.args.rows.now c.loop-spelling.spelling-index c.loop-spelling-item.result c.loop-spelling-test.true c.loop-spelling-item.is (sym c.if-eq.ensures) c.loop-spelling.invariant

pub loop-spelling-preserved : goal.loop-spelling-preserved
loop-spelling-preserved g c = found_later c.args.word.now c.args.rows.now c.loop-spelling.spelling-index c.loop-spelling-item.result c.loop-spelling-test.true c.loop-spelling-item.is (sym c.if-eq.ensures) c.loop-spelling.invariant

pub returns : goal.returns
returns g c = found_none c.args.word.now c.args.rows.now c.loop-spelling.spelling-index c.loop-spelling-test.false c.loop-spelling.invariant

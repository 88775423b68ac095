use Rattle.script.proofs.TextLemmas.{text_more}
use Rattle.script.specs.Words.{unescaped}
use Rattle.script.proofs.words.unescape.Goals as goal

pub loop-rest-preserved : goal.loop-rest-preserved
loop-rest-preserved c =
    let first = rw c.in_ok-byte.ensures.ok_part at c.first_byte.ensures in
    text_more c.loop-rest.bytes c.push.new.self c.in_ok-byte.byte (unescaped c.loop-rest.rest.now) (unescaped c.in_ok-byte.more.now) (unescaped c.args.word.now) c.in_ok-push.ensures.ok first.0 c.loop-rest.invariant

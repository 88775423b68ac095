use Rattle.std.proofs.Common.{◌∙◌, Err, ap, refl}
use Rattle.image_words.proofs.RawWritten.{unflashed, untaken}
use Rattle.image_words.proofs.raw_sizes.flash_of_taken.Goals as goal

pub returns-in-None-clause-err : goal.returns-in-None-clause-err
returns-in-None-clause-err c = (refl, untaken c.args.layout c.args.blocks c.args.bytes.now c.in-None.ensures.none)

pub returns-in-Ok-clause-ok : goal.returns-in-Ok-clause-ok
returns-in-Ok-clause-ok c = (c.in-Some.part.now, c.in-Some.ensures.some, c.in-Ok.ensures.ok)

pub returns-in-Err-clause-err : goal.returns-in-Err-clause-err
returns-in-Err-clause-err c =
    unflashed c.args.layout c.args.blocks c.args.bytes.now c.in-Some.part.now c.in-Err.fault c.of_system.result c.in-Some.ensures.some c.of_system.ensures c.in-Err.ensures.errors
    (λ bad. c.flash_of_raw.ensures.length.0 (c.in-Err.is ∙ ap Err bad))

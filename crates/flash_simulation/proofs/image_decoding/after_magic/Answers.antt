use Rattle.std.proofs.Common.{drop, length}
use Rattle.flash_simulation.specs.Images.{magic}
use Rattle.flash_simulation.proofs.ImageMagic.{starts, starts_not, magic-ends, magic-differs}
use Rattle.flash_simulation.proofs.image_decoding.after_magic.Goals as goal

pub returns-then-starts_with-2-clause-err : goal.returns-then-starts_with-2-clause-err
returns-then-starts_with-2-clause-err c =
    magic-ends c.args.bytes.now (drop (length c.args.bytes.now) magic)
    (starts magic c.args.bytes.now c.starts_with-else-starts_with.result c.starts_with-else-starts_with.ensures.value c.if-starts_with-2.true)

pub returns-else-starts_with-2-clause-err : goal.returns-else-starts_with-2-clause-err
returns-else-starts_with-2-clause-err c =
    magic-differs c.args.bytes.now
    (starts_not c.args.bytes.now magic c.starts_with.result c.starts_with.ensures.value c.if-starts_with.false)
    (starts_not magic c.args.bytes.now c.starts_with-else-starts_with.result c.starts_with-else-starts_with.ensures.value c.if-starts_with-2.false)

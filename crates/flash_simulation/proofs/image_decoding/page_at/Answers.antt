use Rattle.std.proofs.Common.{◌≡◌, get_or, rules}
use Rattle.flash_simulation.proofs.ImageMagic.{page-ends, bytes-end}
use Rattle.flash_simulation.proofs.image_decoding.page_at.Goals as goal

pub returns-in-empty-clause-err : goal.returns-in-empty-clause-err
returns-in-empty-clause-err c = page-ends c.args.size c.args.bytes.now c.in-empty.len_below

pub returns-then-rest-size-clause-err : goal.returns-then-rest-size-clause-err
returns-then-rest-size-clause-err c =
    let first : get_or c.args.bytes.now 0 0 ≡ 1 = search rules in
    bytes-end c.args.size c.args.bytes.now c.in-1.len_at_least first c.if-rest-size.true

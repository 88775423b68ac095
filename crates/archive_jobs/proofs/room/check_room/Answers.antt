use Rattle.std.proofs.Common.{◌≡◌, ◌∙◌, false, sym, arith}
use Rattle.archive_jobs.proofs.RoomLemmas.{unspelled}
use Rattle.archive_jobs.proofs.room.check_room.Goals as goal

pub returns-in-Ok-false-clause-err : goal.returns-in-Ok-false-clause-err
returns-in-Ok-false-clause-err c =
    let none : c.in-Ok-false.field-0 ≡ false = grind arith in
    unspelled c.args.items.now c.loop-item.item-index c.item-item.result c.no_room.result c.loop-item-test.true c.item-item.is c.loop-item.invariant (sym c.in-Ok-false.ensures ∙ none) c.no_room.ensures

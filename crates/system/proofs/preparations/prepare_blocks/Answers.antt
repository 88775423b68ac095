use Rattle.std.proofs.Common.{true, ◌≡◌, ◌∙◌, ◌+◌, Ok, Err, refl, sym, ap, add-one, arith}
use Rattle.std.proofs.lemmas.Result.{err_from_is_err_and}
use Rattle.block_ring.specs.Ring.{Ring}
use Rattle.system.specs.Preparations.{preparation}
use Rattle.system.proofs.PreparingLemmas.{blocks_prepared, ends_by, erases_none, erases_on, one_more, same_blocks}
use Rattle.system.proofs.preparations.prepare_blocks.Goals as goal

pub loop-done-init : goal.loop-done-init
loop-done-init g c = record {
  prepares = refl;
  erases = erases_none (g.F.Flash.device c.args.flash.now) c.args.storage.now;
  cleanable = c.requires.cleanable;
  blocks = refl;
  asks = omega arith;
  room = c.requires.room;
}

pub loop-done-preserved : goal.loop-done-preserved
loop-done-preserved g c =
    let d0 = g.F.Flash.device c.args.flash.now in
    let x = preparation d0 c.args.storage.now c.args.prepared.now in
    let d = g.F.Flash.device c.loop-done.flash in
    let y = preparation d c.loop-done.storage c.loop-done.prepared in
    let e = g.F.Flash.device c.prepare_block.new.flash in
    let z = preparation e c.prepare_block.new.storage c.prepare_block.new.prepared in
    let before = c.loop-done.invariant in
    let step = c.in_ok-prepare_block.ensures in
    record {
      prepares = one_more c.loop-done._done x y z before.prepares step.next;
      erases = erases_on d0 c.args.storage.now d c.loop-done.storage before.erases e c.prepare_block.new.storage step.erases;
      cleanable = step.cleanable;
      blocks = same_blocks y (Ok tt) z step.next ∙ before.blocks;
      asks = omega (arith, before.asks, step.next.erases.operations);
      room = step.room;
    }

pub returns-in_err-prepare_block : goal.returns-in_err-prepare_block
returns-in_err-prepare_block g c =
    let left = err_from_is_err_and c.from_residual.result c.from_residual.ensures.1 in
    let d0 = g.F.Flash.device c.args.flash.now in
    let x = preparation d0 c.args.storage.now c.args.prepared.now in
    let d = g.F.Flash.device c.loop-done.flash in
    let y = preparation d c.loop-done.storage c.loop-done.prepared in
    let e = g.F.Flash.device c.prepare_block.new.flash in
    let z = preparation e c.prepare_block.new.storage c.prepare_block.new.prepared in
    let before = c.loop-done.invariant in
    let step = c.in_err-prepare_block.ensures in
    let fault = c.in_err-prepare_block.field-0.0 in
    rw (left.1, left.2)
    (blocks_prepared (c.loop-done._done + 1) x c.args.budget (Err fault) z
    (erases_on d0 c.args.storage.now d c.loop-done.storage before.erases e c.prepare_block.new.storage step.erases)
    (same_blocks y (Err fault) z step.next ∙ before.blocks) (omega (arith, c.loop-done-test.true)) (omega (arith, before.asks, step.next.erases.operations))
    (c.loop-done._done, add-one c.loop-done._done, y, before.prepares, step.next, step.why))

pub returns-in_default : goal.returns-in_default
returns-in_default g c =
    let x = preparation (g.F.Flash.device c.args.flash.now) c.args.storage.now c.args.prepared.now in
    let y = preparation (g.F.Flash.device c.loop-done.flash) c.loop-done.storage c.loop-done.prepared in
    let before = c.loop-done.invariant in
    blocks_prepared c.loop-done._done x c.args.budget (Ok true) y before.erases before.blocks (omega (arith, c.loop-done-test.true)) before.asks
    (before.prepares, sym c.next_unprepared.ensures.next ∙ c.in_default.is)

pub returns : goal.returns
returns g c =
    let x = preparation (g.F.Flash.device c.args.flash.now) c.args.storage.now c.args.prepared.now in
    let y = preparation (g.F.Flash.device c.loop-done.flash) c.loop-done.storage c.loop-done.prepared in
    let before = c.loop-done.invariant in
    let all : c.loop-done._done ≡ c.args.budget = omega (arith, c.loop-done-test.false, c.loop-done.auto._done-end) in
    blocks_prepared c.loop-done._done x c.args.budget (Ok c.is_none.result) y before.erases before.blocks (omega arith) before.asks
    (ends_by c.loop-done._done c.args.budget x y c.next_unprepared-2.result c.is_none.result all c.next_unprepared-2.ensures.next before.prepares c.is_none.ensures)

pub prepare_block-requires-clause-cleanable : goal.prepare_block-requires-clause-cleanable
prepare_block-requires-clause-cleanable g c = c.loop-done.invariant.cleanable

pub prepare_block-requires-clause-sized : goal.prepare_block-requires-clause-sized
prepare_block-requires-clause-sized g c =
    let before = c.loop-done.invariant in
    before.blocks ∙ c.requires.sized ∙ ap (λ (r : Ring). r.blocks) (sym before.erases.ring)

pub prepare_block-requires-clause-room : goal.prepare_block-requires-clause-room
prepare_block-requires-clause-room g c = c.loop-done.invariant.room

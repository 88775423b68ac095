use Rattle.std.proofs.Common.{◌∙◌, arith}
use Rattle.std.proofs.lemmas.Result.{err_from_is_err_and}
use Rattle.anchors.proofs.Anchoring.{OnlyAnchors_on, Fades_on, erased_next, good_behind, room_behind}
use Rattle.anchors.proofs.Asking.{tried_once}
use Rattle.anchors.proofs.anchors.Anchors.clear.Goals as goal

pub loop-anchor-preserved : goal.loop-anchor-preserved
loop-anchor-preserved g c =
    let old = g.F.Flash.device c.args.flash.now in
    let mid = g.F.Flash.device c.loop-anchor.flash in
    let new = g.F.Flash.device c.erase_anchor.new.flash in
    let so_far = c.loop-anchor.invariant in
    let done = c.in_ok-erase_anchor.field-0 in
    let after = c.in_ok-erase_anchor.ensures in
    let anchor = c.loop-anchor.anchor in
    let list = c.loop-anchor.bad in
    record {
      only_anchors = OnlyAnchors_on old mid new c.args.bad.now list c.erase_anchor.new.bad so_far.only_anchors after.changes.only_anchors;
      fades = Fades_on old.pages mid.pages new.pages so_far.fades after.fades;
      reads = after.reads ∙ so_far.reads;
      operations = let one = tried_once mid new done after.changes.tries in let h = so_far.operations in omega arith;
      erased = erased_next mid new list c.erase_anchor.new.bad anchor done after.changes.only_anchors.geometry so_far.erased after.erased after.changes.others after.changes.list;
      good = good_behind list c.erase_anchor.new.bad anchor done after.changes.list so_far.good;
      room = let h = room_behind list c.erase_anchor.new.bad anchor done after.changes.list (so_far.good anchor (omega arith) c.loop-anchor-test.true) in let r = so_far.room in omega arith;
    }

pub returns-in_err-erase_anchor-clause-operations : goal.returns-in_err-erase_anchor-clause-operations
returns-in_err-erase_anchor-clause-operations g c =
    let p = err_from_is_err_and c.from_residual.result c.from_residual.ensures.1 in
    let h = c.loop-anchor.invariant.operations in
    let one = c.in_err-erase_anchor.ensures.changes.operations in
    let lt = c.loop-anchor-test.true in
    rw p.1 (omega (arith, h, one, lt))

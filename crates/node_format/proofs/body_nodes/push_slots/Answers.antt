use Rattle.std.proofs.Common.{◌+◌, sym, subst, arith}
use Rattle.node_format.proofs.BodyFields.{HasSlots, one_place}
use Rattle.node_format.proofs.body_nodes.push_slots.Goals as goal

pub loop-slot-preserved : goal.loop-slot-preserved
loop-slot-preserved c =
    let old = c.args.out.now.items in
    subst (HasSlots old c.args.index c.args.pointers.now (c.loop-slot.slot + 1)) (sym c.in_ok-push_u32.ensures.items)
    (one_place old c.args.index c.args.pointers.now c.loop-slot.out.items c.loop-slot.slot c.number_in_slot.result c.loop-slot.invariant (omega arith) c.number_in_slot.ensures)

use Rattle.node_format.proofs.BodyFields.{HasSlots}
use Rattle.node_format.proofs.body_nodes.push_slots.Given as goal

-- so many slots were added
abbrev pub invariant-loop-slot : goal.invariant-loop-slot
invariant-loop-slot l = HasSlots l.initial.out.items l.index l.pointers l.slot l.out.items

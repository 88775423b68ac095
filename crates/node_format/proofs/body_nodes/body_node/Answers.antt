use Rattle.std.proofs.Common.{List, ℕ, sym, subst, arith}
use Rattle.node_format.specs.BodyNodes.{IsBodySpelling}
use Rattle.node_format.proofs.BodyFields.{spelled, spelled_node, HasSlots}
use Rattle.node_format.proofs.body_nodes.body_node.Goals as goal

pub returns-clause-spelled : goal.returns-clause-spelled
returns-clause-spelled c =
    let placed : HasSlots c.in_ok-out.out.items c.args.index c.args.pointers.now 16 c.push_slots.new.out.items = record {
      before = c.in_ok-push_slots.ensures.old;
      slots = c.in_ok-push_slots.ensures.slots;
      size = c.in_ok-push_slots.ensures.size;
    } in
    let has = subst (λ (old : List ℕ). HasSlots old c.args.index c.args.pointers.now 16 c.push_slots.new.out.items) c.in_ok-out.ensures.spelled placed in
    subst (λ (node : List ℕ). IsBodySpelling node c.args.index c.args.pointers.now c.args.bytes.now) (sym c.in_ok-extend_from_slice.ensures.items)
    (spelled c.args.index c.args.pointers.now c.args.bytes.now c.push_slots.new.out.items (omega arith) c.requires.some c.requires.capacity has)

pub returns-clause-node : goal.returns-clause-node
returns-clause-node c = λ block capacity. spelled_node block c.args.index c.args.pointers.now c.args.bytes.now c.extend_from_slice.new.self.items capacity (returns-clause-spelled c)

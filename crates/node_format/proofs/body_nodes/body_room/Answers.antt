use Rattle.std.proofs.Common.{◌≡◌, ◌+◌, ◌-◌, ◌++◌, ℕ, List, length, take, drop, replicate, sym, ap, subst, ◌∙◌, arith}
use Rattle.std.proofs.lemmas.List.{take_all, take_at, drop_at}
use Rattle.node_format.specs.BodyNodes.{IsBodySpelling}
use Rattle.node_format.proofs.BodyFields.{header_bytes, spelled, HasSlots}
use Rattle.node_format.proofs.body_nodes.body_room.Goals as goal

-- zeros were put after the front
filled : (placed room : List ℕ) (len used : ℕ) → length placed ≡ 80 → len ≡ length placed → room ≡ take (80 + used) placed ++ replicate (80 + used - len) 0 → room ≡ placed ++ replicate used 0
filled placed room len used long same is =
    let rest : 80 + used - len ≡ used = omega arith in
    is ∙ ap (λ (front : List ℕ). front ++ replicate (80 + used - len) 0) (take_all (80 + used) placed (omega arith)) ∙ ap (λ (n : ℕ). placed ++ replicate n 0) rest

pub returns-clause-zeros : goal.returns-clause-zeros
returns-clause-zeros c =
    let placed = c.push_slots.new.out.items in
    let long : length placed ≡ 80 = omega (arith, c.in_ok-push_slots.ensures.size, ap length c.in_ok-out.ensures.spelled) in
    let items = filled placed c.resize.new.self.items c.push_slots.new.out.len c.args.used long (omega (arith, c.push_slots.new.out.ok)) c.in_ok-resize.ensures.items in
    ap (drop 80) items ∙ drop_at placed (replicate c.args.used 0) 80 long

pub returns-clause-spelled : goal.returns-clause-spelled
returns-clause-spelled c data_bytes count =
    let placed = c.push_slots.new.out.items in
    let long : length placed ≡ 80 = omega (arith, c.in_ok-push_slots.ensures.size, ap length c.in_ok-out.ensures.spelled) in
    let items = filled placed c.resize.new.self.items c.push_slots.new.out.len c.args.used long (omega (arith, c.push_slots.new.out.ok)) c.in_ok-resize.ensures.items in
    let front = ap (take 80) items ∙ take_at placed (replicate c.args.used 0) 80 long in
    let was : HasSlots c.in_ok-out.out.items c.args.index c.args.pointers.now 16 placed = record {
      before = c.in_ok-push_slots.ensures.old;
      slots = c.in_ok-push_slots.ensures.slots;
      size = c.in_ok-push_slots.ensures.size;
    } in
    let has = subst (λ (used : ℕ). HasSlots (header_bytes c.args.index used) c.args.index c.args.pointers.now 16 placed) (sym count) (subst (λ (old : List ℕ). HasSlots old c.args.index c.args.pointers.now 16 placed) c.in_ok-out.ensures.spelled was) in
    subst (λ (xs : List ℕ). IsBodySpelling (xs ++ data_bytes) c.args.index c.args.pointers.now data_bytes) (sym front)
    (spelled c.args.index c.args.pointers.now data_bytes placed (omega arith) (omega (arith, c.requires.some)) (omega (arith, c.requires.capacity)) has)

use Rattle.std.proofs.Common.{◌≡◌, ℕ, suc, ◌+◌, ◌-◌, ◌*◌, ◌/◌, ◌%◌, ◌^◌, sym, ap, subst, ◌∙◌, arith}
use Rattle.std.proofs.lemmas.List.{length-set}
use Rattle.nodes.specs.Bodies.{Blocks, back, IsChain, IsLinked}
use Rattle.nodes.specs.WordLaws.{looks_refused}
use Rattle.tree_edits.proofs.NodeCalls.{within_after}
use Rattle.tree_edits.proofs.Marks.{linked_before, mark_chain, mark_linked, mark_next, none_farther, set_named, few_more}
use Rattle.std.proofs.lemmas.Result.{err_from_is_err_and}
use Rattle.tree_edits.proofs.slot_table.start_table.Goals as goal

pub returns-then-last-power-clause-table : goal.returns-then-last-power-clause-table
returns-then-last-power-clause-table g c x k some from to has =
    let slot = c.loop-slot.slot in
    let same : c.args.last / 2 ^ slot ≡ (c.args.index - 1) / 2 ^ slot =
    ap (λ (p : ℕ). c.args.last / p) (sym c.pow-power.ensures) ∙ c.if-last-power.true ∙ ap (λ (p : ℕ). (c.args.index - 1) / p) c.pow-power.ensures in
    c.loop-slot.invariant.named x (none_farther c.args.index c.args.last slot x k some from to same has.2)

pub returns-clause-table : goal.returns-clause-table
returns-clause-table g c x k some from to has = c.loop-slot.invariant.named x (omega (arith, has.0))

pub step_back-requires-clause-chain : goal.step_back-requires-clause-chain
step_back-requires-clause-chain g c =
    let f = g.N.Nodes.node c.args.nodes.now in
    let capacity : ℕ = c.requires.linked.0 in
    let x : ℕ = c.loop-slot.slot - 1 in
    let n : ℕ = c.args.index - 1 in
    let chain = mark_chain capacity f c.args.head n x (linked_before capacity f c.args.head c.args.index (omega arith) c.requires.linked.1).0 in
    (capacity, subst (λ (h : Blocks). IsChain capacity h (n / 2 ^ x * 2 ^ x) c.loop-slot.block) (sym c.loop-slot.invariant.looks.same_nodes) (subst (IsChain capacity f (n / 2 ^ x * 2 ^ x)) (sym c.loop-slot.invariant.here) chain))

pub step_back-requires-clause-linked : goal.step_back-requires-clause-linked
step_back-requires-clause-linked g c =
    let f = g.N.Nodes.node c.args.nodes.now in
    let capacity : ℕ = c.requires.linked.0 in
    let x : ℕ = c.loop-slot.slot - 1 in
    let n : ℕ = c.args.index - 1 in
    let linked = mark_linked f c.args.head n x (linked_before capacity f c.args.head c.args.index (omega arith) c.requires.linked.1).1 in
    subst (λ (h : Blocks). IsLinked h (n / 2 ^ x * 2 ^ x) c.loop-slot.block) (sym c.loop-slot.invariant.looks.same_nodes) (subst (IsLinked f (n / 2 ^ x * 2 ^ x)) (sym c.loop-slot.invariant.here) linked)

pub returns-in_err-block-clause-reads : goal.returns-in_err-block-clause-reads
returns-in_err-block-clause-reads g c digits small =
    few_more c.args.index digits c.loop-slot.slot (g.N.Nodes.reads c.args.nodes.now) (g.N.Nodes.reads c.loop-slot.nodes) (g.N.Nodes.reads c.step_back.new.nodes)
    (omega arith) small (omega arith) c.loop-slot.invariant.reads (c.loop-slot.invariant.few digits small) c.step_back.ensures.calls.reads c.step_back.ensures.unread

pub loop-slot-preserved : goal.loop-slot-preserved
loop-slot-preserved g c =
    let f = g.N.Nodes.node c.args.nodes.now in
    let now = c.loop-slot.invariant in
    let done = c.in_ok-block.ensures in
    let n : ℕ = c.args.index - 1 in
    let slot = c.loop-slot.slot in
    let x : ℕ = slot - 1 in
    let after : suc x ≡ slot = omega arith in
    let again : slot ≡ slot + 1 - 1 = omega arith in
    let here : c.in_ok-block.block ≡ back f c.args.head (n % 2 ^ suc x) =
    mark_next f c.args.head n x c.loop-slot.block c.in_ok-block.block now.here (done.next ∙ ap (λ (h : Blocks). back h c.loop-slot.block (n / 2 ^ x % 2 * 2 ^ x)) now.looks.same_nodes) in
    let at : c.in_ok-block.block ≡ back f c.args.head (n % 2 ^ slot) = here ∙ ap (λ (y : ℕ). back f c.args.head (n % 2 ^ y)) after in
    record {
      size = length-set c.loop-slot.blocks slot c.in_ok-block.block ∙ now.size;
      here = at ∙ ap (λ (y : ℕ). back f c.args.head (n % 2 ^ y)) again;
      named = set_named f c.args.head n slot c.in_ok-block.block c.loop-slot.blocks (omega (arith, now.size)) at now.named;
      reads = omega (arith, now.reads, c.step_back.ensures.calls.reads);
      few = λ digits small. few_more c.args.index digits slot (g.N.Nodes.reads c.args.nodes.now) (g.N.Nodes.reads c.loop-slot.nodes) (g.N.Nodes.reads c.step_back.new.nodes)
          (omega arith) small (omega arith) now.reads (now.few digits small) c.step_back.ensures.calls.reads c.step_back.ensures.unread;
      asks = omega (arith, now.asks, done.asks);
      looks = g.met.N.Nodes.looks_on c.args.nodes.now c.loop-slot.nodes c.step_back.new.nodes now.looks done.calls.looks;
    }

pub returns-in_err-block-clause-calls : goal.returns-in_err-block-clause-calls
returns-in_err-block-clause-calls g c =
    let now = c.loop-slot.invariant in
    let calls = c.in_err-block.ensures.calls in
    let p = err_from_is_err_and c.from_residual.result c.from_residual.ensures.1 in
    rw (p.1, p.2) (within_after g.met.N.Nodes.looks_on g.met.N.Nodes.causes_on c.args.nodes.now c.loop-slot.nodes c.step_back.new.nodes now.looks (looks_refused calls) (omega (arith, now.reads, calls.reads)))

pub returns-then-last-power-clause-calls : goal.returns-then-last-power-clause-calls
returns-then-last-power-clause-calls g c = record { looks = c.loop-slot.invariant.looks; reads = omega (arith, c.loop-slot.invariant.reads); why = tt; faults = tt }

pub returns-clause-calls : goal.returns-clause-calls
returns-clause-calls g c = record { looks = c.loop-slot.invariant.looks; reads = omega (arith, c.loop-slot.invariant.reads); why = tt; faults = tt }

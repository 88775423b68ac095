use Rattle.std.proofs.Common.{◌≡◌, ℕ, ◌-◌, refl, sym, ap, subst, ◌∙◌, arith}
use Rattle.node_format.specs.Headers.{body_header}
use Rattle.nodes.specs.Bodies.{Blocks, index_of, pointer_of, back}
use Rattle.nodes.proofs.Bodies.{chain_node}
use Rattle.std.proofs.lemmas.Result.{err_from_is_err_and}
use Rattle.tree_edits.proofs.NodeCalls.{along_after, along_within}
use Rattle.tree_edits.proofs.Hops.{few_hops}
use Rattle.tree_edits.proofs.Chains.{IsOnWay, FewReads, way_on, few_on}
use Rattle.tree_edits.proofs.range_reads.find.Goals as goal

pub loop-at-init : goal.loop-at-init
loop-at-init g c =
    let old = c.args.nodes.now in
    let here : 0 ≡ c.args.head_index - c.args.head_index = omega arith in
    record {
      way = record {
        chain = c.requires.chain;
        linked = c.requires.linked;
        back_is = ap (back (g.N.Nodes.node old) c.args.head) here;
        above = c.requires.before;
        below = omega arith;
      };
      few = λ digits small. let h = few_hops c.args.head_index c.args.index digits small.0 c.requires.before small.1 in (h.0, h.1, omega (arith, h.2));
      asks = omega arith;
      partly = refl;
      still = λ _. refl;
      looks = record { same_nodes = refl; same_kept = refl; same_writes = refl; came = g.met.N.Nodes.follows_itself old; sound = c.requires.sound; same_limit = refl; same_blocks = refl };
    }

pub pointer_at-requires-clause-slot : goal.pointer_at-requires-clause-slot
pointer_at-requires-clause-slot g c =
    let so_far = c.loop-at.invariant in
    let here = ap (λ (f : Blocks). index_of (f c.loop-at.block)) so_far.looks.same_nodes in
    (c.loop-at.at, (here ∙ chain_node (g.N.Nodes.limit c.args.nodes.now - body_header) c.loop-at.at c.loop-at.block (g.N.Nodes.node c.args.nodes.now) so_far.way.chain), c.farthest_slot-slot.ensures.0.0)

pub loop-at-preserved : goal.loop-at-preserved
loop-at-preserved g c =
    let so_far = c.loop-at.invariant in
    let x = c.farthest_slot-slot.result in
    let done = c.in_ok-block.ensures in
    let old = c.args.nodes.now in
    let next : c.in_ok-block.block ≡ pointer_of (g.N.Nodes.node old c.loop-at.block) x = done.found ∙ ap (λ (f : Blocks). pointer_of (f c.loop-at.block) x) so_far.looks.same_nodes in
    let way = way_on (g.N.Nodes.limit old - body_header) (g.N.Nodes.node old) c.args.head c.args.head_index c.args.index c.loop-at.at c.loop-at.block x c.in_ok-block.block so_far.way c.farthest_slot-slot.ensures.0 next in
    let few = few_on c.args.head_index c.args.index c.loop-at.at (g.N.Nodes.reads old) (g.N.Nodes.reads c.loop-at.nodes) (g.N.Nodes.reads c.pointer_at.new.nodes) x c.loop-at-test.true c.farthest_slot-slot.ensures done.calls.reads so_far.few in
    record {
      way = subst (λ (p : ℕ). IsOnWay (g.N.Nodes.limit old - body_header) (g.N.Nodes.node old) c.args.head c.args.head_index c.args.index (c.loop-at.at - p) c.in_ok-block.block) (sym c.pow-at.ensures) way;
      few = subst (λ (p : ℕ). FewReads c.args.head_index c.args.index (c.loop-at.at - p) (g.N.Nodes.reads old) (g.N.Nodes.reads c.pointer_at.new.nodes)) (sym c.pow-at.ensures) few;
      asks = omega (arith, so_far.asks, done.asks);
      partly = done.partly ∙ so_far.partly;
      still = λ same. absurd (omega (arith, c.loop-at-test.true, so_far.way.below, same));
      looks = g.met.N.Nodes.looks_on old c.loop-at.nodes c.pointer_at.new.nodes so_far.looks done.calls.looks;
    }

pub returns-in_err-block-clause-calls : goal.returns-in_err-block-clause-calls
returns-in_err-block-clause-calls g c =
    let old = c.args.nodes.now in
    let so_far = c.loop-at.invariant in
    let calls = c.in_err-block.ensures.calls in
    let few = few_on c.args.head_index c.args.index c.loop-at.at (g.N.Nodes.reads old) (g.N.Nodes.reads c.loop-at.nodes) (g.N.Nodes.reads c.pointer_at.new.nodes) c.farthest_slot-slot.result c.loop-at-test.true c.farthest_slot-slot.ensures calls.reads so_far.few in
    let p = err_from_is_err_and c.from_residual.result c.from_residual.ensures.1 in
    rw (p.1, p.2) (along_after g.met.N.Nodes.looks_on g.met.N.Nodes.causes_on old c.loop-at.nodes c.pointer_at.new.nodes so_far.looks (along_within 0 calls) (λ digits small. omega (arith, (few digits small).2)))

pub returns-clause-calls : goal.returns-clause-calls
returns-clause-calls g c = record { looks = c.loop-at.invariant.looks; reads = λ digits small. omega (arith, (c.loop-at.invariant.few digits small).2); why = tt; faults = tt }

pub returns-in_err-block-clause-unread : goal.returns-in_err-block-clause-unread
returns-in_err-block-clause-unread g c = λ same. absurd (omega (arith, c.loop-at-test.true, c.loop-at.invariant.way.below, same))

pub returns-clause-unread : goal.returns-clause-unread
returns-clause-unread g c = c.loop-at.invariant.still

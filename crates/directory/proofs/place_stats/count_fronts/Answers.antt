use Rattle.std.proofs.Common.{◌+◌, Option, [], List, inl, inr, length, sym, ap, ◌∙◌, arith}
use Rattle.std.specs.Prelude.{unwrap_or}
use Rattle.std.proofs.lemmas.Bool.{eq-eqb, ne_eqb}
use Rattle.std.proofs.lemmas.Result.{err_from_is_err_and}
use Rattle.node_format.specs.Items.{Item}
use Rattle.directory.proofs.Walks.{walk_most}
use Rattle.directory.proofs.Listed.{counted_begun, counted_on, counted_all, read_on}
use Rattle.directory.proofs.FrontReads.{later_link}
use Rattle.directory.proofs.place_stats.count_fronts.Goals as goal

pub loop-init : goal.loop-init
loop-init g c = record {
  walk = counted_begun (g.N.Nodes.node c.args.nodes.now) c.args.block c.in_ok-count.next c.in_ok-count.count c.in_ok-count.ensures.counted.1 c.in_ok-count.ensures.counted.0;
  few = let few = c.in_ok-count.ensures.few in omega arith;
  asks = c.count_front.ensures.asks;
  looks = c.count_front.ensures.looks;
}

pub count_front-requires-in-loop-clause-node : goal.count_front-requires-in-loop-clause-node
count_front-requires-in-loop-clause-node g c =
    later_link (g.N.Nodes.node c.args.nodes.now) (g.N.Nodes.node c.loop.nodes) c.args.block c.requires.whole.0 c.requires.whole.1 c.loop.invariant.looks.same_nodes c.loop.counter c.loop.next c.loop.invariant.walk.0 c.loop-test.true c.loop.invariant.walk.1
    (ne_eqb c.loop.next 0 c.if-next-eq0.false)

pub loop-preserved : goal.loop-preserved
loop-preserved g c = record {
  walk = counted_on (g.N.Nodes.node c.args.nodes.now) (g.N.Nodes.node c.loop.nodes) c.args.block c.loop.invariant.looks.same_nodes c.loop.counter c.loop.next c.in_ok-more.after c.loop.count c.in_ok-more.more c.loop-test.true c.loop.invariant.walk
      (ne_eqb c.loop.next 0 c.if-next-eq0.false) c.in_ok-more.ensures.counted.1 c.in_ok-more.ensures.counted.0;
  few = omega (arith, c.loop.invariant.few, c.in_ok-more.ensures.few);
  asks = omega (arith, c.loop.invariant.asks, c.count_front-in-loop.ensures.asks);
  looks = g.met.N.Nodes.looks_on c.args.nodes.now c.loop.nodes c.count_front-in-loop.new.nodes c.loop.invariant.looks c.count_front-in-loop.ensures.looks;
}

pub returns-then-next-eq0-clause-count : goal.returns-then-next-eq0-clause-count
returns-then-next-eq0-clause-count g c =
    counted_all (g.N.Nodes.node c.args.nodes.now) c.args.block _ c.loop.next (c.loop.counter + 1) c.loop.count c.loop.invariant.walk (inl (eq-eqb c.loop.next 0 c.if-next-eq0.true)) c.requires.whole.0 c.requires.whole.1
    ∙ ap (λ (o : Option (List Item)). length (unwrap_or o [])) (sym c.requires.whole.1)

pub returns-clause-count : goal.returns-clause-count
returns-clause-count g c =
    counted_all (g.N.Nodes.node c.args.nodes.now) c.args.block _ c.loop.next (c.loop.counter + 1) c.loop.count c.loop.invariant.walk (inr (let all = c.loop-test.false in omega (arith, all))) c.requires.whole.0 c.requires.whole.1
    ∙ ap (λ (o : Option (List Item)). length (unwrap_or o [])) (sym c.requires.whole.1)

pub returns-then-next-eq0-clause-asks : goal.returns-then-next-eq0-clause-asks
returns-then-next-eq0-clause-asks g c =
    omega (arith, c.loop.invariant.asks, walk_most (g.N.Nodes.node c.args.nodes.now) c.args.block _ c.loop.next (c.loop.counter + 1) c.loop.invariant.walk.0 c.loop.invariant.walk.1)

pub returns-clause-asks : goal.returns-clause-asks
returns-clause-asks g c =
    omega (arith, c.loop.invariant.asks, walk_most (g.N.Nodes.node c.args.nodes.now) c.args.block _ c.loop.next (c.loop.counter + 1) c.loop.invariant.walk.0 c.loop.invariant.walk.1)

pub returns-in_err-more-clause-asks : goal.returns-in_err-more-clause-asks
returns-in_err-more-clause-asks g c =
    omega (
      arith,
      c.loop.invariant.asks,
      c.count_front-in-loop.ensures.asks,
      read_on (g.N.Nodes.node c.args.nodes.now) (g.N.Nodes.node c.loop.nodes) c.args.block c.loop.invariant.looks.same_nodes c.loop.counter c.loop.next c.loop.invariant.walk.0 c.loop-test.true c.loop.invariant.walk.1
          (ne_eqb c.loop.next 0 c.if-next-eq0.false),
    )

pub returns-in_err-more-clause-looks : goal.returns-in_err-more-clause-looks
returns-in_err-more-clause-looks g c = g.met.N.Nodes.looks_on c.args.nodes.now c.loop.nodes c.count_front-in-loop.new.nodes c.loop.invariant.looks c.count_front-in-loop.ensures.looks

pub returns-in_err-more-clause-refused : goal.returns-in_err-more-clause-refused
returns-in_err-more-clause-refused g c =
    let p = err_from_is_err_and c.from_residual-in_err-more.result c.from_residual-in_err-more.ensures.1 in
    rw (p.1, p.2) (c.in_err-more.ensures.refused.0, g.met.N.Nodes.causes_on c.args.nodes.now c.loop.nodes c.count_front-in-loop.new.nodes c.in_err-more.field-0.0 c.loop.invariant.looks.came c.in_err-more.ensures.refused.1)

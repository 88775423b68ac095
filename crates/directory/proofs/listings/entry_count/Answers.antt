use Rattle.std.proofs.Common.{◌+◌, inl, inr, Err, ap, arith}
use Rattle.std.proofs.lemmas.Bool.{eq-eqb, ne_eqb}
use Rattle.std.proofs.lemmas.Result.{err_from_is_err_and}
use Rattle.fs_types.specs.declared.fault.Fault.{Fault}
use Rattle.nodes.specs.WordLaws.{looks_both, looks_after, looks_wider, looks_answered, looks_refused}
use Rattle.directory.proofs.Sights.{refused_is}
use Rattle.directory.proofs.Walks.{walk_most}
use Rattle.directory.proofs.Listed.{counted_begun, counted_on, counted_all, none_first, none_on, read_on}
use Rattle.directory.proofs.listings.entry_count.Goals as goal

pub loop-init : goal.loop-init
loop-init g c = record {
  walk = counted_begun (g.N.Nodes.node c.args.nodes.now) c.args.block c.in_ok-count.next c.in_ok-count.count c.in_ok-count.ensures.next c.in_ok-count.ensures.count;
  few = let few = c.in_ok-count.ensures.few in omega arith;
  calls = looks_answered c.in_ok-count.ensures.calls;
}

pub loop-preserved : goal.loop-preserved
loop-preserved g c = record {
  walk = counted_on (g.N.Nodes.node c.args.nodes.now) (g.N.Nodes.node c.loop.nodes) c.args.block c.loop.invariant.calls.looks.same_nodes c.loop.counter c.loop.next c.in_ok-more.after c.loop.count c.in_ok-more.more c.loop-test.true c.loop.invariant.walk
      (ne_eqb c.loop.next 0 c.if-next-eq0.false) c.in_ok-more.ensures.next c.in_ok-more.ensures.count;
  few = omega (arith, c.loop.invariant.few, c.in_ok-more.ensures.few);
  calls = looks_answered (looks_both g.met.N.Nodes.looks_on g.met.N.Nodes.causes_on c.args.nodes.now c.loop.nodes c.count_at-in-loop.new.nodes c.loop.invariant.calls c.in_ok-more.ensures.calls);
}

pub returns-then-next-eq0-clause-count : goal.returns-then-next-eq0-clause-count
returns-then-next-eq0-clause-count g c =
    counted_all (g.N.Nodes.node c.args.nodes.now) c.args.block _ c.loop.next (c.loop.counter + 1) c.loop.count c.loop.invariant.walk (inl (eq-eqb c.loop.next 0 c.if-next-eq0.true))

pub returns-clause-count : goal.returns-clause-count
returns-clause-count g c =
    counted_all (g.N.Nodes.node c.args.nodes.now) c.args.block _ c.loop.next (c.loop.counter + 1) c.loop.count c.loop.invariant.walk (inr (let all = c.loop-test.false in omega (arith, all)))

pub returns-in_err-count-clause-damaged : goal.returns-in_err-count-clause-damaged
returns-in_err-count-clause-damaged g c =
    let p = err_from_is_err_and c.from_residual.result c.from_residual.ensures.1 in
    rw (p.1, p.2) (λ is. none_first (g.N.Nodes.node c.args.nodes.now) c.args.block (c.in_err-count.ensures.damaged (ap (λ (e : Fault). Err e) (refused_is c.in_err-count.field-0.0 is))))

pub returns-in_err-more-clause-damaged : goal.returns-in_err-more-clause-damaged
returns-in_err-more-clause-damaged g c =
    let p = err_from_is_err_and c.from_residual-in_err-more.result c.from_residual-in_err-more.ensures.1 in
    rw (p.1, p.2) (λ is. none_on (g.N.Nodes.node c.args.nodes.now) (g.N.Nodes.node c.loop.nodes) c.args.block c.loop.invariant.calls.looks.same_nodes c.loop.counter c.loop.next c.loop.invariant.walk.0 c.loop-test.true c.loop.invariant.walk.1
    (ne_eqb c.loop.next 0 c.if-next-eq0.false) (c.in_err-more.ensures.damaged (ap (λ (e : Fault). Err e) (refused_is c.in_err-more.field-0.0 is))))

pub returns-then-next-eq0-clause-calls : goal.returns-then-next-eq0-clause-calls
returns-then-next-eq0-clause-calls g c = looks_wider (looks_answered c.loop.invariant.calls) (walk_most (g.N.Nodes.node c.args.nodes.now) c.args.block _ c.loop.next (c.loop.counter + 1) c.loop.invariant.walk.0 c.loop.invariant.walk.1)

pub returns-clause-calls : goal.returns-clause-calls
returns-clause-calls g c = looks_wider (looks_answered c.loop.invariant.calls) (walk_most (g.N.Nodes.node c.args.nodes.now) c.args.block _ c.loop.next (c.loop.counter + 1) c.loop.invariant.walk.0 c.loop.invariant.walk.1)

pub returns-in_err-more-clause-calls : goal.returns-in_err-more-clause-calls
returns-in_err-more-clause-calls g c =
    let p = err_from_is_err_and c.from_residual-in_err-more.result c.from_residual-in_err-more.ensures.1 in
    rw (p.1, p.2) (looks_refused (looks_after g.met.N.Nodes.looks_on g.met.N.Nodes.causes_on c.args.nodes.now c.loop.nodes c.count_at-in-loop.new.nodes (λ fault is. is) c.loop.invariant.calls c.in_err-more.ensures.calls
    (read_on (g.N.Nodes.node c.args.nodes.now) (g.N.Nodes.node c.loop.nodes) c.args.block c.loop.invariant.calls.looks.same_nodes c.loop.counter c.loop.next c.loop.invariant.walk.0 c.loop-test.true c.loop.invariant.walk.1 (ne_eqb c.loop.next 0 c.if-next-eq0.false))))

use Rattle.std.proofs.Common.{◌+◌, inl, inr, Err, ap, arith}
use Rattle.std.proofs.lemmas.Bool.{eq-eqb, ne_eqb}
use Rattle.std.proofs.lemmas.Result.{err_from_is_err_and}
use Rattle.fs_types.specs.declared.fault.Fault.{Fault}
use Rattle.nodes.specs.WordLaws.{looks_both, looks_after, looks_wider, looks_answered, looks_refused}
use Rattle.directory.proofs.Sights.{refused_is}
use Rattle.directory.proofs.Walks.{walk_most}
use Rattle.directory.proofs.Listed.{named_begun, named_on, named_all, none_first, none_on, read_on}
use Rattle.directory.proofs.listings.names.Goals as goal

pub loop-init : goal.loop-init
loop-init g c = record {
  walk = named_begun (g.N.Nodes.node c.args.nodes.now) c.args.block c.in_ok-next.next c.new-names.result c.add_names.new.names c.in_ok-next.ensures.next (cc c.new-names.ensures) c.in_ok-next.ensures.names;
  calls = c.in_ok-next.ensures.calls;
}

pub loop-preserved : goal.loop-preserved
loop-preserved g c = record {
  walk = named_on (g.N.Nodes.node c.args.nodes.now) (g.N.Nodes.node c.loop.nodes) c.args.block c.loop.invariant.calls.looks.same_nodes c.loop.counter c.loop.next c.in_ok-next-2.next c.loop.names c.add_names-in-loop.new.names c.loop-test.true c.loop.invariant.walk
      (ne_eqb c.loop.next 0 c.if-next-eq0.false) c.in_ok-next-2.ensures.next c.in_ok-next-2.ensures.names;
  calls = looks_both g.met.N.Nodes.looks_on g.met.N.Nodes.causes_on c.args.nodes.now c.loop.nodes c.add_names-in-loop.new.nodes c.loop.invariant.calls c.in_ok-next-2.ensures.calls;
}

pub returns-then-next-eq0-clause-names : goal.returns-then-next-eq0-clause-names
returns-then-next-eq0-clause-names g c =
    named_all (g.N.Nodes.node c.args.nodes.now) c.args.block _ c.loop.next (c.loop.counter + 1) c.loop.names c.loop.invariant.walk (inl (eq-eqb c.loop.next 0 c.if-next-eq0.true))

pub returns-clause-names : goal.returns-clause-names
returns-clause-names g c =
    named_all (g.N.Nodes.node c.args.nodes.now) c.args.block _ c.loop.next (c.loop.counter + 1) c.loop.names c.loop.invariant.walk (inr (let all = c.loop-test.false in omega (arith, all)))

pub returns-in_err-next-clause-damaged : goal.returns-in_err-next-clause-damaged
returns-in_err-next-clause-damaged g c =
    let p = err_from_is_err_and c.from_residual.result c.from_residual.ensures.1 in
    rw (p.1, p.2) (λ is. none_first (g.N.Nodes.node c.args.nodes.now) c.args.block (c.in_err-next.ensures.damaged (ap (λ (e : Fault). Err e) (refused_is c.in_err-next.field-0.0 is))))

pub returns-in_err-next-2-clause-damaged : goal.returns-in_err-next-2-clause-damaged
returns-in_err-next-2-clause-damaged g c =
    let p = err_from_is_err_and c.from_residual-in_err-next-2.result c.from_residual-in_err-next-2.ensures.1 in
    rw (p.1, p.2) (λ is. none_on (g.N.Nodes.node c.args.nodes.now) (g.N.Nodes.node c.loop.nodes) c.args.block c.loop.invariant.calls.looks.same_nodes c.loop.counter c.loop.next c.loop.invariant.walk.0 c.loop-test.true c.loop.invariant.walk.1
    (ne_eqb c.loop.next 0 c.if-next-eq0.false) (c.in_err-next-2.ensures.damaged (ap (λ (e : Fault). Err e) (refused_is c.in_err-next-2.field-0.0 is))))

pub returns-then-next-eq0-clause-calls : goal.returns-then-next-eq0-clause-calls
returns-then-next-eq0-clause-calls g c = looks_wider (looks_answered c.loop.invariant.calls) (walk_most (g.N.Nodes.node c.args.nodes.now) c.args.block _ c.loop.next (c.loop.counter + 1) c.loop.invariant.walk.0 c.loop.invariant.walk.1)

pub returns-clause-calls : goal.returns-clause-calls
returns-clause-calls g c = looks_wider (looks_answered c.loop.invariant.calls) (walk_most (g.N.Nodes.node c.args.nodes.now) c.args.block _ c.loop.next (c.loop.counter + 1) c.loop.invariant.walk.0 c.loop.invariant.walk.1)

pub returns-in_err-next-2-clause-calls : goal.returns-in_err-next-2-clause-calls
returns-in_err-next-2-clause-calls g c =
    let p = err_from_is_err_and c.from_residual-in_err-next-2.result c.from_residual-in_err-next-2.ensures.1 in
    rw (p.1, p.2) (looks_refused (looks_after g.met.N.Nodes.looks_on g.met.N.Nodes.causes_on c.args.nodes.now c.loop.nodes c.add_names-in-loop.new.nodes (λ fault is. is) c.loop.invariant.calls c.in_err-next-2.ensures.calls
    (read_on (g.N.Nodes.node c.args.nodes.now) (g.N.Nodes.node c.loop.nodes) c.args.block c.loop.invariant.calls.looks.same_nodes c.loop.counter c.loop.next c.loop.invariant.walk.0 c.loop-test.true c.loop.invariant.walk.1 (ne_eqb c.loop.next 0 c.if-next-eq0.false))))

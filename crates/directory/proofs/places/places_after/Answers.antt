use Rattle.std.proofs.Common.{◌+◌, inl, inr, Err, sym, ap, ◌∙◌, arith}
use Rattle.std.specs.Option.{option_copied}
use Rattle.std.proofs.lemmas.Result.{err_from_is_err_and}
use Rattle.fs_types.specs.declared.fault.Fault.{Fault}
use Rattle.nodes.specs.WordLaws.{looks_both, looks_after, looks_wider, looks_answered, looks_refused}
use Rattle.directory.proofs.Sights.{refused_is}
use Rattle.directory.proofs.Walks.{walk_most}
use Rattle.directory.proofs.Listed.{none_on, read_on}
use Rattle.directory.proofs.Placed.{placed_begun, placed_on, placed_all, goes_on}
use Rattle.directory.proofs.places.places_after.Goals as goal

pub loop-init : goal.loop-init
loop-init g c = record {
  walk = placed_begun (option_copied c.args.from) c.args.most (g.N.Nodes.node c.args.nodes.now) c.args.block c.in_ok-next.next c.new-places.result c.add_places.new.places c.in_ok-next.ensures.next (cc c.new-places.ensures) c.in_ok-next.ensures.places;
  calls = c.in_ok-next.ensures.calls;
}

pub loop-preserved : goal.loop-preserved
loop-preserved g c = record {
  walk = placed_on (option_copied c.args.from) c.args.most (g.N.Nodes.node c.args.nodes.now) (g.N.Nodes.node c.loop.nodes) c.args.block c.loop.invariant.calls.looks.same_nodes c.loop.counter c.loop.next c.in_ok-next-2.next c.loop.places c.add_places-in-loop.new.places c.loop-test.true c.loop.invariant.walk
      (goes_on c.loop.next _ _ (sym c.is_read.ensures ∙ c.if-is_read.false)) c.in_ok-next-2.ensures.next c.in_ok-next-2.ensures.places;
  calls = looks_both g.met.N.Nodes.looks_on g.met.N.Nodes.causes_on c.args.nodes.now c.loop.nodes c.add_places-in-loop.new.nodes c.loop.invariant.calls c.in_ok-next-2.ensures.calls;
}

pub returns-then-is_read-clause-places : goal.returns-then-is_read-clause-places
returns-then-is_read-clause-places g c =
    placed_all (option_copied c.args.from) c.args.most (g.N.Nodes.node c.args.nodes.now) c.args.block _ c.loop.next (c.loop.counter + 1) c.loop.places c.loop.invariant.walk (inl (sym c.is_read.ensures ∙ c.if-is_read.true))

pub returns-clause-places : goal.returns-clause-places
returns-clause-places g c =
    placed_all (option_copied c.args.from) c.args.most (g.N.Nodes.node c.args.nodes.now) c.args.block _ c.loop.next (c.loop.counter + 1) c.loop.places c.loop.invariant.walk (inr (let all = c.loop-test.false in omega (arith, all)))

pub returns-in_err-next-2-clause-damaged : goal.returns-in_err-next-2-clause-damaged
returns-in_err-next-2-clause-damaged g c =
    let p = err_from_is_err_and c.from_residual-in_err-next-2.result c.from_residual-in_err-next-2.ensures.1 in
    rw (p.1, p.2) (λ is. none_on (g.N.Nodes.node c.args.nodes.now) (g.N.Nodes.node c.loop.nodes) c.args.block c.loop.invariant.calls.looks.same_nodes c.loop.counter c.loop.next c.loop.invariant.walk.0 c.loop-test.true c.loop.invariant.walk.1
    (goes_on c.loop.next _ _ (sym c.is_read.ensures ∙ c.if-is_read.false)) (c.in_err-next-2.ensures.damaged (ap (λ (e : Fault). Err e) (refused_is c.in_err-next-2.field-0.0 is))))

pub returns-then-is_read-clause-calls : goal.returns-then-is_read-clause-calls
returns-then-is_read-clause-calls g c = looks_wider (looks_answered c.loop.invariant.calls) (walk_most (g.N.Nodes.node c.args.nodes.now) c.args.block _ c.loop.next (c.loop.counter + 1) c.loop.invariant.walk.0 c.loop.invariant.walk.1)

pub returns-clause-calls : goal.returns-clause-calls
returns-clause-calls g c = looks_wider (looks_answered c.loop.invariant.calls) (walk_most (g.N.Nodes.node c.args.nodes.now) c.args.block _ c.loop.next (c.loop.counter + 1) c.loop.invariant.walk.0 c.loop.invariant.walk.1)

pub returns-in_err-next-2-clause-calls : goal.returns-in_err-next-2-clause-calls
returns-in_err-next-2-clause-calls g c =
    let p = err_from_is_err_and c.from_residual-in_err-next-2.result c.from_residual-in_err-next-2.ensures.1 in
    rw (p.1, p.2) (looks_refused (looks_after g.met.N.Nodes.looks_on g.met.N.Nodes.causes_on c.args.nodes.now c.loop.nodes c.add_places-in-loop.new.nodes (λ fault is. is) c.loop.invariant.calls c.in_err-next-2.ensures.calls
    (read_on (g.N.Nodes.node c.args.nodes.now) (g.N.Nodes.node c.loop.nodes) c.args.block c.loop.invariant.calls.looks.same_nodes c.loop.counter c.loop.next c.loop.invariant.walk.0 c.loop-test.true c.loop.invariant.walk.1 (goes_on c.loop.next _ _ (sym c.is_read.ensures ∙ c.if-is_read.false)))))

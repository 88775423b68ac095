use Rattle.std.proofs.Common.{◌≡◌, ◌+◌, Bool, true, false, Err, refl, sym, ap, ◌∙◌, arith}
use Rattle.std.specs.Prelude.{not}
use Rattle.std.proofs.lemmas.Result.{err_from_is_err_and}
use Rattle.fs_types.specs.declared.fault.Fault.{Fault}
use Rattle.nodes.specs.WordLaws.{looks_both, looks_after, looks_wider, looks_answered, looks_refused}
use Rattle.fs_types.specs.declared.fault.Fault.TheVariants.{Damaged}
use Rattle.directory.proofs.NodeCalls.{looks_refuse}
use Rattle.directory.proofs.Sights.{begins, ends_found, ends_counted, ends_none, ends_alone, ends_long, goes_on, no_first, read_most, read_more, refused_is}
use Rattle.directory.proofs.lookups.seek.Goals as goal

not_true : (b : Bool) → not b ≡ true → b ≡ false
not_true true e = cc
not_true false e = refl

true_is : (b : Bool) → not b ≡ false → b ≡ true
true_is true e = refl
true_is false e = cc

pub loop-init : goal.loop-init
loop-init g c = record {
  sought = begins (g.N.Nodes.node c.args.nodes.now) (g.N.Nodes.node c.args.nodes.now) c.args.name.now c.args.block refl c.in_ok-sight.sight.next c.in_ok-sight.sight.count c.in_ok-sight.sight.is_later c.in_ok-sight.sight.place c.in_ok-sight.ensures.seen;
  few = let few = c.in_ok-sight.ensures.few in omega arith;
  calls = c.in_ok-sight.ensures.calls;
}

pub loop-preserved : goal.loop-preserved
loop-preserved g c = record {
  sought = goes_on (g.N.Nodes.node c.args.nodes.now) (g.N.Nodes.node c.loop.nodes) c.args.name.now c.args.block c.loop.invariant.calls.looks.same_nodes
      c.loop.counter c.loop.sight.next c.in_ok-sight-2.sight.next (c.loop.counter + 1) c.loop.count c.in_ok-sight-2.sight.count c.in_ok-sight-2.sight.is_later c.loop.sight.place c.in_ok-sight-2.sight.place c.loop-test.true c.loop.invariant.sought
      (sym c.is_over.ensures ∙ c.if-is_over.false) c.in_ok-sight-2.ensures.seen (true_is c.in_ok-sight-2.sight.is_later c.if-not-sight.false);
  few = omega (arith, c.loop.invariant.few, c.in_ok-sight-2.ensures.few);
  calls = looks_both g.met.N.Nodes.looks_on g.met.N.Nodes.causes_on c.args.nodes.now c.loop.nodes c.look_at-in-loop.new.nodes c.loop.invariant.calls c.in_ok-sight-2.ensures.calls;
}

pub returns-then-is_over-clause-found : goal.returns-then-is_over-clause-found
returns-then-is_over-clause-found g c =
    ends_found (g.N.Nodes.node c.args.nodes.now) (g.N.Nodes.node c.loop.nodes) c.args.name.now c.args.block c.loop.invariant.calls.looks.same_nodes
    _ c.loop.sight.next (c.loop.counter + 1) c.loop.count c.loop.sight.place c.loop.invariant.sought (sym c.is_over.ensures ∙ c.if-is_over.true)

pub returns-then-is_over-2-clause-found : goal.returns-then-is_over-2-clause-found
returns-then-is_over-2-clause-found g c =
    ends_found (g.N.Nodes.node c.args.nodes.now) (g.N.Nodes.node c.loop.nodes) c.args.name.now c.args.block c.loop.invariant.calls.looks.same_nodes
    _ c.loop.sight.next (c.loop.counter + 1) c.loop.count c.loop.sight.place c.loop.invariant.sought (sym c.is_over-2.ensures ∙ c.if-is_over-2.true)

pub returns-then-is_over-clause-counted : goal.returns-then-is_over-clause-counted
returns-then-is_over-clause-counted g c =
    ends_counted (g.N.Nodes.node c.args.nodes.now) (g.N.Nodes.node c.loop.nodes) c.args.name.now c.args.block c.loop.invariant.calls.looks.same_nodes
    _ c.loop.sight.next (c.loop.counter + 1) c.loop.count c.loop.sight.place c.loop.invariant.sought (sym c.is_over.ensures ∙ c.if-is_over.true)

pub returns-then-is_over-2-clause-counted : goal.returns-then-is_over-2-clause-counted
returns-then-is_over-2-clause-counted g c =
    ends_counted (g.N.Nodes.node c.args.nodes.now) (g.N.Nodes.node c.loop.nodes) c.args.name.now c.args.block c.loop.invariant.calls.looks.same_nodes
    _ c.loop.sight.next (c.loop.counter + 1) c.loop.count c.loop.sight.place c.loop.invariant.sought (sym c.is_over-2.ensures ∙ c.if-is_over-2.true)

pub returns-clause-damaged : goal.returns-clause-damaged
returns-clause-damaged g c = λ _.
    ends_long (g.N.Nodes.node c.args.nodes.now) (g.N.Nodes.node c.loop.nodes) c.args.name.now c.args.block c.loop.invariant.calls.looks.same_nodes
    _ c.loop.sight.next (c.loop.counter + 1) c.loop.count c.loop.sight.place (let all = c.loop-test.false in omega (arith, all)) c.loop.invariant.sought (sym c.is_over-2.ensures ∙ c.if-is_over-2.false)

pub returns-then-not-sight-clause-damaged : goal.returns-then-not-sight-clause-damaged
returns-then-not-sight-clause-damaged g c = λ _.
    ends_alone (g.N.Nodes.node c.args.nodes.now) (g.N.Nodes.node c.loop.nodes) c.args.name.now c.args.block c.loop.invariant.calls.looks.same_nodes
    c.loop.counter c.loop.sight.next c.in_ok-sight-2.sight.next (c.loop.counter + 1) c.loop.count c.in_ok-sight-2.sight.count c.in_ok-sight-2.sight.is_later c.loop.sight.place c.in_ok-sight-2.sight.place c.loop-test.true c.loop.invariant.sought
    (sym c.is_over.ensures ∙ c.if-is_over.false) c.in_ok-sight-2.ensures.seen (not_true c.in_ok-sight-2.sight.is_later c.if-not-sight.true)

pub returns-in_err-sight-2-clause-damaged : goal.returns-in_err-sight-2-clause-damaged
returns-in_err-sight-2-clause-damaged g c =
    let p = err_from_is_err_and c.from_residual-in_err-sight-2.result c.from_residual-in_err-sight-2.ensures.1 in
    rw (p.1, p.2) (λ is.
    ends_none (g.N.Nodes.node c.args.nodes.now) (g.N.Nodes.node c.loop.nodes) c.args.name.now c.args.block c.loop.invariant.calls.looks.same_nodes
    c.loop.counter c.loop.sight.next (c.loop.counter + 1) c.loop.count c.loop.sight.place c.loop-test.true c.loop.invariant.sought (sym c.is_over.ensures ∙ c.if-is_over.false)
    (c.in_err-sight-2.ensures.damaged (ap (λ (e : Fault). Err e) (refused_is c.in_err-sight-2.field-0.0 is))))

pub returns-in_err-sight-clause-damaged : goal.returns-in_err-sight-clause-damaged
returns-in_err-sight-clause-damaged g c =
    let p = err_from_is_err_and c.from_residual.result c.from_residual.ensures.1 in
    rw (p.1, p.2) (λ is. no_first (g.N.Nodes.node c.args.nodes.now) c.args.name.now c.args.block (c.in_err-sight.ensures.damaged (ap (λ (e : Fault). Err e) (refused_is c.in_err-sight.field-0.0 is))))

pub returns-then-is_over-clause-calls : goal.returns-then-is_over-clause-calls
returns-then-is_over-clause-calls g c =
    looks_wider (looks_answered c.loop.invariant.calls)
    (read_most (g.N.Nodes.node c.args.nodes.now) (g.N.Nodes.node c.loop.nodes) c.args.name.now c.args.block c.loop.invariant.calls.looks.same_nodes _ c.loop.sight.next (c.loop.counter + 1) c.loop.count c.loop.sight.place c.loop.invariant.sought)

pub returns-then-is_over-2-clause-calls : goal.returns-then-is_over-2-clause-calls
returns-then-is_over-2-clause-calls g c =
    looks_wider (looks_answered c.loop.invariant.calls)
    (read_most (g.N.Nodes.node c.args.nodes.now) (g.N.Nodes.node c.loop.nodes) c.args.name.now c.args.block c.loop.invariant.calls.looks.same_nodes _ c.loop.sight.next (c.loop.counter + 1) c.loop.count c.loop.sight.place c.loop.invariant.sought)

pub returns-clause-calls : goal.returns-clause-calls
returns-clause-calls g c =
    looks_refuse {fault = Damaged} refl refl
    (looks_wider c.loop.invariant.calls (read_most (g.N.Nodes.node c.args.nodes.now) (g.N.Nodes.node c.loop.nodes) c.args.name.now c.args.block c.loop.invariant.calls.looks.same_nodes _ c.loop.sight.next (c.loop.counter + 1) c.loop.count c.loop.sight.place c.loop.invariant.sought))

pub returns-then-not-sight-clause-calls : goal.returns-then-not-sight-clause-calls
returns-then-not-sight-clause-calls g c =
    looks_refuse {fault = Damaged} refl refl
    (looks_after g.met.N.Nodes.looks_on g.met.N.Nodes.causes_on c.args.nodes.now c.loop.nodes c.look_at-in-loop.new.nodes (λ fault is. is) c.loop.invariant.calls c.in_ok-sight-2.ensures.calls
    (read_more (g.N.Nodes.node c.args.nodes.now) (g.N.Nodes.node c.loop.nodes) c.args.name.now c.args.block c.loop.invariant.calls.looks.same_nodes
    c.loop.counter c.loop.sight.next (c.loop.counter + 1) c.loop.count c.loop.sight.place c.loop-test.true c.loop.invariant.sought (sym c.is_over.ensures ∙ c.if-is_over.false)))

pub returns-in_err-sight-2-clause-calls : goal.returns-in_err-sight-2-clause-calls
returns-in_err-sight-2-clause-calls g c =
    let p = err_from_is_err_and c.from_residual-in_err-sight-2.result c.from_residual-in_err-sight-2.ensures.1 in
    rw (p.1, p.2) (looks_refused (looks_after g.met.N.Nodes.looks_on g.met.N.Nodes.causes_on c.args.nodes.now c.loop.nodes c.look_at-in-loop.new.nodes (λ fault is. is) c.loop.invariant.calls c.in_err-sight-2.ensures.calls
    (read_more (g.N.Nodes.node c.args.nodes.now) (g.N.Nodes.node c.loop.nodes) c.args.name.now c.args.block c.loop.invariant.calls.looks.same_nodes
    c.loop.counter c.loop.sight.next (c.loop.counter + 1) c.loop.count c.loop.sight.place c.loop-test.true c.loop.invariant.sought (sym c.is_over.ensures ∙ c.if-is_over.false))))

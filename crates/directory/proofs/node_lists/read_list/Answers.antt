use Rattle.std.proofs.Common.{◌≡◌, ℕ, ◌+◌, ◌-◌, Bool, false, sym, ap, subst, ◌∙◌, arith}
use Rattle.std.proofs.lemmas.Result.{err_from_is_err_and}
use Rattle.fs_types.specs.declared.limits.TheConstants.{CHAIN_NODES}
use Rattle.nodes.specs.Bodies.{Blocks}
use Rattle.nodes.specs.Chains.{link_of, items_in}
use Rattle.directory.specs.Counts.{read_nodes}
use Rattle.directory.specs.Reads.{MayAppend, IsAppended, IsEnough, is_enough}
use Rattle.nodes.specs.WordLaws.{looks_both, looks_after, looks_wider, looks_answered, looks_refused}
use Rattle.directory.proofs.ReadLists.{GoesOn, may_begin, begins, may_go_on, goes_on, ends_enough, ends_last, nodes_read, one_more_read, first_read}
use Rattle.directory.proofs.node_lists.read_list.Goals as goal

pub append_node-requires-clause-there : goal.append_node-requires-clause-there
append_node-requires-clause-there g c =
    subst (MayAppend (link_of (g.N.Nodes.node c.args.nodes.now c.args.block))) (sym c.new-list.ensures) (may_begin (g.N.Nodes.node c.args.nodes.now) c.args.block c.requires.there)

pub loop-init : goal.loop-init
loop-init g c = record {
  goes = begins (g.N.Nodes.node c.args.nodes.now) c.args.block c.new-list.result c.append_node.new.list c.in_ok-seen.seen.next c.args.name.now c.is_some-puts.result c.in_ok-seen.seen.has_name c.new-list.ensures c.requires.there c.in_ok-seen.ensures.appended;
  calls = c.in_ok-seen.ensures.calls;
}

pub append_node-requires-in-loop-clause-sound : goal.append_node-requires-in-loop-clause-sound
append_node-requires-in-loop-clause-sound g c = c.loop.invariant.calls.looks.sound

pub append_node-requires-in-loop-clause-there : goal.append_node-requires-in-loop-clause-there
append_node-requires-in-loop-clause-there g c =
    let more : is_enough c.is_some-puts.result c.loop.seen.has_name c.loop.seen.next ≡ false = sym c.is_enough.ensures ∙ c.if-is_enough.false in
    subst (λ (f : Blocks). MayAppend (link_of (f c.loop.seen.next)) c.loop.list) (sym c.loop.invariant.calls.looks.same_nodes)
    (may_go_on (g.N.Nodes.node c.args.nodes.now) c.args.block (CHAIN_NODES - c.loop.counter) c.loop.counter c.loop.list c.loop.seen.next c.args.name.now c.is_some-puts.result c.loop.seen.has_name c.loop.invariant.goes more)

pub loop-preserved : goal.loop-preserved
loop-preserved g c =
    let f = g.N.Nodes.node c.args.nodes.now in
    let more : is_enough c.is_some-puts.result c.loop.seen.has_name c.loop.seen.next ≡ false = sym c.is_enough.ensures ∙ c.if-is_enough.false in
    let added : IsAppended (link_of (f c.loop.seen.next)) c.args.name.now c.loop.list c.append_node-in-loop.new.list c.in_ok-seen-2.seen.has_name c.in_ok-seen-2.seen.next =
    subst (λ (h : Blocks). IsAppended (link_of (h c.loop.seen.next)) c.args.name.now c.loop.list c.append_node-in-loop.new.list c.in_ok-seen-2.seen.has_name c.in_ok-seen-2.seen.next) c.loop.invariant.calls.looks.same_nodes c.in_ok-seen-2.ensures.appended in
    let left : CHAIN_NODES - c.loop.counter - 1 ≡ CHAIN_NODES - (c.loop.counter + 1) = omega arith in
    record {
      goes = subst (λ (k : ℕ). GoesOn f c.args.block k (c.loop.counter + 1) c.append_node-in-loop.new.list c.in_ok-seen-2.seen.next c.args.name.now c.is_some-puts.result c.in_ok-seen-2.seen.has_name) left
          (goes_on f c.args.block (CHAIN_NODES - c.loop.counter) c.loop.counter c.loop.list c.loop.seen.next c.args.name.now c.is_some-puts.result c.loop.seen.has_name c.append_node-in-loop.new.list c.in_ok-seen-2.seen.next c.in_ok-seen-2.seen.has_name
          c.loop.invariant.goes more added);
      calls = looks_both g.met.N.Nodes.looks_on g.met.N.Nodes.causes_on c.args.nodes.now c.loop.nodes c.append_node-in-loop.new.nodes c.loop.invariant.calls c.in_ok-seen-2.ensures.calls;
    }

pub returns-then-is_enough-clause-read : goal.returns-then-is_enough-clause-read
returns-then-is_enough-clause-read g c = (CHAIN_NODES - c.loop.counter, c.loop.invariant.goes.read)

pub returns-then-is_enough-clause-enough : goal.returns-then-is_enough-clause-enough
returns-then-is_enough-clause-enough g c =
    subst (λ (puts : Bool). IsEnough c.loop.list c.loop.seen.next c.args.name.now puts) c.is_some-puts.ensures
    (ends_enough (g.N.Nodes.node c.args.nodes.now) c.args.block (CHAIN_NODES - c.loop.counter) c.loop.counter c.loop.list c.loop.seen.next c.args.name.now c.is_some-puts.result c.loop.seen.has_name c.loop.invariant.goes (sym c.is_enough.ensures ∙ c.if-is_enough.true))

pub returns-clause-read : goal.returns-clause-read
returns-clause-read g c = (CHAIN_NODES - c.loop.counter, c.loop.invariant.goes.read)

pub returns-clause-enough : goal.returns-clause-enough
returns-clause-enough g c =
    let over = c.loop-test.false in
    subst (λ (puts : Bool). IsEnough c.loop.list c.loop.seen.next c.args.name.now puts) c.is_some-puts.ensures
    (ends_last (g.N.Nodes.node c.args.nodes.now) c.args.block (CHAIN_NODES - c.loop.counter) c.loop.counter c.loop.list c.loop.seen.next c.args.name.now c.is_some-puts.result c.loop.seen.has_name c.loop.invariant.goes (omega arith))

pub returns-then-is_enough-clause-calls : goal.returns-then-is_enough-clause-calls
returns-then-is_enough-clause-calls g c =
    let f = g.N.Nodes.node c.args.nodes.now in
    let goes = c.loop.invariant.goes in
    let enough = ends_enough f c.args.block (CHAIN_NODES - c.loop.counter) c.loop.counter c.loop.list c.loop.seen.next c.args.name.now c.is_some-puts.result c.loop.seen.has_name goes (sym c.is_enough.ensures ∙ c.if-is_enough.true) in
    let most = nodes_read f c.args.block (CHAIN_NODES - c.loop.counter) c.loop.list c.loop.seen.next c.args.name.now c.is_some-puts.result goes.read enough in
    let same = ap (read_nodes (items_in f c.args.block) c.args.name.now) c.is_some-puts.ensures in
    looks_wider (looks_answered c.loop.invariant.calls) (omega (arith, most, same, goes.counted))

pub returns-in_err-seen-clause-calls : goal.returns-in_err-seen-clause-calls
returns-in_err-seen-clause-calls g c =
    let some = first_read (items_in (g.N.Nodes.node c.args.nodes.now) c.args.block) c.args.name.now c.is_some-puts.result in
    let same = ap (read_nodes (items_in (g.N.Nodes.node c.args.nodes.now) c.args.block) c.args.name.now) c.is_some-puts.ensures in
    let p = err_from_is_err_and c.from_residual.result c.from_residual.ensures.1 in
    rw (p.1, p.2) (looks_wider (looks_refused c.in_err-seen.ensures.calls) (omega (arith, some, same)))

pub returns-in_err-seen-2-clause-calls : goal.returns-in_err-seen-2-clause-calls
returns-in_err-seen-2-clause-calls g c =
    let f = g.N.Nodes.node c.args.nodes.now in
    let more : is_enough c.is_some-puts.result c.loop.seen.has_name c.loop.seen.next ≡ false = sym c.is_enough.ensures ∙ c.if-is_enough.false in
    let wanted = one_more_read f c.args.block (CHAIN_NODES - c.loop.counter) c.loop.counter c.loop.list c.loop.seen.next c.args.name.now c.is_some-puts.result c.loop.seen.has_name c.loop.invariant.goes more in
    let same = ap (read_nodes (items_in f c.args.block) c.args.name.now) c.is_some-puts.ensures in
    let p = err_from_is_err_and c.from_residual-in_err-seen-2.result c.from_residual-in_err-seen-2.ensures.1 in
    rw (p.1, p.2) (looks_refused (looks_after g.met.N.Nodes.looks_on g.met.N.Nodes.causes_on c.args.nodes.now c.loop.nodes c.append_node-in-loop.new.nodes (λ fault is. is) c.loop.invariant.calls c.in_err-seen-2.ensures.calls (omega (arith, wanted, same))))

pub returns-clause-calls : goal.returns-clause-calls
returns-clause-calls g c =
    let over = c.loop-test.false in
    let f = g.N.Nodes.node c.args.nodes.now in
    let goes = c.loop.invariant.goes in
    let enough = ends_last f c.args.block (CHAIN_NODES - c.loop.counter) c.loop.counter c.loop.list c.loop.seen.next c.args.name.now c.is_some-puts.result c.loop.seen.has_name goes (omega arith) in
    let most = nodes_read f c.args.block (CHAIN_NODES - c.loop.counter) c.loop.list c.loop.seen.next c.args.name.now c.is_some-puts.result goes.read enough in
    let same = ap (read_nodes (items_in f c.args.block) c.args.name.now) c.is_some-puts.ensures in
    looks_wider (looks_answered c.loop.invariant.calls) (omega (arith, most, same, goes.counted))

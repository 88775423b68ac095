use Rattle.std.proofs.Common.{◌≡◌, Bool, ℕ, ◌+◌, ◌-◌, min, length, sym, ap, subst, arith}
use Rattle.std.proofs.lemmas.Result.{err_from_is_err_and, IfOk-weaker}
use Rattle.nodes.specs.Bodies.{Blocks, body, IsBody}
use Rattle.plain_trees.specs.Contents.{nodes_from}
use Rattle.tree_edits.specs.Reading.{HoldsBody}
use Rattle.tree_edits.specs.Writing.{edited, IsStored, IsWritten, BodyOnlyReaches}
use Rattle.tree_edits.proofs.Counted.{AreAll, few_both, few_begun_all}
use Rattle.tree_edits.proofs.NodeCalls.{along_looking, along_wider, writes_after}
use Rattle.tree_edits.proofs.Growth.{holds_later, start_later, stored_later}
use Rattle.tree_edits.proofs.changes.change_body.Goals as goal

pub start_at-requires-clause-holds : goal.start_at-requires-clause-holds
start_at-requires-clause-holds g c =
    let same = ap (λ (n : ℕ). n - 80) c.block_bytes-capacity.ensures.value in
    record {
      capacity_is = same;
      least = omega (arith, c.block_bytes-capacity.ensures.least);
      whole = subst (λ (r : ℕ). IsBody r (g.N.Nodes.node c.args.nodes.now) c.args.body.head c.args.body.length) (sym same) c.requires.stored.whole;
    }

pub write_nodes-requires-clause-sound : goal.write_nodes-requires-clause-sound
write_nodes-requires-clause-sound g c = c.start_at.ensures.calls.looks.sound

pub write_nodes-requires-clause-holds : goal.write_nodes-requires-clause-holds
write_nodes-requires-clause-holds g c =
    let looks = c.start_at.ensures.calls.looks in
    let same = ap (λ (n : ℕ). n - 80) c.block_bytes-capacity.ensures.value in
    let before : HoldsBody (g.N.Nodes.limit c.args.nodes.now) (g.N.Nodes.node c.args.nodes.now) (c.block_bytes-capacity.result - 80) c.args.body = record {
      capacity_is = same;
      least = omega (arith, c.block_bytes-capacity.ensures.least);
      whole = subst (λ (r : ℕ). IsBody r (g.N.Nodes.node c.args.nodes.now) c.args.body.head c.args.body.length) (sym same) c.requires.stored.whole;
    } in
    holds_later (g.N.Nodes.limit c.args.nodes.now) (g.N.Nodes.limit c.start_at.new.nodes) (c.block_bytes-capacity.result - 80) (g.N.Nodes.node c.args.nodes.now) (g.N.Nodes.node c.start_at.new.nodes) c.args.body looks.same_limit looks.same_nodes before

pub write_nodes-requires-clause-stored : goal.write_nodes-requires-clause-stored
write_nodes-requires-clause-stored g c =
    let looks = c.start_at.ensures.calls.looks in
    let now = c.start_at.new.nodes in
    subst (λ (r : ℕ). IsStored r (g.N.Nodes.node now) (g.N.Nodes.kept now) c.args.body.head c.args.body.length) (ap (λ (n : ℕ). n - 80) (sym c.block_bytes-capacity.ensures.value))
    (stored_later (g.N.Nodes.limit c.args.nodes.now - 80) c.args.body.head c.args.body.length (g.N.Nodes.node c.args.nodes.now) (g.N.Nodes.node now) (g.N.Nodes.kept c.args.nodes.now) (g.N.Nodes.kept now) looks.same_nodes looks.same_kept c.requires.stored)

pub write_nodes-requires-clause-start : goal.write_nodes-requires-clause-start
write_nodes-requires-clause-start g c = start_later (g.N.Nodes.node c.args.nodes.now) (g.N.Nodes.node c.start_at.new.nodes) c.start_at.ensures.calls.looks.same_nodes c.in_ok-start.ensures.start

pub returns-clause-written : goal.returns-clause-written
returns-clause-written g c =
    let from = c.args.body in
    let new = c.write_nodes.new.nodes in
    let capacity : ℕ = c.block_bytes-capacity.result - 80 in
    IfOk-weaker c.write_nodes.result
    (λ to. IsWritten capacity (g.N.Nodes.node new) (g.N.Nodes.kept new) to (edited (body capacity (g.N.Nodes.node c.start_at.new.nodes) from.head from.length) c.args.offset c.args.bytes.now c.args.size))
    (λ to. IsWritten (g.N.Nodes.limit c.args.nodes.now - 80) (g.N.Nodes.node new) (g.N.Nodes.kept new) to (edited (body (g.N.Nodes.limit c.args.nodes.now - 80) (g.N.Nodes.node c.args.nodes.now) from.head from.length) c.args.offset c.args.bytes.now c.args.size))
    (λ to written. subst (λ (r : ℕ). IsWritten r (g.N.Nodes.node new) (g.N.Nodes.kept new) to (edited (body r (g.N.Nodes.node c.args.nodes.now) from.head from.length) c.args.offset c.args.bytes.now c.args.size)) (ap (λ (n : ℕ). n - 80) c.block_bytes-capacity.ensures.value)
    (subst (λ (h : Blocks). IsWritten capacity (g.N.Nodes.node new) (g.N.Nodes.kept new) to (edited (body capacity h from.head from.length) c.args.offset c.args.bytes.now c.args.size)) c.start_at.ensures.calls.looks.same_nodes written))
    c.write_nodes.ensures.written

pub returns-clause-reaches : goal.returns-clause-reaches
returns-clause-reaches g c =
    let from = c.args.body in
    let new = g.N.Nodes.node c.write_nodes.new.nodes in
    let mid = c.start_at.new.nodes in
    let capacity : ℕ = c.block_bytes-capacity.result - 80 in
    IfOk-weaker c.write_nodes.result
    (λ to. BodyOnlyReaches capacity (g.N.Nodes.node mid) new (g.N.Nodes.kept mid) from to)
    (λ to. BodyOnlyReaches (g.N.Nodes.limit c.args.nodes.now - 80) (g.N.Nodes.node c.args.nodes.now) new (g.N.Nodes.kept c.args.nodes.now) from to)
    (λ to reaches. subst (λ (r : ℕ). BodyOnlyReaches r (g.N.Nodes.node c.args.nodes.now) new (g.N.Nodes.kept c.args.nodes.now) from to) (ap (λ (n : ℕ). n - 80) c.block_bytes-capacity.ensures.value)
    (subst (λ (k : ℕ → Bool). BodyOnlyReaches capacity (g.N.Nodes.node c.args.nodes.now) new k from to) c.start_at.ensures.calls.looks.same_kept
    (subst (λ (h : Blocks). BodyOnlyReaches capacity h new (g.N.Nodes.kept mid) from to) c.start_at.ensures.calls.looks.same_nodes reaches)))
    c.write_nodes.ensures.reaches

pub returns-in_err-start-clause-calls : goal.returns-in_err-start-clause-calls
returns-in_err-start-clause-calls g c =
    let old = c.args.nodes.now in
    let mid = c.start_at.new.nodes in
    let end : ℕ = c.args.offset + length c.args.bytes.now in
    let few = subst (AreAll c.args.body.length end (g.N.Nodes.reads old) (g.N.Nodes.reads mid)) (ap (λ (n : ℕ). n - 80) c.block_bytes-capacity.ensures.value)
    (few_begun_all (c.block_bytes-capacity.result - 80) c.args.body.length end (g.N.Nodes.reads old) (g.N.Nodes.reads mid) c.start_at.ensures.calls.reads) in
    let p = err_from_is_err_and c.from_residual.result c.from_residual.ensures.1 in
    rw (p.1, p.2) (along_looking g.met.N.Nodes.looks_works old mid (along_wider c.in_err-start.ensures.calls few))

pub returns-clause-calls : goal.returns-clause-calls
returns-clause-calls g c =
    let old = c.args.nodes.now in
    let mid = c.start_at.new.nodes in
    let new = c.write_nodes.new.nodes in
    let first = c.start_at.ensures.calls in
    let then = c.write_nodes.ensures.calls in
    let end : ℕ = c.args.offset + length c.args.bytes.now in
    let same = ap (λ (n : ℕ). n - 80) c.block_bytes-capacity.ensures.value in
    let need = ap (λ (r : ℕ). nodes_from r (min c.args.offset c.args.body.length) c.args.size) same in
    writes_after g.met.N.Nodes.works_on g.met.N.Nodes.causes_on old mid new (g.met.N.Nodes.looks_works old mid first.looks) then
    (subst (AreAll c.args.body.length end (g.N.Nodes.reads old) (g.N.Nodes.reads new)) same
    (few_both (c.block_bytes-capacity.result - 80) c.args.body.length end (g.N.Nodes.reads old) (g.N.Nodes.reads mid) (g.N.Nodes.reads new) first.reads then.reads))
    (omega (arith, need, then.writes, first.looks.same_writes))
    (IfOk-weaker c.write_nodes.result (λ _. g.N.Nodes.writes new ≡ g.N.Nodes.writes mid + nodes_from (c.block_bytes-capacity.result - 80) (min c.args.offset c.args.body.length) c.args.size)
    (λ _. g.N.Nodes.writes new ≡ g.N.Nodes.writes old + nodes_from (g.N.Nodes.limit old - 80) (min c.args.offset c.args.body.length) c.args.size) (λ _ written. omega (arith, need, written, first.looks.same_writes)) then.written)

use Rattle.std.proofs.Common.{◌≡◌, ℕ, ◌+◌, ◌-◌, ◌*◌, ◌/◌, ◌≤◌, min, List, length, take, drop, sym, ap, subst, ◌∙◌, arith}
use Rattle.std.proofs.lemmas.List.{length-take}
use Rattle.std.proofs.lemmas.Nat.{le-div}
use Rattle.std.proofs.lemmas.Result.{err_from_is_err_and, IfOk-weaker}
use Rattle.node_format.specs.Headers.{body_header}
use Rattle.node_format.specs.BodyNodes.{IsBodySpelling}
use Rattle.nodes.specs.Bodies.{Blocks}
use Rattle.tree_edits.specs.Writing.{IsGrown, IsStored, IsTable, bytes_after, part_after}
use Rattle.tree_edits.proofs.NodeCalls.{along_looking, writes_after, writes_within}
use Rattle.tree_edits.proofs.Marks.{table_slots}
use Rattle.tree_edits.proofs.Growth.{grown_from, stored_later}
use Rattle.tree_edits.proofs.changed_nodes.write_node.Goals as goal

-- the nodes have as many data bytes as before
same_capacity : (capacity limit limit' : ℕ) → capacity ≡ limit - body_header → limit' ≡ limit → capacity ≡ limit' - body_header
same_capacity capacity limit limit' is same = is ∙ ap (λ (n : ℕ). n - body_header) (sym same)

-- a part has no more bytes than a node
part_fits : (file : List ℕ) (start capacity rest : ℕ) → length (take (min capacity rest) (drop start file)) ≤ capacity
part_fits file start capacity rest = omega (arith, length-take (min capacity rest) (drop start file))

pub append-requires-clause-stored : goal.append-requires-clause-stored
append-requires-clause-stored g c =
    let looks = c.edited_node.ensures.calls.looks in
    let now = c.edited_node.new.nodes in
    let is = c.requires.before.stored in
    subst (λ (r : ℕ). IsStored r (g.N.Nodes.node now) (g.N.Nodes.kept now) c.args.head (c.args.index * r)) (same_capacity c.args.change.capacity (g.N.Nodes.limit c.args.nodes.now) (g.N.Nodes.limit now) c.requires.changes.old.holds.capacity_is looks.same_limit)
    (stored_later c.args.change.capacity c.args.head (c.args.index * c.args.change.capacity) (g.N.Nodes.node c.args.nodes.now) (g.N.Nodes.node now) (g.N.Nodes.kept c.args.nodes.now) (g.N.Nodes.kept now) looks.same_nodes looks.same_kept is)

pub append-requires-clause-slots : goal.append-requires-clause-slots
append-requires-clause-slots g c =
    let change = c.args.change in
    let last : ℕ = (change.size - 1) / change.capacity in
    let below : c.args.index ≤ last = le-div c.args.index (change.size - 1) change.capacity c.requires.changes.old.holds.least (omega (arith, c.requires.within)) in
    table_slots (g.N.Nodes.node c.edited_node.new.nodes) c.args.head c.args.index last c.args.table.now.blocks below
    (subst (λ (h : Blocks). IsTable h c.args.head c.args.index last c.args.table.now.blocks) (sym c.edited_node.ensures.calls.looks.same_nodes) c.requires.before.table)

pub append-requires-clause-spelled : goal.append-requires-clause-spelled
append-requires-clause-spelled g c =
    let node = c.in_ok-node.node.items in
    let spelled = c.in_ok-node.ensures.spelled in
    subst (IsBodySpelling node c.args.index c.args.table.now.blocks) (sym spelled.data_is) spelled

pub append-requires-clause-fits : goal.append-requires-clause-fits
append-requires-clause-fits g c =
    let change = c.args.change in
    let spelled = c.in_ok-node.ensures.spelled in
    let part = part_fits (bytes_after (g.N.Nodes.node c.args.nodes.now) change c.args.bytes.now) (c.args.index * change.capacity) change.capacity (change.size - c.args.index * change.capacity) in
    omega (arith, spelled.size, part, c.requires.changes.old.holds.capacity_is, c.requires.changes.old.holds.least, c.edited_node.ensures.calls.looks.same_limit)

pub returns-clause-grown : goal.returns-clause-grown
returns-clause-grown g c =
    let f = g.N.Nodes.node c.args.nodes.now in
    let change = c.args.change in
    let mid = c.edited_node.new.nodes in
    let new = c.append.new.nodes in
    let looks = c.edited_node.ensures.calls.looks in
    let bytes : List ℕ = drop body_header c.in_ok-node.node.items in
    let wanted : List ℕ = part_after f change c.args.bytes.now c.args.index in
    IfOk-weaker c.append.result
    (λ next. IsGrown (g.N.Nodes.limit mid - body_header) (g.N.Nodes.node mid) (g.N.Nodes.node new) (g.N.Nodes.kept mid) (g.N.Nodes.kept new) c.args.head c.args.index next bytes)
    (λ next. IsGrown change.capacity f (g.N.Nodes.node new) (g.N.Nodes.kept c.args.nodes.now) (g.N.Nodes.kept new) c.args.head c.args.index next wanted)
    (λ next grown. grown_from change.capacity f (g.N.Nodes.node mid) (g.N.Nodes.node new) (g.N.Nodes.kept c.args.nodes.now) (g.N.Nodes.kept mid) (g.N.Nodes.kept new) c.args.head c.args.index next bytes wanted looks.same_nodes looks.same_kept c.in_ok-node.ensures.spelled.data_is
    (subst (λ (r : ℕ). IsGrown r (g.N.Nodes.node mid) (g.N.Nodes.node new) (g.N.Nodes.kept mid) (g.N.Nodes.kept new) c.args.head c.args.index next bytes) (sym (same_capacity change.capacity (g.N.Nodes.limit c.args.nodes.now) (g.N.Nodes.limit mid) c.requires.changes.old.holds.capacity_is looks.same_limit)) grown))
    c.append.ensures.grown

pub returns-clause-table : goal.returns-clause-table
returns-clause-table g c =
    let change = c.args.change in
    let last : ℕ = (change.size - 1) / change.capacity in
    let was = subst (λ (h : Blocks). IsTable h c.args.head c.args.index last c.args.table.now.blocks) (sym c.edited_node.ensures.calls.looks.same_nodes) c.requires.before.table in
    IfOk-weaker c.append.result _ (λ next. IsTable (g.N.Nodes.node c.append.new.nodes) next (c.args.index + 1) last c.append.new.table.blocks) (λ next table. table last was) c.append.ensures.table

pub returns-clause-reads : goal.returns-clause-reads
returns-clause-reads g c = record {
  unread = λ none. omega (arith, c.edited_node.ensures.reads.unread none, c.append.ensures.reads);
  one = λ listed. omega (arith, c.edited_node.ensures.reads.one listed, c.append.ensures.calls.reads);
}

pub returns-clause-calls : goal.returns-clause-calls
returns-clause-calls g c =
    let old = c.args.nodes.now in
    let mid = c.edited_node.new.nodes in
    let first = c.edited_node.ensures.calls in
    let then = c.append.ensures.calls in
    writes_after g.met.N.Nodes.works_on g.met.N.Nodes.causes_on old mid c.append.new.nodes (g.met.N.Nodes.looks_works old mid first.looks) (writes_within 0 then c.append.ensures.written) (λ digits has. omega (arith, first.reads digits has, then.reads)) (omega (arith, first.looks.same_writes, then.writes))
    (IfOk-weaker c.append.result (λ _. g.N.Nodes.writes c.append.new.nodes ≡ g.N.Nodes.writes mid + 1) (λ _. g.N.Nodes.writes c.append.new.nodes ≡ g.N.Nodes.writes old + 1) (λ _ written. omega (arith, written, first.looks.same_writes)) c.append.ensures.written)

pub returns-in_err-node-clause-calls : goal.returns-in_err-node-clause-calls
returns-in_err-node-clause-calls g c =
    let p = err_from_is_err_and c.from_residual.result c.from_residual.ensures.1 in
    rw (p.1, p.2) (along_looking g.met.N.Nodes.looks_works c.args.nodes.now c.edited_node.new.nodes c.in_err-node.ensures.calls)

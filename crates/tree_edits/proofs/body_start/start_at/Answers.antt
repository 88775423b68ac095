use Rattle.std.proofs.Common.{ℕ, ◌/◌, ◌-◌, ◌≤◌, min, sym, ap, subst, ◌∙◌, arith}
use Rattle.std.proofs.lemmas.Result.{err_from_is_err_and}
use Rattle.nodes.specs.Bodies.{Blocks}
use Rattle.tree_edits.specs.Reading.{AreBlocks}
use Rattle.tree_edits.specs.Writing.{AreLinked, IsTable}
use Rattle.nodes.specs.WordLaws.{looks_refused}
use Rattle.tree_edits.proofs.NodeCalls.{along_after, along_refused, along_wider, along_within}
use Rattle.tree_edits.proofs.Counted.{few_first, few_begun}
use Rattle.tree_edits.proofs.Growth.{are_linked, starts_before, holds_later}
use Rattle.tree_edits.proofs.body_start.start_at.Goals as goal

pub start_table-requires-clause-linked : goal.start_table-requires-clause-linked
start_table-requires-clause-linked g c =
    let change = c.args.change in
    let first : ℕ = c.min.result / change.capacity in
    let linked = are_linked change.capacity (g.N.Nodes.node c.args.nodes.now) c.in_ok-head.head first c.requires.holds.least c.in_ok-head.ensures.front.whole in
    (change.capacity, subst (λ (h : Blocks). AreLinked change.capacity h c.in_ok-head.head first) (sym c.in_ok-head.ensures.calls.looks.same_nodes) linked)

pub start_table-requires-clause-order : goal.start_table-requires-clause-order
start_table-requires-clause-order g c =
    let change = c.args.change in
    subst (λ (n : ℕ). n / change.capacity ≤ (change.size - 1) / change.capacity) (sym c.min.ensures) (starts_before change.capacity (min change.offset change.body.length) change.size c.requires.holds.least change.changed)

pub list_blocks-requires-clause-holds : goal.list_blocks-requires-clause-holds
list_blocks-requires-clause-holds g c =
    let a = c.in_ok-head.ensures.calls.looks in
    let b = c.in_ok-table.ensures.calls.looks in
    holds_later (g.N.Nodes.limit c.args.nodes.now) (g.N.Nodes.limit c.start_table.new.nodes) c.args.change.capacity (g.N.Nodes.node c.args.nodes.now) (g.N.Nodes.node c.start_table.new.nodes) c.args.change.body
    (b.same_limit ∙ a.same_limit) (b.same_nodes ∙ a.same_nodes) c.requires.holds

pub returns-clause-start : goal.returns-clause-start
returns-clause-start g c =
    let change = c.args.change in
    let first : ℕ = c.min.result / change.capacity in
    record {
      first = ap (λ (n : ℕ). n / change.capacity) c.min.ensures;
      front = c.in_ok-head.ensures.front;
      table = subst (λ (h : Blocks). IsTable h c.in_ok-head.head first ((change.size - 1) / change.capacity) c.in_ok-table.table.blocks) c.in_ok-head.ensures.calls.looks.same_nodes c.in_ok-table.ensures.table;
      listed = subst (λ (h : Blocks). AreBlocks h change.body.head c.in_ok-old.old.items) (c.in_ok-table.ensures.calls.looks.same_nodes ∙ c.in_ok-head.ensures.calls.looks.same_nodes) c.in_ok-old.ensures.listed;
      count = c.in_ok-old.ensures.count;
    }

pub returns-in_err-head-clause-calls : goal.returns-in_err-head-clause-calls
returns-in_err-head-clause-calls g c =
    let p = err_from_is_err_and c.from_residual.result c.from_residual.ensures.1 in
    rw (p.1, p.2) (along_wider (along_refused c.in_err-head.ensures.calls) (λ digits small. omega (arith, c.find_front.ensures.calls.reads digits small)))

pub returns-in_err-table-clause-calls : goal.returns-in_err-table-clause-calls
returns-in_err-table-clause-calls g c =
    let change = c.args.change in
    let first : ℕ = c.min.result / change.capacity in
    let few = few_first change.capacity change.body.length change.offset first in
    let p = err_from_is_err_and c.from_residual-in_err-table.result c.from_residual-in_err-table.ensures.1 in
    rw (p.1, p.2) (along_after g.met.N.Nodes.looks_on g.met.N.Nodes.causes_on c.args.nodes.now c.find_front.new.nodes c.start_table.new.nodes c.find_front.ensures.calls.looks (along_within 0 (looks_refused c.in_err-table.ensures.calls))
    (λ digits small. omega (arith, c.find_front.ensures.calls.reads digits small, c.start_table.ensures.reads digits (few digits c.requires.holds.least (ap (λ (n : ℕ). n / change.capacity) c.min.ensures) small.1))))

pub returns-in_err-old-clause-calls : goal.returns-in_err-old-clause-calls
returns-in_err-old-clause-calls g c =
    let change = c.args.change in
    let both = g.met.N.Nodes.looks_on c.args.nodes.now c.find_front.new.nodes c.start_table.new.nodes c.find_front.ensures.calls.looks c.start_table.ensures.calls.looks in
    let few = few_begun change.capacity change.body.length change.offset c.args.end (c.min.result / change.capacity) (g.N.Nodes.reads c.args.nodes.now) (g.N.Nodes.reads c.find_front.new.nodes) (g.N.Nodes.reads c.start_table.new.nodes) (g.N.Nodes.reads c.list_blocks.new.nodes)
    c.requires.holds.least (ap (λ (n : ℕ). n / change.capacity) c.min.ensures) c.find_front.ensures.calls.reads c.start_table.ensures.reads c.list_blocks.ensures.calls.reads in
    let p = err_from_is_err_and c.from_residual-in_err-old.result c.from_residual-in_err-old.ensures.1 in
    rw (p.1, p.2) (along_after g.met.N.Nodes.looks_on g.met.N.Nodes.causes_on c.args.nodes.now c.start_table.new.nodes c.list_blocks.new.nodes both (along_within 0 (looks_refused c.in_err-old.ensures.calls)) few)

pub returns-clause-calls : goal.returns-clause-calls
returns-clause-calls g c =
    let change = c.args.change in
    let both = g.met.N.Nodes.looks_on c.args.nodes.now c.find_front.new.nodes c.start_table.new.nodes c.find_front.ensures.calls.looks c.start_table.ensures.calls.looks in
    let few = few_begun change.capacity change.body.length change.offset c.args.end (c.min.result / change.capacity) (g.N.Nodes.reads c.args.nodes.now) (g.N.Nodes.reads c.find_front.new.nodes) (g.N.Nodes.reads c.start_table.new.nodes) (g.N.Nodes.reads c.list_blocks.new.nodes)
    c.requires.holds.least (ap (λ (n : ℕ). n / change.capacity) c.min.ensures) c.find_front.ensures.calls.reads c.start_table.ensures.reads c.list_blocks.ensures.calls.reads in
    record { looks = g.met.N.Nodes.looks_on c.args.nodes.now c.start_table.new.nodes c.list_blocks.new.nodes both c.list_blocks.ensures.calls.looks; reads = few; why = tt; faults = tt }

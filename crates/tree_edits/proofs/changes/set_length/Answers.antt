use Rattle.std.proofs.Common.{ℕ, ◌-◌, ◌/◌, sym, ap, subst, arith, rules}
use Rattle.std.proofs.lemmas.Result.{err_from_is_err_and}
use Rattle.nodes.specs.Bodies.{IsBody}
use Rattle.tree_edits.specs.Reading.{HasDigits}
use Rattle.tree_edits.proofs.NodeCalls.{along_looking, along_wider}
use Rattle.tree_edits.proofs.changes.set_length.Goals as goal

pub find_front-requires-clause-holds : goal.find_front-requires-clause-holds
find_front-requires-clause-holds g c =
    let same = ap (λ (n : ℕ). n - 80) c.block_bytes-capacity.ensures.value in
    record {
      capacity_is = same;
      least = omega (arith, c.block_bytes-capacity.ensures.least);
      whole = subst (λ (r : ℕ). IsBody r (g.N.Nodes.node c.args.nodes.now) c.args.body.head c.args.body.length) (sym same) c.requires.stored.whole;
    }

pub returns-then-length-body-clause-calls : goal.returns-then-length-body-clause-calls
returns-then-length-body-clause-calls g c =
    let calls = c.change_body.ensures.calls in
    record { works = calls.works; reads = search rules; writes = search rules; written = search rules; why = calls.why; faults = calls.faults }

pub returns-in_err-head-clause-calls : goal.returns-in_err-head-clause-calls
returns-in_err-head-clause-calls g c =
    let few = λ (digits : ℕ) (has : HasDigits ((c.args.body.length - 1) / (g.N.Nodes.limit c.args.nodes.now - 80)) digits). c.find_front.ensures.calls.reads digits (subst (λ (r : ℕ). HasDigits ((c.args.body.length - 1) / (r - 80)) digits) (sym c.block_bytes-capacity.ensures.value) has) in
    let p = err_from_is_err_and c.from_residual.result c.from_residual.ensures.1 in
    rw (p.1, p.2) (along_looking g.met.N.Nodes.looks_works c.args.nodes.now c.find_front.new.nodes (along_wider c.in_err-head.ensures.calls (λ digits has. omega (arith, few digits has))))

pub returns-clause-calls : goal.returns-clause-calls
returns-clause-calls g c =
    let few = λ (digits : ℕ) (has : HasDigits ((c.args.body.length - 1) / (g.N.Nodes.limit c.args.nodes.now - 80)) digits). c.find_front.ensures.calls.reads digits (subst (λ (r : ℕ). HasDigits ((c.args.body.length - 1) / (r - 80)) digits) (sym c.block_bytes-capacity.ensures.value) has) in
    let looks = c.find_front.ensures.calls.looks in
    record { works = g.met.N.Nodes.looks_works c.args.nodes.now c.find_front.new.nodes looks; reads = λ digits has. omega (arith, few digits has); writes = omega (arith, looks.same_writes); written = search (rules, looks.same_writes); why = tt; faults = tt }

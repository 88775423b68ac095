use Rattle.std.proofs.Common.{◌≢◌, ℕ, List, Option, Some, None, Ok, true, refl, sym, ap, subst, ◌∙◌, arith}
use Rattle.std.specs.Prelude.{IfOk}
use Rattle.std.proofs.lemmas.Result.{err_from_is_err_and, IfOk-weaker}
use Rattle.nodes.specs.Faults.{IsReadFault}
use Rattle.reclaim.specs.Facts.{AreFacts}
use Rattle.reclaim.proofs.BodyHeaders.{header_facts, header_there}
use Rattle.reclaim.proofs.FrontNames.{has_bytes}
use Rattle.reclaim.proofs.Looking.{look_other}
use Rattle.reclaim.proofs.NodeCalls.{looks_memory}
use Rattle.reclaim.proofs.Telling.{ok_any}
use Rattle.reclaim.proofs.facts.read_facts.Goals as goal

pub returns-then-is_lent-clause-facts : goal.returns-then-is_lent-clause-facts
returns-then-is_lent-clause-facts g c =
    let held = (c.in_ok-is_lent.ensures.shown c.if-is_lent.true).0 ∙ ap (λ (xs : List ℕ). Some xs) (sym c.lent.ensures) in
    subst (λ (o : Option (List ℕ)). IfOk c.facts_in.result (AreFacts o)) (sym held) c.facts_in.ensures.facts

pub returns-then-is_lent-clause-there : goal.returns-then-is_lent-clause-there
returns-then-is_lent-clause-there g c =
    let node = g.N.Nodes.node c.args.nodes.now c.args.block in
    ok_any c.facts_in.result (λ _. node ≢ None) (λ _. has_bytes node _ (c.in_ok-is_lent.ensures.shown c.if-is_lent.true).0)

pub returns-clause-there : goal.returns-clause-there
returns-clause-there g c =
    let node = g.N.Nodes.node c.args.nodes.now c.args.block in
    ok_any c.facts_in-2.result (λ _. node ≢ None) (λ _. header_there node _ (c.in_ok-is_lent.ensures.header c.if-is_lent.false))

pub returns-clause-facts : goal.returns-clause-facts
returns-clause-facts g c =
    let s = c.args.nodes.now in
    let node = g.N.Nodes.node s c.args.block in
    IfOk-weaker c.facts_in-2.result _ (AreFacts node)
    (λ facts are. header_facts (g.N.Nodes.limit s) node _ facts (λ bytes is. g.met.N.Nodes.whole s c.args.block bytes c.requires is) (c.in_ok-is_lent.ensures.header c.if-is_lent.false) are) c.facts_in-2.ensures.facts

pub returns-in_err-is_lent-clause-calls : goal.returns-in_err-is_lent-clause-calls
returns-in_err-is_lent-clause-calls g c =
    let p = err_from_is_err_and c.from_residual.result c.from_residual.ensures.1 in
    let own = c.in_err-is_lent.ensures in
    rw (p.1, p.2) (record { looks = own.looks; reads = omega (arith, own.reads); why = λ look. own.why (look_other c.in_err-is_lent.field-0.0 look); faults = own.faults })

pub returns-then-is_lent-clause-calls : goal.returns-then-is_lent-clause-calls
returns-then-is_lent-clause-calls g c =
    looks_memory {IsOther = IsReadFault} {r = 1} {x = Ok true} g.met.N.Nodes.memory_may_want c.args.nodes.now c.examine.new.self refl (record { looks = c.examine.ensures.looks; reads = omega (arith, c.examine.ensures.reads); why = tt; faults = tt }) c.facts_in.ensures.memory

pub returns-clause-calls : goal.returns-clause-calls
returns-clause-calls g c =
    looks_memory {IsOther = IsReadFault} {r = 1} {x = Ok true} g.met.N.Nodes.memory_may_want c.args.nodes.now c.examine.new.self refl (record { looks = c.examine.ensures.looks; reads = omega (arith, c.examine.ensures.reads); why = tt; faults = tt }) c.facts_in-2.ensures.memory

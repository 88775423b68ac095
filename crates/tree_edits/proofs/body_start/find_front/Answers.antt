use Rattle.std.proofs.Common.{◌≡◌, ℕ, ◌-◌, ◌/◌, subst, sym, refl, arith}
use Rattle.std.proofs.lemmas.Result.{IfOk-weaker}
use Rattle.nodes.specs.Bodies.{back}
use Rattle.tree_edits.specs.Writing.{IsBodyFront}
use Rattle.tree_edits.proofs.Fronts.{front_of}
use Rattle.tree_edits.proofs.body_start.find_front.Goals as goal

pub returns-clause-front : goal.returns-clause-front
returns-clause-front g c =
    let f = g.N.Nodes.node c.args.nodes.now in
    let body = c.args.body in
    let part = c.args.part in
    let steps : ℕ = (body.length - 1) / c.args.capacity - (part - 1) / c.args.capacity in
    IfOk-weaker c.find.result (λ front. front ≡ back f body.head steps) (λ front. IsBodyFront c.args.capacity f body.head body.length front part)
    (λ front is. subst (λ (b : ℕ). IsBodyFront c.args.capacity f body.head body.length b part) (sym is) (front_of c.args.capacity f body.head body.length part steps c.requires.holds.least c.requires.holds.whole (omega arith) c.requires.within refl))
    c.find.ensures.found

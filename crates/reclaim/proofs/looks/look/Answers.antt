use Rattle.std.proofs.Common.{◌≡◌, true, ◌∙◌, sym, subst, arith}
use Rattle.std.proofs.lemmas.Bool.{true≢false}
use Rattle.std.proofs.lemmas.Result.{IfOk-weaker}
use Rattle.reclaim.specs.Looks.{IsShort}
use Rattle.reclaim.specs.Sound.{IsPlainNode}
use Rattle.nodes.specs.WordLaws.{looks_wider, looks_idle}
use Rattle.reclaim.proofs.Looking.{alone_of, look_exact, look_long}
use Rattle.reclaim.proofs.looks.look.Goals as goal
use Rattle.reclaim.proofs.looks.look.Goals.{else-plain-via-then-plain+else-parts, else-plain-via-else-plain}

pub returns-then-not-is_short-clause-exact : goal.returns-then-not-is_short-clause-exact
returns-then-not-is_short-clause-exact g c node says next =
    look_long c.args.capacity (g.N.Nodes.node c.args.nodes.now) c.args.plain node c.args.parts.now.index c.is_short.result says.named.index_is c.is_short.ensures c.if-not-is_short.true

pub returns-clause-exact : goal.returns-clause-exact
returns-clause-exact g c =
    IfOk-weaker c.is_followed.result _ _
    (λ good exact node says next.
    let alone : c.args.plain ≡ true → IsPlainNode node = elim c.else-plain.branch [
      | else-plain-via-then-plain+else-parts w ↦ λ plain. alone_of node c.args.parts.now.is_chained says.chained w.if-parts.false
      | else-plain-via-else-plain w ↦ λ plain. absurd (true≢false (sym plain ∙ w.if-plain.false))
    ] in
    look_exact c.args.capacity (g.N.Nodes.node c.args.nodes.now) c.args.plain node good (subst (IsShort c.args.capacity) says.named.index_is (c.is_short.ensures.0 c.if-not-is_short.false)) (exact node (sym says.edge) next) alone)
    c.is_followed.ensures.exact

pub returns-then-parts-clause-calls : goal.returns-then-parts-clause-calls
returns-then-parts-clause-calls g c = looks_wider (looks_idle g.met.N.Nodes.follows_itself c.args.nodes.now c.requires) (omega arith)

pub returns-then-not-is_short-clause-calls : goal.returns-then-not-is_short-clause-calls
returns-then-not-is_short-clause-calls g c = looks_wider (looks_idle g.met.N.Nodes.follows_itself c.args.nodes.now c.requires) (omega arith)

use Rattle.std.proofs.Common.{◌≡◌, ℕ, Some, List, Option, sym, ap, subst, ◌∙◌}
use Rattle.std.specs.Prelude.{IfOk}
use Rattle.reclaim.specs.Facts.{AreNamed}
use Rattle.std.proofs.lemmas.Result.{IfOk-weaker}
use Rattle.reclaim.proofs.FrontNames.{has_bytes}
use Rattle.reclaim.proofs.named.read_whole.Goals as goal

pub returns-clause-named : goal.returns-clause-named
returns-clause-named g c =
    let is : g.N.Nodes.node c.args.nodes.now c.args.block ≡ Some c.lent.result.now = c.in_ok-read.ensures.shown ∙ ap (λ (bytes : List ℕ). Some bytes) (sym c.lent.ensures) in
    subst (λ (node : Option (List ℕ)). IfOk c.list_named.result (AreNamed node)) (sym is) c.list_named.ensures.named

pub returns-clause-there : goal.returns-clause-there
returns-clause-there g c =
    let is : g.N.Nodes.node c.args.nodes.now c.args.block ≡ Some c.lent.result.now = c.in_ok-read.ensures.shown ∙ ap (λ (bytes : List ℕ). Some bytes) (sym c.lent.ensures) in
    IfOk-weaker c.list_named.result _ _ (λ n _. has_bytes (g.N.Nodes.node c.args.nodes.now c.args.block) c.lent.result.now is) c.list_named.ensures.named

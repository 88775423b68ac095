use Rattle.std.proofs.Common.{ℕ, Some, List, subst}
use Rattle.std.specs.Prelude.{IfOk}
use Rattle.nodes.specs.Reached.{Names}
use Rattle.reclaim.specs.Facts.{AreNamed}
use Rattle.reclaim.specs.Kinds.{NamesBody}
use Rattle.std.proofs.lemmas.Result.{IfOk-weaker}
use Rattle.reclaim.proofs.FrontNames.{has_front, same_list}
use Rattle.reclaim.proofs.named.read_front.Goals as goal

pub returns-clause-named : goal.returns-clause-named
returns-clause-named g c =
    let s = c.args.nodes.now in
    let node = g.N.Nodes.node s c.args.block in
    let page = g.N.Nodes.page s in
    let shown = g.N.Nodes.beginning c.front.new.self in
    let has = has_front page (g.N.Nodes.limit s) c.requires.body.0 shown node (g.met.N.Nodes.least_page s c.requires.sound) c.requires.body.1 (λ bytes is. g.met.N.Nodes.whole s c.args.block bytes c.requires.sound is) c.in_ok-front.ensures.begins in
    IfOk-weaker c.list_named.result _ (AreNamed node)
    (λ n is. record { blocks = same_list n.blocks.items (Names (Some shown)) (Names node) has.names is.blocks; bodies = same_list n.bodies.items (NamesBody (Some shown)) (NamesBody node) has.bodies is.bodies })
    (subst (λ (bytes : List ℕ). IfOk c.list_named.result (AreNamed (Some bytes))) c.fronted.ensures c.list_named.ensures.named)

use Rattle.std.proofs.Common.{ℕ, nat_lt, ap, ◌∙◌}
use Rattle.directory.proofs.ReadNodes.{link_shown, items_shown}
use Rattle.directory.proofs.depths.has_entries.Goals as goal

pub returns-clause-value : goal.returns-clause-value
returns-clause-value g c =
    let f = g.N.Nodes.node c.args.nodes.now in
    let shown = c.in_ok-brought.ensures.shown c.if-not-brought.false in
    let link = link_shown f c.args.block (g.N.Nodes.shown c.brings.new.nodes) c.lent.result.now c.of.result shown c.lent.ensures c.of.ensures.exact ∙ c.in-Some.is in
    ap (λ (n : ℕ). nat_lt 0 n) (items_shown f c.args.block c.in-Some.node c.len.result c.list.result link c.list.ensures c.len.ensures)

use Rattle.std.proofs.Common.{ℕ, List, ap, ◌∙◌}
use Rattle.node_format.specs.Headers.{field}
use Rattle.block_usage.proofs.Fronts.{front_before}
use Rattle.block_usage.proofs.place_blocks.block_before.Goals as goal

pub returns-clause-found : goal.returns-clause-found
returns-clause-found g c =
    let old = c.args.nodes.now in
    c.u32_at.ensures ∙ ap (λ (bytes : List ℕ). field bytes 16) c.fronted.ensures
    ∙ front_before (g.N.Nodes.page old) (g.N.Nodes.limit old) c.requires.later.0 (g.N.Nodes.node old c.args.block) (g.N.Nodes.beginning c.front.new.self)
    (g.met.N.Nodes.least_page old c.requires.sound) c.in_ok-front.ensures.begins (λ bytes is. g.met.N.Nodes.whole old c.args.block bytes c.requires.sound is) c.requires.later.1

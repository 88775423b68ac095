use Rattle.std.proofs.Common.{List, ℕ, ◌+◌, ◌*◌, ap, ◌∙◌}
use Rattle.node_format.specs.Headers.{field}
use Rattle.tree_edits.proofs.FirstPages.{front_pointer}
use Rattle.tree_edits.proofs.range_reads.pointer_at.Goals as goal

pub returns-clause-found : goal.returns-clause-found
returns-clause-found g c =
    let old = c.args.nodes.now in
    let slot = c.args.slot in
    c.u32_at.ensures ∙ ap (λ (bytes : List ℕ). field bytes (16 + 4 * slot)) c.fronted.ensures
    ∙ front_pointer (g.N.Nodes.page old) (g.N.Nodes.limit old) c.requires.slot.0 slot (g.N.Nodes.node old c.args.block) (g.N.Nodes.beginning c.front.new.self)
    (g.met.N.Nodes.least_page old c.requires.sound) c.in_ok-front.ensures.begins (λ bytes is. g.met.N.Nodes.whole old c.args.block bytes c.requires.sound is) c.requires.slot.1 c.requires.slot.2.0

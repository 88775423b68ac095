use Rattle.reclaim.proofs.Marking.{pass_stays}
use Rattle.reclaim.proofs.laws_of_passes.frame_law.Goals as goal

pub returns : goal.returns
returns g c s t p sound follows held pass =
    pass_stays (g.N.Nodes.node s) (g.N.Nodes.node t) p (λ b reached. g.met.N.Nodes.same_node s t b sound follows (held b reached)) pass

use Rattle.std.proofs.Common.{arith}
use Rattle.reclaim.proofs.NodeCalls.{looks_itself, cost_answered}
use Rattle.reclaim.proofs.Verifying.{shallow_exact}
use Rattle.reclaim.proofs.verification.are_shallow.Goals as goal

pub returns-clause-exact : goal.returns-clause-exact
returns-clause-exact g c =
    shallow_exact (g.N.Nodes.node c.args.nodes.now) c.args.roots.now c.in_ok-deep.deep (c.in_ok-deep.ensures.deeper c.requires.whole) c.in_ok-deep.ensures.shallow

pub returns-then-is_known-clause-calls : goal.returns-then-is_known-clause-calls
returns-then-is_known-clause-calls g c = cost_answered (looks_itself g.N.Nodes g.met.N.Nodes.follows_itself c.args.nodes.now c.requires.sound) (λ all has. omega arith)

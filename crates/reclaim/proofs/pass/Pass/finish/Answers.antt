use Rattle.reclaim.proofs.Marking.{marks_exact}
use Rattle.reclaim.proofs.pass.Pass.finish.Goals as goal

pub returns-clause-exact : goal.returns-clause-exact
returns-clause-exact c f pass b = marks_exact f _ c.args.self c.self.inside.marks c.self.view_is c.self.invariant.0 c.requires pass b

use Rattle.std.proofs.Common.{subst}
use Rattle.std.specs.Prelude.{IfOk}
use Rattle.mounting.specs.Records.{HaveTrees}
use Rattle.mounting.proofs.reached.reached_on.Goals as goal

pub returns-clause-trees : goal.returns-clause-trees
returns-clause-trees g c =
    subst (λ flash. IfOk c.reached_in.result (λ marks. HaveTrees c.args.plain (g.F.Flash.device flash.now) c.args.roots.now))
    c.new-store.ensures.flash c.reached_in.ensures.trees

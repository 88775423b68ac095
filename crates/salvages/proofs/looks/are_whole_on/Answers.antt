use Rattle.std.proofs.Common.{subst}
use Rattle.std.specs.Prelude.{◌↔◌, IsTrue, IfOk}
use Rattle.salvages.specs.Wholes.{AreAllWhole}
use Rattle.salvages.proofs.looks.are_whole_on.Goals as goal

pub returns-clause-whole : goal.returns-clause-whole
returns-clause-whole g c =
    subst (λ flash. IfOk c.are_whole_in.result (λ whole. IsTrue whole ↔ AreAllWhole c.args.plain (g.F.Flash.device flash.now) c.args.roots.now))
    c.new-store.ensures.flash c.are_whole_in.ensures.whole

use Rattle.working_state.specs.Moments.{moment}
use Rattle.working_state.proofs.BodiesAfter.{evolved_known}
use Rattle.working_state.proofs.state.State.answer.Goals as goal

pub returns-in_default-clause-known : goal.returns-in_default-clause-known
returns-in_default-clause-known g c = λ root is.
    evolved_known (moment (g.F.Flash.device c.args.flash.now) c.args.self.now) (moment (g.F.Flash.device c.work.new.flash) c.work.new.self) c.args.bodies.now root c.requires.mounted c.work.ensures.leaves.written.evolved is (c.requires.known root is)

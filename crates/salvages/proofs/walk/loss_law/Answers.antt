use Rattle.salvages.proofs.LossLaws.{losses_are}
use Rattle.salvages.proofs.walk.loss_law.Goals as goal

pub returns : goal.returns
returns c = losses_are

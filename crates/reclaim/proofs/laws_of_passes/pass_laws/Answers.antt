use Rattle.reclaim.proofs.Marking.{pass_stays, pass_marks}
use Rattle.reclaim.proofs.laws_of_passes.pass_laws.Goals as goal

pub returns-clause-stays : goal.returns-clause-stays
returns-clause-stays c = pass_stays

pub returns-clause-marks : goal.returns-clause-marks
returns-clause-marks c = pass_marks

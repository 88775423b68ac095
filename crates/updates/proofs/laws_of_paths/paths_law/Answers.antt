use Rattle.updates.proofs.ChangeLemmas.{listing}
use Rattle.updates.proofs.laws_of_paths.paths_law.Goals as goal

pub returns : goal.returns
returns c = listing

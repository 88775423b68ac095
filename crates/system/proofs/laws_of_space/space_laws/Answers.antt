use Rattle.system.proofs.SpaceLaws.{frees_law, removal_law}
use Rattle.system.proofs.laws_of_space.space_laws.Goals as goal

pub returns : goal.returns
returns c = record { frees = frees_law; removal = removal_law }

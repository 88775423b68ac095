use Rattle.directory.proofs.Shallow.{as_deep, file_law}
use Rattle.directory.proofs.depths.depth_laws.Goals as goal

pub returns : goal.returns
returns c = record { as_deep = as_deep; files = file_law }

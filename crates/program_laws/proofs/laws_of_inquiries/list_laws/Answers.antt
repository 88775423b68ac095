use Rattle.program_laws.proofs.Lists.{list_law}
use Rattle.program_laws.proofs.laws_of_inquiries.list_laws.Goals as goal

pub returns : goal.returns
returns c = record { lists = list_law }

use Rattle.program_laws.proofs.Lines.{line_law}
use Rattle.program_laws.proofs.laws_of_inquiries.line_laws.Goals as goal

pub returns : goal.returns
returns c = record { lines = line_law }

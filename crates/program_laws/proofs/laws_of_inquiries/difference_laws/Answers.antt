use Rattle.program_laws.proofs.Differing.{difference_law, no_difference_law}
use Rattle.program_laws.proofs.laws_of_inquiries.difference_laws.Goals as goal

pub returns-clause-differences : goal.returns-clause-differences
returns-clause-differences c = difference_law

pub returns-clause-none : goal.returns-clause-none
returns-clause-none c = no_difference_law

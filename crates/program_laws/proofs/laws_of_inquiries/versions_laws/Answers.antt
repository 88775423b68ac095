use Rattle.program_laws.proofs.VersionLines.{versions_law, kept_trees_law}
use Rattle.program_laws.proofs.laws_of_inquiries.versions_laws.Goals as goal

pub returns-clause-versions : goal.returns-clause-versions
returns-clause-versions c = versions_law

pub returns-clause-trees : goal.returns-clause-trees
returns-clause-trees c = kept_trees_law

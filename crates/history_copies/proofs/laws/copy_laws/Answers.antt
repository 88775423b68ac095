use Rattle.history_copies.proofs.Brought.{bring_law}
use Rattle.history_copies.proofs.Built.{build_law}
use Rattle.history_copies.proofs.laws.copy_laws.Goals as goal

pub returns-clause-brings : goal.returns-clause-brings
returns-clause-brings c = bring_law

pub returns-clause-builds : goal.returns-clause-builds
returns-clause-builds c = build_law

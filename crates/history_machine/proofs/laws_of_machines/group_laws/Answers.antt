use Rattle.history_machine.proofs.Groups.{group_law}
use Rattle.history_machine.proofs.laws_of_machines.group_laws.Goals as goal

pub returns : goal.returns
returns c = group_law

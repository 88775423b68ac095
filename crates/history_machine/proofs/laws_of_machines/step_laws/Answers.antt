use Rattle.history_machine.proofs.Steps.{refusal_law, version_law}
use Rattle.history_machine.proofs.Kept.{machine_law, rename_law}
use Rattle.history_machine.proofs.laws_of_machines.step_laws.Goals as goal

pub returns-clause-refusals : goal.returns-clause-refusals
returns-clause-refusals c = refusal_law

pub returns-clause-versions : goal.returns-clause-versions
returns-clause-versions c = version_law

pub returns-clause-machines : goal.returns-clause-machines
returns-clause-machines c = machine_law

pub returns-clause-renames : goal.returns-clause-renames
returns-clause-renames c = rename_law

use Rattle.history_machine.proofs.Steps.{undo_law, redo_law, rollback_law}
use Rattle.history_machine.proofs.laws_of_machines.history_laws.Goals as goal

pub returns-clause-undo : goal.returns-clause-undo
returns-clause-undo c = undo_law

pub returns-clause-redo : goal.returns-clause-redo
returns-clause-redo c = redo_law

pub returns-clause-rollback : goal.returns-clause-rollback
returns-clause-rollback c = rollback_law

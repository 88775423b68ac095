use Rattle.history_machine.proofs.ManyFiles.{write_files_law}
use Rattle.history_machine.proofs.laws_of_machines.write_files_laws.Goals as goal

pub returns : goal.returns
returns c = write_files_law

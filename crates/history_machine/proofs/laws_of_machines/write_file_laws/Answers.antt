use Rattle.history_machine.proofs.WholeFiles.{write_file_law}
use Rattle.history_machine.proofs.laws_of_machines.write_file_laws.Goals as goal

pub returns : goal.returns
returns c = write_file_law

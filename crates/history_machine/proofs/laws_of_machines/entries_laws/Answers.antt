use Rattle.history_machine.proofs.Entries.{entry_stats_law}
use Rattle.history_machine.proofs.laws_of_machines.entries_laws.Goals as goal

pub returns : goal.returns
returns c = entry_stats_law

use Rattle.record_format.proofs.ReadFormats.{read_is_written}
use Rattle.record_format.proofs.laws_of_records.format_laws.Goals as goal

pub returns-clause-written : goal.returns-clause-written
returns-clause-written c = read_is_written

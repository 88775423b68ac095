use Rattle.script.proofs.LineLemmas.{lines_from_taken}
use Rattle.script.proofs.line_reader.LineReader.next_line.Goals as goal

pub returns-clause-lines : goal.returns-clause-lines
returns-clause-lines g c = lines_from_taken _ _ c.fill_line.result _ c.fill_line.ensures.taken

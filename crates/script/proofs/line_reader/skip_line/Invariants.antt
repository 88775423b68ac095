use Rattle.script.specs.Streams.{TakesPart}
use Rattle.script.proofs.line_reader.skip_line.Given as goal

abbrev pub invariant-loop : goal.invariant-loop
invariant-loop g l = TakesPart (g.R.Read.remaining l.fn.reader) (g.R.Read.remaining l.reader)

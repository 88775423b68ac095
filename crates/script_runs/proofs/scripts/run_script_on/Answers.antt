use Rattle.script_runs.specs.Scripts.{unplanned}
use Rattle.script_runs.proofs.TurnLemmas.{lenient_end, lenient_failure}
use Rattle.script_runs.proofs.scripts.run_script_on.Goals as goal

pub returns-in-Ok : goal.returns-in-Ok
returns-in-Ok g c = record {
  ends = lenient_end (unplanned (g.F.Flash.device c.args.flash.now)) (unplanned (g.F.Flash.device c.run_until.new.flash)) (g.R.Read.remaining c.args.reader.now) (g.R.Read.remaining c.run_until.new.reader) c.in-Ok.field-0 (g.W.Write.contents c.args.writer.now)
      (g.W.Write.contents c.run_until.new.writer) c.in-Ok.ensures.ends;
}

pub returns-in-Err : goal.returns-in-Err
returns-in-Err g c = record {
  ends = lenient_failure (unplanned (g.F.Flash.device c.args.flash.now)) (unplanned (g.F.Flash.device c.run_until.new.flash)) (g.R.Read.remaining c.args.reader.now) (g.R.Read.remaining c.run_until.new.reader) c.in-Err.fault (g.W.Write.contents c.args.writer.now)
      (g.W.Write.contents c.run_until.new.writer) c.in-Err.ensures.ends;
}

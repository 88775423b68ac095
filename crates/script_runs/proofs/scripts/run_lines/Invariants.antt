use Rattle.std.specs.Prelude.{IfSome}
use Rattle.system.specs.Systems.{IsSystem}
use Rattle.script_runs.specs.Turns.{seat_at}
use Rattle.script_runs.proofs.TurnLemmas.{IsRunning}
use Rattle.script_runs.proofs.scripts.run_lines.Given as goal

abbrev pub invariant-loop-carried : goal.invariant-loop-carried
invariant-loop-carried g l =
    IfSome l.system (IsSystem (g.F.Flash.device l.flash))
    × IsRunning l.fn.stop (seat_at (g.F.Flash.device l.fn.flash) l.fn.system (g.P.Planning.plan l.fn.flash)) (g.R.Read.remaining l.fn.reader) (g.R.Read.remaining l.reader) (g.W.Write.contents l.fn.writer) (g.W.Write.contents l.writer) (seat_at (g.F.Flash.device l.flash) l.system (g.P.Planning.plan l.flash)) l.carried

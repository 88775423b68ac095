use Rattle.std.proofs.Common.{◌∙◌, sym}
use Rattle.script_runs.specs.Turns.{seat_at}
use Rattle.script_runs.proofs.TurnLemmas.{starts, turns, ends_at_once, ends_at_end, ends_unread, ends_unwritten, ends_stopped, ends_after_all}
use Rattle.script_runs.proofs.scripts.run_lines.Goals as goal

pub returns-in-Err-clause-ends : goal.returns-in-Err-clause-ends
returns-in-Err-clause-ends g c =
    ends_at_once c.args.stop (seat_at (g.F.Flash.device c.args.flash.now) c.args.system.now (g.P.Planning.plan c.args.flash.now)) (g.R.Read.remaining c.args.reader.now) (g.W.Write.contents c.args.writer.now)

pub loop-carried-init : goal.loop-carried-init
loop-carried-init g c = (c.requires, starts _ _ _ _)

pub returns-in-Ok-None-clause-ends : goal.returns-in-Ok-None-clause-ends
returns-in-Ok-None-clause-ends g c =
    let gets = rw c.in-Ok-None.field-0-is at c.in-Ok-None.ensures in
    ends_at_end _ _ _ _ _ _ _ _ (g.R.Read.remaining c.next.new.reader) c.loop-carried.invariant.1 gets

pub returns-in-Err-next-clause-ends : goal.returns-in-Err-next-clause-ends
returns-in-Err-next-clause-ends g c =
    ends_unread _ _ _ _ _ _ _ _ (g.R.Read.remaining c.next.new.reader) c.in-Err-next.fault c.loop-carried.invariant.1 c.in-Err-next.ensures

pub returns-in-Err-write_answer-clause-ends : goal.returns-in-Err-write_answer-clause-ends
returns-in-Err-write_answer-clause-ends g c =
    let gets = rw c.in-Ok-Some.field-0-is at c.in-Ok-Some.ensures in
    let carried = c.carry_out_on-answer in
    ends_unwritten _ _ _ _ _ _ _ _ c.in-Ok-Some.line (g.R.Read.remaining c.next.new.reader) (g.W.Write.contents c.write_answer.new.writer) carried.result
    (seat_at (g.F.Flash.device carried.new.flash) carried.new.system (g.P.Planning.plan carried.new.flash)) c.in-Err-write_answer.fault
    c.loop-carried.invariant.1 gets carried.ensures.does c.in-Err-write_answer.ensures

pub returns-in-Some-clause-ends : goal.returns-in-Some-clause-ends
returns-in-Some-clause-ends g c =
    let gets = rw c.in-Ok-Some.field-0-is at c.in-Ok-Some.ensures in
    let carried = c.carry_out_on-answer in
    ends_stopped _ _ _ _ _ _ _ _ c.in-Ok-Some.line (g.R.Read.remaining c.next.new.reader) (g.W.Write.contents c.write_answer.new.writer) carried.result
    (seat_at (g.F.Flash.device carried.new.flash) carried.new.system (g.P.Planning.plan carried.new.flash)) c.in-Some.refusal
    c.loop-carried.invariant.1 gets carried.ensures.does c.in-Ok-write_answer.ensures (sym c.stops.ensures ∙ c.in-Some.is)

pub loop-carried-preserved : goal.loop-carried-preserved
loop-carried-preserved g c =
    let gets = rw c.in-Ok-Some.field-0-is at c.in-Ok-Some.ensures in
    let carried = c.carry_out_on-answer in (
      carried.ensures.mounted,
      turns _ _ _ _ _ _ _ _ c.in-Ok-Some.line (g.R.Read.remaining c.next.new.reader) (g.W.Write.contents c.write_answer.new.writer) carried.result
          (seat_at (g.F.Flash.device carried.new.flash) carried.new.system (g.P.Planning.plan carried.new.flash))
          c.loop-carried.invariant.1 gets carried.ensures.does c.in-Ok-write_answer.ensures (sym c.stops.ensures ∙ c.in_default.is),
    )

pub returns-clause-ends : goal.returns-clause-ends
returns-clause-ends g c = ends_after_all _ _ _ _ _ _ _ _ c.loop-carried.invariant.1

use Rattle.std.proofs.Common.{inl, inr, refl, ap}
use Rattle.script.specs.declared.line_answer.LineAnswer.{LineAnswer}
use Rattle.script_runs.proofs.space_lines.answer_space.Goals as goal

pub returns-in-Ok : goal.returns-in-Ok
returns-in-Ok c = rw c.in-Some.is (inl (ap LineAnswer.Space c.in-Ok.ensures))

pub returns-in-Err : goal.returns-in-Err
returns-in-Err c = rw c.in-Some.is (inr refl)

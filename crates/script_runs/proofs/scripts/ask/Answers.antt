use Rattle.script_runs.proofs.scripts.ask.Goals as goal

pub returns-clause-asks : goal.returns-clause-asks
returns-clause-asks g c = (c.serve-told.result, c.serve-told.ensures.serves, c.answer_of.ensures, c.serve-told.ensures.plan)

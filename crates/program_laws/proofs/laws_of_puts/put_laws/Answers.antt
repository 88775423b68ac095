use Rattle.program_laws.proofs.PutEvents.{put_events_law}
use Rattle.program_laws.proofs.Puts.{saves_once_law, puts_once_law}
use Rattle.program_laws.proofs.laws_of_puts.put_laws.Goals as goal

pub returns-clause-once : goal.returns-clause-once
returns-clause-once c = saves_once_law

pub returns-clause-events : goal.returns-clause-events
returns-clause-events c = put_events_law

pub returns-clause-puts : goal.returns-clause-puts
returns-clause-puts c = puts_once_law

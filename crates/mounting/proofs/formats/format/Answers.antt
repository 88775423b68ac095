use Rattle.mounting.proofs.Formatting.{asked_nothing}
use Rattle.mounting.proofs.formats.format.Goals as goal

pub returns-then-not-is_lawful-clause-asks_at_most : goal.returns-then-not-is_lawful-clause-asks_at_most
returns-then-not-is_lawful-clause-asks_at_most g c = asked_nothing (g.F.Flash.device c.args.flash.now)

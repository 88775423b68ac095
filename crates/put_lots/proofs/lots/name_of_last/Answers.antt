use Rattle.std.proofs.Common.{sym, ap, ◌∙◌}
use Rattle.put_lots.specs.Lots.{name_of_last}
use Rattle.put_lots.proofs.Last.{last-push}
use Rattle.put_lots.proofs.lots.name_of_last.Goals as goal

pub returns-in-Some : goal.returns-in-Some
returns-in-Some c = sym (ap name_of_last c.in-Some.ensures.cases.0 ∙ last-push c.in-Some.field-0-1.now c.in-Some.last.now)

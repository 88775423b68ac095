use Rattle.script_runs.proofs.TakenLines.{too_long}
use Rattle.script_runs.proofs.scripts.next.Goals as goal

pub returns-in-Ok-TooLong : goal.returns-in-Ok-TooLong
returns-in-Ok-TooLong g c = let taken = rw c.in-Ok-TooLong.field-0-is at c.in-Ok-TooLong.ensures.taken in (taken.0, taken.1, too_long taken.0 taken.2)

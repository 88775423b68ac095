use Rattle.std.proofs.Common.{inl, inr}
use Rattle.flash_simulation.specs.Simulation.{device_of}
use Rattle.image_words.proofs.image_updates.update_of.Goals as goal

pub returns-in-Err-clause-err : goal.returns-in-Err-clause-err
returns-in-Err-clause-err g c = inl c.in-Err.ensures.err

pub returns-in-Err-load-clause-err : goal.returns-in-Err-load-clause-err
returns-in-Err-load-clause-err g c = inr (inl c.in-Err-load.ensures.err)

pub returns-in-Ok-ask_update-clause-ok : goal.returns-in-Ok-ask_update-clause-ok
returns-in-Ok-ask_update-clause-ok g c = (c.in-Ok.flash, c.in-Ok-load.flash, record { first = c.in-Ok.ensures.ok; second = c.in-Ok-load.ensures.ok }, c.in-Ok-ask_update.ensures.ok)

pub returns-clause-err : goal.returns-clause-err
returns-clause-err g c = inr (inr (
  c.in-Ok.flash,
  c.in-Ok-load.flash,
  record { first = c.in-Ok.ensures.ok; second = c.in-Ok-load.ensures.ok },
  (device_of c.ask_update.new.first, device_of c.ask_update.new.second, c.in-Err-ask_update.fault, c.in-Err-ask_update.ensures.err, c.of_ask.ensures),
))

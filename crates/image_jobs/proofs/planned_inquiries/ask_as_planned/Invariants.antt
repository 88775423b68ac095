use Rattle.flash_simulation.specs.Simulation.{device_of, plan_of}
use Rattle.image_jobs.proofs.planned_inquiries.ask_as_planned.Given as goal

abbrev pub ghosts-ask_from : goal.ghosts-ask_from
ghosts-ask_from a = record { name = a.flash.ghost_name; device = device_of a.flash.now; plan = plan_of a.flash.now }

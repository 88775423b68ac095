use Rattle.flash_simulation.specs.Simulation.{device_of, plan_of}
use Rattle.image_jobs.proofs.planned_inquiries.list_as_planned.Given as goal

abbrev pub ghosts-list_from : goal.ghosts-list_from
ghosts-list_from a = record { name = a.flash.ghost_name; device = device_of a.flash.now; plan = plan_of a.flash.now }

use Rattle.script_runs.proofs.following.mount_as_planned.Given as goal

abbrev pub ghosts-mount_from : goal.ghosts-mount_from
ghosts-mount_from g a = record { name = a.flash.ghost_name; device = g.F.Flash.device a.flash.now; plan = g.F.Planned.schedule a.flash.now }

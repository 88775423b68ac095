use Rattle.script_runs.proofs.following.format_as_planned.Given as goal

abbrev pub ghosts-format_from : goal.ghosts-format_from
ghosts-format_from g a = record { name = a.flash.ghost_name; device = g.F.Flash.device a.flash.now; plan = g.F.Planned.schedule a.flash.now }

use Rattle.script_runs.proofs.planning.FollowedPlanning.serve.Given as goal

abbrev pub ghosts-serve_from : goal.ghosts-serve_from
ghosts-serve_from g a = record { name = a.flash.ghost_name; device = g.F.Flash.device a.flash.now; plan = g.F.Planned.schedule a.flash.now }

use Rattle.salvages.proofs.walk.+take_nodes.Given as goal

abbrev pub decreases-take_nodes : goal.decreases-take_nodes
decreases-take_nodes l = l.left

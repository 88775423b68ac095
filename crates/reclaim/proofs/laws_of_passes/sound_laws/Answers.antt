use Rattle.reclaim.proofs.Soundness.{sound_has_trees, trees_are_sound, trees_hold_nodes}
use Rattle.reclaim.proofs.laws_of_passes.sound_laws.Goals as goal

pub returns-clause-trees : goal.returns-clause-trees
returns-clause-trees c = sound_has_trees

pub returns-clause-sound : goal.returns-clause-sound
returns-clause-sound c = trees_are_sound

pub returns-clause-nodes : goal.returns-clause-nodes
returns-clause-nodes c = trees_hold_nodes

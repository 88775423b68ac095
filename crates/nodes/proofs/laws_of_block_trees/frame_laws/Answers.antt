use Rattle.nodes.proofs.Frames.{frame_law}
use Rattle.nodes.proofs.laws_of_block_trees.frame_laws.Goals as goal

pub returns : goal.returns
returns c = record { frames = frame_law }

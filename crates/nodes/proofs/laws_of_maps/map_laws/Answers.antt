use Rattle.nodes.proofs.RootMaps.{map_law}
use Rattle.nodes.proofs.FileTrees.{all_file_trees}
use Rattle.nodes.proofs.laws_of_maps.map_laws.Goals as goal

pub returns : goal.returns
returns c = record { maps = map_law; file_trees = all_file_trees }

use Rattle.known_nodes.proofs.WholeFileLaws.{whole_files}
use Rattle.known_nodes.proofs.whole_files.whole_file_law.Goals as goal

pub returns : goal.returns
returns c = whole_files

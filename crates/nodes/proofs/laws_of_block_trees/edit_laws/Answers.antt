use Rattle.nodes.proofs.EditedTrees.{edit_law, mkdir_law}
use Rattle.nodes.proofs.EditedMaps.{remove_law, put_file_law}
use Rattle.nodes.proofs.FilePuts.{put_files_law}
use Rattle.nodes.proofs.laws_of_block_trees.edit_laws.Goals as goal

pub returns-clause-edits : goal.returns-clause-edits
returns-clause-edits c = edit_law

pub returns-clause-made : goal.returns-clause-made
returns-clause-made c = mkdir_law

pub returns-clause-removed : goal.returns-clause-removed
returns-clause-removed c = remove_law

pub returns-clause-file_put : goal.returns-clause-file_put
returns-clause-file_put c = put_file_law

pub returns-clause-files_put : goal.returns-clause-files_put
returns-clause-files_put c = put_files_law

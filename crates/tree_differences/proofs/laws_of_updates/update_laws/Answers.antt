use Rattle.tree_differences.proofs.Edited.{cover_law, edit_law}
use Rattle.tree_differences.proofs.Joined.{join_law, one_rename_law}
use Rattle.tree_differences.proofs.Moved.{renames_law}
use Rattle.tree_differences.proofs.Patched.{patch_law}
use Rattle.tree_differences.proofs.Updated.{update_law}
use Rattle.tree_differences.proofs.laws_of_updates.update_laws.Goals as goal

pub returns-clause-updates : goal.returns-clause-updates
returns-clause-updates c = update_law

pub returns-clause-patches : goal.returns-clause-patches
returns-clause-patches c = patch_law

pub returns-clause-edits : goal.returns-clause-edits
returns-clause-edits c = edit_law

pub returns-clause-covers : goal.returns-clause-covers
returns-clause-covers c = cover_law

pub returns-clause-joins : goal.returns-clause-joins
returns-clause-joins c = join_law

pub returns-clause-moves : goal.returns-clause-moves
returns-clause-moves c = one_rename_law

pub returns-clause-renames : goal.returns-clause-renames
returns-clause-renames c = renames_law

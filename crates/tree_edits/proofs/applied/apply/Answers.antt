use Rattle.std.proofs.Common.{true, false, arith, ◌-◌, refl, inl}
use Rattle.nodes.specs.WordLaws.{works_idle}
use Rattle.node_format.specs.Headers.{body_header}
use Rattle.directory.proofs.LookupLaws.{rooted_leads}
use Rattle.tree_edits.proofs.NewBytes.{keeps_itself}
use Rattle.tree_edits.proofs.NewRoots.{made_result, removed_result, moved_result}
use Rattle.tree_edits.proofs.AppliedEdits.{is_applied}
use Rattle.tree_edits.proofs.Lookups.{file_below, file_named, removable_stands}
use Rattle.tree_edits.proofs.Needs.{path_nodes-long, move_nodes-long, move_needs}
use Rattle.tree_edits.proofs.applied.apply.Goals as goal

-- what is put at a path or taken out needs a node, since the path has a name
pub returns-in-PutEmptyFile-clause-still : goal.returns-in-PutEmptyFile-clause-still
returns-in-PutEmptyFile-clause-still g c = λ none.
    let editable = rw c.in-PutEmptyFile.is at c.requires.editable in
    let zero = rw c.in-PutEmptyFile.is at none in
    let long = path_nodes-long (g.N.Nodes.node c.args.nodes.now) c.in-PutEmptyFile.trail.now c.in-PutEmptyFile.path.now true 0 in
    let some = file_below (g.N.Nodes.node c.args.nodes.now) c.args.root c.in-PutEmptyFile.path.now editable.2 editable.3 editable.4 in
    absurd (omega arith)

pub returns-in-WriteFile-clause-still : goal.returns-in-WriteFile-clause-still
returns-in-WriteFile-clause-still g c = λ none.
    let editable = rw c.in-WriteFile.is at c.requires.editable in
    let zero = rw c.in-WriteFile.is at none in
    let long = path_nodes-long (g.N.Nodes.node c.args.nodes.now) c.in-WriteFile.trail.now c.in-WriteFile.path.now true 0 in
    let some = file_below (g.N.Nodes.node c.args.nodes.now) c.args.root c.in-WriteFile.path.now editable.3 editable.4 editable.5 in
    absurd (omega arith)

pub returns-in-SetLength-clause-still : goal.returns-in-SetLength-clause-still
returns-in-SetLength-clause-still g c = λ none.
    let editable = rw c.in-SetLength.is at c.requires.editable in
    let zero = rw c.in-SetLength.is at none in
    let long = path_nodes-long (g.N.Nodes.node c.args.nodes.now) c.in-SetLength.trail.now c.in-SetLength.path.now true 0 in
    let some = file_named (g.N.Nodes.node c.args.nodes.now) c.args.root c.in-SetLength.path.now c.in-SetLength.body.head c.in-SetLength.body.length editable.2 in
    absurd (omega arith)

pub returns-in-Remove-clause-still : goal.returns-in-Remove-clause-still
returns-in-Remove-clause-still g c = λ none.
    let editable = rw c.in-Remove.is at c.requires.editable in
    let zero = rw c.in-Remove.is at none in
    let long = path_nodes-long (g.N.Nodes.node c.args.nodes.now) c.in-Remove.trail.now c.in-Remove.path.now false 0 in
    let some = editable.2 in
    absurd (omega arith)

pub returns-in-Move-clause-still : goal.returns-in-Move-clause-still
returns-in-Move-clause-still g c = λ none.
    let editable = rw c.in-Move.is at c.requires.editable in
    let zero = rw c.in-Move.is at none in
    let long = move_nodes-long (g.N.Nodes.node c.args.nodes.now) c.in-Move.old_trail.now c.in-Move.old.now c.in-Move.new_trail.now c.in-Move.new.now editable.0 editable.1.old_way.counted in
    let some = move_needs c.in-Move.old.now c.in-Move.new.now editable.0 in
    absurd (omega arith)

pub returns-in-PutEmptyFile-clause-applied : goal.returns-in-PutEmptyFile-clause-applied
returns-in-PutEmptyFile-clause-applied g c = rw c.in-PutEmptyFile.is c.put_empty.ensures.applied

pub returns-in-WriteFile-clause-applied : goal.returns-in-WriteFile-clause-applied
returns-in-WriteFile-clause-applied g c = rw c.in-WriteFile.is c.write_file.ensures.applied

pub returns-in-WriteFiles-clause-applied : goal.returns-in-WriteFiles-clause-applied
returns-in-WriteFiles-clause-applied g c = rw c.in-WriteFiles.is c.write_files.ensures.applied

pub returns-in-Overwrite-clause-applied : goal.returns-in-Overwrite-clause-applied
returns-in-Overwrite-clause-applied g c = rw c.in-Overwrite.is c.overwrite.ensures.applied

pub returns-in-SetLength-clause-applied : goal.returns-in-SetLength-clause-applied
returns-in-SetLength-clause-applied g c = rw c.in-SetLength.is c.resize.ensures.applied

pub returns-in-MakeDirectory-clause-applied : goal.returns-in-MakeDirectory-clause-applied
returns-in-MakeDirectory-clause-applied g c =
    let old = c.args.nodes.now in
    let capacity = g.N.Nodes.limit old - body_header in
    let f = g.N.Nodes.node old in
    let editable = rw c.in-MakeDirectory.is at c.requires.editable in
    let new = c.put_directory.new.nodes in
    let made = made_result capacity f (g.N.Nodes.node new) (g.N.Nodes.kept old) (g.N.Nodes.kept new) c.args.root c.in-MakeDirectory.path.now c.put_directory.result
    c.put_directory.ensures.keeps c.requires.held c.requires.rooted editable.0 editable.2 c.put_directory.ensures.made c.put_directory.ensures.reaches in
    rw c.in-MakeDirectory.is (is_applied made c.put_directory.ensures.keeps c.put_directory.ensures.calls (omega arith))

pub remove_entry-requires-clause-sought : goal.remove_entry-requires-clause-sought
remove_entry-requires-clause-sought g c =
    let editable = rw c.in-Remove.is at c.requires.editable in
    record { below = editable.2; held = c.requires.held; way = editable.1 }

pub remove_entry-requires-clause-stands : goal.remove_entry-requires-clause-stands
remove_entry-requires-clause-stands g c =
    let old = c.args.nodes.now in
    let capacity = g.N.Nodes.limit old - body_header in
    let f = g.N.Nodes.node old in
    let editable = rw c.in-Remove.is at c.requires.editable in
    removable_stands f c.args.root c.in-Remove.path.now editable.3 (rooted_leads capacity f c.args.root c.requires.rooted) editable.4 editable.5

pub returns-in-Remove-clause-applied : goal.returns-in-Remove-clause-applied
returns-in-Remove-clause-applied g c =
    let old = c.args.nodes.now in
    let capacity = g.N.Nodes.limit old - body_header in
    let f = g.N.Nodes.node old in
    let editable = rw c.in-Remove.is at c.requires.editable in
    let new = c.remove_entry.new.nodes in
    let removed = removed_result capacity f (g.N.Nodes.node new) (g.N.Nodes.kept old) (g.N.Nodes.kept new) c.args.root c.in-Remove.path.now editable.3 c.remove_entry.result
    c.remove_entry.ensures.keeps c.requires.held c.requires.rooted editable.0 editable.4 editable.5 c.remove_entry.ensures.rewritten c.remove_entry.ensures.reaches in
    rw c.in-Remove.is (is_applied removed c.remove_entry.ensures.keeps c.remove_entry.ensures.calls (omega arith))

pub move_entry-requires-clause-sought : goal.move_entry-requires-clause-sought
move_entry-requires-clause-sought g c =
    let editable = rw c.in-Move.is at c.requires.editable in
    let movable = editable.1 in
    record {
      apart = editable.0;
      held = c.requires.held;
      old_way = movable.old_way;
      new_way = movable.new_way;
      stands = movable.stands;
      room = movable.room;
    }

pub returns-in-Move-clause-applied : goal.returns-in-Move-clause-applied
returns-in-Move-clause-applied g c =
    let old = c.args.nodes.now in
    let capacity = g.N.Nodes.limit old - body_header in
    let f = g.N.Nodes.node old in
    let editable = rw c.in-Move.is at c.requires.editable in
    let new = c.move_entry.new.nodes in
    let moved = moved_result capacity f (g.N.Nodes.node new) (g.N.Nodes.kept old) (g.N.Nodes.kept new) c.args.root c.in-Move.old.now c.in-Move.new.now c.in-Move.place c.move_entry.result
    c.move_entry.ensures.keeps c.requires.held c.requires.rooted editable.1 c.move_entry.ensures.moved in
    rw c.in-Move.is (is_applied moved c.move_entry.ensures.keeps c.move_entry.ensures.calls (omega arith))

pub returns-in-Restore-clause-applied : goal.returns-in-Restore-clause-applied
returns-in-Restore-clause-applied g c =
    let old = c.args.nodes.now in
    let editable = rw c.in-Restore.is at c.requires.editable in
    rw c.in-Restore.is (is_applied (record { rooted = editable.1; held = editable.0; shows = refl; reached = λ block r. inl r }) (keeps_itself (g.N.Nodes.kept old) (g.N.Nodes.node old)) (works_idle g.met.N.Nodes.follows_itself old c.requires.sound) (omega arith))

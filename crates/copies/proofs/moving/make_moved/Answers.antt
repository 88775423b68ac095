use Rattle.std.proofs.Common.{◌≡◌, List, ◌++◌, inl, subst}
use Rattle.std.specs.Prelude.{All}
use Rattle.fs_types.specs.Names.{Path}
use Rattle.fs_types.specs.declared.call.Call.{Call}
use Rattle.history_machine.specs.Machine.{view_tree, working_tree}
use Rattle.inquiries.specs.Readings.{shown}
use Rattle.inquiries.proofs.Entries.{view-file_tree}
use Rattle.inquiries.proofs.PrunedLemmas.{pruned_there}
use Rattle.fs_types.specs.declared.call.View.{View}
use Rattle.plain_trees.specs.Trees.{Tree}
use Rattle.tree_differences.specs.UpdateLaws.{IsMoved, renames}
use Rattle.tree_differences.specs.Updates.{edit_paths}
use Rattle.tree_differences.proofs.Edited.{cover_law}
use Rattle.updates.specs.Changes.{paths_in}
use Rattle.copies.specs.Moved.{subtrees_at, there_in}
use Rattle.copies.proofs.Renaming.{all_among, ended_so, moved_brings_all, moved_stops, moved_version, pruned_covers, stopped_so, unread}
use Rattle.copies.proofs.Stopping.{unbegun}
use Rattle.copies.proofs.moving.make_moved.Goals as goal

-- a group that does not begin
pub returns-in-Err-clause-err : goal.returns-in-Err-clause-err
returns-in-Err-clause-err g c =
    let from = shown c.args.from.now in
    let to = shown c.args.to.now in
    let old : Tree = working_tree to in
    let new : Tree = view_tree from c.args.view.now in
    let changes : List Call = edit_paths old new (paths_in c.args.olds.now) (paths_in c.args.news.now) in
    let covers = pruned_covers old new c.args.olds.now c.args.news.now (view-file_tree to View.Present c.args.to.now.mounted.mounted.machine) (view-file_tree from c.args.view.now c.args.from.now.mounted.mounted.machine) c.requires.olds c.requires.news in
    let stopped = unbegun to changes _ _ c.in-Err.ensures.err in
    inl (record { shows = to; view = c.args.view.now; changes = changes; brings = cover_law old new (paths_in c.args.olds.now) (paths_in c.args.news.now) covers; path = stopped.0; stops = stopped.1 })

pub list_rest-requires-clause-news : goal.list_rest-requires-clause-news
list_rest-requires-clause-news g c = pruned_there (view_tree (shown c.args.from.now) c.args.view.now) (working_tree (shown c.args.to.now)) c.args.news.now c.requires.news

-- what is read of the two
pub returns-in-Err-list_rest-clause-err : goal.returns-in-Err-list_rest-clause-err
returns-in-Err-list_rest-clause-err g c = unread (shown c.args.from.now) c.args.from.now c.list_rest.new.from c.begin_moved.new.to c.list_rest.new.to c.in-Err-list_rest.fault c.in-Err-list_rest.ensures.err

-- the renames and the changes bring the tree
pub returns-in-Ok-end_moved-clause-ok : goal.returns-in-Ok-end_moved-clause-ok
returns-in-Ok-end_moved-clause-ok g c =
    let from = shown c.args.from.now in
    let m = shown c.args.to.now in
    let k = shown c.begin_moved.new.to in
    let made = c.in-Ok.made.items in
    let changes = c.in-Ok-list_rest.changes.items in
    let olds = c.args.olds.now in
    let news = c.args.news.now in
    let new : Tree = view_tree from c.args.view.now in
    let moves : All (λ (one : Path × Path). IsMoved (working_tree m) new one.0 one.1) c.args.moves.now = c.requires.moves in
    let all = all_among (λ (one : Path × Path). IsMoved (working_tree m) new one.0 one.1) c.args.moves.now made c.in-Ok.ensures.ok.among moves in
    let lawful = view-file_tree m View.Present c.args.to.now.mounted.mounted.machine in
    let lawful' = view-file_tree from c.args.view.now c.args.from.now.mounted.mounted.machine in
    let still = view-file_tree k View.Present c.begin_moved.new.to.mounted.mounted.machine in
    let left : changes ≡ edit_paths (working_tree k) new (paths_in (there_in (working_tree k) olds ++ subtrees_at (working_tree k) made)) (paths_in news) =
    subst (λ (l : List (Path × Path)). changes ≡ edit_paths (working_tree k) new (paths_in (there_in (working_tree k) olds ++ subtrees_at (working_tree k) l)) (paths_in news)) c.deref.ensures.value c.in-Ok-list_rest.ensures.ok in
    let brought = moved_brings_all m k made c.args.to.now.mounted.mounted.machine c.requires.ready.rests c.in-Ok.ensures.ok.done new olds news changes lawful lawful' still c.requires.olds c.requires.news all left in
    let done = c.in-Ok-end_moved.ensures.ok in
    moved_version m k made c.args.to.now.mounted.mounted.machine c.requires.ready.rests c.in-Ok.ensures.ok.done (shown c.end_moved.new.to) new changes done.0 brought
    (ended_so k (shown c.list_rest.new.to) made c.deref-2.result.now changes c.deref-3.result.now c.list_rest.ensures.to.machine c.deref-2.ensures.value c.deref-3.ensures.value (shown c.end_moved.new.to) done.0 done.1)

-- or they stop
pub returns-clause-err : goal.returns-clause-err
returns-clause-err g c =
    let from = shown c.args.from.now in
    let m = shown c.args.to.now in
    let k = shown c.begin_moved.new.to in
    let made = c.in-Ok.made.items in
    let changes = c.in-Ok-list_rest.changes.items in
    let olds = c.args.olds.now in
    let news = c.args.news.now in
    let new : Tree = view_tree from c.args.view.now in
    let moves : All (λ (one : Path × Path). IsMoved (working_tree m) new one.0 one.1) c.args.moves.now = c.requires.moves in
    let all = all_among (λ (one : Path × Path). IsMoved (working_tree m) new one.0 one.1) c.args.moves.now made c.in-Ok.ensures.ok.among moves in
    let lawful = view-file_tree m View.Present c.args.to.now.mounted.mounted.machine in
    let lawful' = view-file_tree from c.args.view.now c.args.from.now.mounted.mounted.machine in
    let still = view-file_tree k View.Present c.begin_moved.new.to.mounted.mounted.machine in
    let left : changes ≡ edit_paths (working_tree k) new (paths_in (there_in (working_tree k) olds ++ subtrees_at (working_tree k) made)) (paths_in news) =
    subst (λ (l : List (Path × Path)). changes ≡ edit_paths (working_tree k) new (paths_in (there_in (working_tree k) olds ++ subtrees_at (working_tree k) l)) (paths_in news)) c.deref.ensures.value c.in-Ok-list_rest.ensures.ok in
    let brought = moved_brings_all m k made c.args.to.now.mounted.mounted.machine c.requires.ready.rests c.in-Ok.ensures.ok.done new olds news changes lawful lawful' still c.requires.olds c.requires.news all left in
    let device = g.G.Flash.device c.end_moved.new.to.flash.now in
    let fault = c.in-Err-end_moved.fault in
    let stopped = moved_stops m k made c.args.to.now.mounted.mounted.machine c.requires.ready.rests c.in-Ok.ensures.ok.done changes device fault
    (stopped_so k (shown c.list_rest.new.to) made c.deref-2.result.now changes c.deref-3.result.now c.list_rest.ensures.to.machine c.deref-2.ensures.value c.deref-3.ensures.value device fault c.in-Err-end_moved.ensures.err) in
    inl (record { shows = m; view = c.args.view.now; changes = renames made ++ changes; brings = brought; path = stopped.0; stops = stopped.1 })

use Rattle.std.proofs.Common.{OnOk, sym, subst}
use Rattle.std.proofs.lemmas.Result.{IfErr-weaker}
use Rattle.history_machine.specs.Machine.{Machine, view_tree}
use Rattle.host_interface.specs.Folders.{HoldsMade}
use Rattle.inquiries.specs.Items.{IsDirectoryOf}
use Rattle.inquiries.specs.Readings.{shown}
use Rattle.image_words.specs.PathCopies.{folder_made, Unfilled}
use Rattle.image_words.proofs.CopyLemmas.{others_beside, uncopied_host, uncopied_filled, unlisted}
use Rattle.image_words.proofs.path_copies.copy_folder.Goals as goal

pub fill_folder-requires-clause-there : goal.fill_folder-requires-clause-there
fill_folder-requires-clause-there g c = subst (λ (m : Machine). IsDirectoryOf m c.args.view.now c.args.directory.now) (sym c.list_folder.ensures.same.machine) c.requires

pub returns-in-Err-begin_folder-clause-err : goal.returns-in-Err-begin_folder-clause-err
returns-in-Err-begin_folder-clause-err g c =
    uncopied_host (view_tree (shown c.args.fs.now) c.args.view.now) c.args.directory.now c.args.name.now (g.H.ImageFiles.held c.args.files.now) (g.H.ImageFiles.held c.begin_folder.new.files)
    (g.F.Flash.device c.args.fs.now.flash.now) (g.F.Flash.device c.list_folder.new.fs.flash.now) c.in-Err-begin_folder.failure c.in-Err-begin_folder.ensures.err c.begin_folder.ensures.others

pub returns-in-Err-clause-err : goal.returns-in-Err-clause-err
returns-in-Err-clause-err g c =
    unlisted (view_tree (shown c.args.fs.now) c.args.view.now) c.args.directory.now c.args.name.now (g.H.ImageFiles.held c.args.files.now)
    c.args.fs.now c.list_folder.new.fs c.in-Err.fault c.of_list.result c.of_list.ensures c.in-Err.ensures.err

pub returns-clause-made : goal.returns-clause-made
returns-clause-made g c =
    subst (λ (m : Machine). OnOk c.fill_folder.result (g.H.Folders.made c.fill_folder.new.files c.args.name.now (folder_made (view_tree m c.args.view.now) c.args.directory.now)))
    c.list_folder.ensures.same.machine c.fill_folder.ensures.made

pub returns-clause-ok : goal.returns-clause-ok
returns-clause-ok g c =
    subst (λ (m : Machine). OnOk c.fill_folder.result (HoldsMade c.args.name.now (g.H.ImageFiles.held c.fill_folder.new.files) (folder_made (view_tree m c.args.view.now) c.args.directory.now)))
    c.list_folder.ensures.same.machine c.fill_folder.ensures.ok

pub returns-clause-others : goal.returns-clause-others
returns-clause-others g c =
    others_beside c.fill_folder.result c.args.name.now (g.H.ImageFiles.held c.args.files.now) (g.H.ImageFiles.held c.begin_folder.new.files) (g.H.ImageFiles.held c.fill_folder.new.files)
    c.begin_folder.ensures.others c.fill_folder.ensures.others

pub returns-clause-err : goal.returns-clause-err
returns-clause-err g c =
    let d = g.F.Flash.device c.list_folder.new.fs.flash.now in
    let e = g.F.Flash.device c.fill_folder.new.fs.flash.now in
    let held = g.H.ImageFiles.held c.args.files.now in
    let mid = g.H.ImageFiles.held c.begin_folder.new.files in
    let saved = g.H.ImageFiles.held c.fill_folder.new.files in
    IfErr-weaker c.fill_folder.result _ _ (λ failure why.
    uncopied_filled (view_tree (shown c.args.fs.now) c.args.view.now) c.args.directory.now c.args.name.now held mid saved
    c.args.fs.now c.list_folder.new.fs c.fill_folder.new.fs failure c.list_folder.ensures.same c.begin_folder.ensures.others
    (subst (λ (m : Machine). Unfilled (view_tree m c.args.view.now) c.args.directory.now c.args.name.now mid saved d e failure) c.list_folder.ensures.same.machine why)) c.fill_folder.ensures.err

use Rattle.std.proofs.Common.{◌≡◌, List, [], ◌++◌, ℕ, map, length, sym, ap, ap₂, subst}
use Rattle.std.proofs.lemmas.Result.{IfErr-weaker}
use Rattle.std.specs.Prelude.{All}
use Rattle.fs_types.specs.declared.limits.TheConstants.{MAX_NAMES}
use Rattle.history_machine.specs.Machine.{view_tree}
use Rattle.host_interface.specs.Folders.{Made, HoldsMade}
use Rattle.fs_types.specs.Names.{Path}
use Rattle.plain_trees.specs.Trees.{Tree}
use Rattle.inquiries.specs.Items.{IsItemOf, items_below}
use Rattle.inquiries.specs.Readings.{shown}
use Rattle.inquiries.specs.declared.items.Item.{Item}
use Rattle.inquiries.proofs.DifferenceLemmas.{items_there}
use Rattle.image_words.specs.PathCopies.{made_of, folder_made}
use Rattle.image_words.proofs.CopyLemmas.{on_made, others_beside, unfilled_end, unfilled_made}
use Rattle.image_words.proofs.path_copies.fill_folder.Goals as goal

pub make_all-requires-clause-view : goal.make_all-requires-clause-view
make_all-requires-clause-view g c = c.requires.there.accepted

pub make_all-requires-clause-there : goal.make_all-requires-clause-there
make_all-requires-clause-there g c =
    let t = view_tree (shown c.args.fs.now) c.args.view.now in
    subst (All (IsItemOf t)) (sym c.requires.items) (items_there t MAX_NAMES c.args.directory.now)

pub returns-in-Err-clause-err : goal.returns-in-Err-clause-err
returns-in-Err-clause-err g c =
    unfilled_made (view_tree (shown c.args.fs.now) c.args.view.now) c.args.directory.now c.args.name.now (g.H.ImageFiles.held c.args.files.now) (g.H.ImageFiles.held c.make_all.new.files) (g.H.ImageFiles.held c.give_up_folder.new.self)
    (g.F.Flash.device c.args.fs.now.flash.now) (g.F.Flash.device c.make_all.new.fs.flash.now) c.in-Err.failure c.make_all.ensures.others c.give_up_folder.ensures c.in-Err.ensures.err

-- what was made by then
made_all : (IsMade : List Made → Type 0) (t : Tree) (directory : Path) (skipped : ℕ) (items : List Item) → skipped ≡ length directory → items ≡ items_below t MAX_NAMES directory → IsMade ([] ++ map (made_of t skipped) items) → IsMade (folder_made t directory)
made_all IsMade t directory skipped items is is' made = subst IsMade (ap₂ (λ (n : ℕ) (xs : List Item). map (made_of t n) xs) is is') made

pub returns-in-Ok-clause-made : goal.returns-in-Ok-clause-made
returns-in-Ok-clause-made g c =
    let t = view_tree (shown c.args.fs.now) c.args.view.now in
    let made = made_all (g.H.Folders.made c.make_all.new.files c.args.name.now) t c.args.directory.now (length c.names-skipped.result.now) c.args.items.now (ap length c.names-skipped.ensures.names) c.requires.items (c.in-Ok.ensures.ok [] c.requires.begun) in
    on_made c.finish_folder.result (g.H.Folders.made c.make_all.new.files c.args.name.now) (g.H.Folders.made c.finish_folder.new.files c.args.name.now) (folder_made t c.args.directory.now) made c.finish_folder.ensures.made

pub returns-in-Ok-clause-ok : goal.returns-in-Ok-clause-ok
returns-in-Ok-clause-ok g c =
    let t = view_tree (shown c.args.fs.now) c.args.view.now in
    let made = made_all (g.H.Folders.made c.make_all.new.files c.args.name.now) t c.args.directory.now (length c.names-skipped.result.now) c.args.items.now (ap length c.names-skipped.ensures.names) c.requires.items (c.in-Ok.ensures.ok [] c.requires.begun) in
    on_made c.finish_folder.result (g.H.Folders.made c.make_all.new.files c.args.name.now) (HoldsMade c.args.name.now (g.H.ImageFiles.held c.finish_folder.new.files)) (folder_made t c.args.directory.now) made c.finish_folder.ensures.ok

pub returns-in-Ok-clause-others : goal.returns-in-Ok-clause-others
returns-in-Ok-clause-others g c =
    others_beside c.finish_folder.result c.args.name.now (g.H.ImageFiles.held c.args.files.now) (g.H.ImageFiles.held c.make_all.new.files) (g.H.ImageFiles.held c.finish_folder.new.files) c.make_all.ensures.others c.finish_folder.ensures.others

pub returns-in-Ok-clause-err : goal.returns-in-Ok-clause-err
returns-in-Ok-clause-err g c =
    let t = view_tree (shown c.args.fs.now) c.args.view.now in
    let made = made_all (g.H.Folders.made c.make_all.new.files c.args.name.now) t c.args.directory.now (length c.names-skipped.result.now) c.args.items.now (ap length c.names-skipped.ensures.names) c.requires.items (c.in-Ok.ensures.ok [] c.requires.begun) in
    IfErr-weaker c.finish_folder.result _ _ (λ failure why. unfilled_end t c.args.directory.now c.args.name.now (g.H.ImageFiles.held c.args.files.now) (g.H.ImageFiles.held c.make_all.new.files) (g.H.ImageFiles.held c.finish_folder.new.files)
    (g.F.Flash.device c.args.fs.now.flash.now) (g.F.Flash.device c.make_all.new.fs.flash.now) (g.H.Folders.made c.make_all.new.files c.args.name.now) failure c.make_all.ensures.others made why) c.finish_folder.ensures.err

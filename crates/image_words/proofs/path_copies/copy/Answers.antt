use Rattle.std.proofs.Common.{◌≡◌, inl, inr, None, refl, sym, subst}
use Rattle.fs_types.specs.declared.call.Call.{Call}
use Rattle.host_interface.specs.Folders.{HoldsMade}
use Rattle.plain_trees.specs.Trees.{bytes_of_file}
use Rattle.history_machine.specs.Machine.{Machine, refusal, view_tree}
use Rattle.inquiries.specs.Folders.{IsSmall}
use Rattle.inquiries.specs.Items.{IsDirectoryOf}
use Rattle.inquiries.specs.Readings.{shown}
use Rattle.inquiries.proofs.Entries.{file_accepted}
use Rattle.inquiries.proofs.Readings.{unchanged-trans, met_only}
use Rattle.image_words.specs.PathCopies.{folder_made, Uncopied}
use Rattle.image_words.proofs.CopyLemmas.{directory_stands, file_stands, read_bytes, uncopied_later}
use Rattle.image_words.proofs.path_copies.copy.Goals as goal

pub returns-in-Err-clause-err : goal.returns-in-Err-clause-err
returns-in-Err-clause-err g c = inl (c.in-Err.fault, c.in-Err.ensures.err, c.of_refusal.ensures, refl)

pub copy_folder-requires : goal.copy_folder-requires
copy_folder-requires g c =
    subst (λ (m : Machine). IsDirectoryOf m c.args.view.now c.args.path.now) (sym c.stat_at.ensures.same.machine)
    (directory_stands (shown c.args.fs.now) c.args.view.now c.args.path.now c.in-Ok.ensures.accepted c.in-Ok.stat _ c.in-Ok.ensures.ok c.in-Dir.is)

pub returns-in-Ok-copy_folder-clause-same : goal.returns-in-Ok-copy_folder-clause-same
returns-in-Ok-copy_folder-clause-same g c = unchanged-trans c.args.fs.now c.stat_at.new.fs c.copy_folder.new.fs c.stat_at.ensures.same c.copy_folder.ensures.same

pub returns-in-Ok-copy_folder-clause-ok : goal.returns-in-Ok-copy_folder-clause-ok
returns-in-Ok-copy_folder-clause-ok g c =
    let same = c.stat_at.ensures.same.machine in
    let saved = g.H.ImageFiles.held c.copy_folder.new.files in
    let made = g.H.Folders.made c.copy_folder.new.files c.args.name.now in
    record {
      there = directory_stands (shown c.args.fs.now) c.args.view.now c.args.path.now c.in-Ok.ensures.accepted c.in-Ok.stat _ c.in-Ok.ensures.ok c.in-Dir.is;
      small = subst (λ (m : Machine). IsSmall (view_tree m c.args.view.now)) same c.in-Ok-copy_folder.ensures.small;
      made = subst (λ (m : Machine). made (folder_made (view_tree m c.args.view.now) c.args.path.now)) same c.in-Ok-copy_folder.ensures.made;
      holds = subst (λ (m : Machine). HoldsMade c.args.name.now saved (folder_made (view_tree m c.args.view.now) c.args.path.now)) same c.in-Ok-copy_folder.ensures.ok;
      others = c.in-Ok-copy_folder.ensures.others;
    }

pub returns-in-Err-copy_folder-clause-same : goal.returns-in-Err-copy_folder-clause-same
returns-in-Err-copy_folder-clause-same g c = unchanged-trans c.args.fs.now c.stat_at.new.fs c.copy_folder.new.fs c.stat_at.ensures.same c.copy_folder.ensures.same

pub returns-in-Err-copy_folder-clause-err : goal.returns-in-Err-copy_folder-clause-err
returns-in-Err-copy_folder-clause-err g c =
    let held = g.H.ImageFiles.held c.args.files.now in
    let saved = g.H.ImageFiles.held c.copy_folder.new.files in
    let why : Uncopied (view_tree (shown c.args.fs.now) c.args.view.now) c.args.path.now c.args.name.now held saved (g.F.Flash.device c.stat_at.new.fs.flash.now) (g.F.Flash.device c.copy_folder.new.fs.flash.now) c.in-Err-copy_folder.failure =
    subst (λ (m : Machine). Uncopied (view_tree m c.args.view.now) c.args.path.now c.args.name.now held saved (g.F.Flash.device c.stat_at.new.fs.flash.now) (g.F.Flash.device c.copy_folder.new.fs.flash.now) c.in-Err-copy_folder.failure)
    c.stat_at.ensures.same.machine c.in-Err-copy_folder.ensures.err in
    inr (
      directory_stands (shown c.args.fs.now) c.args.view.now c.args.path.now c.in-Ok.ensures.accepted c.in-Ok.stat _ c.in-Ok.ensures.ok c.in-Dir.is,
      uncopied_later (view_tree (shown c.args.fs.now) c.args.view.now) c.args.path.now c.args.name.now held saved c.args.fs.now c.stat_at.new.fs c.copy_folder.new.fs c.in-Err-copy_folder.failure c.stat_at.ensures.same why,
    )

pub returns-in-Ok-read_file-clause-same : goal.returns-in-Ok-read_file-clause-same
returns-in-Ok-read_file-clause-same g c = unchanged-trans c.args.fs.now c.stat_at.new.fs c.read_file.new.fs c.stat_at.ensures.same c.read_file.ensures.same

pub returns-in-Ok-read_file-clause-ok : goal.returns-in-Ok-read_file-clause-ok
returns-in-Ok-read_file-clause-ok g c =
    let same = c.stat_at.ensures.same.machine in (
      subst (λ (m : Machine). refusal m (Call.ReadAt c.args.view.now c.args.path.now 0 16777216) ≡ None) same c.in-Ok-read_file.ensures.accepted,
      subst (λ (m : Machine). c.in-Ok-read_file.bytes ≡ bytes_of_file (view_tree m c.args.view.now) c.args.path.now) same
          (read_bytes (view_tree (shown c.stat_at.new.fs) c.args.view.now) c.args.path.now c.in-Ok-read_file.bytes c.in-Ok-read_file.ensures.ok),
      refl,
    )

pub returns-in-Err-read_file-clause-same : goal.returns-in-Err-read_file-clause-same
returns-in-Err-read_file-clause-same g c = unchanged-trans c.args.fs.now c.stat_at.new.fs c.read_file.new.fs c.stat_at.ensures.same c.read_file.ensures.same

pub returns-in-Err-read_file-clause-err : goal.returns-in-Err-read_file-clause-err
returns-in-Err-read_file-clause-err g c =
    let m = shown c.args.fs.now in
    let there = file_stands m c.args.view.now c.args.path.now c.in-Ok.ensures.accepted c.in-Ok.stat _ c.in-Ok.ensures.ok c.in-File.is in
    let met = met_only c.args.fs.now c.stat_at.new.fs c.read_file.new.fs (Call.ReadAt c.args.view.now c.args.path.now 0 16777216) c.in-Err-read_file.fault c.stat_at.ensures.same
    (file_accepted m c.args.view.now c.args.fs.now.mounted.mounted.machine there.accepted c.args.path.now (bytes_of_file (view_tree m c.args.view.now) c.args.path.now) 0 16777216 there.there) c.in-Err-read_file.ensures.err in
    inl (c.in-Err-read_file.fault, inr met, c.of_refusal-in-Err-read_file.ensures, refl)

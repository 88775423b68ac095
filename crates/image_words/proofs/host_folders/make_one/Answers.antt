use Rattle.std.proofs.Common.{◌≡◌, ◌∙◌, List, [], ◌∷◌, ◌++◌, OnOk, subst}
use Rattle.std.specs.Prelude.{string_bytes}
use Rattle.plain_trees.specs.Trees.{bytes_of_file}
use Rattle.history_machine.specs.Machine.{view_tree}
use Rattle.host_interface.specs.Folders.{Made}
use Rattle.inquiries.specs.Readings.{shown}
use Rattle.inquiries.proofs.Readings.{unchanged-refl}
use Rattle.image_words.specs.PathCopies.{made_of}
use Rattle.image_words.proofs.MakeLemmas.{host_unmade, made_folder, made_file, file_there}
use Rattle.image_words.proofs.host_folders.make_one.Goals as goal

pub returns-in-Err-clause-same : goal.returns-in-Err-clause-same
returns-in-Err-clause-same g c = unchanged-refl c.args.fs.now

pub returns-in-Err-clause-err : goal.returns-in-Err-clause-err
returns-in-Err-clause-err g c = host_unmade (g.F.Flash.device c.args.fs.now.flash.now) (g.F.Flash.device c.args.fs.now.flash.now) c.in-Err.failure c.in-Err.ensures.err

pub copy_file-requires-clause-file : goal.copy_file-requires-clause-file
copy_file-requires-clause-file g c = record {
  accepted = c.requires.view;
  there = file_there (view_tree (shown c.args.fs.now) c.args.view.now) c.args.skipped c.args.item.now c.requires.there (string_bytes c.in-Ok.way) c.in-Ok.ensures.ok _ c.in-File.is;
}

pub returns-in-Dir-clause-same : goal.returns-in-Dir-clause-same
returns-in-Dir-clause-same g c = unchanged-refl c.args.fs.now

pub returns-in-Dir-clause-ok : goal.returns-in-Dir-clause-ok
returns-in-Dir-clause-ok g c =
    let t = view_tree (shown c.args.fs.now) c.args.view.now in
    let made : Made.Folder c.as_str.result.now ≡ made_of t c.args.skipped c.args.item.now = made_folder t c.args.skipped c.args.item.now c.requires.there c.as_str.result.now (c.as_str.ensures.value ∙ c.in-Ok.ensures.ok) _ c.in-Dir.is in
    subst (λ (m : Made). OnOk c.make_folder.result ((all : List Made) → g.H.Folders.made c.args.files.now c.args.name.now all → g.H.Folders.made c.make_folder.new.files c.args.name.now (all ++ m ∷ []))) made c.make_folder.ensures.ok

pub returns-clause-ok : goal.returns-clause-ok
returns-clause-ok g c =
    let t = view_tree (shown c.args.fs.now) c.args.view.now in
    let made : Made.File c.as_str-in-File.result.now (bytes_of_file t c.args.item.now.path) ≡ made_of t c.args.skipped c.args.item.now =
    made_file t c.args.skipped c.args.item.now c.requires.there c.as_str-in-File.result.now (c.as_str-in-File.ensures.value ∙ c.in-Ok.ensures.ok) _ c.in-File.is in
    subst (λ (m : Made). OnOk c.copy_file.result ((all : List Made) → g.H.Folders.made c.args.files.now c.args.name.now all → g.H.Folders.made c.copy_file.new.files c.args.name.now (all ++ m ∷ []))) made c.copy_file.ensures.ok

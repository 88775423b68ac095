use Rattle.std.proofs.Common.{inl}
use Rattle.flash_simulation.specs.Simulation.{device_of}
use Rattle.image_words.specs.declared.path_copies.Copied.{Copied}
use Rattle.image_words.proofs.GetLemmas.{file_saved}
use Rattle.image_words.proofs.image_gets.copy_to.Goals as goal

pub returns-in-File : goal.returns-in-File
returns-in-File g c =
    file_saved (device_of c.args.flash.now) c.args.view.now c.args.path.now c.args.file.now (g.F.Folders.made c.copy_out.new.files c.args.file.now) (g.F.Folders.made c.save_bytes.new.files c.args.file.now)
    (g.F.ImageFiles.held c.args.files.now) (g.F.ImageFiles.held c.copy_out.new.files) (g.F.ImageFiles.held c.save_bytes.new.files) c.in-File.bytes c.as_slice.result.now c.save_bytes.result
    (rw c.in-File.is at c.in-Ok.ensures.ok) c.as_slice.ensures c.save_bytes.ensures.ok c.save_bytes.ensures.err c.save_bytes.ensures.others

pub returns-in-Folder : goal.returns-in-Folder
returns-in-Folder g c = (Copied.Folder, rw c.in-Folder.is at c.in-Ok.ensures.ok)

pub returns-in-Err : goal.returns-in-Err
returns-in-Err g c = inl (device_of c.copy_out.new.flash, c.in-Err.ensures.err)

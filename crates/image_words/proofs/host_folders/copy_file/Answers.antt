use Rattle.image_words.proofs.MakeLemmas.{met_unmade}
use Rattle.image_words.proofs.host_folders.copy_file.Goals as goal

pub returns-in-Err-clause-err : goal.returns-in-Err-clause-err
returns-in-Err-clause-err g c =
    rw c.of_refusal.ensures (met_unmade (g.F.Flash.device c.args.fs.now.flash.now) (g.F.Flash.device c.read_item.new.fs.flash.now) c.in-Err.fault c.in-Err.ensures.err)

use Rattle.std.proofs.Common.{List, ℕ, subst}
use Rattle.host_interface.specs.Files.{KeepsOthers}
use Rattle.copy_jobs.specs.Copying.{CopyEnds}
use Rattle.copy_jobs.specs.declared.asked_sizes.AskedSizes.{AskedSizes}
use Rattle.shell.specs.Tools.{word_given}
use Rattle.shell.proofs.copy.copy_to.Goals as goal

pub returns-clause-ends : goal.returns-clause-ends
returns-clause-ends g c =
    let old = g.F.ImageFiles.held c.args.files.now in
    let new = g.F.ImageFiles.held c.copy_image.new.files in
    let at_file = subst (λ (file : List ℕ). CopyEnds c.sizes_asked-asked.result c.args.job.salvage c.args.name.now file old new c.copy_image.result) c.word_given-file.ensures c.copy_image.ensures.ends in
    subst (λ (asked : AskedSizes). CopyEnds asked c.args.job.salvage c.args.name.now (word_given c.args.job.file) old new c.copy_image.result) c.sizes_asked-asked.ensures at_file

pub returns-clause-others : goal.returns-clause-others
returns-clause-others g c =
    subst (λ (file : List ℕ). KeepsOthers file (g.F.ImageFiles.held c.args.files.now) (g.F.ImageFiles.held c.copy_image.new.files)) c.word_given-file.ensures c.copy_image.ensures.others

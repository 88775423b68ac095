use Rattle.std.proofs.Common.{ℕ, List, map}
use Rattle.host_interface.specs.Files.{ReadsBeside}
use Rattle.host_interface.specs.Sources.{source_found}
use Rattle.image_words.proofs.CreationLemmas.{made, unmade}
use Rattle.image_words.proofs.creating.make_image.Goals as goal

pub returns-in-Err-clause-ends : goal.returns-in-Err-clause-ends
returns-in-Err-clause-ends g c =
    unmade c.args.image c.args.name.now (g.F.ImageFiles.reads_source c.args.files.now) (ReadsBeside g.F.ImageFiles.claims g.F.ImageFiles.reads_source c.args.name.now)
    (λ (source bytes : List ℕ) (given : g.F.ImageFiles.reads_source c.args.files.now source bytes). (c.args.files.now, c.requires, given))
    c.args.batch.now.base (map source_found c.args.batch.now.sources.items) (g.F.ImageFiles.held c.args.files.now) c.in-Err.failure c.in-Err.ensures.err

pub returns-in-Ok-clause-ends : goal.returns-in-Ok-clause-ends
returns-in-Ok-clause-ends g c =
    made c.args.image c.args.name.now (g.F.ImageFiles.reads_source c.args.files.now) (ReadsBeside g.F.ImageFiles.claims g.F.ImageFiles.reads_source c.args.name.now)
    (λ (source bytes : List ℕ) (given : g.F.ImageFiles.reads_source c.args.files.now source bytes). (c.args.files.now, c.requires, given))
    c.args.batch.now.base (map source_found c.args.batch.now.sources.items) (g.F.ImageFiles.held c.args.files.now) (g.F.ImageFiles.held c.save_image.new.files) c.in-Ok.flash c.save_image.result
    c.in-Ok.ensures.ok c.save_image.ensures.ok c.save_image.ensures.err

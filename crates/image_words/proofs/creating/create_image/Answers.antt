use Rattle.std.proofs.Common.{inl, inr, refl}
use Rattle.host_interface.specs.Files.{ReadsBeside}
use Rattle.image_words.proofs.CreationLemmas.{ungathered, created}
use Rattle.image_words.proofs.creating.create_image.Goals as goal

pub returns-in-Err-clause-ends : goal.returns-in-Err-clause-ends
returns-in-Err-clause-ends g c =
    inr (
      c.in-Err.failure,
      refl,
      ungathered c.args.creation.skip_links c.args.name.now (g.F.Sources.gathered c.args.files.now c.args.creation.folder.now c.args.name.now) c.root.result c.in-Err.failure c.root.ensures c.in-Err.ensures.err,
      refl,
    )

pub returns-in-Ok-claim-clause-ends : goal.returns-in-Ok-claim-clause-ends
returns-in-Ok-claim-clause-ends g c =
    created c.args.creation.image c.args.creation.skip_links c.args.name.now (ReadsBeside g.F.ImageFiles.claims g.F.ImageFiles.reads_source c.args.name.now) (g.F.Sources.gathered c.args.files.now c.args.creation.folder.now c.args.name.now) c.root.result c.in-Ok.batch
    (g.F.ImageFiles.held c.args.files.now) (g.F.ImageFiles.held c.claim.new.files) (g.F.ImageFiles.held c.make_image.new.files) c.make_image.result
    c.root.ensures c.claim.ensures.same c.in-Ok.ensures.ok c.in-Ok.ensures.others c.make_image.ensures.ends

pub returns-clause-ends : goal.returns-clause-ends
returns-clause-ends g c = inr (c.in-Err-claim.failure, refl, inl c.in-Err-claim.ensures.why, c.in-Err-claim.ensures.same)

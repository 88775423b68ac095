use Rattle.std.proofs.Common.{inl, refl}
use Rattle.image_jobs.proofs.ImageLemmas.{format_saved}
use Rattle.image_jobs.proofs.images.make_image.Goals as goal

pub returns-in-Ok : goal.returns-in-Ok
returns-in-Ok g c = record {
  ends = format_saved c.args.sizes c.args.history c.in-Ok.flash (g.F.ImageFiles.held c.args.files.now c.args.name.now) (g.F.ImageFiles.held c.save_image.new.files c.args.name.now) c.save_image.result
      c.in-Ok.ensures.ok c.save_image.ensures.ok c.save_image.ensures.err;
  synced = c.save_image.ensures.synced;
  others = c.save_image.ensures.others;
}

pub returns-in-Err : goal.returns-in-Err
returns-in-Err g c = record { ends = inl (c.in-Err.ensures.err, refl); synced = tt; others = λ other one another. refl }

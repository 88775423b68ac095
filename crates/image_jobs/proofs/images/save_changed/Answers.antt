use Rattle.image_jobs.proofs.ImageLemmas.{synced_alone}
use Rattle.image_jobs.proofs.images.save_changed.Goals as goal

pub returns-clause-synced : goal.returns-clause-synced
returns-clause-synced g c =
    synced_alone (g.F.ImageFiles.held c.args.files.now) (g.F.ImageFiles.held c.write_image.new.files) (g.F.ImageFiles.synced c.write_image.new.files c.args.name.now) c.write_image.result c.write_image.ensures.synced

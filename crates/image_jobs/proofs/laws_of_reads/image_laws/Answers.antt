use Rattle.image_jobs.proofs.ImageLemmas.{image_read}
use Rattle.image_jobs.proofs.laws_of_reads.image_laws.Goals as goal

pub returns : goal.returns
returns c = image_read

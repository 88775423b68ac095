use Rattle.flash_simulation.proofs.ImageLengths.{image_of-most}
use Rattle.flash_simulation.proofs.laws_of_images.images_are_short.Goals as goal

pub returns : goal.returns
returns c = image_of-most

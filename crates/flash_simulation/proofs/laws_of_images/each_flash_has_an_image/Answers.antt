use Rattle.flash_simulation.proofs.ImageStops.{has_image}
use Rattle.flash_simulation.proofs.laws_of_images.each_flash_has_an_image.Goals as goal

pub returns : goal.returns
returns c = has_image c.args.flash.now

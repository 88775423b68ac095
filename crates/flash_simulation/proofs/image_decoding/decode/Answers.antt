use Rattle.flash_simulation.specs.Simulation.{device_of}
use Rattle.flash_simulation.proofs.ImageStops.{has_image}
use Rattle.flash_simulation.proofs.ImageApart.{image-read, fault-found}
use Rattle.flash_simulation.proofs.image_decoding.decode.Goals as goal

pub returns-clause-read : goal.returns-clause-read
returns-clause-read c = image-read device_of c.read_image.result c.args.bytes.now has_image c.read_image.ensures.spelled c.read_image.ensures.fault

pub returns-clause-found : goal.returns-clause-found
returns-clause-found c = fault-found device_of c.read_image.result c.args.bytes.now has_image c.read_image.ensures.spelled c.read_image.ensures.fault

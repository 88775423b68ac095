use Rattle.std.proofs.Common.{refl}
use Rattle.flash_simulation.specs.Images.{image_of}
use Rattle.flash_simulation.proofs.ImageApart.{one_fault, no_fault}
use Rattle.flash_simulation.proofs.laws_of_images.faults_are_told_apart.Goals as goal

pub returns-clause-one : goal.returns-clause-one
returns-clause-one c = one_fault

pub returns-clause-none : goal.returns-clause-none
returns-clause-none c = λ d f image wrong. no_fault d f (image_of d) image refl wrong

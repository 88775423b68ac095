use Rattle.std.proofs.Common.{List, ℕ, [], ◌++◌, ap, sym, ◌∙◌}
use Rattle.std.proofs.lemmas.List.{append-nil}
use Rattle.flash_simulation.specs.Images.{image_of}
use Rattle.flash_simulation.proofs.ImageOnce.{image-once}
use Rattle.flash_simulation.proofs.laws_of_images.images_are_told_apart.Goals as goal

pub returns-clause-same : goal.returns-clause-same
returns-clause-same c = λ d e image image' same. (image-once d e [] [] image image' (ap (λ (t : List ℕ). t ++ []) same)).0

pub returns-clause-whole : goal.returns-clause-whole
returns-clause-whole c = λ d e more image image' same. (image-once d e more [] image image' (same ∙ sym (append-nil (image_of e)))).1

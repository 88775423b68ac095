use Rattle.std.proofs.Common.{ap, ◌∙◌}
use Rattle.flash_model.specs.Device.{Device}
use Rattle.part_file.proofs.part_flash.PartFlash.start.Goals as goal

pub returns-in-Ok-clause-unworn : goal.returns-in-Ok-clause-unworn
returns-in-Ok-clause-unworn g c = λ b. ap (λ (d : Device). d.worn b) c.new.ensures ∙ c.in-Ok.ensures.ok.unworn b

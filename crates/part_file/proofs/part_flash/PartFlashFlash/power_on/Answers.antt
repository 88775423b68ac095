use Rattle.std.proofs.Common.{ap}
use Rattle.flash_model.specs.Device.{Device}
use Rattle.mirrored_flash.specs.Mirrors.{mirror_device}
use Rattle.part_file.specs.Parts.{backing_of, driven_part, is_lost}
use Rattle.part_file.proofs.Holding.{same_shown}
use Rattle.part_file.proofs.part_flash.PartFlashFlash.power_on.Goals as goal

pub invariant_of-self-clause-held : goal.invariant_of-self-clause-held
invariant_of-self-clause-held g c =
    let old = c.args.self.now in
    same_shown (is_lost old.driver) (g.B.Backing.held (backing_of (driven_part old.driver))) (mirror_device old.mirror) (mirror_device c.power_on.new.self)
    (ap (λ (d : Device). d.geometry) c.power_on.ensures) (λ p. ap (λ (d : Device). d.pages p) c.power_on.ensures) old.held

-- The part is as it was, and the state has power on.
use Rattle.std.proofs.Common.{ℕ, List, ap, ◌∙◌}
use Rattle.nor_part.specs.Layout.{part_sizes, page_in}
use Rattle.nor_part.specs.States.{device_with}
use Rattle.nor_part.proofs.nor_flash.NorFlashFlash.power_on.Goals as goal

pub returns : goal.returns
returns g c =
    ap (λ (held : ℕ → List ℕ). device_with (part_sizes c.args.self.now.blocks) (page_in held) c.power_on-2.new.self) c.power_on.ensures.held
    ∙ c.power_on-2.ensures.device (part_sizes c.args.self.now.blocks) (page_in (g.P.Nor.held c.args.self.now.part))

-- The part is as it was, and the state has power on.
use Rattle.std.proofs.Common.{ℕ, List, ap, ◌∙◌}
use Rattle.dense_nor.specs.Layout.{dense_sizes, page_in}
use Rattle.nor_part.specs.States.{device_with}
use Rattle.dense_nor.proofs.dense_flash.DenseNorFlashFlash.power_on.Goals as goal

pub returns : goal.returns
returns g c =
    ap (λ (held : ℕ → List ℕ). device_with (dense_sizes c.args.self.now.layout.sectors c.args.self.now.blocks) (page_in c.args.self.now.layout.sectors held) c.power_on-2.new.self) c.power_on.ensures.held
    ∙ c.power_on-2.ensures.device (dense_sizes c.args.self.now.layout.sectors c.args.self.now.blocks) (page_in c.args.self.now.layout.sectors (g.P.Nor.held c.args.self.now.part))

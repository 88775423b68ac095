use Rattle.std.proofs.Common.{◌++◌, List, ℕ, ap, ◌∙◌, refl}
use Rattle.flash_simulation.specs.Simulation.{device_of}
use Rattle.flash_simulation.specs.Images.{block_text, header}
use Rattle.flash_simulation.proofs.ImageGrowing.{begun, grown}
use Rattle.flash_simulation.proofs.image_encoding.encode.Goals as goal

pub loop-block-init : goal.loop-block-init
loop-block-init c =
    let d = device_of c.args.flash.now in
    c.in_ok-push_header.ensures ∙ ap (λ (t : List ℕ). t ++ header c.geometry-sizes.result) c.in_ok-image.ensures.items ∙ ap header c.geometry-sizes.ensures
    ∙ begun (header d.geometry) (block_text d)

pub loop-block-preserved : goal.loop-block-preserved
loop-block-preserved c =
    let d = device_of c.args.flash.now in
    grown (header d.geometry) c.loop-block.block (block_text d) c.loop-block.image.items c.push_block.new.image.items (block_text d c.loop-block.block) c.loop-block.invariant c.in_ok-push_block.ensures refl

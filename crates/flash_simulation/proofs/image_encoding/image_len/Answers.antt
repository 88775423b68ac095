use Rattle.std.proofs.Common.{◌≡◌, ◌+◌, ℕ, ap, sym, ◌∙◌, length, arith}
use Rattle.std.proofs.lemmas.List.{length-append}
use Rattle.flash_model.specs.declared.geometry.Geometry.{Geometry}
use Rattle.flash_simulation.specs.Simulation.{device_of}
use Rattle.flash_simulation.specs.Images.{parts, block_text, header}
use Rattle.flash_simulation.proofs.ImageTexts.{length-header}
use Rattle.flash_simulation.proofs.ImageGrowing.{length-begun, length-grown}
use Rattle.flash_simulation.proofs.image_encoding.image_len.Goals as goal

pub loop-block-init : goal.loop-block-init
loop-block-init c = record {
  is = omega (arith, length-begun (block_text (device_of c.args.flash.now)));
  most = omega arith;
}

pub loop-block-preserved : goal.loop-block-preserved
loop-block-preserved c = record {
  is = length-grown c.loop-block.block (block_text (device_of c.args.flash.now)) 20 c.loop-block.len c.block_len-len.result c.loop-block.invariant.is c.block_len-len.ensures.len;
  most = omega (arith, c.loop-block.invariant.most, c.block_len-len.ensures.most);
}

pub returns : goal.returns
returns c =
    let d = device_of c.args.flash.now in
    let blocks : c.geometry-block-end.result.blocks ≡ d.geometry.blocks = ap (λ (g : Geometry). g.blocks) c.geometry-block-end.ensures in
    let all : c.loop-block.block ≡ d.geometry.blocks = omega arith in
    c.loop-block.invariant.is ∙ ap (λ (n : ℕ). 20 + length (parts n (block_text d))) all
    ∙ ap (λ (n : ℕ). n + length (parts d.geometry.blocks (block_text d))) (sym (length-header d.geometry))
    ∙ sym (length-append (header d.geometry) (parts d.geometry.blocks (block_text d)))

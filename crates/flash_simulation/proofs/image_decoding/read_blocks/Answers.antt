use Rattle.std.proofs.Common.{◌≡◌, ◌<◌, ◌++◌, List, ℕ, ap, sym, subst, refl, ◌∙◌}
use Rattle.std.proofs.lemmas.Result.{err_from_is_err_and}
use Rattle.flash_model.specs.declared.geometry.Geometry.{Geometry}
use Rattle.flash_model.specs.Device.{Device}
use Rattle.flash_simulation.specs.Simulation.{device_of}
use Rattle.flash_simulation.specs.Images.{block_text}
use Rattle.flash_simulation.proofs.ImageParts.{parts-none}
use Rattle.flash_simulation.proofs.ImageFilling.{blocks-fill, blocks-spell, block-stops}
use Rattle.flash_simulation.proofs.image_decoding.read_blocks.Goals as goal

pub loop-block-init : goal.loop-block-init
loop-block-init c = record {
  spelled = ap (λ (t : List ℕ). t ++ c.args.bytes.now) (sym (parts-none (block_text (device_of c.args.flash.now))));
  fills = record { earlier = λ p below. refl; worn = λ b below. refl; others = refl };
  plan = refl;
}

pub loop-block-preserved : goal.loop-block-preserved
loop-block-preserved c =
    let d = device_of c.loop-block.flash in
    let e = device_of c.read_block.new.flash in
    record {
      spelled = blocks-spell d e c.loop-block.block c.args.bytes.now c.loop-block.rest.now c.in_ok-rest.rest.now c.read_block.ensures.fills c.loop-block.invariant.spelled c.in_ok-rest.ensures.ok;
      fills = blocks-fill (device_of c.args.flash.now) d e c.loop-block.block c.loop-block.invariant.fills c.read_block.ensures.fills;
      plan = c.read_block.ensures.plan ∙ c.loop-block.invariant.plan;
    }

pub returns-in_err-rest-clause-err : goal.returns-in_err-rest-clause-err
returns-in_err-rest-clause-err c =
    let p = err_from_is_err_and c.from_residual.result c.from_residual.ensures.1 in
    let old = device_of c.args.flash.now in
    let d = device_of c.loop-block.flash in
    let e = device_of c.read_block.new.flash in
    let kept : e.geometry ≡ old.geometry = ap (λ (x : Device). x.geometry) c.read_block.ensures.fills.others ∙ ap (λ (x : Device). x.geometry) c.loop-block.invariant.fills.others in
    let inside : c.loop-block.block < e.geometry.blocks = subst (λ (g : Geometry). c.loop-block.block < g.blocks) (c.geometry-block-end.ensures ∙ sym kept) c.loop-block-test.true in
    rw (p.1, p.2) (block-stops d e c.loop-block.block c.in_err-rest.field-0.0 c.args.bytes.now c.loop-block.rest.now inside c.read_block.ensures.fills c.loop-block.invariant.spelled c.in_err-rest.ensures.err)

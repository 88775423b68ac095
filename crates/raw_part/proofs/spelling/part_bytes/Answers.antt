use Rattle.std.proofs.Common.{◌∙◌, ◌++◌, ℕ, List, sym, ap}
use Rattle.flash_simulation.proofs.ImageParts.{parts-none, parts-more}
use Rattle.flash_simulation.specs.Simulation.{device_of}
use Rattle.raw_part.specs.Raws.{part_page}
use Rattle.raw_part.proofs.spelling.part_bytes.Goals as goal

pub loop-number-init : goal.loop-number-init
loop-number-init c = c.in_ok-bytes.ensures.items ∙ sym (parts-none (part_page c.args.layout (device_of c.args.flash.now)))

pub loop-number-preserved : goal.loop-number-preserved
loop-number-preserved c =
    let part = part_page c.args.layout (device_of c.args.flash.now) in
    c.in_ok-push_page.ensures ∙ ap (λ (x : List ℕ). x ++ part c.loop-number.number) c.loop-number.invariant ∙ sym (parts-more c.loop-number.number part)

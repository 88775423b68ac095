use Rattle.std.proofs.Common.{◌≡◌, ◌++◌, ◌+◌, ◌*◌}
use Rattle.flash_simulation.specs.Images.{parts}
use Rattle.flash_simulation.specs.Simulation.{device_of}
use Rattle.dense_nor.specs.Layout.{data_pages}
use Rattle.raw_part.specs.Raws.{place_text}
use Rattle.raw_part.proofs.spelling.push_marks.Given as goal

abbrev pub invariant-loop-i : goal.invariant-loop-i
invariant-loop-i l =
    l.bytes.items ≡ l.fn.bytes.items ++ parts l.i (λ j. place_text (data_pages l.layout.sectors) (λ place. (device_of l.flash).pages (data_pages l.layout.sectors * l.block + place)) (32 * l.number + j))

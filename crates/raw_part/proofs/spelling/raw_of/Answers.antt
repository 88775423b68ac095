use Rattle.std.proofs.Common.{arith}
use Rattle.flash_simulation.specs.Simulation.{device_of}
use Rattle.part_file.proofs.Putting.{whole_page}
use Rattle.raw_part.proofs.Placed.{sized_by}
use Rattle.raw_part.proofs.Spelled.{raw_is}
use Rattle.raw_part.proofs.spelling.raw_of.Goals as goal

pub part_bytes-requires : goal.part_bytes-requires
part_bytes-requires c = sized_by c.in-Some.layout (device_of c.args.flash.now).geometry c.geometry-sizes.result c.geometry-sizes.ensures (omega arith) c.in-Some.ensures.some

pub returns-in-Ok-clause-ok : goal.returns-in-Ok-clause-ok
returns-in-Ok-clause-ok c =
    let d = device_of c.args.flash.now in
    let layout = c.in-Some.layout in
    let sizes = sized_by layout d.geometry c.geometry-sizes.result c.geometry-sizes.ensures (omega arith) c.in-Some.ensures.some in
    (layout, raw_is layout d c.in-Ok.bytes.items c.args.flash.now.lawful sizes (λ q. whole_page c.args.flash.now q) c.in-Ok.ensures)

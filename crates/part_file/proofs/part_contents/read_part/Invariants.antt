use Rattle.std.proofs.Common.{◌≡◌, length}
use Rattle.flash_simulation.specs.Simulation.{device_of}
use Rattle.part_file.proofs.PagesRead.{HasRead}
use Rattle.part_file.proofs.part_contents.read_part.Given as goal

abbrev pub invariant-loop-page : goal.invariant-loop-page
invariant-loop-page g l =
    (g.B.Backing.held l.backing ≡ g.B.Backing.held l.fn.backing) × (g.B.Backing.steps l.backing ≡ g.B.Backing.steps l.fn.backing)
    × (length l.buffer.items ≡ l.fn.sizes.page) × HasRead l.fn.sizes (g.B.Backing.held l.fn.backing) (device_of l.flash) l.page

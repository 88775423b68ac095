use Rattle.std.proofs.Common.{arith}
use Rattle.flash_simulation.proofs.Filling.{filled}
use Rattle.flash_simulation.proofs.sim_pages.SimPages.fill.Goals as goal

pub returns : goal.returns
returns c =
    filled c.args.self.now c.args.number c.start_of-start.result _ c.deref_mut.result.now c.copy_from_slice.new.self c.args.bytes.now
    c.requires.in_flash c.start_of-start.ensures.start (omega arith) c.deref_mut.ensures.value c.copy_from_slice.ensures.after c.requires.whole _

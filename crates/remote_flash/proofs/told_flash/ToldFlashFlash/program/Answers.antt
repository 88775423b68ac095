use Rattle.std.proofs.Common.{refl, inl}
use Rattle.mirrored_flash.specs.Mirrors.{mirror_device}
use Rattle.remote_flash.specs.Drivers.{driver_streams}
use Rattle.remote_flash.specs.Orders.{program_order}
use Rattle.remote_flash.proofs.Ordering.{ordered_more}
use Rattle.remote_flash.proofs.told_flash.ToldFlashFlash.program.Goals as goal

pub invariant_of-self : goal.invariant_of-self
invariant_of-self g c =
    let old = c.args.self.now in
    let streams = driver_streams g.R.Read.remaining g.W.Write.contents in
    let order = program_order c.args.page c.args.bytes.now in
    record {
      ordered = ordered_more (mirror_device old.mirror).geometry (mirror_device c.program.new.self).geometry g.W.Write.contents (streams old.driver) (streams c.carry_out-done.new.self) order
          c.carry_out-done.result c.program.ensures.programs.operates.geometry (inl (c.args.page, c.args.bytes.now, c.requires.in_range, c.requires.whole, refl))
          (record { on = c.carry_out-done.ensures.on; off = c.carry_out-done.ensures.off }) old.ordered;
    }

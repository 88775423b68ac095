use Rattle.std.proofs.Common.{refl, inr}
use Rattle.mirrored_flash.specs.Mirrors.{mirror_device}
use Rattle.remote_flash.specs.Drivers.{driver_streams}
use Rattle.remote_flash.specs.Orders.{erase_order}
use Rattle.remote_flash.proofs.Ordering.{ordered_more}
use Rattle.remote_flash.proofs.told_flash.ToldFlashFlash.erase.Goals as goal

pub invariant_of-self : goal.invariant_of-self
invariant_of-self g c =
    let old = c.args.self.now in
    let streams = driver_streams g.R.Read.remaining g.W.Write.contents in
    record {
      ordered = ordered_more (mirror_device old.mirror).geometry (mirror_device c.erase.new.self).geometry g.W.Write.contents (streams old.driver) (streams c.carry_out-done.new.self) (erase_order c.args.block)
          c.carry_out-done.result c.erase.ensures.erases.operates.geometry (inr (c.args.block, c.requires, refl))
          (record { on = c.carry_out-done.ensures.on; off = c.carry_out-done.ensures.off }) old.ordered;
    }

use Rattle.std.proofs.Common.{ap}
use Rattle.mirrored_flash.specs.Mirrors.{mirror_device}
use Rattle.remote_flash.specs.Drivers.{driver_streams}
use Rattle.remote_flash.proofs.Ordering.{ordered_none}
use Rattle.remote_flash.proofs.told_flash.ToldFlash.new.Goals as goal

pub invariant_of-result : goal.invariant_of-result
invariant_of-result g c = record {
  ordered = ordered_none (mirror_device c.new.result).geometry g.W.Write.contents c.args.orders (driver_streams g.R.Read.remaining g.W.Write.contents c.new-2.result)
      (ap g.W.Write.contents c.new-2.ensures.orders) c.new-2.ensures.lost c.requires.unused;
}

use Rattle.std.proofs.Common.{Bool, refl, sym, subst}
use Rattle.std.specs.Prelude.{IfSome}
use Rattle.remote_flash.specs.Attempts.{AreOrders}
use Rattle.remote_flash.specs.Drivers.{driver_orders, driver_streams}
use Rattle.remote_flash.specs.Flashes.{told_device}
use Rattle.remote_flash.proofs.Ordering.{orders_given}
use Rattle.remote_flash.proofs.told_flash.ToldFlash.is_lost.Goals as goal

pub returns-clause-orders : goal.returns-clause-orders
returns-clause-orders g c = λ always.
    let flash = c.args.self.now in
    let sizes = (told_device flash).geometry in
    let given = g.W.Write.contents (driver_orders flash.driver) in
    subst (λ (lost : Bool). IfSome given (λ bytes. ∥ AreOrders sizes lost bytes ∥₁)) (sym c.is_lost.ensures)
    (orders_given sizes g.W.Write.contents (driver_streams g.R.Read.remaining g.W.Write.contents flash.driver) given refl always flash.ordered)

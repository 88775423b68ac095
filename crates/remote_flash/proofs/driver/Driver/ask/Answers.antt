use Rattle.remote_flash.specs.Orders.{order_of}
use Rattle.remote_flash.proofs.Parts.{part_whole, if_none}
use Rattle.remote_flash.proofs.driver.Driver.ask.Goals as goal

pub returns-in-Ok-clause-none : goal.returns-in-Ok-clause-none
returns-in-Ok-clause-none g c =
    if_none c.next_byte.result _ _
    (λ silent. record { given = part_whole _ _ (order_of c.args.kind c.args.number c.args.bytes.now) c.in-Ok.ensures.ok; silent = silent })
    c.next_byte.ensures.none

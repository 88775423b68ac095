use Rattle.std.proofs.Common.{sym, subst}
use Rattle.flash_simulation.specs.Images.{HoldsTheSame}
use Rattle.remote_flash.proofs.told_flash.ToldFlash.start.Goals as goal

pub returns-clause-read : goal.returns-clause-read
returns-clause-read g c d rest image told =
    let held = c.in_ok-shown.ensures.read d rest image told in
    subst (HoldsTheSame d) (sym c.new.ensures.device) (record { geometry = held.geometry; pages = held.pages; worn = held.worn })

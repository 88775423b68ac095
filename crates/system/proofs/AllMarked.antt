-- A step of reclaiming with the greatest budget leaves no block to be read.
use Rattle.std.proofs.Common.{◌≡◌, Bool, true, false, Ok, arith, refl}
use Rattle.flash_model.specs.Device.{Device}
use Rattle.system.specs.Reclaiming.{Reclaims}
use Rattle.system.specs.Rooms.{no_limit}
use Rattle.system.specs.declared.systems.System.{System}

pub all_marked : (d e : Device) (m n : System) (done : Bool) → Reclaims d m no_limit (Ok done) e n → Reclaims d m no_limit (Ok true) e n
all_marked d e m n true marks = marks
all_marked d e m n false marks = absurd (by m.state.is_off refl)
  where
    by : (off : Bool) → m.state.is_off ≡ off → ⊥
    by true is = let wrong = (marks.stopped is).0 in cc
    by false is = let few = (marks.ends is).few in omega (arith, few)

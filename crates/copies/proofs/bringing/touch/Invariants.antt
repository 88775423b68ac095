use Rattle.std.proofs.Common.{◌≡◌}
use Rattle.undofs.specs.Systems.{flash_name}
use Rattle.inquiries.specs.Readings.{shown}
use Rattle.copies.proofs.bringing.touch.Given as goal

abbrev pub invariant-loop-number : goal.invariant-loop-number
invariant-loop-number g l = (shown l.to ≡ shown l.fn.to) × (flash_name l.to ≡ flash_name l.fn.to)

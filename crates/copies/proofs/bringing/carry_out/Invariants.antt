use Rattle.std.proofs.Common.{◌≡◌, take}
use Rattle.undofs.specs.Systems.{flash_name}
use Rattle.inquiries.specs.Readings.{shown}
use Rattle.copies.specs.Calls.{Does}
use Rattle.copies.proofs.bringing.carry_out.Given as goal

abbrev pub invariant-loop-call : goal.invariant-loop-call
invariant-loop-call g l = (Does (shown l.fn.to) (take l.call-index l.calls) (shown l.to)) × (flash_name l.to ≡ flash_name l.fn.to)

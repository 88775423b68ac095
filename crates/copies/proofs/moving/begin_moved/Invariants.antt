use Rattle.std.proofs.Common.{◌≡◌, take}
use Rattle.inquiries.specs.Readings.{shown}
use Rattle.undofs.specs.Systems.{flash_name}
use Rattle.copies.specs.Moved.{Tries}
use Rattle.copies.proofs.moving.begin_moved.Given as goal

abbrev pub invariant-loop-one : goal.invariant-loop-one
invariant-loop-one g l = Tries (shown l.fn.to) (take l.one-index l.moves) l.made.items (shown l.to) × (flash_name l.to ≡ flash_name l.fn.to)

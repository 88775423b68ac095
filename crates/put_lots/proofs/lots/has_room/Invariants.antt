use Rattle.std.proofs.Common.{◌≡◌, ◌+◌, take}
use Rattle.put_lots.specs.Lots.{bytes_in}
use Rattle.put_lots.proofs.lots.has_room.Given as goal

abbrev pub invariant-loop-one : goal.invariant-loop-one
invariant-loop-one l = l.room + bytes_in (take l.one-index l.files) ≡ 1048576

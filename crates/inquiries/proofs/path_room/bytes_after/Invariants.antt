use Rattle.std.proofs.Common.{◌≡◌, ◌+◌, length, take}
use Rattle.std.specs.Prelude.{sum_by}
use Rattle.inquiries.proofs.path_room.bytes_after.Given as goal

abbrev pub invariant-loop-name : goal.invariant-loop-name
invariant-loop-name l = l.left + sum_by (λ name. length name + 1) (take l.name-index l.names) ≡ l.bytes

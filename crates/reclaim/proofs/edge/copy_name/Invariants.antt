use Rattle.std.proofs.Common.{◌≡◌, take}
use Rattle.reclaim.proofs.edge.copy_name.Given as goal

-- the bytes so far
abbrev pub invariant-loop-byte : goal.invariant-loop-byte
invariant-loop-byte l = l.out.items ≡ take l.byte-index l.name

use Rattle.std.proofs.Common.{◌≡◌, ◌++◌, Some}
use Rattle.nodes.specs.Bodies.{pointer_of}
use Rattle.reclaim.specs.Naming.{slots_named}
use Rattle.reclaim.proofs.named.push_slots.Given as goal

-- the blocks of the pointers at the slots so far
abbrev pub invariant-loop-slot : goal.invariant-loop-slot
invariant-loop-slot l =
    l.out.items ≡ l.initial.out.items ++ slots_named l.index (pointer_of (Some l.bytes)) l.slot

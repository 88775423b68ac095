use Rattle.std.proofs.Common.{◌≡◌, ℕ, ◌<◌, true}
use Rattle.nodes.specs.Bodies.{pointer_of}
use Rattle.known_nodes.specs.Tables.{blocks_in}
use Rattle.known_nodes.specs.WholeFiles.{is_stepped}
use Rattle.known_nodes.proofs.whole_files.are_stepped.Given as goal

-- each slot so far is stepped
abbrev pub invariant-loop-slot : goal.invariant-loop-slot
invariant-loop-slot l = (x : ℕ) → x < l.slot → is_stepped (blocks_in l.table) (pointer_of (blocks_in l.table l.block)) l.index x ≡ true

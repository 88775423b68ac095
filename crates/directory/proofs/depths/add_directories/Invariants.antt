use Rattle.std.proofs.Common.{◌≡◌, ℕ, nat_lt, ◌&&◌, ◌||◌}
use Rattle.std.specs.FinSet as set
use Rattle.directory.specs.Depths.{names_directory}
use Rattle.directory.proofs.depths.add_directories.Given as goal

-- the directories found so far and those of the entries left are all of them
abbrev pub invariant-loop-entry : goal.invariant-loop-entry
invariant-loop-entry l = record {
  added : (b : ℕ) → (set.contains l.found.members b || (nat_lt b l.found.blocks && names_directory l.entry-iterator b)) ≡ (set.contains l.initial.found.members b || (nat_lt b l.initial.found.blocks && names_directory l.fn.list b));
  size : l.found.blocks ≡ l.initial.found.blocks;
}

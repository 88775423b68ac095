use Rattle.std.proofs.Common.{◌≡◌, ℕ, ◌<◌, false, length, get_or}
use Rattle.known_nodes.specs.Tables.{blocks_in, marks_in}
use Rattle.known_nodes.specs.WholeFiles.{is_step, is_linked}
use Rattle.known_nodes.proofs.whole_files.mark_linked.Given as goal

-- the blocks so far are marked
abbrev pub invariant-loop-block : goal.invariant-loop-block
invariant-loop-block l = record {
  all : length l.marks.items ≡ l.block;
  marks : (capacity : ℕ) → marks_in l.steps ≡ is_step capacity (blocks_in l.table) → (b : ℕ) → b < l.block → get_or l.marks.items b false ≡ is_linked capacity (blocks_in l.table) b;
}

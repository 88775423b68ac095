use Rattle.std.proofs.Common.{◌≡◌, ◌-◌}
use Rattle.known_nodes.specs.Tables.{blocks_in, marks_in}
use Rattle.known_nodes.specs.WholeFiles.{are_steps}
use Rattle.known_nodes.proofs.whole_files.is_linked.Given as goal

-- what is left of the nodes decides
abbrev pub invariant-loop : goal.invariant-loop
invariant-loop l = are_steps (marks_in l.steps) (blocks_in l.table) (l.index - l.counter) l.at ≡ are_steps (marks_in l.steps) (blocks_in l.table) l.index l.block

use Rattle.std.proofs.Common.{◌≡◌, ◌-◌, ◌++◌}
use Rattle.fs_types.specs.declared.limits.TheConstants.{MAX_NAMES}
use Rattle.salvages.specs.Lefts.{left_from, left_of}
use Rattle.known_nodes.specs.Tables.{blocks_in}
use Rattle.salvages.proofs.lefts.list_left.Given as goal

-- what the levels that are left bring is left
abbrev pub invariant-loop : goal.invariant-loop
invariant-loop l = l.all.items ++ left_from (MAX_NAMES - l.counter) (blocks_in l.known.nodes) l.level.items ≡ left_of (blocks_in l.known.nodes) l.root

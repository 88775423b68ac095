use Rattle.std.proofs.Common.{◌≡◌, ◌+◌, ◌-◌, ◌≤◌, ◌++◌}
use Rattle.fs_types.specs.declared.limits.TheConstants.{MAX_NAMES}
use Rattle.salvages.specs.Losses.{lost_from, lost_of, cost_from, cost_of}
use Rattle.known_nodes.specs.Tables.{blocks_in}
use Rattle.salvages.specs.declared.found.TheConstants.{MAX_COST}
use Rattle.salvages.proofs.walk.list_losses.Given as goal

-- what the levels that are left bring is left
abbrev pub invariant-loop : goal.invariant-loop
invariant-loop l = record {
  losses : l.found.losses.items ++ lost_from (MAX_NAMES - l.counter) l.known.capacity (blocks_in l.known.nodes) l.found.ways.items ≡ lost_of l.known.capacity (blocks_in l.known.nodes) l.root;
  cost : l.found.cost + cost_from (MAX_NAMES - l.counter) l.known.capacity (blocks_in l.known.nodes) l.found.ways.items ≡ cost_of l.known.capacity (blocks_in l.known.nodes) l.root;
  few : l.found.cost ≤ MAX_COST;
}

use Rattle.std.proofs.Common.{◌≡◌, ◌+◌, ◌≤◌, ◌++◌, drop}
use Rattle.std.specs.Prelude.{sum_by}
use Rattle.std.specs.List.{flat_map}
use Rattle.salvages.specs.Losses.{lost_under, cost_under}
use Rattle.known_nodes.specs.Tables.{blocks_in}
use Rattle.salvages.specs.declared.found.TheConstants.{MAX_COST}
use Rattle.salvages.proofs.walk.take_all_last.Given as goal

-- what the directories that are left bring is left
abbrev pub invariant-loop-way : goal.invariant-loop-way
invariant-loop-way l = record {
  losses : l.found.losses.items ++ flat_map (lost_under (blocks_in l.known.nodes)) (drop l.way-index l.ways) ≡ l.fn.found.losses.items ++ flat_map (lost_under (blocks_in l.known.nodes)) l.ways;
  cost : l.found.cost + sum_by (cost_under (blocks_in l.known.nodes)) (drop l.way-index l.ways) ≡ l.fn.found.cost + sum_by (cost_under (blocks_in l.known.nodes)) l.ways;
  few : l.found.cost ≤ MAX_COST;
}

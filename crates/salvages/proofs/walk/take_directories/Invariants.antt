use Rattle.std.proofs.Common.{◌≤◌, drop}
use Rattle.std.specs.Prelude.{sum_by}
use Rattle.std.specs.List.{flat_map}
use Rattle.salvages.specs.Losses.{lost_in, ways_in, cost_in}
use Rattle.known_nodes.specs.Tables.{blocks_in}
use Rattle.salvages.specs.declared.found.TheConstants.{MAX_COST}
use Rattle.salvages.proofs.Adding.{IsLeft}
use Rattle.salvages.proofs.walk.take_directories.Given as goal

-- what the directories that are left bring is left
abbrev pub invariant-loop-way : goal.invariant-loop-way
invariant-loop-way l = record {
  left : IsLeft (flat_map (lost_in l.known.capacity (blocks_in l.known.nodes)) l.ways) (flat_map (lost_in l.known.capacity (blocks_in l.known.nodes)) (drop l.way-index l.ways))
      (flat_map (ways_in (blocks_in l.known.nodes)) l.ways) (flat_map (ways_in (blocks_in l.known.nodes)) (drop l.way-index l.ways))
      (sum_by (cost_in l.known.capacity (blocks_in l.known.nodes)) l.ways) (sum_by (cost_in l.known.capacity (blocks_in l.known.nodes)) (drop l.way-index l.ways))
      l.fn.found l.found;
  few : l.found.cost ≤ MAX_COST;
}

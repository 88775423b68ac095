use Rattle.std.proofs.Common.{◌≤◌}
use Rattle.std.specs.Prelude.{sum_by}
use Rattle.std.specs.List.{flat_map}
use Rattle.salvages.specs.Losses.{lost_item, ways_item, item_cost}
use Rattle.known_nodes.specs.Tables.{blocks_in}
use Rattle.salvages.specs.declared.found.TheConstants.{MAX_COST}
use Rattle.salvages.proofs.Adding.{IsLeft}
use Rattle.salvages.proofs.walk.take_entries.Given as goal

-- what the entries that are left bring is left
abbrev pub invariant-loop-entry : goal.invariant-loop-entry
invariant-loop-entry l = record {
  left : IsLeft (flat_map (lost_item l.known.capacity (blocks_in l.known.nodes) l.path) l.fn.entries) (flat_map (lost_item l.known.capacity (blocks_in l.known.nodes) l.path) l.entry-iterator)
      (flat_map (ways_item l.path) l.fn.entries) (flat_map (ways_item l.path) l.entry-iterator)
      (sum_by (item_cost l.known.capacity (blocks_in l.known.nodes) l.path) l.fn.entries) (sum_by (item_cost l.known.capacity (blocks_in l.known.nodes) l.path) l.entry-iterator)
      l.fn.found l.found;
  few : l.found.cost ≤ MAX_COST;
}

use Rattle.std.proofs.Common.{◌≡◌, suc, ◌-◌}
use Rattle.std.specs.Prelude.{slice_index}
use Rattle.nodes.specs.Chains.{most_after}
use Rattle.reclaim.specs.Tables.{ends_from, has_link}
use Rattle.reclaim.proofs.table.Table.ends.Given as goal

-- the nodes that are left end as they all do
abbrev pub invariant-loop-node : goal.invariant-loop-node
invariant-loop-node l =
    ends_from (suc most_after - l.node) (has_link l.self) (slice_index l.self.words) l.at ≡ ends_from most_after (has_link l.self) (slice_index l.self.words) l.fn.first

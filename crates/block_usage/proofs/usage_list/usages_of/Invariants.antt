use Rattle.std.proofs.Common.{◌≡◌, ◌≤◌, take}
use Rattle.std.specs.Prelude.{sum_by}
use Rattle.nodes.specs.Words.{Looks}
use Rattle.block_usage.specs.Usages.{AreUsages, blocks_of}
use Rattle.block_usage.specs.declared.usage_fault.TheConstants.{MAX_USAGE_BLOCKS}
use Rattle.block_usage.proofs.usage_list.usages_of.Given as goal

-- the first places were counted, and reach so many blocks together
abbrev pub invariant-loop-path : goal.invariant-loop-path
invariant-loop-path g l = record {
  usages : AreUsages (g.N.Nodes.node l.fn.nodes) l.apart.members (take l.path-index l.places) l.found.items;
  sum : sum_by blocks_of l.found.items ≡ l.seen;
  few : l.seen ≤ MAX_USAGE_BLOCKS;
  looks : Looks g.N.Nodes l.fn.nodes l.nodes;
}

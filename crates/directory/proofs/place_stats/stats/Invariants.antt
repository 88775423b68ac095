use Rattle.std.proofs.Common.{◌≡◌, ◌≤◌, ◌+◌, take, map}
use Rattle.nodes.specs.Words.{Looks}
use Rattle.directory.specs.Places.{with_stat, nodes_of_all}
use Rattle.directory.proofs.place_stats.stats.Given as goal

-- what stands at the places so far
abbrev pub invariant-loop-name : goal.invariant-loop-name
invariant-loop-name g l = record {
  stats : l.entries ≡ map (with_stat (g.N.Nodes.node l.fn.nodes)) (take l.name-index l.fn.places);
  asks : g.N.Nodes.asked l.nodes ≤ g.N.Nodes.asked l.fn.nodes + nodes_of_all (g.N.Nodes.node l.fn.nodes) (take l.name-index l.fn.places);
  looks : Looks g.N.Nodes l.fn.nodes l.nodes;
}

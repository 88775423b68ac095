use Rattle.std.proofs.Common.{◌≡◌, sym, subst}
use Rattle.std.specs.Prelude.{IfOk}
use Rattle.nodes.specs.Trees.{IsRoot}
use Rattle.node_store.specs.NodePages.{node_of}
use Rattle.tree_differences.specs.Differing.{differing_paths}
use Rattle.working_state.specs.Seen.{capacity_of, tree_on}
use Rattle.system.proofs.stored_differences.differing_paths_on.Goals as goal

pub differing_paths_in-requires-clause-tree : goal.differing_paths_in-requires-clause-tree
differing_paths_in-requires-clause-tree g c =
    subst (λ flash. IsRoot (capacity_of (g.F.Flash.device flash.now)) (node_of (g.F.Flash.device flash.now)) c.args.root) (sym c.new-store.ensures.flash) c.requires.tree

pub differing_paths_in-requires-clause-other : goal.differing_paths_in-requires-clause-other
differing_paths_in-requires-clause-other g c =
    subst (λ flash. IsRoot (capacity_of (g.F.Flash.device flash.now)) (node_of (g.F.Flash.device flash.now)) c.args.other) (sym c.new-store.ensures.flash) c.requires.other

pub returns-clause-paths : goal.returns-clause-paths
returns-clause-paths g c =
    subst (λ flash. IfOk c.differing_paths_in.result (λ paths. paths ≡ differing_paths (node_of (g.F.Flash.device flash.now)) c.args.root c.args.other (tree_on (g.F.Flash.device flash.now) c.args.root))) c.new-store.ensures.flash
    c.differing_paths_in.ensures.paths

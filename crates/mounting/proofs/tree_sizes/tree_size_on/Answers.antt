use Rattle.std.proofs.Common.{◌≡◌, sym, subst}
use Rattle.std.specs.Prelude.{IfOk}
use Rattle.nodes.specs.Trees.{IsRoot}
use Rattle.node_store.specs.NodePages.{node_of}
use Rattle.tree_counts.specs.Sizes.{size_of}
use Rattle.working_state.specs.Seen.{capacity_of, tree_on}
use Rattle.mounting.proofs.tree_sizes.tree_size_on.Goals as goal

pub tree_size_in-requires-clause-tree : goal.tree_size_in-requires-clause-tree
tree_size_in-requires-clause-tree g c =
    subst (λ flash. IsRoot (capacity_of (g.F.Flash.device flash.now)) (node_of (g.F.Flash.device flash.now)) c.args.root) (sym c.new-store.ensures.flash) c.requires.tree

pub returns-clause-size : goal.returns-clause-size
returns-clause-size g c =
    subst (λ flash. IfOk c.tree_size_in.result (λ size. size ≡ size_of (tree_on (g.F.Flash.device flash.now) c.args.root))) c.new-store.ensures.flash c.tree_size_in.ensures.size

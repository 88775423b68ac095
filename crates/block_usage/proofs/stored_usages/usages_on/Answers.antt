use Rattle.std.proofs.Common.{sym, subst}
use Rattle.std.specs.Prelude.{IfOk}
use Rattle.nodes.specs.Trees.{IsRoot}
use Rattle.node_store.specs.NodePages.{node_of}
use Rattle.block_usage.specs.Usages.{IsListAt}
use Rattle.working_state.specs.Seen.{capacity_of}
use Rattle.block_usage.proofs.stored_usages.usages_on.Goals as goal

pub usages_in-requires-clause-tree : goal.usages_in-requires-clause-tree
usages_in-requires-clause-tree g c =
    subst (λ flash. IsRoot (capacity_of (g.F.Flash.device flash.now)) (node_of (g.F.Flash.device flash.now)) c.args.root) (sym c.new-store.ensures.flash) c.requires.tree

pub returns-clause-list : goal.returns-clause-list
returns-clause-list g c =
    subst (λ flash. IfOk c.usages_in.result (IsListAt (node_of (g.F.Flash.device flash.now)) c.args.root c.args.path.now c.args.apart.now.members)) c.new-store.ensures.flash c.usages_in.ensures.list

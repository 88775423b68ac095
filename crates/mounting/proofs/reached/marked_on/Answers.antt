use Rattle.std.proofs.Common.{sym, subst}
use Rattle.flash_model.specs.Geometry.{block_bytes}
use Rattle.node_store.specs.NodePages.{node_of}
use Rattle.reclaim.specs.Verified.{AreRoots}
use Rattle.mounting.proofs.reached.marked_on.Goals as goal

pub marked_in-requires-clause-trees : goal.marked_in-requires-clause-trees
marked_in-requires-clause-trees g c =
    subst (λ flash. AreRoots (block_bytes (g.F.Flash.device flash.now).geometry) (node_of (g.F.Flash.device flash.now)) c.args.roots.now) (sym c.new-store.ensures.flash) c.requires.trees

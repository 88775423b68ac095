use Rattle.std.proofs.Common.{sym, subst}
use Rattle.flash_model.specs.Geometry.{block_bytes}
use Rattle.node_store.specs.NodePages.{node_of}
use Rattle.reclaim.specs.Verified.{AreRoots}
use Rattle.mounting.proofs.reached.first_roots_on.Goals as goal

pub first_roots_in-requires-clause-trees : goal.first_roots_in-requires-clause-trees
first_roots_in-requires-clause-trees g c =
    subst (λ flash. AreRoots (block_bytes (g.F.Flash.device flash.now).geometry) (node_of (g.F.Flash.device flash.now)) c.args.roots.now) (sym c.new-store.ensures.flash) c.requires.trees

use Rattle.std.proofs.Common.{◌≡◌, map, sym, subst}
use Rattle.std.specs.Prelude.{IfOk}
use Rattle.flash_model.specs.Geometry.{block_bytes}
use Rattle.node_store.specs.NodePages.{node_of}
use Rattle.reclaim.specs.Verified.{AreRoots}
use Rattle.tree_counts.specs.Sizes.{size_of}
use Rattle.working_state.specs.Seen.{tree_on}
use Rattle.stored_sizes.proofs.stored.sizes_of_roots_on.Goals as goal

pub sizes_in-requires-clause-trees : goal.sizes_in-requires-clause-trees
sizes_in-requires-clause-trees g c =
    subst (λ flash. AreRoots (block_bytes (g.F.Flash.device flash.now).geometry) (node_of (g.F.Flash.device flash.now)) c.args.roots.now) (sym c.new-store.ensures.flash) c.requires.trees

pub returns-clause-sizes : goal.returns-clause-sizes
returns-clause-sizes g c =
    subst (λ flash. IfOk c.sizes_in.result (λ sizes. sizes.items ≡ map (λ root. size_of (tree_on (g.F.Flash.device flash.now) root)) c.args.roots.now)) c.new-store.ensures.flash c.sizes_in.ensures.sizes

use Rattle.std.proofs.Common.{ℕ, sym, subst}
use Rattle.flash_model.specs.Geometry.{block_bytes}
use Rattle.history_machine.specs.History.{Past}
use Rattle.node_store.specs.NodePages.{node_of}
use Rattle.reclaim.specs.Verified.{AreRoots}
use Rattle.mounting.specs.Records.{roots_of}
use Rattle.block_usage.proofs.maps.map_blocks.Goals as goal

pub map_state-requires-clause-trees : goal.map_state-requires-clause-trees
map_state-requires-clause-trees g c =
    let e = g.F.Flash.device c.mount.new.flash in
    subst (λ (h : Past ℕ). AreRoots (block_bytes e.geometry) (node_of e) (roots_of h)) (sym c.in-Ok.ensures.ok.loaded.history) c.in-Ok.ensures.ok.loaded.trees.0

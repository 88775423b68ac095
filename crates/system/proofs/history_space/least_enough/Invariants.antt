use Rattle.std.proofs.Common.{ℕ, ◌<◌, reverse}
use Rattle.flash_model.specs.Device.{Device}
use Rattle.node_store.specs.NodePages.{node_of}
use Rattle.tree_counts.specs.FirstRoots.{AreFirstRoots}
use Rattle.working_state.specs.Mounted.{IsMounted}
use Rattle.mounting.specs.Records.{working_roots}
use Rattle.system.specs.HistorySpace.{FreeAfter}
use Rattle.system.proofs.history_space.least_enough.Given as goal

-- no number so far is enough
abbrev pub invariant-loop-count : goal.invariant-loop-count
invariant-loop-count l =
    (d : Device) → IsMounted d l.state → AreFirstRoots (node_of d) (reverse (working_roots l.state)) l.lasts → (fewer : ℕ) → fewer < l.count → (free : ℕ) × FreeAfter d l.state fewer free × (free < l.blocks)

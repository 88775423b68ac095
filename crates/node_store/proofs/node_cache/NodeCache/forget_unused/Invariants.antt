use Rattle.std.proofs.Common.{◌≡◌, length}
use Rattle.std.specs.FinSet as set
use Rattle.node_store.specs.NodeCache.{with_blocks}
use Rattle.node_store.proofs.node_cache.NodeCache.forget_unused.Given as goal

abbrev pub invariant-unused : goal.invariant-unused
invariant-unused l = record {
  rest : with_blocks (set.contains l.ring.used) l.self.entries ≡ with_blocks (set.contains l.ring.used) l.initial.self.entries;
  room : l.self.room ≡ l.initial.self.room;
}

abbrev pub decreases-unused : goal.decreases-unused
decreases-unused l = length l.self.entries

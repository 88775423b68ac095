use Rattle.std.proofs.Common.{◌≡◌, ◌<◌}
use Rattle.std.specs.FinSet as set
use Rattle.fs_types.specs.declared.limits.TheConstants.{MAX_BAD_BLOCKS}
use Rattle.block_ring.specs.Ring.{free_count}
use Rattle.node_store.specs.Fitting.{StillFits, ListsNoneTried}
use Rattle.node_store.specs.Storage.{Evolved, PassesBad, Pays, Spends}
use Rattle.node_store.specs.Stores.{storage_on}
use Rattle.node_store.proofs.added_nodes.place_node.Given as goal

abbrev pub invariant-attempts : goal.invariant-attempts
invariant-attempts g l = record {
  same : l.node.items ≡ l.initial.node.items;
  evolved : Evolved (storage_on (g.F.Flash.device l.initial.flash) l.initial.storage) (storage_on (g.F.Flash.device l.flash) l.storage);
  fits : StillFits (g.F.Flash.device l.initial.flash) l.initial.storage (g.F.Flash.device l.flash) l.storage;
  pays : Pays (storage_on (g.F.Flash.device l.initial.flash) l.initial.storage) (storage_on (g.F.Flash.device l.flash) l.storage) 0;
  passes : PassesBad (storage_on (g.F.Flash.device l.initial.flash) l.initial.storage) (storage_on (g.F.Flash.device l.flash) l.storage);
  unlisted : ListsNoneTried l.initial.storage l.storage;
  room : set.len l.storage.bad < MAX_BAD_BLOCKS;
  was_room : set.len l.initial.storage.bad < MAX_BAD_BLOCKS;
  operations : Spends (storage_on (g.F.Flash.device l.initial.flash) l.initial.storage) (storage_on (g.F.Flash.device l.flash) l.storage) l.initial.node.items;
}

abbrev pub decreases-attempts : goal.decreases-attempts
decreases-attempts g l = free_count l.storage.ring l.storage.bad

-- What of a damaged flash is left of a tree that is not whole, and why it is not made.
use Rattle.std.specs.Prelude.{◌≡◌, ◌⊎◌, ◌<◌, ℕ, Option, Some, None, Ok, List, map, slice_get}
use Rattle.std.specs.FinMap.{get}
use Rattle.fs_types.specs.declared.call.Call.{Call}
use Rattle.fs_types.specs.declared.call.Version.{Version}
use Rattle.flash_model.specs.Device.{Device}
use Rattle.plain_trees.specs.Contents.{Contents}
use Rattle.plain_trees.specs.Trees.{Tree, bare}
use Rattle.node_store.specs.NodePages.{node_of}
use Rattle.record_format.specs.declared.record.Record.{Record}
use Rattle.anchors.specs.Newest.{committed_on}
use Rattle.mounting.specs.Records.{knows_plain_only}
use Rattle.tree_differences.specs.UpdateLaws.{Brings}
use Rattle.working_state.specs.Seen.{capacity_of}
use Rattle.salvages.specs.Lefts.{rest_bytes}
use Rattle.salvages.specs.Losses.{lost_of, cost_of}
use Rattle.known_nodes.specs.Rests.{rest_of}
use Rattle.salvages.specs.Salvages.{SalvageCause}
use Rattle.salvages.specs.Told.{rest_root}
use Rattle.salvages.specs.Wholes.{IsWhole}
use Rattle.salvages.specs.declared.found.TheConstants.{MAX_COST}
use Rattle.salvages.specs.declared.losses.LossFault.{LossFault}
use Rattle.salvages.specs.declared.making.TheConstants.{MAX_BYTES}
use Rattle.salvages.specs.declared.making.Rest.{Rest}

-- calls bring the root alone to a tree that has just this at each path
pub record Makes (contents : Contents) (calls : List Call) : Type 0 where
  pub tree : Tree
  pub has : get tree ≡ contents
  pub brings : Brings bare tree calls

-- what is told with a rest of the record: how many versions it keeps, their serials, and the names of its checkpoints
pub record IsBeside (newest : Record) (rest : Rest) : Type 0 where
  pub limit : rest.limit ≡ newest.limit
  pub serials : rest.serials.items ≡ map (λ version. version.serial) newest.versions
  pub names : rest.names.items ≡ map (λ checkpoint. checkpoint.name) newest.checkpoints

-- calls make just the rest of the tree of a root, and what is missing from that is told
pub record IsRest (d : Device) (newest : Record) (root : ℕ) (rest : Rest) : Type 0 where
  pub makes : Makes (rest_of d root) rest.calls.items
  pub losses : rest.losses.items ≡ lost_of (capacity_of d) (node_of d) root
  pub beside : IsBeside newest rest

-- there is one where there is a root
abbrev pub IsRestAt : Device → Record → Option ℕ → Option Rest → Type 0
IsRestAt d newest None found = found ≡ None
IsRestAt d newest (Some root) found = (rest : Rest) × (found ≡ Some rest) × IsRest d newest root rest

-- where the tree of the present version is not whole it is the rest of that, or where the first node of its root is lost of the
-- newest version whose root has one; none where it is whole, or no root has one
pub record IsRestOf (d : Device) (found : Option Rest) : Type 0 where
  pub newest : Record
  pub holds : committed_on d ≡ Some (Ok newest)
  pub present : Version ℕ
  pub is_present : slice_get newest.versions newest.cursor ≡ Some present
  pub whole : IsWhole (knows_plain_only newest) d present.root → found ≡ None
  pub broken : (IsWhole (knows_plain_only newest) d present.root → ⊥) → IsRestAt d newest (rest_root (node_of d) newest) found

-- the rest costs more to look through than it may, or its files have too many bytes
pub record HasTooMuch (d : Device) : Type 0 where
  pub newest : Record
  pub holds : committed_on d ≡ Some (Ok newest)
  pub root : ℕ
  pub is_rest : rest_root (node_of d) newest ≡ Some root
  pub much : (MAX_COST < cost_of (capacity_of d) (node_of d) root) ⊎ (MAX_BYTES < rest_bytes (capacity_of d) (node_of d) root)

-- why none is found
abbrev pub UnmadeCause : Device → Device → LossFault → Type 0
UnmadeCause old new (LossFault.Refused fault) = SalvageCause old new fault
UnmadeCause old new LossFault.TooManyLines = HasTooMuch old

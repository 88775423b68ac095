-- What is left of a damaged flash, alone on another one.
use Rattle.std.specs.Prelude.{◌≡◌, ◌≢◌, ◌⊎◌, ℕ, Option, Some, None, Ok, List, slice_get}
use Rattle.std.specs.FinMap.{get}
use Rattle.fs_types.specs.declared.call.Call.{Call}
use Rattle.fs_types.specs.declared.call.Version.{Version}
use Rattle.fs_types.specs.declared.fault.Fault.{Fault}
use Rattle.flash_model.specs.Device.{Device}
use Rattle.flash_model.specs.declared.geometry.Geometry.{Geometry}
use Rattle.flash_simulation.specs.Simulation.{device_of}
use Rattle.flash_simulation.specs.declared.sim_flash.SimFlash.{SimFlash}
use Rattle.plain_trees.specs.Trees.{Tree, bare}
use Rattle.node_store.specs.NodePages.{node_of}
use Rattle.record_format.specs.declared.record.Record.{Record}
use Rattle.anchors.specs.Newest.{committed_on}
use Rattle.mounting.specs.Records.{knows_plain_only}
use Rattle.tree_differences.specs.UpdateLaws.{Brings}
use Rattle.known_nodes.specs.Rests.{rest_of}
use Rattle.salvages.specs.Told.{rest_root}
use Rattle.salvages.specs.Wholes.{IsWhole}
use Rattle.salvages.specs.declared.making.Rest.{Rest}
use Rattle.copies.specs.Added.{AloneCause, HoldsAlone}
use Rattle.copies.specs.declared.uncopied.Uncopied.{Uncopied}
use Rattle.script_runs.specs.Flashes.{IsMade}
use Rattle.image_jobs.specs.Images.{FormatFailure}
use Rattle.image_jobs.specs.declared.failure.Failure.{Failure}
use Rattle.copy_jobs.specs.Failures.{of_uncopied}

-- a flash of these sizes has one version, of just the rest of the tree of a root, and keeps as many as a record
pub record HasRest (d : Device) (newest : Record) (sizes : Geometry) (root : ℕ) (one : SimFlash) : Type 0 where
  pub tree : Tree
  pub is_rest : get tree ≡ rest_of d root
  pub alone : HoldsAlone newest.limit tree (device_of one)
  pub geometry : (device_of one).geometry ≡ sizes

-- there is such a flash where there is a root
abbrev pub HasRestAt : Device → Record → Geometry → Option ℕ → Option SimFlash → Type 0
HasRestAt d newest sizes None found = found ≡ None
HasRestAt d newest sizes (Some root) found = (one : SimFlash) × (found ≡ Some one) × HasRest d newest sizes root one

-- where the tree of the present version of a damaged flash is not whole it has the rest of that, or where the first node of its root is
-- lost of the newest version whose root has one; there is none where it is whole, or no root has one
pub record IsRestFlash (d : Device) (sizes : Geometry) (found : Option SimFlash) : Type 0 where
  pub newest : Record
  pub holds : committed_on d ≡ Some (Ok newest)
  pub present : Version ℕ
  pub is_present : slice_get newest.versions newest.cursor ≡ Some present
  pub whole : IsWhole (knows_plain_only newest) d present.root → found ≡ None
  pub broken : (IsWhole (knows_plain_only newest) d present.root → ⊥) → HasRestAt d newest sizes (rest_root (node_of d) newest) found

-- calls bring a tree that has nothing but a root to another one
abbrev pub LeadOn : List Call → Type 0
LeadOn calls = (t : Tree) × Brings bare t calls

-- a flash of these sizes has one version, of the tree to which the calls of a rest lead
pub record HoldsRest (sizes : Geometry) (rest : Rest) (one : SimFlash) : Type 0 where
  pub holds : (t : Tree) → Brings bare t rest.calls.items → HoldsAlone rest.limit t (device_of one)
  pub geometry : (device_of one).geometry ≡ sizes

-- there is such a flash where there is a rest
abbrev pub HoldsRestOf : Geometry → Option Rest → Option SimFlash → Type 0
HoldsRestOf sizes None found = found ≡ None
HoldsRestOf sizes (Some rest) found = (one : SimFlash) × (found ≡ Some one) × HoldsRest sizes rest one

-- on a new flash the calls of a rest stop, or it has other sizes after them
abbrev pub StopsRest : Geometry → Rest → SimFlash → Failure → Type 0
StopsRest sizes rest one failure = ((left : Device) × (why : Uncopied) × AloneCause rest.calls.items (device_of one) left why × (failure ≡ of_uncopied why))
    ⊎ ((made : SimFlash) × ((device_of made).geometry ≢ sizes) × (failure ≡ Failure.System Fault.BadGeometry))

-- why a rest is not made on a flash of these sizes: there is none, or its calls stop
abbrev pub IsUnformed : Geometry → Rest → Failure → Type 0
IsUnformed sizes rest failure = FormatFailure sizes rest.limit failure ⊎ ((one : SimFlash) × IsMade sizes rest.limit one × StopsRest sizes rest one failure)

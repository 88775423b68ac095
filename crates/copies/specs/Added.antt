-- A tree that is made on a flash alone, and a version that is added to a history.
use Rattle.std.specs.Prelude.{◌≡◌, ◌⊎◌, ℕ, ◌+◌, Some, List, [], ◌∷◌, ◌++◌, length}
use Rattle.fs_types.specs.Names.{Path}
use Rattle.fs_types.specs.declared.call.Call.{Call}
use Rattle.fs_types.specs.declared.fault.Fault.{Fault}
use Rattle.flash_model.specs.Device.{Device}
use Rattle.flash_model.specs.Reading.{OnlyReads}
use Rattle.plain_trees.specs.Trees.{Tree, bare}
use Rattle.history_copies.specs.Copies.{roots_in}
use Rattle.history_copies.specs.Laws.{IsBuilt, bringing}
use Rattle.history_machine.specs.History.{Past, fresh, gone_to}
use Rattle.history_machine.specs.Machine.{Machine, mounted, working_tree}
use Rattle.mounting.specs.Formats.{IsFormatted}
use Rattle.mounting.specs.Saved.{saved_trees}
use Rattle.undofs.specs.Refusals.{RefusesMount}
use Rattle.updates.specs.Asked.{AreSmall}
use Rattle.copies.specs.Calls.{Stops, StopsMoving}
use Rattle.copies.specs.Causes.{NotCopied}
use Rattle.copies.specs.Copied.{HasTrees}
use Rattle.copies.specs.declared.uncopied.Uncopied.{Uncopied}

-- the newest record of a flash has one version alone, of this tree, and no checkpoint
pub record HoldsAlone (limit : ℕ) (t : Tree) (d : Device) : Type 0 where
  pub history : Past Tree
  pub saved : saved_trees d ≡ Some history
  pub has : HasTrees limit (t ∷ []) 0 [] history

-- the calls that make a version of changes stop, or one that comes after them
abbrev pub StopsMaking : Machine → List Call → Device → Fault → Type 0
StopsMaking m calls left fault = ((path : Path) × Stops m (bringing calls path) left fault) ⊎ StopsMoving left fault

-- why a tree is not made on a flash that a format left, which is left so: it is not mounted, or the calls stop that make it there
abbrev pub AloneCause : List Call → Device → Device → Uncopied → Type 0
AloneCause calls d left (Uncopied.Unready fault) = RefusesMount d left fault
AloneCause calls d left (Uncopied.Refused fault) = (limit : ℕ) × IsFormatted limit d × StopsMaking (mounted (fresh limit bare)) calls left fault
AloneCause calls d left _ = ⊥

-- a machine is at the newest version of a history
pub record IsAtNewest (h : Past Tree) (m : Machine) : Type 0 where
  pub serial : ℕ
  pub is : m ≡ mounted (gone_to h serial)
  pub newest : (gone_to h serial).cursor + 1 ≡ length h.versions

-- the newest record of a flash has the trees of a history and one more, of which the newest stay for which there is room. That one is
-- the present one, and the checkpoints are those of the history
pub record HasOneMore (h : Past Tree) (t : Tree) (d : Device) : Type 0 where
  pub history : Past Tree
  pub saved : saved_trees d ≡ Some history
  pub built : IsBuilt h.limit (roots_in h.versions ++ t ∷ []) history
  pub kept : history.checkpoints ≡ h.checkpoints

-- why a version of the present tree of a machine is not added after one of this tree, which left the flashes so: one of the two trees
-- has too much, or what stops a copy
abbrev pub NotAdded : Machine → Tree → Device → Device → Device → Uncopied → Type 0
NotAdded m t first left second Uncopied.TooManyLines = AreSmall t (working_tree m) → ⊥
NotAdded m t first left second why = NotCopied m first left second why

-- the same, after a version of a history
abbrev pub NotAddedAfter : Machine → Past Tree → Device → Device → Device → Uncopied → Type 0
NotAddedAfter m h first left second why = (serial : ℕ) × NotAdded m (working_tree (mounted (gone_to h serial))) first left second why

-- the same, of a second flash that may not be mounted
abbrev pub NotAddedTo : Machine → Device → Device → Device → Device → Uncopied → Type 0
NotAddedTo m first left second other (Uncopied.Unready fault) = RefusesMount second other fault
NotAddedTo m first left second other why = (h : Past Tree) × (saved_trees second ≡ Some h) × NotAddedAfter m h first left other why

-- the first flash is mounted, and none is added
pub record AddsNot (first second left other : Device) (why : Uncopied) : Type 0 where
  pub history : Past Tree
  pub saved : saved_trees first ≡ Some history
  pub device : Device
  pub reads : OnlyReads first device
  pub cause : NotAddedTo (mounted history) device left second other why

-- why none is added to the second flash
abbrev pub AddCause : Device → Device → Device → Device → Uncopied → Type 0
AddCause first second left other (Uncopied.Unmounted fault) = RefusesMount first left fault
AddCause first second left other why = AddsNot first second left other why

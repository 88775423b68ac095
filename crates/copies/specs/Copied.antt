-- A file system that is a copy of another one.
use Rattle.std.specs.Prelude.{◌≡◌, ℕ, None, Some, List}
use Rattle.fs_types.specs.declared.call.View.{View}
use Rattle.flash_model.specs.Device.{Device}
use Rattle.plain_trees.specs.Trees.{Tree}
use Rattle.history_machine.specs.History.{Past, view_refusal}
use Rattle.history_machine.specs.Machine.{Machine, view_tree}
use Rattle.history_copies.specs.Copies.{IsCopy, roots_in}
use Rattle.history_copies.specs.Laws.{IsBuilt}
use Rattle.mounting.specs.Saved.{saved_trees}
use Rattle.system.specs.Mounts.{IsMountOf}
use Rattle.system.specs.declared.systems.System.{System}
use Rattle.working_state.specs.Seen.{machine_on}

-- a history was built of these trees, and has these checkpoints
pub record Holds (limit : ℕ) (trees : List Tree) (checkpoints : List (List ℕ × Tree)) (h : Past Tree) : Type 0 where
  pub built : IsBuilt limit trees h
  pub kept : h.checkpoints ≡ checkpoints

-- its versions have just these trees, and the one at a place is present
pub record HasTrees (most : ℕ) (all : List Tree) (place : ℕ) (checkpoints : List (List ℕ × Tree)) (h : Past Tree) : Type 0 where
  pub limit : h.limit ≡ most
  pub trees : roots_in h.versions ≡ all
  pub cursor : h.cursor ≡ place
  pub kept : h.checkpoints ≡ checkpoints

-- the newest record of a flash has a copy of what a machine shows, which keeps so many versions
pub record IsCopiedTo (most : ℕ) (m : Machine) (d : Device) : Type 0 where
  pub history : Past Tree
  pub saved : saved_trees d ≡ Some history
  pub limit : history.limit ≡ most
  pub copy : IsCopy m.history history

-- the newest record of the first flash is mounted, and that of the second is a copy of it
pub record IsCopied (limit : ℕ) (first second : Device) : Type 0 where
  pub device : Device
  pub system : System
  pub mounted : IsMountOf first device system
  pub copied : IsCopiedTo limit (machine_on device system.state) second

-- a checkpoint is there, and has the tree of a version
pub record IsShared (m : Machine) (serial : ℕ) (name : List ℕ) : Type 0 where
  pub there : view_refusal m.history (View.Checkpoint name) ≡ None
  pub same : view_tree m (View.Checkpoint name) ≡ view_tree m (View.Serial serial)

-- What a record holds, and the working state that is made of it.
use Rattle.std.specs.Prelude.{Bool, ◌==◌, ◌≡◌, ◌⊎◌, ◌↔◌, ℕ, ◌<◌, true, false, Option, Some, None, List, [], ◌∷◌, ◌++◌, map}
use Rattle.std.specs.FinSet as set
use Rattle.history_machine.specs.History.{Past, map_roots}
use Rattle.history_machine.specs.Machine.{mounted}
use Rattle.plain_trees.specs.Trees.{Tree}
use Rattle.fs_types.specs.declared.call.Group.{Group}
use Rattle.fs_types.specs.declared.fault.Fault.{Fault}
use Rattle.fs_types.specs.declared.fault.Fault.TheVariants.{Damaged, ReadFailed, PowerCut, NoMemory}
use Rattle.flash_model.specs.Device.{Device}
use Rattle.flash_model.specs.Geometry.{block_bytes}
use Rattle.node_store.specs.NodePages.{node_of}
use Rattle.nodes.specs.Reached.{Reached}
use Rattle.reclaim.specs.Sound.{IsPlain}
use Rattle.reclaim.specs.Verified.{AreRoots}
use Rattle.record_format.specs.declared.formats.TheConstants.{OLD_FORMAT}
use Rattle.record_format.specs.declared.record.Record.{Record}
use Rattle.working_state.specs.Seen.{tree_on, machine_on}
use Rattle.working_state.specs.Mounted.{IsMounted}
use Rattle.working_state.specs.declared.state.State.{State}

-- the history that a record holds, by the blocks of its roots
abbrev pub history_of : Record → Past ℕ
history_of r = record {
  versions = r.versions;
  cursor = r.cursor;
  dropped = r.dropped;
  next = r.next;
  checkpoints = map (λ c. (c.name, c.root)) r.checkpoints;
  limit = r.limit;
}

-- the roots of all versions and checkpoints
abbrev pub roots_of : Past ℕ → List ℕ
roots_of h = map (λ v. v.root) h.versions ++ map (λ e. e.1) h.checkpoints

-- the root of a group, where one is open
abbrev pub group_roots : Option (Group ℕ) → List ℕ
group_roots None = []
group_roots (Some g) = g.root ∷ []

-- the roots of a state: of its versions and checkpoints, and of its group
abbrev pub working_roots : State → List ℕ
working_roots s = roots_of s.history ++ group_roots s.group

-- the history that a record holds, with the tree that a flash has of each root
abbrev pub trees_of : Device → Record → Past Tree
trees_of d r = map_roots (tree_on d) (history_of r)

-- each of these roots has a tree of linked bodies; where they are to be plain, each directory in it is a node that stands alone
abbrev pub HaveTrees : Bool → Device → List ℕ → Type 0
HaveTrees plain d roots = AreRoots (block_bytes d.geometry) (node_of d) roots × (plain ≡ true → IsPlain (node_of d) roots)

-- the format of a record knows no other directories
abbrev pub knows_plain_only : Record → Bool
knows_plain_only r = r.format == OLD_FORMAT

-- each version and checkpoint of a record has a tree of linked bodies, with directories of its format
abbrev pub HasTrees : Device → Record → Type 0
HasTrees d r = HaveTrees (knows_plain_only r) d (roots_of (history_of r))

-- a working state is what a record holds: its history, with no file open, its bad blocks, and the last block that was
-- taken. Used are exactly the blocks that its roots reach
pub record IsLoaded (d : Device) (r : Record) (state : State) : Type 0 where
  pub history : state.history ≡ history_of r
  pub machine : machine_on d state ≡ mounted (trees_of d r)
  pub mounted : IsMounted d state
  pub is_on : state.is_off ≡ false
  pub bad : state.storage.bad ≡ set.from_list r.bad
  pub last : state.storage.ring.last ≡ r.last
  pub used : (b : ℕ) → (set.contains state.storage.ring.used b ≡ true) ↔ Reached (node_of d) (roots_of (history_of r)) b
  pub trees : HasTrees d r

-- why trees of roots are not found
abbrev pub RootsCause : Bool → Device → List ℕ → Device → Fault → Type 0
RootsCause plain old roots new Damaged = HaveTrees plain old roots → ⊥
RootsCause plain old roots new ReadFailed = old.failed_reads < new.failed_reads
RootsCause plain old roots new PowerCut = new.powered ≡ false
RootsCause plain old roots new NoMemory = Unit {0}
RootsCause plain old roots new _ = ⊥

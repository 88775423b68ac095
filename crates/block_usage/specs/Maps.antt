-- The map of a flash, and why there is none.
use Rattle.std.specs.Prelude.{◌≡◌, ◌↔◌, ℕ, ◌<◌, Bool, true, false, Option, Some, None, List}
use Rattle.std.specs.FinSet as set
use Rattle.std.specs.Ordering.{nat_cmp}
use Rattle.fs_types.specs.declared.fault.Fault.{Fault}
use Rattle.fs_types.specs.declared.fault.Fault.TheVariants.{NoMemory, PowerCut, ReadFailed}
use Rattle.flash_model.specs.Device.{Device}
use Rattle.flash_model.specs.Geometry.{IsGeometry}
use Rattle.flash_model.specs.Reading.{OnlyReads}
use Rattle.history_machine.specs.History.{Past}
use Rattle.nodes.specs.Reached.{Reached}
use Rattle.node_store.specs.NodePages.{node_of}
use Rattle.node_store.specs.Fitting.{Fits}
use Rattle.node_store.specs.declared.storage.Storage.{Storage}
use Rattle.system.specs.Mounts.{IsMountOf, MountCause}
use Rattle.system.specs.declared.systems.System.{System}
use Rattle.block_usage.specs.Kinds.{AreKinds, HasNewest, IsFree, IsKind, checkpoint_roots, other_roots, present_roots}
use Rattle.block_usage.specs.declared.block_kind.BlockKind.{BlockKind}
use Rattle.block_usage.specs.declared.block_facts.Facts.{Facts}
use Rattle.block_usage.specs.declared.maps.MapFault.{MapFault}

-- what the newest record of a flash holds is mounted, by reads alone, and these are the kinds of the blocks then
pub record IsMap (given : Device) (kinds : List BlockKind) : Type 0 where
  pub device : Device
  pub system : System
  pub reads : OnlyReads given device
  pub mounted : IsMountOf given device system
  pub are : AreKinds device system.state.history system.state.storage.bad kinds

-- why reads of nodes and pages, and memory for them, are refused
abbrev pub ReadsCause : Device → Device → Fault → Type 0
ReadsCause old new ReadFailed = old.failed_reads < new.failed_reads
ReadsCause old new PowerCut = new.powered ≡ false
ReadsCause old new NoMemory = Unit {0}
ReadsCause old new _ = ⊥

-- why there is no map: nothing is mounted; or, once it is, by what the reading met
abbrev pub MapCause : Device → Device → MapFault → Type 0
MapCause given left (MapFault.Unmounted fault) = MountCause given left fault
MapCause given left (MapFault.Refused fault) = ReadsCause given left fault

-- The parts of a map.

-- the sizes are lawful, the ring is one of this flash, and what nodes are kept with fits it
pub record IsReady (d : Device) (s : Storage) : Type 0 where
  pub lawful : IsGeometry d.geometry
  pub ring_blocks : s.ring.blocks ≡ d.geometry.blocks
  pub fits : Fits d s

-- exactly these blocks are reached by some roots
abbrev pub AreMarked : Device → List ℕ → set.FinSet nat_cmp → Type 0
AreMarked d roots blocks = (b : ℕ) → (set.contains blocks b ≡ true) ↔ Reached (node_of d) roots b

-- the anchor of the newest record is known, and what reaches each block
pub record Knows (d : Device) (h : Past ℕ) (facts : Facts) : Type 0 where
  pub newest : HasNewest d facts.newest
  pub present : AreMarked d (present_roots h) facts.present.members
  pub others : AreMarked d (other_roots h) facts.others.members
  pub checkpoints : AreMarked d (checkpoint_roots h) facts.checkpoints.members

-- the kind of a block that the present version reaches, other versions, or checkpoints
abbrev pub reached_kind : Bool → Bool → Bool → Option BlockKind
reached_kind true false false = Some BlockKind.Present
reached_kind true _ _ = Some BlockKind.Shared
reached_kind false true _ = Some BlockKind.Other
reached_kind false false true = Some BlockKind.Checkpoint
reached_kind false false false = None

-- the kind of a block, where its pages need not be looked at; else it is free
abbrev pub IsKnownKind : Device → Past ℕ → set.FinSet nat_cmp → ℕ → Option BlockKind → Type 0
IsKnownKind d h bad b (Some kind) = IsKind d h bad b kind
IsKnownKind d h bad b None = IsFree d h bad b

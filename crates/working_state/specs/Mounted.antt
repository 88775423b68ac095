-- What holds of a flash and the working state on it between calls.
use Rattle.std.specs.Prelude.{◌≡◌, ℕ, true, false, Result, Ok, IfOk, OnErr}
use Rattle.std.specs.FinSet as set
use Rattle.history_machine.specs.Machine.{Machine, IsMachine, Space, answer}
use Rattle.fs_types.specs.declared.call.Call.{Call}
use Rattle.fs_types.specs.declared.call.Reply.{Reply}
use Rattle.fs_types.specs.declared.fault.Fault.{Fault}
use Rattle.flash_model.specs.Device.{Device, block_of}
use Rattle.flash_model.specs.Geometry.{IsGeometry}
use Rattle.block_ring.specs.Ring.{Ring}
use Rattle.node_format.specs.declared.place.Place.TheVariants.{Dir}
use Rattle.node_store.specs.Fitting.{Fits}
use Rattle.node_store.specs.NodePages.{node_of}
use Rattle.nodes.specs.Trees.{IsRoot}
use Rattle.nodes.specs.Reached.{IsHeld}
use Rattle.working_state.specs.Leaves.{Leaves}
use Rattle.working_state.specs.Roots.{HasRoot, IsReached, ReachesNew, IsSpace}
use Rattle.working_state.specs.Seen.{capacity_of, machine_on, shown_on}
use Rattle.working_state.specs.Steps.{tells_space, CallStep}
use Rattle.working_state.specs.declared.state.State.{State}

-- a root has a tree, and the ring has all that it reaches as used
pub record IsStanding (device : Device) (ring : Ring) (root : ℕ) : Type 0 where
  pub held : IsHeld (node_of device) (set.contains ring.used) (Dir root)
  pub rooted : IsRoot (capacity_of device) (node_of device) root

-- the sizes are lawful, the ring is of this flash, what nodes are kept with fits it, the roots of all versions and
-- checkpoints and of the group stand, and what it shows is a machine: so each open file is a file of the tree that
-- calls work on. Where a call answered that the power is off, it is
pub record IsMounted (device : Device) (state : State) : Type 0 where
  pub lawful : IsGeometry device.geometry
  pub ring_blocks : state.storage.ring.blocks ≡ device.geometry.blocks
  pub fits : Fits device state.storage
  pub roots : (root : ℕ) → HasRoot state root → IsStanding device state.storage.ring root
  pub machine : IsMachine (machine_on device state)
  pub off : state.is_off ≡ true → device.powered ≡ false

-- where a call tells the space that is left, it is that of this flash and state
abbrev pub TellsSpace : Machine → Call → Result Reply Fault → Device → State → Type 0
TellsSpace m call result new t = tells_space call ≡ true
    → IfOk result (λ reply. (space : Space) × IsSpace new t space × (answer space m call ≡ Ok reply))

-- a call's step, as it is seen of the flash and the state before and after, and what it leaves of them, and which
-- blocks the versions, the checkpoints and the group reach then. A refused one leaves the history and the group.
-- Once a call has answered that the power is off, nothing changes
pub record StateStep (old : Device) (s : State) (call : Call) (result : Result Reply Fault) (new : Device) (t : State)
    : Type 0 where
  pub step : CallStep (shown_on old s) call result (shown_on new t)
  pub leaves : Leaves (machine_on old s) call old s.storage new t.storage
  pub told : TellsSpace (machine_on old s) call result new t
  pub reached : ReachesNew old s new t
  pub refused : OnErr result (t.history ≡ s.history)
  pub regrouped : OnErr result (t.group ≡ s.group)
  pub stopped : s.is_off ≡ true → (new ≡ old) × (t ≡ s)

-- no page changed of a block that a version, a checkpoint or the group reaches
abbrev pub KeepsPages : Device → State → Device → Type 0
KeepsPages old s new = (p : ℕ) → IsReached old s (block_of old p) → new.pages p ≡ old.pages p

-- How much stands in the tree of a view, as it is told.
use Rattle.std.specs.Prelude.{◌≡◌, ◌⊎◌, ◌==◌, Bool, true, false, [], ◌∷◌, ℕ, Some, None, Result, Ok, Err}
use Rattle.std.specs.Option.{option_or}
use Rattle.history_machine.specs.History.{view_refusal, seen_root}
use Rattle.history_machine.specs.Machine.{view_tree}
use Rattle.fs_types.specs.declared.call.View.{View}
use Rattle.fs_types.specs.declared.fault.Fault.{Fault}
use Rattle.fs_types.specs.declared.fault.Fault.TheVariants.{PowerCut}
use Rattle.flash_model.specs.Device.{Device}
use Rattle.working_state.specs.Seen.{seen_on, machine_on}
use Rattle.working_state.specs.Worked.{ReadCause}
use Rattle.working_state.specs.declared.state.State.{State}
use Rattle.mounting.specs.Costs.{AsksEach}
use Rattle.system.specs.HistorySpace.{Looks}
use Rattle.system.specs.declared.systems.System.{System}
use Rattle.tree_counts.specs.Sizes.{size_of}
use Rattle.tree_counts.specs.declared.tree_size.TreeSize.{TreeSize}

-- what is answered, as nodes were read: how much stands in the tree of the view
abbrev pub FindsSize : Device → State → View → Result TreeSize Fault → Device → State → Type 0
FindsSize d s view (Ok size) e t = size ≡ size_of (view_tree (machine_on d s) view)
FindsSize d s view (Err fault) e t = ReadCause (seen_on d s) fault (seen_on e t)

-- a tree was gone over by its nodes: each node of a directory that its root reaches was read once, and no other
pub record CountsTree (old : Device) (m : System) (view : View) (result : Result TreeSize Fault) (new : Device) (n : System) : Type 0 where
  pub root : ℕ
  pub shown : seen_root m.state.history m.state.group view ≡ Some root
  pub looks : Looks old m result new n
  pub finds : FindsSize old m.state view result new n.state
  pub asks : AsksEach old (root ∷ []) new

-- how much stands in the tree of a view is told. Once a call has answered that the power is off, nothing changes, and neither does
-- anything where the view is refused
pub record TellsSize (old : Device) (m : System) (view : View) (result : Result TreeSize Fault) (new : Device) (n : System) : Type 0 where
  pub stopped : m.state.is_off ≡ true → (result ≡ Err PowerCut) × (new ≡ old) × (n ≡ m)
  pub refused : m.state.is_off ≡ false → (fault : Fault) → view_refusal m.state.history view ≡ Some fault → (result ≡ Err fault) × (new ≡ old) × (n ≡ m)
  pub works : m.state.is_off ≡ false → view_refusal m.state.history view ≡ None → CountsTree old m view result new n

-- two views show roots, and whether these are the same
pub record ShowRoots (s : State) (view other : View) (same : Bool) : Type 0 where
  pub is_on : s.is_off ≡ false
  pub first : view_refusal s.history view ≡ None
  pub second : view_refusal s.history other ≡ None
  pub root : ℕ
  pub other_root : ℕ
  pub shown : seen_root s.history s.group view ≡ Some root
  pub other_shown : seen_root s.history s.group other ≡ Some other_root
  pub compared : same ≡ (root == other_root)

-- why they are not told
abbrev pub RefusesRoots : State → View → View → Fault → Type 0
RefusesRoots s view other fault =
    ((s.is_off ≡ true) × (fault ≡ PowerCut))
    ⊎ ((s.is_off ≡ false) × (option_or (view_refusal s.history view) (view_refusal s.history other) ≡ Some fault))

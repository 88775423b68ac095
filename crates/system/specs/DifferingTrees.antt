-- Where the trees of two views differ, as it is told.
use Rattle.std.specs.Prelude.{◌≡◌, true, false, ℕ, Some, None, Result, Ok, Err, List}
use Rattle.std.specs.Option.{option_or}
use Rattle.fs_types.specs.Names.{Path}
use Rattle.fs_types.specs.declared.call.View.{View}
use Rattle.fs_types.specs.declared.fault.Fault.{Fault}
use Rattle.fs_types.specs.declared.fault.Fault.TheVariants.{PowerCut}
use Rattle.flash_model.specs.Device.{Device}
use Rattle.history_machine.specs.History.{view_refusal, seen_root}
use Rattle.history_machine.specs.Machine.{view_tree}
use Rattle.node_store.specs.NodePages.{node_of}
use Rattle.tree_differences.specs.Differing.{differing_paths}
use Rattle.working_state.specs.Seen.{seen_on, machine_on}
use Rattle.working_state.specs.Worked.{ReadCause}
use Rattle.working_state.specs.declared.state.State.{State}
use Rattle.system.specs.HistorySpace.{Looks}
use Rattle.system.specs.declared.systems.System.{System}

-- what is answered, as nodes were read: the paths of the tree of the view at which its root leads elsewhere than another one
abbrev pub FindsDiffering : Device → State → View → ℕ → ℕ → Result (List Path) Fault → Device → State → Type 0
FindsDiffering d s view root beside (Ok paths) e t = paths ≡ differing_paths (node_of d) root beside (view_tree (machine_on d s) view)
FindsDiffering d s view root beside (Err fault) e t = ReadCause (seen_on d s) fault (seen_on e t)

-- two trees were gone over from their roots
pub record ComparesTrees (old : Device) (m : System) (view other : View) (result : Result (List Path) Fault) (new : Device) (n : System) : Type 0 where
  pub root : ℕ
  pub beside : ℕ
  pub shown : seen_root m.state.history m.state.group view ≡ Some root
  pub other_shown : seen_root m.state.history m.state.group other ≡ Some beside
  pub looks : Looks old m result new n
  pub finds : FindsDiffering old m.state view root beside result new n.state

-- where the trees of two views differ is told. Once a call has answered that the power is off, nothing changes, and neither does
-- anything where a view is refused
pub record TellsDiffering (old : Device) (m : System) (view other : View) (result : Result (List Path) Fault) (new : Device) (n : System) : Type 0 where
  pub stopped : m.state.is_off ≡ true → (result ≡ Err PowerCut) × (new ≡ old) × (n ≡ m)
  pub refused : m.state.is_off ≡ false → (fault : Fault) → option_or (view_refusal m.state.history view) (view_refusal m.state.history other) ≡ Some fault
      → (result ≡ Err fault) × (new ≡ old) × (n ≡ m)
  pub works : m.state.is_off ≡ false → view_refusal m.state.history view ≡ None → view_refusal m.state.history other ≡ None → ComparesTrees old m view other result new n

-- What a flash keeps for what stands in a directory, and why that is not told.
use Rattle.std.specs.Prelude.{◌≡◌, ◌⊎◌, ◌↔◌, ℕ, true, Some, List}
use Rattle.std.specs.FinSet as set
use Rattle.std.specs.Ordering.{nat_cmp}
use Rattle.fs_types.specs.Names.{Path}
use Rattle.fs_types.specs.declared.call.Call.{Call}
use Rattle.fs_types.specs.declared.call.View.{View}
use Rattle.flash_model.specs.Device.{Device}
use Rattle.flash_model.specs.Reading.{OnlyReads}
use Rattle.history_machine.specs.History.{seen_root}
use Rattle.history_machine.specs.Machine.{refusal}
use Rattle.block_ring.specs.Ring.{IsDataBlock}
use Rattle.nodes.specs.Reached.{Reached}
use Rattle.node_store.specs.NodePages.{node_of}
use Rattle.working_state.specs.Seen.{machine_on}
use Rattle.working_state.specs.declared.state.State.{State}
use Rattle.system.specs.Mounts.{IsMountOf, MountCause}
use Rattle.system.specs.declared.systems.System.{System}
use Rattle.block_usage.specs.Maps.{ReadsCause}
use Rattle.block_usage.specs.Usages.{IsListAt, IsPathRefused, ReachManyAt}
use Rattle.block_usage.specs.declared.usage_fault.UsageFault.{UsageFault}
use Rattle.block_usage.specs.declared.usage_list.UsageList.{UsageList}
use Rattle.block_usage.specs.OtherRoots.{other_roots}
use Rattle.block_usage.specs.declared.usage_reports.ReportFault.{ReportFault}

-- of the data blocks exactly those are bad, or some roots reach them
abbrev pub AreApart : Device → List ℕ → set.FinSet nat_cmp → set.FinSet nat_cmp → Type 0
AreApart d others bad apart = (b : ℕ) → IsDataBlock d.geometry.blocks b → (set.contains apart b ≡ true) ↔ (Reached (node_of d) others b ⊎ (set.contains bad b ≡ true))

-- why nothing is told of a path below a root: it is refused, by what the reading met, or for too many blocks
abbrev pub StoredCause : Device → ℕ → Path → set.FinSet nat_cmp → Device → UsageFault → Type 0
StoredCause d root path apart e (UsageFault.Refused fault) = IsPathRefused (node_of d) root path fault ⊎ ReadsCause d e fault
StoredCause d root path apart e UsageFault.TooManyBlocks = ReachManyAt (node_of d) root path apart

-- what a view of a state shows: its root, and which blocks are bad or reached by the other versions and checkpoints
pub record ShowsApart (d : Device) (s : State) (view : View) : Type 0 where
  pub root : ℕ
  pub shown : seen_root s.history s.group view ≡ Some root
  pub apart : set.FinSet nat_cmp
  pub are : AreApart d (other_roots s.history view) s.storage.bad apart

-- how many blocks what stands at a path of a view reaches
pub record AreUsagesOf (d : Device) (s : State) (view : View) (path : Path) (list : UsageList) : Type 0 where
  pub shows : ShowsApart d s view
  pub is : IsListAt (node_of d) shows.root path shows.apart list

-- it reaches too many
pub record HasManyBlocks (d : Device) (s : State) (view : View) (path : Path) : Type 0 where
  pub shows : ShowsApart d s view
  pub many : ReachManyAt (node_of d) shows.root path shows.apart

abbrev pub StateCause : Device → State → View → Path → Device → UsageFault → Type 0
StateCause d s view path e (UsageFault.Refused fault) = (refusal (machine_on d s) (Call.Stat view path) ≡ Some fault) ⊎ ReadsCause d e fault
StateCause d s view path e UsageFault.TooManyBlocks = HasManyBlocks d s view path

abbrev pub of_usages : UsageFault → ReportFault
of_usages (UsageFault.Refused fault) = ReportFault.Refused fault
of_usages UsageFault.TooManyBlocks = ReportFault.TooManyBlocks

-- what the newest record of a flash holds is mounted, by reads alone, and so many blocks what stands at a path of a view reaches then
pub record IsUsageReport (given : Device) (view : View) (path : Path) (list : UsageList) : Type 0 where
  pub device : Device
  pub system : System
  pub reads : OnlyReads given device
  pub mounted : IsMountOf given device system
  pub are : AreUsagesOf device system.state view path list

-- it is mounted, and nothing is told, for this cause
pub record IsUnreported (given : Device) (view : View) (path : Path) (left : Device) (fault : UsageFault) : Type 0 where
  pub device : Device
  pub system : System
  pub reads : OnlyReads given device
  pub mounted : IsMountOf given device system
  pub why : StateCause device system.state view path left fault

-- why nothing is told: nothing is mounted; or, once it is, the view or the path is refused, by what the reading met, or for too many blocks
abbrev pub ReportCause : Device → View → Path → Device → ReportFault → Type 0
ReportCause given view path left (ReportFault.Unmounted fault) = MountCause given left fault
ReportCause given view path left (ReportFault.Refused fault) = IsUnreported given view path left (UsageFault.Refused fault)
ReportCause given view path left ReportFault.TooManyBlocks = IsUnreported given view path left UsageFault.TooManyBlocks

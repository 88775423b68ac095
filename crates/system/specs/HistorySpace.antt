-- What is free once versions are forgotten, and how many have to be for so many blocks.
use Rattle.std.specs.Prelude.{◌≡◌, ℕ, zero, suc, ◌<◌, ◌≤◌, true, false, is_some, None, Result, Ok, Err}
use Rattle.history_machine.specs.History.{forgotten}
use Rattle.history_machine.specs.Machine.{Space}
use Rattle.fs_types.specs.declared.call.Call.{Call}
use Rattle.fs_types.specs.declared.call.Reply.{Reply}
use Rattle.fs_types.specs.declared.fault.Fault.{Fault}
use Rattle.fs_types.specs.declared.fault.Fault.TheVariants.{FlashFull, PowerCut, InGroup}
use Rattle.flash_model.specs.Device.{Device}
use Rattle.working_state.specs.Roots.{IsSpace}
use Rattle.working_state.specs.Seen.{seen_on}
use Rattle.working_state.specs.Steps.{is_cut_answer}
use Rattle.working_state.specs.Worked.{ReadCause}
use Rattle.working_state.specs.declared.state.State.{State}
use Rattle.mounting.specs.Costs.{AsksEach}
use Rattle.mounting.specs.Records.{working_roots}
use Rattle.system.specs.Reclaiming.{Stays}
use Rattle.system.specs.Steps.{SystemStep}
use Rattle.system.specs.Systems.{IsSystem}
use Rattle.system.specs.declared.systems.System.{System}

-- the state once its so many oldest versions are forgotten
abbrev pub after_forget : State → ℕ → State
after_forget s count = record s { history = forgotten s.history count }

-- so many blocks are free, as `df` shows it
pub record IsFree (d : Device) (s : State) (free : ℕ) : Type 0 where
  pub space : Space
  pub is : IsSpace d s space
  pub free_is : space.free ≡ free

-- so many blocks are free once these many versions are forgotten
abbrev pub FreeAfter : Device → State → ℕ → ℕ → Type 0
FreeAfter d s count free = IsFree d (after_forget s count) free

-- with this many forgotten, enough blocks are free, and with fewer they are not
pub record IsLeast (d : Device) (s : State) (blocks count : ℕ) : Type 0 where
  pub within : count ≤ s.history.cursor
  pub enough : (free : ℕ) × FreeAfter d s count free × (blocks ≤ free)
  pub least : (fewer : ℕ) → fewer < count → (free : ℕ) × FreeAfter d s fewer free × (free < blocks)

-- with none of the versions before the present one left, not enough blocks are free
abbrev pub NoneIsEnough : Device → State → ℕ → Type 0
NoneIsEnough d s blocks = (count : ℕ) → count ≤ s.history.cursor → (free : ℕ) × FreeAfter d s count free × (free < blocks)

-- how many have to be forgotten, as nodes were read; FlashFull where no number is enough
abbrev pub Finds : Device → State → ℕ → Result ℕ Fault → Device → State → Type 0
Finds d s blocks (Ok count) e t = IsLeast e t blocks count
Finds d s blocks (Err FlashFull) e t = NoneIsEnough e t blocks
Finds d s blocks (Err fault) e t = ReadCause (seen_on d s) fault (seen_on e t)

-- the same, where nothing has to be read
abbrev pub FindsIn : Device → State → ℕ → Result ℕ Fault → Type 0
FindsIn d s blocks (Ok count) = IsLeast d s blocks count
FindsIn d s blocks (Err fault) = (fault ≡ FlashFull) × NoneIsEnough d s blocks

-- a look at what history holds: nodes that it reaches were read, each once, and all is as it was, the used blocks and the
-- marking that goes on too; but that the power is known to be off where that is answered
pub record Looks {T : Type 0} (old : Device) (m : System) (result : Result T Fault) (new : Device) (n : System) : Type 0 where
  pub stays : Stays old m new n
  pub ring : n.state.storage.ring ≡ m.state.storage.ring
  pub pass : n.pass ≡ m.pass
  pub record_roots : n.record_roots ≡ m.record_roots
  pub off : n.state.is_off ≡ is_cut_answer result

-- a look is as a call `df`, which is answered Ok where the nodes were read
abbrev pub df_answer : Reply → Result ℕ Fault → Result Reply Fault
df_answer reply (Ok count) = Ok reply
df_answer reply (Err FlashFull) = Ok reply
df_answer reply (Err fault) = Err fault

-- what follows on what was found: a call `forget` of so many versions, where any are to be forgotten
abbrev pub ForgetsFound : Result ℕ Fault → Device → System → Result ℕ Fault → Device → System → Type 0
ForgetsFound (Err fault) old m result new n = (result ≡ Err fault) × (new ≡ old) × (n ≡ m)
ForgetsFound (Ok zero) old m result new n = (result ≡ Ok zero) × (new ≡ old) × (n ≡ m)
ForgetsFound (Ok (suc k)) old m (Ok count) new n = (count ≡ suc k) × (reply : Reply) × SystemStep old m (Call.Forget (suc k)) (Ok reply) new n
ForgetsFound (Ok (suc k)) old m (Err fault) new n = SystemStep old m (Call.Forget (suc k)) (Err fault) new n

-- it was looked how many versions have to be forgotten, each reached node was read once, and then they were forgotten
pub record LooksAndForgets (old : Device) (m : System) (blocks : ℕ) (result : Result ℕ Fault) (new : Device) (n : System) : Type 0 where
  pub device : Device
  pub system : System
  pub found : Result ℕ Fault
  pub looks : Looks old m found device system
  pub mounted : IsSystem device system
  pub finds : Finds old m.state blocks found device system.state
  pub asks : AsksEach old (working_roots m.state) device
  pub as_df : (reply : Reply) × SystemStep old m Call.Df (df_answer reply found) device system
  pub forgets : ForgetsFound found device system result new n

-- the fewest versions are forgotten that leave so many blocks free. Once a call has answered that the power is off, nothing
-- changes, and neither does anything in a change group
pub record ForgetsUntil (old : Device) (m : System) (blocks : ℕ) (result : Result ℕ Fault) (new : Device) (n : System) : Type 0 where
  pub stopped : m.state.is_off ≡ true → (result ≡ Err PowerCut) × (new ≡ old) × (n ≡ m)
  pub grouped : m.state.is_off ≡ false → is_some m.state.group ≡ true → (result ≡ Err InGroup) × (new ≡ old) × (n ≡ m)
  pub works : m.state.is_off ≡ false → m.state.group ≡ None → LooksAndForgets old m blocks result new n

-- The step that a call takes on a mounted system. One that finds the flash full is carried out once more, after a
-- commit of what was before it.
use Rattle.std.specs.Prelude.{◌≡◌, ◌≢◌, ◌⊎◌, ℕ, ◌+◌, ◌*◌, ◌<◌, ◌≤◌, Bool, true, false, Some, Result, Ok, Err, count_by}
use Rattle.std.specs.FinSet as set
use Rattle.history_machine.specs.Machine.{Space, need}
use Rattle.fs_types.specs.declared.call.Call.{Call}
use Rattle.fs_types.specs.declared.call.Reply.{Reply}
use Rattle.fs_types.specs.declared.fault.Fault.{Fault}
use Rattle.fs_types.specs.declared.fault.Fault.TheVariants.{FlashFull, Overflow}
use Rattle.flash_model.specs.Device.{Device}
use Rattle.block_ring.specs.Ring.{data_blocks, free_count}
use Rattle.working_state.specs.Moments.{Moment, moment}
use Rattle.working_state.specs.Mounted.{KeepsPages, TellsSpace}
use Rattle.working_state.specs.Roots.{IsSpace}
use Rattle.working_state.specs.Seen.{Seen, Shown, capacity_of, seen_on, machine_on, shown_on}
use Rattle.working_state.specs.Steps.{is_sync, is_cut, Refuses, AnswersFault, AnswersOnce}
use Rattle.system.specs.Commits.{TriesOnce, RecordAfter}
use Rattle.working_state.specs.declared.state.State.{State}
use Rattle.system.specs.Rooms.{MarksAnew, LacksCommit}
use Rattle.mounting.specs.Saved.{saved_trees}
use Rattle.system.specs.Systems.{IsSystem}
use Rattle.system.specs.declared.systems.System.{System}

-- a call that found the flash full was tried again, from the start, where room was made for it; else that was its
-- answer
pub record TriesAgain (old : Device) (m : System) (call : Call) (result : Result Reply Fault) (new : Device) (n : System)
    : Type 0 where
  pub device : Device
  pub system : System
  pub room : MarksAnew old m (Ok true) device system
  pub ready : IsSystem device system
  pub second : TriesOnce device system call result new n

pub record MakesNoRoom (old : Device) (m : System) (result : Result Reply Fault) (new : Device) (n : System)
    : Type 0 where
  pub fault : Fault
  pub answers : result ≡ Err fault
  pub why : LacksCommit old m fault new n ⊎ MarksAnew old m (Err fault) new n

-- a call found the flash full, and then what came after
pub record TriesTwice (old : Device) (m : System) (call : Call) (result : Result Reply Fault) (new : Device) (n : System)
    : Type 0 where
  pub device : Device
  pub system : System
  pub first : TriesOnce old m call (Err FlashFull) device system
  pub full : IsSystem device system
  pub rest : MakesNoRoom device system result new n ⊎ TriesAgain device system call result new n

-- the refusals that a call may have of a second try alone: that found the flash full, too, or no sequence was left
-- for the commit before it
abbrev pub IsOfSecond : Fault → Type 0
IsOfSecond FlashFull = Unit {0}
IsOfSecond Overflow = Unit {0}
IsOfSecond _ = ⊥

-- a refused call leaves the machine: it is refused as one that is tried once, or in the second try
abbrev pub SystemRefuses : Type 0 → Bool → Shown → Call → Fault → Shown → Type 0
SystemRefuses twice true old call fault new = AnswersFault true old call fault new
SystemRefuses twice false old call fault new =
    (Refuses old.seen old.machine call fault new.seen ⊎ (twice × IsOfSecond fault))
    × (new.machine ≡ old.machine) × (new.is_off ≡ is_cut fault)

-- what a call answers, which may have been tried twice
abbrev pub SystemAnswers : Type 0 → Shown → Call → Result Reply Fault → Shown → Type 0
SystemAnswers twice old call (Ok reply) new = AnswersOnce old call (Ok reply) new
SystemAnswers twice old call (Err fault) new = SystemRefuses twice old.is_off old call fault new

-- what is seen later: the bad list grew by exactly the failures
pub record IsAfter (old new : Seen) : Type 0 where
  pub capacity : new.capacity ≡ old.capacity
  pub failed_reads : old.failed_reads ≤ new.failed_reads
  pub failures : new.failures + old.listed ≡ old.failures + new.listed
  pub listed : old.listed ≤ new.listed
  pub cuts : old.cuts ≤ new.cuts
  pub was_on : new.powered ≡ true → old.powered ≡ true
  pub stays_read_only : old.read_only ≡ true → new.read_only ≡ true

-- the data blocks that are bad
abbrev pub bad_data : Device → State → ℕ
bad_data d s = count_by (set.contains s.storage.bad) (data_blocks d.geometry.blocks)

-- so many blocks at most were taken, and one for each that went bad
abbrev pub Takes : Device → State → ℕ → State → Type 0
Takes d s nodes t = t.storage.ring.takes + bad_data d s ≤ s.storage.ring.takes + bad_data d t + nodes

-- the space that a call takes which needs so many nodes: once, or twice where the working history became the newest
-- record. It is tried twice only where the ring had fewer free blocks, and finds the flash full only where fewer were
-- free as `df` tells: fewer than the nodes and the blocks that went bad in it
pub record TakesSpace (old : Moment) (nodes : ℕ) (twice newest : Type 0) (result : Result Reply Fault) (new : State)
    : Type 0 where
  pub taken : Takes old.device old.state nodes new ⊎ (twice × newest × Takes old.device old.state (2 * nodes) new)
  pub tried : twice
      → free_count old.state.storage.ring old.state.storage.bad + bad_data old.device old.state
      < bad_data old.device new + nodes
  pub full : result ≡ Err FlashFull → (space : Space) → IsSpace old.device old.state space
      → space.free + space.bad < bad_data old.device new + nodes

-- how many nodes a call may write on a mounted system
abbrev pub need_on : Device → State → Call → ℕ
need_on d s call = need (capacity_of d) (machine_on d s) call

-- the newest record has the working history from before
abbrev pub HasWorking : Device → State → Device → Type 0
HasWorking old s new = saved_trees new ≡ Some (machine_on old s).history

-- a call's step on a mounted system: it was tried once, and did not find the flash full, or twice; what it answers,
-- and what is left of the flash, the state and the newest record. No page changes of a block that a version, a
-- checkpoint or the group reaches; the newest record changes in a sync, and in a call that is tried twice
pub record SystemStep (old : Device) (m : System) (call : Call) (result : Result Reply Fault) (new : Device) (n : System)
    : Type 0 where
  pub tries : (TriesOnce old m call result new n × (result ≢ Err FlashFull)) ⊎ TriesTwice old m call result new n
  pub later : IsAfter (seen_on old m.state) (seen_on new n.state)
  pub answers : SystemAnswers (TriesTwice old m call result new n) (shown_on old m.state) call result
      (shown_on new n.state)
  pub bad : (b : ℕ) → set.contains m.state.storage.bad b ≡ true → set.contains n.state.storage.bad b ≡ true
  pub told : TellsSpace (machine_on old m.state) call result new n.state
  pub stopped : m.state.is_off ≡ true → (new ≡ old) × (n ≡ m)
  pub pages : KeepsPages old m.state new
  pub space : TakesSpace (moment old m.state) (need_on old m.state call) (TriesTwice old m call result new n)
      (HasWorking old m.state new) result n.state
  pub after : RecordAfter ((is_sync call ≡ true) ⊎ TriesTwice old m call result new n) call result
      old (machine_on old m.state).history new

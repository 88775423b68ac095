-- What a marking of used blocks asks of the device, a mount, and a format.
use Rattle.std.specs.Prelude.{◌≡◌, ◌⊎◌, ℕ, ◌+◌, ◌*◌, ◌<◌, ◌≤◌, false, Some, Ok, List, length, ◌-◌, ◌^◌, Bool, true, ◌||◌, None, unwrap_or, Result, Err, [], ◌++◌}
use Rattle.std.specs.FinSet as set
use Rattle.std.specs.Ordering.{nat_cmp}
use Rattle.flash_model.specs.Device.{Device}
use Rattle.node_store.specs.NodePages.{node_of}
pub use Rattle.reclaim.specs.Passes.{Advances}
use Rattle.reclaim.specs.Passes.{Pass, Begins, AreReached, IsPass, IsFinished}
use Rattle.fs_types.specs.declared.fault.Fault.{Fault}
use Rattle.fs_types.specs.declared.fault.Fault.TheVariants.{PowerCut}
use Rattle.flash_model.specs.Reading.{OnlyReads}
use Rattle.nodes.specs.Reached.{Reached}
use Rattle.working_state.specs.Seen.{seen_on, machine_on}
use Rattle.working_state.specs.Steps.{is_cut_answer}
use Rattle.working_state.specs.Worked.{ReadCause}
use Rattle.mounting.specs.Records.{working_roots}
use Rattle.system.specs.declared.systems.System.{System}

-- a marking went on: the device was asked for the pages of blocks that the roots reach, of none twice, and of none
-- that was read before
pub record AsksForRest (old : Device) (from : Pass) (new : Device) : Type 0 where
  pub seen : List ℕ
  pub begins : Begins from.order seen
  pub are : AreReached (node_of old) from.roots seen
  pub most : new.operations + from.next * old.geometry.pages ≤ old.operations + length seen * old.geometry.pages

-- a step of a marking asked for the pages of as many blocks as its budget at most, and of no more than remained.
-- That they remained is said as a proposition
pub record AsksToStep (old : Device) (from : Pass) (budget : ℕ) (new : Device) : Type 0 where
  pub few : new.operations ≤ old.operations + budget * old.geometry.pages
  pub rest : (AsksForRest old from new → ⊥) → ⊥

-- the marking that goes on: the one that was begun; else a new one, which has read nothing, of the roots of the
-- working history and its group and of the newest record, and no block is noted as taken since
abbrev pub GoesOnFrom : System → Pass → set.FinSet nat_cmp → Type 0
GoesOnFrom m p note =
    ((m.pass ≡ Some p) × (note ≡ m.state.storage.ring.note))
    ⊎ ((m.pass ≡ None) × (p.roots ≡ working_roots m.state ++ m.record_roots.items) × (p.next ≡ 0) × (note ≡ set.empty))

-- the same, as one that has listed nothing where it is new
abbrev pub marking_of : System → Pass
marking_of m = unwrap_or m.pass (record {
  blocks = m.state.storage.ring.blocks;
  roots = working_roots m.state ++ m.record_roots.items;
  order = [];
  next = 0;
  bodies = set.empty;
})

-- what a step of a marking read, by its answer: so many blocks more, where some are left, which the greatest budget
-- does not leave; so many at most, where none is
abbrev pub ReadsOn : ℕ → Pass → Result Bool Fault → Pass → Type 0
ReadsOn budget from (Ok false) to = (to.next ≡ from.next + budget) × (to.next < length to.order) × (budget < 2 ^ 64 - 1)
ReadsOn budget from (Ok true) to = (to.next ≤ from.next + budget) × IsFinished to
ReadsOn budget from (Err fault) to = Unit {0}

-- so many blocks more were read, and some are left: the greatest budget is for all
pub record MarksOn (m : System) (budget : ℕ) (n : System) : Type 0 where
  pub from : Pass
  pub to : Pass
  pub was : GoesOnFrom m from n.state.storage.ring.note
  pub is : n.pass ≡ Some to
  pub on : Advances from to
  pub next : to.next ≡ from.next + budget
  pub left : to.next < length to.order
  pub few : budget < 2 ^ 64 - 1
  pub used : n.state.storage.ring.used ≡ m.state.storage.ring.used

-- so many blocks more were read at most, and none is left: used are exactly the blocks that the roots reach, and
-- those that were taken since the marking began
pub record EndsPass (d : Device) (m : System) (budget : ℕ) (n : System) : Type 0 where
  pub from : Pass
  pub to : Pass
  pub was : GoesOnFrom m from n.state.storage.ring.note
  pub is : n.pass ≡ None
  pub on : Advances from to
  pub next : to.next ≤ from.next + budget
  pub all : to.next ≡ length to.order
  -- it is a marking: so its list has exactly the blocks that the roots reach, each once
  pub marking : (IsPass (node_of d) to → ⊥) → ⊥
  pub reached : (b : ℕ) → Reached (node_of d) from.roots b → set.contains n.state.storage.ring.used b ≡ true
  pub taken : (b : ℕ) → set.contains n.state.storage.ring.note b ≡ true
      → set.contains n.state.storage.ring.used b ≡ true
  pub only : (b : ℕ) → (Reached (node_of d) from.roots b → ⊥) → set.contains n.state.storage.ring.note b ≡ false
      → set.contains n.state.storage.ring.used b ≡ false

-- what a step answers: whether no block is left to be read. A refused step leaves no marking, and all used blocks
-- as they were
abbrev pub StepEnds : Device → System → ℕ → Result Bool Fault → Device → System → Type 0
StepEnds old m budget (Ok false) new n = MarksOn m budget n
StepEnds old m budget (Ok true) new n = EndsPass old m budget n
StepEnds old m budget (Err fault) new n =
    (n.pass ≡ None) × (n.state.storage.ring.used ≡ m.state.storage.ring.used)
    × ReadCause (seen_on old m.state) fault (seen_on new n.state)

-- a free block is prepared only where it was, and was free: so what was prepared before a block was taken is forgotten
abbrev pub IsStillPrepared : System → System → Type 0
IsStillPrepared m n =
    (b : ℕ) → set.contains n.prepared.members b ≡ true → set.contains n.state.storage.ring.used b ≡ false
    → (set.contains m.prepared.members b ≡ true) × (set.contains m.state.storage.ring.used b ≡ false)

-- only reads came, and the history, the group, the machine, the bad list, the last block taken and the newest
-- record's place are as they were
pub record Stays (old : Device) (m : System) (new : Device) (n : System) : Type 0 where
  pub reads : OnlyReads old new
  pub history : n.state.history ≡ m.state.history
  pub group : n.state.group ≡ m.state.group
  pub machine : machine_on new n.state ≡ machine_on old m.state
  pub bad : n.state.storage.bad ≡ m.state.storage.bad
  pub last : n.state.storage.ring.last ≡ m.state.storage.ring.last
  pub takes : n.state.storage.ring.takes ≡ m.state.storage.ring.takes
  pub anchors : n.anchors ≡ m.anchors
  pub room : n.state.storage.cache.room ≡ m.state.storage.cache.room
  pub prepared : IsStillPrepared m n

-- a step of reclaiming, whatever it answers. Once a call has answered that the power is off, nothing changes
pub record Reclaims (old : Device) (m : System) (budget : ℕ) (result : Result Bool Fault) (new : Device) (n : System)
    : Type 0 where
  pub stays : Stays old m new n
  pub ends : m.state.is_off ≡ false → StepEnds old m budget result new n
  pub asks : m.state.is_off ≡ false → AsksToStep old (marking_of m) budget new
  pub off : n.state.is_off ≡ m.state.is_off || is_cut_answer result
  pub stopped : m.state.is_off ≡ true → (result ≡ Err PowerCut) × (new ≡ old) × (n ≡ m)

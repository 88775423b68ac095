-- What a call on a mounted system answers and leaves: the step of the machine, or a further refusal with its cause.
use Rattle.std.specs.Prelude.{◌≡◌, ◌⊎◌, ℕ, ◌+◌, ◌-◌, ◌^◌, ◌<◌, ◌≤◌, Bool, true, false, not, ◌==◌, ◌&&◌, ◌||◌, is_some, is_none, Option, Some, None, length, Result, Ok, Err, if◌then◌else◌}
use Rattle.history_machine.specs.Descriptors.{are_lawful}
use Rattle.history_machine.specs.History.{view_refusal}
use Rattle.history_machine.specs.Machine.{Machine, Space, refusal, answer, next, is_accepted, makes_version, need, tree_after, version_after}
use Rattle.fs_types.specs.NamedFiles.{files_refusal}
use Rattle.fs_types.specs.declared.call.Call.{Call}
use Rattle.fs_types.specs.declared.call.Reply.{Reply}
use Rattle.fs_types.specs.declared.fault.Fault.{Fault}
use Rattle.fs_types.specs.declared.fault.Fault.TheVariants.{Exists, Invalid, Busy, FlashFull, ReadOnly, Overflow, ReadFailed, PowerCut, NoMemory}
use Rattle.working_state.specs.Facts.{facts_of}
use Rattle.working_state.specs.Seen.{Seen, Shown}

-- the greatest serial is given to no version
abbrev pub last_serial : ℕ
last_serial = 2 ^ 64 - 1

-- the answer of a call, as a reply
abbrev pub replied : {T : Type 0} → (T → Reply) → Result T Fault → Result Reply Fault
replied f (Ok x) = Ok (f x)
replied f (Err fault) = Err fault

abbrev pub empty : {T : Type 0} → T → Reply
empty x = Reply.Empty

-- calls that take no memory and do no device operation
abbrev pub is_light : Call → Bool
is_light call = (facts_of call).light

-- the refusal of a call that comes before anything is looked up
abbrev pub unlooked_refusal : Machine → Call → Option Fault
unlooked_refusal m (Call.Open path flags) = if not (are_lawful flags) then Some Invalid else None
unlooked_refusal m (Call.WriteFile path bytes) = None
unlooked_refusal m (Call.WriteFiles directory files) = files_refusal directory files
unlooked_refusal m (Call.Rename old new) = None
unlooked_refusal m (Call.Unlink path) = None
unlooked_refusal m (Call.Mkdir path) = if length path == 0 then Some Exists else None
unlooked_refusal m (Call.Rmdir path) = if length path == 0 then Some Busy else None
unlooked_refusal m (Call.Stat view path) = view_refusal m.history view
unlooked_refusal m (Call.List view path) = view_refusal m.history view
unlooked_refusal m (Call.ReadAt view path offset count) = view_refusal m.history view
unlooked_refusal m (Call.Entries view path from most) = view_refusal m.history view
unlooked_refusal m call = refusal m call

-- the call comes to a look-up, or to its work
abbrev pub begins_work : Machine → Call → Bool
begins_work m call = not (is_light call) && is_none (unlooked_refusal m call)

-- calls that make no version and are refused in read-only mode all the same
abbrev pub is_for_record : Call → Bool
is_for_record call = (facts_of call).for_record

-- calls that commit the history
abbrev pub is_sync : Call → Bool
is_sync call = (facts_of call).sync

-- what `df` tells is no fact of the machine: it is the space that is left of the flash
abbrev pub tells_space : Call → Bool
tells_space call = (facts_of call).tells_space

-- an accepted call that read-only mode refuses: one that changes a tree, in a group too, one that makes a
-- version, or one that the record has to take
abbrev pub is_writing : Machine → Call → Bool
is_writing m call = is_accepted m call
    && ((is_some (tree_after m call) || is_some (version_after m call)) || is_for_record call)

-- where the call makes a version, a serial is left for it; or none is
abbrev pub HasSerial : Machine → Call → Type 0
HasSerial m call = makes_version m call ≡ true → m.history.next < last_serial

abbrev pub LacksSerial : Machine → Call → Type 0
LacksSerial m call = (makes_version m call ≡ true) × (m.history.next ≡ last_serial)

-- a sync that is accepted
abbrev pub IsAcceptedSync : Machine → Call → Type 0
IsAcceptedSync m call = (is_sync call ≡ true) × (is_accepted m call ≡ true)

-- no block is free, and those that were free were fewer than the nodes to be written and the blocks that went bad
-- since
pub record IsFull (old : Seen) (nodes : ℕ) (new : Seen) : Type 0 where
  pub none_free : new.free ≡ 0
  pub few_free : old.free + old.listed < new.listed + nodes

-- a refusal that the machine does not give, with its cause. The checks before the work are in order: read-only
-- mode (16), and for a version the serials, or for a commit its sequence (22). So where no block is left for
-- the nodes of a version, neither had refused it; and where read-only mode came on in the work, a serial was
-- left. Where the call came to a look-up or to its work: a read failed; the device is off; memory was wanted
abbrev pub MayRefuse : Seen → Machine → Call → Fault → Seen → Type 0
MayRefuse old m call FlashFull new =
    (0 < need old.capacity m call) × (old.read_only ≡ false) × HasSerial m call
    × IsFull old (need old.capacity m call) new
MayRefuse old m call ReadOnly new =
    (is_writing m call ≡ true) × (new.read_only ≡ true) × (old.read_only ≡ false → HasSerial m call)
MayRefuse old m call Overflow new =
    (old.read_only ≡ false) × (LacksSerial m call ⊎ IsAcceptedSync m call)
MayRefuse old m call ReadFailed new = (begins_work m call ≡ true) × (old.failed_reads < new.failed_reads)
MayRefuse old m call PowerCut new = (begins_work m call ≡ true) × (new.powered ≡ false)
MayRefuse old m call NoMemory new = begins_work m call ≡ true
MayRefuse old m call _ new = ⊥

-- a call is refused by the machine, or for one of these causes
abbrev pub Refuses : Seen → Machine → Call → Fault → Seen → Type 0
Refuses old m call fault new = (refusal m call ≡ Some fault) ⊎ MayRefuse old m call fault new

-- the refusals that the machine does not give
abbrev pub is_further : Fault → Bool
is_further FlashFull = true
is_further ReadOnly = true
is_further Overflow = true
is_further ReadFailed = true
is_further PowerCut = true
is_further NoMemory = true
is_further _ = false

abbrev pub is_cut : Fault → Bool
is_cut PowerCut = true
is_cut _ = false

abbrev pub is_cut_answer : {T : Type 0} → Result T Fault → Bool
is_cut_answer (Ok x) = false
is_cut_answer (Err fault) = is_cut fault

-- a call that was carried out: it is accepted, and what it answers is the machine's, whatever space is left, if
-- it does not tell that; where read-only mode refuses it, that was off and is; and for a version a serial was left
pub record IsDone (old : Seen) (m : Machine) (call : Call) (reply : Reply) (new : Seen) (n : Machine) : Type 0 where
  pub accepted : refusal m call ≡ None
  pub answered : (space : Space) → tells_space call ≡ false → answer space m call ≡ Ok reply
  pub leaves : n ≡ next m call
  pub writable : is_writing m call ≡ true → (old.read_only ≡ false) × (new.read_only ≡ false)
  pub serial_left : HasSerial m call

-- a call that is not carried out leaves the machine. Where a call answered before that the power is off, each one
-- answers so and does nothing
abbrev pub AnswersFault : Bool → Shown → Call → Fault → Shown → Type 0
AnswersFault true old call fault new =
    (fault ≡ PowerCut) × (new.seen ≡ old.seen) × (new.machine ≡ old.machine) × (new.is_off ≡ true)
AnswersFault false old call fault new =
    Refuses old.seen old.machine call fault new.seen × (new.machine ≡ old.machine) × (new.is_off ≡ is_cut fault)

-- what a call answers, by whether it was carried out
abbrev pub AnswersOnce : Shown → Call → Result Reply Fault → Shown → Type 0
AnswersOnce old call (Ok reply) new =
    (old.is_off ≡ false) × IsDone old.seen old.machine call reply new.seen new.machine × (new.is_off ≡ false)
AnswersOnce old call (Err fault) new = AnswersFault old.is_off old call fault new

-- what calls lead to, whatever they answer: the bad list grows by exactly the failures, and each take leaves one free
-- block less
pub record LeadsTo (old new : Seen) : Type 0 where
  pub capacity : new.capacity ≡ old.capacity
  pub failed_reads : old.failed_reads ≤ new.failed_reads
  pub failures : new.failures + old.listed ≡ old.failures + new.listed
  pub listed : old.listed ≤ new.listed
  pub taken : new.free + new.takes ≡ old.free + old.takes
  pub cuts : old.cuts ≤ new.cuts
  pub was_on : new.powered ≡ true → old.powered ≡ true
  pub stays_read_only : old.read_only ≡ true → new.read_only ≡ true

-- the call's step: it is answered so, and what is seen is later
pub record CallStep (old : Shown) (call : Call) (result : Result Reply Fault) (new : Shown) : Type 0 where
  pub later : LeadsTo old.seen new.seen
  pub answers : AnswersOnce old call result new

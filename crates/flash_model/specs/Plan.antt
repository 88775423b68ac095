-- A plan of device faults: which entry is due, which wait.
use Rattle.std.specs.Prelude.{◌≡◌, ℕ, ◌+◌, ◌≤◌, Bool, true, false, not, ◌&&◌, ◌||◌, ◌==◌, nat_lt, if◌then◌else◌, List, [], ◌∷◌, ◌++◌, length, reverse, find, filter, Option, Some, None, option_map}
use Rattle.std.specs.List.{list_any}
use Rattle.flash_model.specs.declared.flash.DevFault.{DevFault}
use Rattle.flash_model.specs.declared.flash.DevFault.TheVariants.{Failed, PowerCut}
use Rattle.flash_model.specs.declared.fault_kind.Operation.{Operation}
use Rattle.flash_model.specs.declared.fault_kind.Operation.TheVariants.{Read, Program, Erase}
use Rattle.flash_model.specs.declared.fault_kind.FaultKind.{FaultKind}
use Rattle.flash_model.specs.declared.fault_kind.FaultKind.TheVariants.{ReadFail, ReadCut, ProgramFail, ProgramCutNone, ProgramCutWhole, ProgramCutTorn, EraseFail, EraseCutNone, EraseCutWhole, EraseCutTorn}
use Rattle.flash_model.specs.declared.fault_kind.PlannedFault.{PlannedFault}
use Rattle.flash_model.specs.declared.fault_kind.Counters.{Counters}

-- the class of operations that a kind of fault befalls
abbrev pub operation_of : FaultKind → Operation
operation_of ReadFail = Read
operation_of ReadCut = Read
operation_of ProgramFail = Program
operation_of ProgramCutNone = Program
operation_of ProgramCutWhole = Program
operation_of ProgramCutTorn = Program
operation_of EraseFail = Erase
operation_of EraseCutNone = Erase
operation_of EraseCutWhole = Erase
operation_of EraseCutTorn = Erase

-- the answer of an operation that a fault befalls
abbrev pub kind_answer : FaultKind → DevFault
kind_answer ReadFail = Failed
kind_answer ReadCut = PowerCut
kind_answer ProgramFail = Failed
kind_answer ProgramCutNone = PowerCut
kind_answer ProgramCutWhole = PowerCut
kind_answer ProgramCutTorn = PowerCut
kind_answer EraseFail = Failed
kind_answer EraseCutNone = PowerCut
kind_answer EraseCutWhole = PowerCut
kind_answer EraseCutTorn = PowerCut

-- one and the same class
abbrev pub is_same : Operation → Operation → Bool
is_same Read Read = true
is_same Program Program = true
is_same Erase Erase = true
is_same _ _ = false

-- how many operations of a class have begun
abbrev pub count_of : Counters → Operation → ℕ
count_of c Read = c.reads
count_of c Program = c.programs
count_of c Erase = c.erases

-- the greatest count, at which a counter stays
abbrev pub greatest : ℕ
greatest = 18446744073709551615

-- one more, up to the greatest count
abbrev pub counted : ℕ → ℕ
counted n = if nat_lt n greatest then n + 1 else n

-- the counters when one more operation of a class has begun
abbrev pub count_more : Counters → Operation → Counters
count_more c Read = record c { reads = counted c.reads }
count_more c Program = record c { programs = counted c.programs }
count_more c Erase = record c { erases = counted c.erases }

-- the counters before any operation
abbrev pub no_counts : Counters
no_counts = record { reads = 0; programs = 0; erases = 0 }

-- a plan at work: the operations that have begun, and the entries that wait, in the order of their coming
pub record Schedule : Type 0 where
  pub counters : Counters
  pub waiting : List PlannedFault

-- an entry for the operation of this class with this number
abbrev pub is_for : Operation → ℕ → PlannedFault → Bool
is_for class n entry = is_same (operation_of entry.kind) class && (entry.number == n)

-- an entry of another class, or whose number is still to come when n of its class have begun
abbrev pub is_ahead : Operation → ℕ → PlannedFault → Bool
is_ahead class n entry = not (is_same (operation_of entry.kind) class) || nat_lt n entry.number

-- the kind that befalls the operation of this class with this number: that of the last entry for it
abbrev pub kind_at : Operation → ℕ → List PlannedFault → Option FaultKind
kind_at class n entries = option_map (λ entry. entry.kind) (find (is_for class n) (reverse entries))

-- the kind that is due at the next operation of a class, if it still counts
abbrev pub kind_due : Schedule → Operation → Option FaultKind
kind_due s class =
    if nat_lt (count_of s.counters class) greatest then kind_at class (count_of s.counters class + 1) s.waiting else None

-- what the next operation of a class is refused with: with the power off by a cut, else by what is due
abbrev pub answer_due : Bool → Schedule → Operation → Option DevFault
answer_due powered s class = if powered then option_map kind_answer (kind_due s class) else Some PowerCut

-- the plan when one more operation of a class has begun: entries whose number has come no longer wait
abbrev pub begun : Schedule → Operation → Schedule
begun s class = record {
  counters = count_more s.counters class;
  waiting = filter (is_ahead class (counted (count_of s.counters class))) s.waiting;
}

-- the plan after the next operation of a class: it counts where power is on
abbrev pub schedule_after : Bool → Schedule → Operation → Schedule
schedule_after powered s class = if powered then begun s class else s

-- a plan before any operation: an entry of number 0 has passed
abbrev pub plan_of_entries : List PlannedFault → Schedule
plan_of_entries entries = record {
  counters = no_counts;
  waiting = filter (λ entry. nat_lt 0 entry.number) entries;
}

-- the number of the k-th operation after now of a kind's class
abbrev pub operation_number : Schedule → ℕ → FaultKind → ℕ
operation_number s k kind = count_of s.counters (operation_of kind) + k

-- the plan with one entry more, in the place of those of its class and number
abbrev pub planned : Schedule → ℕ → FaultKind → Schedule
planned s k kind = record s {
  waiting = filter (λ entry. not (is_for (operation_of kind) (operation_number s k kind) entry)) s.waiting
      ++ record { number = operation_number s k kind; kind = kind } ∷ [];
}

-- where so many entries wait there is no room for another
abbrev pub most_waiting : ℕ
most_waiting = 64

-- 64 entries wait, and none of them is of this class and number
pub record IsPlanFull (s : Schedule) (k : ℕ) (kind : FaultKind) : Type 0 where
  pub many : most_waiting ≤ length s.waiting
  pub new : list_any (is_for (operation_of kind) (operation_number s k kind)) s.waiting ≡ false

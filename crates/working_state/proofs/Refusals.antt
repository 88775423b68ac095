-- Steps of refused calls, and what is remembered of an answer that the power is off.
use Rattle.std.proofs.Common.{◌≡◌, ◌+◌, ◌<◌, Bool, true, false, cond, ◌&&◌, ◌||◌, Option, Some, None, length, Result, Ok, Err, inl, inr, refl, sym, subst, ◌∙◌, arith}
use Rattle.std.proofs.lemmas.Bool.{true≢false, both_ways, and_parts, or_cases}
use Rattle.std.specs.Option.{option_or, is_none}
use Rattle.std.specs.Prelude.{IsTrue, IfErr, OnErr, not, ◌==◌}
use Rattle.history_machine.specs.Descriptors.{are_lawful}
use Rattle.history_machine.specs.History.{view_refusal}
use Rattle.history_machine.specs.Machine.{Machine, makes_version, need, refusal}
use Rattle.fs_types.specs.NamedFiles.{files_refusal}
use Rattle.fs_types.specs.declared.call.Call.{Call}
use Rattle.fs_types.specs.declared.call.Reply.{Reply}
use Rattle.fs_types.specs.declared.fault.Fault.{Fault}
use Rattle.fs_types.specs.declared.fault.Fault.TheVariants.{NoEntry, NotDirectory, Exists, Invalid, Busy, FlashFull, ReadOnly, ReadFailed, PowerCut, NoMemory, Damaged}
use Rattle.directory.specs.Lookups.{is_path_fault, IsLookupFault}
use Rattle.directory.specs.Trails.{IsChangeFault}
use Rattle.working_state.specs.Moments.{Moment, machine_at, seen_at, shown_at, IsMountedAt, IsAnswered, Steps, IsRefused, IsStep, moment}
use Rattle.working_state.specs.Leaves.{is_still}
use Rattle.working_state.specs.Looking.{LooksOnce}
use Rattle.working_state.specs.Seen.{Seen}
use Rattle.working_state.specs.Steps.{last_serial, is_light, unlooked_refusal, begins_work, is_writing, is_cut, is_cut_answer, MayRefuse, LeadsTo, CallStep, tells_space}
use Rattle.working_state.specs.Mounted.{IsMounted}
use Rattle.working_state.specs.Worked.{IsWorked, IsLooked, WorkCause}
use Rattle.working_state.specs.declared.state.State.{State}
use Rattle.working_state.proofs.CutCalls.{answered_off}
use Rattle.working_state.proofs.Standing.{looked_worked, read_leaves, worked_machine, worked_later, worked_mounted, worked_pages, worked_reaches}

-- Calls that come to their work.

first_fits : (b : Bool) (fault : Fault) (o : Option Fault) → cond b (Some fault) o ≡ None → cond b (Some fault) None ≡ None
first_fits true fault o fine = fine
first_fits false fault o fine = refl

left_fits : (r o : Option Fault) → option_or r o ≡ None → r ≡ None
left_fits None o fine = refl
left_fits (Some fault) o fine = fine

-- what is accepted was not refused before anything was looked up
unlooked_none : (m : Machine) (call : Call) → refusal m call ≡ None → unlooked_refusal m call ≡ None
unlooked_none m (Call.Open path flags) fine = first_fits (not (are_lawful flags)) Invalid _ fine
unlooked_none m (Call.WriteFile path bytes) fine = refl
unlooked_none m (Call.WriteFiles directory files) fine = left_fits (files_refusal directory files) _ fine
unlooked_none m (Call.Rename old new) fine = refl
unlooked_none m (Call.Unlink path) fine = refl
unlooked_none m (Call.Mkdir path) fine = first_fits (length path == 0) Exists _ fine
unlooked_none m (Call.Rmdir path) fine = first_fits (length path == 0) Busy _ fine
unlooked_none m (Call.Stat view path) fine = left_fits (view_refusal m.history view) _ fine
unlooked_none m (Call.List view path) fine = left_fits (view_refusal m.history view) _ fine
unlooked_none m (Call.ReadAt view path offset count) fine = left_fits (view_refusal m.history view) _ fine
unlooked_none m (Call.Entries view path from most) fine = left_fits (view_refusal m.history view) _ fine
unlooked_none m _ fine = fine

pub accepted_begins : (m : Machine) (call : Call) → refusal m call ≡ None → is_light call ≡ false → begins_work m call ≡ true
accepted_begins m call fine heavy = (λ i. not (heavy i) && is_none (unlooked_none m call fine i))

-- Causes.

not_so : IsTrue false → ⊥
not_so h = true≢false (sym h)

-- a look up's refusal that no node tells of
pub read_refuses : (old new : Seen) (m : Machine) (call : Call) (fault : Fault) → begins_work m call ≡ true → is_path_fault fault ≡ false → IsLookupFault fault → WorkCause old fault new → MayRefuse old m call fault new
read_refuses old new m call ReadFailed begins other is why = (begins, why)
read_refuses old new m call PowerCut begins other is why = (begins, why)
read_refuses old new m call NoMemory begins other is why = begins
read_refuses old new m call NoEntry begins other is why = absurd (true≢false other)
read_refuses old new m call NotDirectory begins other is why = absurd (true≢false other)
read_refuses old new m call Damaged begins other is why = absurd (true≢false other)
read_refuses old new m call _ begins other is why = absurd (not_so is)

-- a refusal of the nodes of a version, where read-only mode was off and a serial was left
pub write_refuses : (old new : Seen) (m : Machine) (call : Call) (fault : Fault) → begins_work m call ≡ true → 0 < need old.capacity m call → is_writing m call ≡ true → old.read_only ≡ false → (makes_version m call ≡ true → m.history.next < last_serial) → IsChangeFault fault
    → (fault ≡ FlashFull → old.free + old.listed < new.listed + need old.capacity m call) → WorkCause old fault new → MayRefuse old m call fault new
write_refuses old new m call FlashFull begins needs writes off left is few why = (needs, off, left, record { none_free = why; few_free = few refl })
write_refuses old new m call ReadOnly begins needs writes off left is few why = (writes, why, λ _ made. left made)
write_refuses old new m call ReadFailed begins needs writes off left is few why = (begins, why)
write_refuses old new m call PowerCut begins needs writes off left is few why = (begins, why)
write_refuses old new m call NoMemory begins needs writes off left is few why = begins
write_refuses old new m call _ begins needs writes off left is few why = absurd (not_so is)

-- a cause between later states
pub cause_later : (old mid new : Seen) (fault : Fault) → LeadsTo old mid → WorkCause mid fault new → WorkCause old fault new
cause_later old mid new FlashFull later why = why
cause_later old mid new ReadOnly later why = why
cause_later old mid new ReadFailed later why = omega arith
cause_later old mid new PowerCut later why = why
cause_later old mid new NoMemory later why = tt
cause_later old mid new _ later why = absurd why

-- Steps.

-- what holds whatever was answered
pub in_refusal : {T : Type 0} {P : Type 0} (result : Result T Fault) → P → OnErr result P
in_refusal (Ok x) holds = tt
in_refusal (Err fault) holds = holds

-- a refusal of what was answered
pub at_refusal : {T : Type 0} (a b : Moment) (call : Call) (fault : Fault) (result : Result T Fault) → result ≡ Err fault
    → IsRefused a call fault b → IfErr result (λ x. IsRefused a call x b)
at_refusal a b call fault result is refuses = subst (λ r. IfErr r (λ x. IsRefused a call x b)) (sym is) refuses

pub refused_step : (a b : Moment) (call : Call) (fault : Fault) → IsMountedAt a → IsWorked a b → IsRefused a call fault b
    → IsStep a call (Err fault) b (is_cut fault)
refused_step a b call fault m w refuses = record { later = worked_later a b w; answers = (refuses, worked_machine a b m w, refl) }

-- a call that only looks is answered so
pub looked_answer : (a b : Moment) (call : Call) (result : Result Reply Fault) → IsMountedAt a → is_still call ≡ false → IsLooked a b → LooksOnce (machine_at a) call a.device b.device → IsStep a call result b (is_cut_answer result) → IsAnswered a call result b
looked_answer a b call result m moves l asks step =
    let w = looked_worked a b l in
    record {
      mounted = worked_mounted a b m w;
      step = step;
      leaves = read_leaves a b call l moves asks;
      is_off = w.rest.is_off;
      pages = worked_pages a b m w;
      reached = worked_reaches a b m w;
      refused = in_refusal result w.rest.history;
      regrouped = in_refusal result w.rest.group;
    }

-- the state, where a call answered so
abbrev pub remembering : {T : Type 0} → State → Result T Fault → State
remembering t result = record t { is_off = t.is_off || is_cut_answer result }

pub remembered_step : (a b : Moment) (u : State) (call : Call) (result again : Result Reply Fault) → again ≡ result → a.state.is_off ≡ false → u ≡ remembering b.state result → tells_space call ≡ false
    → IsAnswered a call result b → Steps a call again (moment b.device u)
remembered_step a b u call result again told on is plain answered =
    subst (λ r. Steps a call r (moment b.device u)) (sym told)
    (subst (λ v. Steps a call result (moment b.device v)) (sym is) (record {
      step = subst (λ o. StepFrom o (b.state.is_off || is_cut_answer result)) (sym on)
          (subst (λ o. StepFrom false (o || is_cut_answer result)) (sym (answered.is_off ∙ on)) answered.step);
      leaves = answered.leaves;
      told = λ space. absurd (both_ways (tells_space call) plain space);
      reached = answered.reached;
      refused = answered.refused;
      regrouped = answered.regrouped;
      stopped = λ off. absurd (both_ways a.state.is_off on off);
    }))
  where
    StepFrom : Bool → Bool → Type 0
    StepFrom off off' = CallStep (shown_at a off) call result (shown_at b off')

-- the system stays mounted: where the answer is that the power is off, it is
pub remembered_mounted : (a b : Moment) (u : State) (call : Call) (result : Result Reply Fault) → u ≡ remembering b.state result → IsMountedAt b → IsStep a call result b (is_cut_answer result) → IsMounted b.device u
remembered_mounted a b u call result is m step = subst (IsMounted b.device) (sym is) (record {
  lawful = m.lawful;
  ring_blocks = m.ring_blocks;
  fits = m.fits;
  roots = m.roots;
  machine = m.machine;
  off = λ off. elim (or_cases b.state.is_off (is_cut_answer result) off) [
    | inl was ↦ m.off was
    | inr cut ↦ answered_off (seen_at a) (machine_at a) false call result (seen_at b) (machine_at b) (is_cut_answer result) step.answers (λ wrong. absurd (true≢false (sym wrong))) cut
  ];
})

-- a call that makes no version and is none for the record
pub never : {P : Type 0} (b : Bool) → b && false ≡ true → P
never b h = absurd (true≢false (sym (and_parts b false h).1))

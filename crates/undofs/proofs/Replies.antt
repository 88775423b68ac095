-- What a call that was carried out answers, and what is left of the flash by one that needs no node.
use Rattle.std.proofs.Common.{◌≡◌, ℕ, inl, inr, Bool, true, false, Result, Ok, Err, refl, sym, ap, ◌∙◌}
use Rattle.std.proofs.lemmas.Bool.{true≢false}
use Rattle.std.specs.Prelude.{◌&&◌}
use Rattle.fs_types.specs.declared.call.Call.{Call}
use Rattle.fs_types.specs.declared.call.Reply.{Reply}
use Rattle.fs_types.specs.declared.fault.Fault.{Fault}
use Rattle.fs_types.specs.declared.fault.Fault.TheVariants.{FlashFull}
use Rattle.history_machine.specs.Machine.{Machine, Space, answer_of, reply_of, is_accepted, changes_tree, change_need}
use Rattle.flash_model.specs.Device.{Device}
use Rattle.working_state.specs.Leaves.{is_still}
use Rattle.working_state.specs.Looking.{only_looks}
use Rattle.working_state.specs.Mounted.{StateStep}
use Rattle.working_state.specs.Seen.{machine_on}
use Rattle.working_state.specs.Steps.{is_sync, tells_space}
use Rattle.system.specs.Commits.{TriesOnce}
use Rattle.system.specs.Steps.{SystemStep}
use Rattle.system.specs.Systems.{IsSystem}
use Rattle.system.specs.declared.systems.System.{System}
use Rattle.system.proofs.Retried.{never_full}
use Rattle.system.proofs.StateSteps.{state_step}
use Rattle.system.proofs.Twice.{step_once}
use Rattle.undofs.specs.Systems.{TellsNothing}

-- ---- the reply

abbrev pub no_space : Space
no_space = record { blocks = 0; bad = 0; free = 0; anchors = 0 }

abbrev reply_in : Result Reply Fault → Reply → Reply
reply_in (Ok reply) other = reply
reply_in _ other = other

-- it is the machine's
pub reply_is : (d e : Device) (m n : System) (call : Call) (reply : Reply) → tells_space call ≡ false → SystemStep d m call (Ok reply) e n → reply ≡ reply_of no_space (machine_on d m.state) call
reply_is d e m n call reply told step =
    let done = step.answers.1 in
    ap (λ (r : Result Reply Fault). reply_in r reply) (sym (done.answered no_space told) ∙ ap (answer_of no_space (machine_on d m.state) call) done.accepted)

untold : (m : Machine) (call : Call) → TellsNothing call → tells_space call ≡ false
untold m Call.Df nothing = absurd (let wrong : Reply.Df 0 0 0 0 ≡ Reply.Empty = nothing no_space m in cc)
untold m _ nothing = refl

pub reply_is_empty : (d e : Device) (m n : System) (call : Call) (reply : Reply) → TellsNothing call → SystemStep d m call (Ok reply) e n → reply ≡ Reply.Empty
reply_is_empty d e m n call reply nothing step =
    reply_is d e m n call reply (untold (machine_on d m.state) call nothing) step ∙ nothing no_space (machine_on d m.state)

-- what `df` answers
pub reply_tells_space : (d e : Device) (m n : System) (reply : Reply) → SystemStep d m Call.Df (Ok reply) e n
    → (space : Space) × (reply ≡ Reply.Df space.blocks space.bad space.free space.anchors)
reply_tells_space d e m n reply step =
    let told = step.told refl in
    let done = step.answers.1 in
    (told.0, ap (λ (r : Result Reply Fault). reply_in r reply) (sym told.2 ∙ ap (answer_of told.0 (machine_on d m.state) Call.Df) done.accepted))

-- the log is asked of the state alone, and its step is that of the system
pub log_step : (d : Device) (m : System) (result : Result Reply Fault) → IsSystem d m → StateStep d m.state Call.Log result d m.state → SystemStep d m Call.Log result d m
log_step d m result system step = step_once d d m m _ _ (state_step d d m m.state m.bodies _ _ system step refl (λ _. refl)) system (λ capacity x. refl)

-- ---- the flash

-- a call that needs no node is tried once
once_of : (d e : Device) (m n : System) (call : Call) (result : Result Reply Fault) → ((capacity : ℕ) (x : Machine) → change_need capacity x call ≡ 0) → SystemStep d m call result e n → TriesOnce d m call result e n
once_of d e m n call result none step = elim step.tries [
  | inl once ↦ once.0
  | inr both ↦ absurd (never_full d both.device m both.system call (Err FlashFull) both.first none refl)
]

-- neither kind of call needs a node, or commits
record NeedsNothing (call : Call) : Type 0 where
  none : (capacity : ℕ) (x : Machine) → change_need capacity x call ≡ 0
  unsynced : is_sync call ≡ false

still_needs : (call : Call) → is_still call ≡ true → NeedsNothing call
still_needs (Call.Open path flags) is = absurd (true≢false (sym is))
still_needs (Call.Pwrite descriptor offset bytes) is = absurd (true≢false (sym is))
still_needs (Call.Ftruncate descriptor length) is = absurd (true≢false (sym is))
still_needs (Call.WriteFile path bytes) is = absurd (true≢false (sym is))
still_needs (Call.WriteFiles directory files) is = absurd (true≢false (sym is))
still_needs (Call.Rename old new) is = absurd (true≢false (sym is))
still_needs (Call.Unlink path) is = absurd (true≢false (sym is))
still_needs (Call.Mkdir path) is = absurd (true≢false (sym is))
still_needs (Call.Rmdir path) is = absurd (true≢false (sym is))
still_needs (Call.Fsync descriptor) is = absurd (true≢false (sym is))
still_needs Call.Sync is = absurd (true≢false (sym is))
still_needs _ is = record { none = λ capacity x. refl; unsynced = refl }

looking_needs : (call : Call) → only_looks call ≡ true → NeedsNothing call
looking_needs (Call.Stat view path) is = record { none = λ capacity x. refl; unsynced = refl }
looking_needs (Call.List view path) is = record { none = λ capacity x. refl; unsynced = refl }
looking_needs (Call.ReadAt view path offset count) is = record { none = λ capacity x. refl; unsynced = refl }
looking_needs (Call.Entries view path from most) is = record { none = λ capacity x. refl; unsynced = refl }
looking_needs (Call.Pread descriptor offset count) is = record { none = λ capacity x. refl; unsynced = refl }
looking_needs _ is = absurd (true≢false (sym is))

and_false : (b : Bool) → (b && false) ≡ false
and_false true = refl
and_false false = refl

changes_none : (m : Machine) (call : Call) → only_looks call ≡ true → changes_tree m call ≡ false
changes_none m (Call.Stat view path) is = and_false (is_accepted m (Call.Stat view path))
changes_none m (Call.List view path) is = and_false (is_accepted m (Call.List view path))
changes_none m (Call.ReadAt view path offset count) is = and_false (is_accepted m (Call.ReadAt view path offset count))
changes_none m (Call.Entries view path from most) is = and_false (is_accepted m (Call.Entries view path from most))
changes_none m (Call.Pread descriptor offset count) is = and_false (is_accepted m (Call.Pread descriptor offset count))
changes_none m _ is = absurd (true≢false (sym is))

-- one that does no device operation leaves the flash as it was
pub stays_still : (d e : Device) (m n : System) (call : Call) (result : Result Reply Fault) → SystemStep d m call result e n → is_still call ≡ true → e ≡ d
stays_still d e m n call result step is =
    let needs = still_needs call is in
    (((once_of d e m n call result needs.none step).leaves needs.unsynced).still is).0

-- one that only looks changes no page
pub keeps_pages : (d e : Device) (m n : System) (call : Call) (result : Result Reply Fault) → SystemStep d m call result e n → only_looks call ≡ true → (p : ℕ) → e.pages p ≡ d.pages p
keeps_pages d e m n call result step is p =
    let needs = looking_needs call is in
    (((once_of d e m n call result needs.none step).leaves needs.unsynced).looked (changes_none (machine_on d m.state) call is)).untouched.device.pages p

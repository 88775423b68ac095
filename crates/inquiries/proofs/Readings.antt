-- What a call that only looks answers and leaves, and why it is refused.
use Rattle.std.proofs.Common.{◌≡◌, ◌∙◌, ◌⊎◌, inl, inr, ◌≤◌, ℕ, Bool, true, false, Option, Some, None, Result, Ok, Err, refl, sym, ap, subst, arith}
use Rattle.std.proofs.lemmas.Bool.{true≢false}
use Rattle.std.proofs.lemmas.List.{take_all}
use Rattle.std.specs.Prelude.{◌&&◌, if◌then◌else◌, IfOk, IfErr, List, length}
use Rattle.std.specs.FinMap.{get}
use Rattle.std.specs.Option.{option_or, option_map_or}
use Rattle.fs_types.specs.Names.{Name, Path}
use Rattle.fs_types.specs.declared.call.Call.{Call}
use Rattle.fs_types.specs.declared.call.Reply.{Reply}
use Rattle.fs_types.specs.declared.call.View.{View}
use Rattle.fs_types.specs.declared.fault.Fault.{Fault}
use Rattle.fs_types.specs.declared.fault.Fault.TheVariants.{NoEntry, IsDirectory, FlashFull, ReadOnly, Overflow, ReadFailed, PowerCut, NoMemory}
use Rattle.fs_types.specs.declared.limits.TheConstants.{MAX_FILE_BYTES}
use Rattle.plain_trees.specs.Contents.{Entry, is_dir, lookup_refusal, read_from}
use Rattle.plain_trees.specs.Trees.{bytes_of_file, bytes_of, IsFileTree}
use Rattle.history_machine.specs.History.{view_refusal}
use Rattle.history_machine.specs.Machine.{Machine, view_tree, refusal, machine_of, reply_of, log_of, is_accepted, changes_tree, change_need, need}
use Rattle.flash_model.specs.Device.{Device}
use Rattle.working_state.specs.Seen.{Seen, seen_on, machine_on, showing, Shown, shown_on}
use Rattle.working_state.specs.Steps.{is_writing, is_sync, tells_space, replied, MayRefuse}
use Rattle.working_state.proofs.Steps.{writes-version}
use Rattle.system.specs.Steps.{TriesTwice, SystemAnswers, SystemStep}
use Rattle.system.specs.Systems.{IsSystem}
use Rattle.system.specs.declared.systems.System.{System}
use Rattle.system.proofs.Retried.{never_full}
use Rattle.undofs.proofs.Replies.{no_space, reply_is}
use Rattle.undofs.proofs.RunLaws.{refused_keeps}
use Rattle.flash_model.specs.declared.flash.Flash.{Ghosts}
use Rattle.undofs.specs.Values.{log_reply}
use Rattle.undofs.specs.declared.fs.Fs.{Fs}
use Rattle.undofs.specs.declared.log.Log.{Log}
use Rattle.inquiries.specs.Readings.{Meets, shown, IsUnchanged, Fails}
use Rattle.inquiries.specs.Versions.{kept_serials, kept_names}
use Rattle.inquiries.proofs.Entries.{view-file_tree}

-- a call that changes nothing, and needs no node
pub record IsReading (call : Call) : Type 0 where
  pub still : (m : Machine) → machine_of m call None ≡ m
  pub quiet : (m : Machine) → is_writing m call ≡ false
  pub unsynced : is_sync call ≡ false
  pub untold : tells_space call ≡ false
  pub needless : (capacity : ℕ) (m : Machine) → change_need capacity m call ≡ 0

and_false : (b : Bool) → (b && false) ≡ false
and_false true = refl
and_false false = refl

pub stat_reads : (view : View) (path : Path) → IsReading (Call.Stat view path)
stat_reads view path = record { still = λ m. refl; quiet = λ m. and_false (is_accepted m (Call.Stat view path)); unsynced = refl; untold = refl; needless = λ capacity m. refl }

pub entries_reads : (view : View) (path : Path) (from : Option Name) (most : ℕ) → IsReading (Call.Entries view path from most)
entries_reads view path from most = record { still = λ m. refl; quiet = λ m. and_false (is_accepted m (Call.Entries view path from most)); unsynced = refl; untold = refl; needless = λ capacity m. refl }

pub file_reads : (view : View) (path : Path) (offset count : ℕ) → IsReading (Call.ReadAt view path offset count)
file_reads view path offset count = record { still = λ m. refl; quiet = λ m. and_false (is_accepted m (Call.ReadAt view path offset count)); unsynced = refl; untold = refl; needless = λ capacity m. refl }

pub log_reads : IsReading Call.Log
log_reads = record { still = λ m. refl; quiet = λ m. and_false (is_accepted m Call.Log); unsynced = refl; untold = refl; needless = λ capacity m. refl }

-- the machine that it leaves
same_of : (twice : Type 0) (old : Shown) (call : Call) (result : Result Reply Fault) (new : Shown) → IsReading call → SystemAnswers twice old call result new → new.machine ≡ old.machine
same_of twice old call (Ok reply) new is h = h.1.leaves ∙ ap (machine_of old.machine call) h.1.accepted ∙ is.still old.machine
same_of twice old call (Err fault) new is h = refused_keeps twice old call fault new h

-- it needs no node, whatever it changes
no_need : (capacity : ℕ) (m : Machine) (call : Call) → IsReading call → need capacity m call ≡ 0
no_need capacity m call is = by (changes_tree m call)
  where
    by : (b : Bool) → (if b then change_need capacity m call else 0) ≡ 0
    by true = is.needless capacity m
    by false = refl

-- a further refusal is by what the work met
met : (d e : Device) (m n : System) (call : Call) (fault : Fault) → IsReading call → MayRefuse (seen_on d m.state) (machine_on d m.state) call fault (seen_on e n.state) → Meets d e fault
met d e m n call FlashFull is why =
    let some = why.0 in let zero_need = no_need (seen_on d m.state).capacity (machine_on d m.state) call is in absurd (omega (arith, some, zero_need))
met d e m n call ReadOnly is why = absurd (true≢false (sym why.0 ∙ is.quiet (machine_on d m.state)))
met d e m n call Overflow is (off, inl version) = absurd (true≢false (sym (writes-version (machine_on d m.state) call version.0) ∙ is.quiet (machine_on d m.state)))
met d e m n call Overflow is (off, inr sync) = absurd (true≢false (sym sync.0 ∙ is.unsynced))
met d e m n call ReadFailed is why = why.1
met d e m n call PowerCut is why = why.1
met d e m n call NoMemory is why = tt
met d e m n call _ is why = absurd why

-- it is not tried twice
tried_once : (d e : Device) (m n : System) (call : Call) (result : Result Reply Fault) → IsReading call → TriesTwice d m call result e n → ⊥
tried_once d e m n call result is twice = never_full d twice.device m twice.system call (Err FlashFull) twice.first is.needless refl

why_of : (d e : Device) (m n : System) (off off' : Bool) (call : Call) (fault : Fault) → IsReading call → (off ≡ true → d.powered ≡ false)
    → SystemAnswers (TriesTwice d m call (Err fault) e n) (showing (seen_on d m.state) (machine_on d m.state) off) call (Err fault) (showing (seen_on e n.state) (machine_on e n.state) off')
    → (refusal (machine_on d m.state) call ≡ Some fault) ⊎ Meets d e fault
why_of d e m n true off' call fault is dark h =
    inr (subst (Meets d e) (sym h.0) (ap (λ (s : Seen). s.powered) h.1 ∙ dark refl))
why_of d e m n false off' call fault is dark h = elim h.0 [
  | inl why ↦ elim why [
    | inl own ↦ inl own
    | inr may ↦ inr (met d e m n call fault is may)
  ]
  | inr second ↦ absurd (tried_once d e m n call (Err fault) is second.0)
]

module _ (d e : Device) (m n : System) (call : Call) (result : Result Reply Fault) (is : IsReading call) (step : SystemStep d m call result e n) where
  pub same_machine : machine_on e n.state ≡ machine_on d m.state
  same_machine = same_of (TriesTwice d m call result e n) (shown_on d m.state) call result (shown_on e n.state) is step.answers

  pub more_failed : d.failed_reads ≤ e.failed_reads
  more_failed = step.later.failed_reads

  pub accepted_reply : (reply : Reply) → result ≡ Ok reply → (refusal (machine_on d m.state) call ≡ None) × (reply ≡ reply_of no_space (machine_on d m.state) call)
  accepted_reply reply was =
      let step' : SystemStep d m call (Ok reply) e n = subst (λ r. SystemStep d m call r e n) was step in
      (step'.answers.1.accepted, reply_is d e m n call reply is.untold step')

  pub why_refused : (fault : Fault) → IsSystem d m → result ≡ Err fault → (refusal (machine_on d m.state) call ≡ Some fault) ⊎ Meets d e fault
  why_refused fault s was =
      let step' : SystemStep d m call (Err fault) e n = subst (λ r. SystemStep d m call r e n) was step in
      why_of d e m n m.state.is_off n.state.is_off call fault is s.mounted.off step'.answers

-- what a call of a mounted system tells, which gives a value where it is accepted
module _ {T : Type 0} (f : T → Reply) (d e : Device) (m n : System) (call : Call) (is : IsReading call) where
  pub accepted_of : (result : Result T Fault) → SystemStep d m call (replied f result) e n → IfOk result (λ x. refusal (machine_on d m.state) call ≡ None)
  accepted_of (Ok x) step = (accepted_reply d e m n call (Ok (f x)) is step (f x) refl).0
  accepted_of (Err fault) step = tt

  pub told_of : (result : Result T Fault) → SystemStep d m call (replied f result) e n → IfOk result (λ x. f x ≡ reply_of no_space (machine_on d m.state) call)
  told_of (Ok x) step = (accepted_reply d e m n call (Ok (f x)) is step (f x) refl).1
  told_of (Err fault) step = tt

  pub refused_of : (result : Result T Fault) → IsSystem d m → SystemStep d m call (replied f result) e n → IfErr result (λ fault. (refusal (machine_on d m.state) call ≡ Some fault) ⊎ Meets d e fault)
  refused_of (Ok x) s step = tt
  refused_of (Err fault) s step = why_refused d e m n call (Err fault) is step fault s refl

-- ---- the log

module _ (d : Device) (m : System) (result : Result Log Fault) (step : SystemStep d m Call.Log (replied log_reply result) d m) where
  -- what it tells
  logged : IfOk result (λ log. log_reply log ≡ log_of (machine_on d m.state).history)
  logged = told_of log_reply d d m m Call.Log log_reads result step

  pub logged_versions : IfOk result (λ log. log.versions ≡ kept_serials (machine_on d m.state))
  logged_versions = each result logged
    where
      each : (r : Result Log Fault) → IfOk r (λ log. log_reply log ≡ log_of (machine_on d m.state).history) → IfOk r (λ log. log.versions ≡ kept_serials (machine_on d m.state))
      each (Ok log) is = cc
      each (Err fault) is = tt

  pub logged_cursor : IfOk result (λ log. log.cursor ≡ (machine_on d m.state).history.cursor)
  logged_cursor = each result logged
    where
      each : (r : Result Log Fault) → IfOk r (λ log. log_reply log ≡ log_of (machine_on d m.state).history) → IfOk r (λ log. log.cursor ≡ (machine_on d m.state).history.cursor)
      each (Ok log) is = cc
      each (Err fault) is = tt

  pub logged_checkpoints : IfOk result (λ log. log.checkpoints ≡ kept_names (machine_on d m.state))
  logged_checkpoints = each result logged
    where
      each : (r : Result Log Fault) → IfOk r (λ log. log_reply log ≡ log_of (machine_on d m.state).history) → IfOk r (λ log. log.checkpoints ≡ kept_names (machine_on d m.state))
      each (Ok log) is = cc
      each (Err fault) is = tt

  -- and by what it is refused
  pub log_met : IsSystem d m → IfErr result (Meets d d)
  log_met system = each result (refused_of log_reply d d m m Call.Log log_reads result system step)
    where
      each : (r : Result Log Fault) → IfErr r (λ fault. (refusal (machine_on d m.state) Call.Log ≡ Some fault) ⊎ Meets d d fault) → IfErr r (Meets d d)
      each (Ok log) why = tt
      each (Err fault) (inl own) = let wrong : None ≡ Some fault = own in absurd cc
      each (Err fault) (inr met) = met

-- ---- the bytes of a file

or_none : {A : Type 0} (a b : Option A) → option_or a b ≡ None → b ≡ None
or_none None b e = e
or_none (Some x) b e = absurd cc

-- a file that is read whole
pub whole_file : (m : Machine) (view : View) (path : Path) (bytes : List ℕ) → IsFileTree (view_tree m view) → refusal m (Call.ReadAt view path 0 MAX_FILE_BYTES) ≡ None
    → bytes ≡ read_from (bytes_of_file (view_tree m view) path) 0 MAX_FILE_BYTES → get (view_tree m view) path ≡ Some (Entry.File bytes)
whole_file m view path bytes good ok is =
    go (get (view_tree m view) path) refl (or_none (lookup_refusal (get (view_tree m view)) path) _ (or_none (view_refusal m.history view) _ ok)) is
  where
    go : (o : Option Entry) → get (view_tree m view) path ≡ o → option_map_or (λ entry. if is_dir entry then Some IsDirectory else None) o (Some NoEntry) ≡ None
        → bytes ≡ read_from (bytes_of (get (view_tree m view) path)) 0 MAX_FILE_BYTES → get (view_tree m view) path ≡ Some (Entry.File bytes)
    go None there own said = absurd cc
    go (Some Entry.Dir) there own said = absurd cc
    go (Some (Entry.File all)) there own said =
        let short : length all ≤ MAX_FILE_BYTES = good.lengths path all there in
        let same : bytes ≡ all = said ∙ ap (λ o. read_from (bytes_of o) 0 MAX_FILE_BYTES) there ∙ take_all MAX_FILE_BYTES all short in
        there ∙ ap (λ b. Some (Entry.File b)) (sym same)

pub file_of : (d e : Device) (m n : System) (view : View) (path : Path) (result : Result (List ℕ) Fault) → IsSystem d m
    → SystemStep d m (Call.ReadAt view path 0 MAX_FILE_BYTES) (replied Reply.Bytes result) e n → IfOk result (λ bytes. get (view_tree (machine_on d m.state) view) path ≡ Some (Entry.File bytes))
file_of d e m n view path (Ok bytes) s step =
    let call = Call.ReadAt view path 0 MAX_FILE_BYTES in
    let a = accepted_reply d e m n call (Ok (Reply.Bytes bytes)) (file_reads view path 0 MAX_FILE_BYTES) step (Reply.Bytes bytes) refl in
    let told = a.1 in
    let same : bytes ≡ read_from (bytes_of_file (view_tree (machine_on d m.state) view) path) 0 MAX_FILE_BYTES = cc in
    whole_file (machine_on d m.state) view path bytes (view-file_tree (machine_on d m.state) view s.mounted.machine) a.0 same
file_of d e m n view path (Err fault) s step = tt

-- ---- one reading after another

module _ {F : Type 0} {flash : Ghosts F} where
  pub unchanged-refl : (a : Fs F flash) → IsUnchanged a a
  unchanged-refl a = record { machine = refl; pages = λ p. refl; failed_reads = omega arith; same_flash = refl }

  pub unchanged-trans : (a b c : Fs F flash) → IsUnchanged a b → IsUnchanged b c → IsUnchanged a c
  unchanged-trans a b c first second = record {
    machine = second.machine ∙ first.machine;
    pages = λ p. second.pages p ∙ first.pages p;
    failed_reads = omega (arith, first.failed_reads, second.failed_reads);
    same_flash = second.same_flash ∙ first.same_flash;
  }

  -- what was met in the second was met in both
  pub meets-later : (a b c : Fs F flash) (fault : Fault) → IsUnchanged a b → Meets (flash.device b.flash.now) (flash.device c.flash.now) fault → Meets (flash.device a.flash.now) (flash.device c.flash.now) fault
  meets-later a b c ReadFailed first met = omega (arith, first.failed_reads, met)
  meets-later a b c PowerCut first met = met
  meets-later a b c NoMemory first met = tt
  meets-later a b c _ first met = absurd met

  -- where a call is accepted, its refusal is by what the work met
  pub met_only : (a b c : Fs F flash) (call : Call) (fault : Fault) → IsUnchanged a b → refusal (shown a) call ≡ None → Fails (refusal (shown b) call) b c fault
      → Meets (flash.device a.flash.now) (flash.device c.flash.now) fault
  met_only a b c call fault first ok (inl own) =
      let wrong : None ≡ Some fault = sym (ap (λ m. refusal m call) first.machine ∙ ok) ∙ own in absurd cc
  met_only a b c call fault first ok (inr met) = meets-later a b c fault first met

  -- why the second is refused is why both are
  pub fails-later : (own : Machine → Option Fault) (a b c : Fs F flash) (fault : Fault) → IsUnchanged a b → Fails (own (shown b)) b c fault → Fails (own (shown a)) a c fault
  fails-later own a b c fault first (inl is) = inl (sym (ap own first.machine) ∙ is)
  fails-later own a b c fault first (inr met) = inr (meets-later a b c fault first met)

-- of two refusals the first is that of both, and the second is where there is no first
pub first_of_two : (a b : Option Fault) (fault : Fault) (M : Type 0) → (a ≡ Some fault) ⊎ M → (option_or a b ≡ Some fault) ⊎ M
first_of_two a b fault M (inl is) = inl (ap (λ (o : Option Fault). option_or o b) is)
first_of_two a b fault M (inr met) = inr met

pub second_of_two : (a b : Option Fault) (fault : Fault) (M : Type 0) → a ≡ None → (b ≡ Some fault) ⊎ M → (option_or a b ≡ Some fault) ⊎ M
second_of_two a b fault M none (inl is) = inl (ap (λ (o : Option Fault). option_or o b) none ∙ is)
second_of_two a b fault M none (inr met) = inr met

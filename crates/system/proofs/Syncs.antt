-- The step of a call that commits the working history.
use Rattle.std.proofs.Common.{◌≡◌, ◌⊎◌, inl, inr, ℕ, zero, suc, ◌+◌, ◌-◌, ◌^◌, ◌<◌, ◌≤◌, Bool, true, false, cond, ◌||◌, Option, Some, None, Bor, Result, Ok, Err, List, [], ◌∷◌, refl, sym, ap, ◌∙◌, arith}
use Rattle.std.proofs.lemmas.Bool.{true≢false}
use Rattle.std.proofs.lemmas.List.Sums.{sum_by-cons}
use Rattle.std.specs.Prelude.{is_some, is_none, if◌then◌else◌, Contains, OnOk, OnErr, IfErr, not, count_by}
use Rattle.std.specs.List.{range_with_len}
use Rattle.std.specs.FinSet as set
use Rattle.std.specs.Ordering.{nat_cmp}
use Rattle.std.specs.Option.{option_map_or, option_copied}
use Rattle.history_machine.specs.Descriptors.{Descriptor, descriptor_at}
use Rattle.history_machine.specs.History.{Past, map_group}
use Rattle.history_machine.specs.Machine.{Machine, Space, refusal, answer, next, makes_version, outside_refusal}
use Rattle.plain_trees.specs.Trees.{Tree}
use Rattle.fs_types.specs.declared.call.Call.{Call}
use Rattle.fs_types.specs.declared.call.Group.{Group}
use Rattle.fs_types.specs.declared.call.Reply.{Reply}
use Rattle.fs_types.specs.declared.fault.Fault.{Fault}
use Rattle.fs_types.specs.declared.fault.Fault.TheVariants.{ReadOnly, Overflow, PowerCut, NoMemory, BadDescriptor, InGroup}
use Rattle.fs_types.specs.declared.limits.TheConstants.{ANCHORS}
use Rattle.flash_model.specs.Device.{Device, block_of}
use Rattle.block_ring.specs.Ring.{Ring, is_busy, free_count}
use Rattle.bad_blocks.specs.Mode.{is_read_only}
use Rattle.nodes.specs.Bodies.{Blocks}
use Rattle.nodes.specs.Reached.{Reached, IsFirst, IsNamed}
use Rattle.record_format.specs.declared.record.Record.{Record}
use Rattle.node_store.specs.NodePages.{node_of}
use Rattle.anchors.specs.declared.best.Found.{Found}
use Rattle.anchors.specs.Newest.{remembered}
use Rattle.anchors.specs.Parts.{parts_on, best_on, sequence_of, greatest_on}
use Rattle.anchors.specs.Anchored.{OnlyAnchors}
use Rattle.anchors.specs.Committing.{Commits}
use Rattle.working_state.specs.Roots.{IsReached}
use Rattle.working_state.specs.Seen.{Seen, seen_on, machine_on, tree_on, showing, shown_on}
use Rattle.working_state.specs.Steps.{is_sync, is_cut, is_cut_answer, begins_work, is_writing, replied, empty, tells_space, LeadsTo, AnswersOnce, MayRefuse}
use Rattle.working_state.proofs.BadCounts.{len-within, stays_read_only}
use Rattle.working_state.specs.declared.state.State.{State}
use Rattle.mounting.specs.Records.{history_of, roots_of}
use Rattle.mounting.specs.Saved.{saved_on, saved_trees}
use Rattle.system.specs.Commits.{record_on, Saves, SaveCause, LacksSequence, CommitRefuses, RecordAfter, TriesOnce}
use Rattle.system.specs.Systems.{IsSystem}
use Rattle.system.specs.declared.systems.System.{System}
use Rattle.mounting.proofs.SameNodes.{same_room}
use Rattle.system.proofs.AfterCommits.{same, same_history, same_machine, saved_after, whole_after, trees_after, newly_trees}
use Rattle.system.proofs.Committed.{newly_saved}

abbrev failed_as : (T : Type 0) → Fault → Result T Fault
failed_as T fault = Err fault

-- ---- calls that commit

-- an accepted call that commits answers nothing, and leaves the machine
pub record IsSyncing (m : Machine) (call : Call) : Type 0 where
  pub sync : is_sync call ≡ true
  pub accepted : refusal m call ≡ None
  pub answered : (space : Space) → answer space m call ≡ Ok Reply.Empty
  pub leaves : next m call ≡ m
  pub no_version : makes_version m call ≡ false
  pub begins : begins_work m call ≡ true
  pub writing : is_writing m call ≡ true

-- no group is open
outside : (m : Machine) → m.group ≡ None → outside_refusal m None ≡ None
outside m none = ap (λ (g : Option (Group Tree)). if is_some g then Some InGroup else None) none

-- nor is one on the machine of a state in which none is
pub ungrouped_on : (d : Device) (m : System) → m.state.group ≡ None → (machine_on d m.state).group ≡ None
ungrouped_on d m none = ap (λ (g : Option (Group ℕ)). map_group (tree_on d) g) none

pub sync_syncs : (m : Machine) → m.group ≡ None → IsSyncing m Call.Sync
sync_syncs m none =
    let accepted : refusal m Call.Sync ≡ None = outside m none in
    record {
      sync = refl;
      accepted = accepted;
      answered = λ space. rw accepted refl;
      leaves = rw accepted refl;
      no_version = rw accepted refl;
      begins = rw accepted refl;
      writing = rw accepted refl;
    }

pub fsync_syncs : (m : Machine) (descriptor : ℕ) → refusal m (Call.Fsync descriptor) ≡ None → IsSyncing m (Call.Fsync descriptor)
fsync_syncs m descriptor accepted = record {
  sync = refl;
  accepted = accepted;
  answered = λ space. rw accepted refl;
  leaves = rw accepted refl;
  no_version = rw accepted refl;
  begins = rw accepted refl;
  writing = rw accepted refl;
}

-- a file is open under the descriptor
pub is_open_there : (m : Machine) (descriptor : ℕ) → m.group ≡ None → (o : Option Descriptor) → o ≡ descriptor_at m.descriptors descriptor → is_some o ≡ true → refusal m (Call.Fsync descriptor) ≡ None
is_open_there m descriptor none None is some = absurd (true≢false (sym some))
is_open_there m descriptor none (Some x) is some = ap (λ (p : Option Descriptor). option_map_or (λ (y : Descriptor). outside_refusal m None) p (Some BadDescriptor)) (sym is) ∙ outside m none

pub copied_some : {X : Type 0} (o : Option (Bor X)) → is_some o ≡ true → is_some (option_copied o) ≡ true
copied_some None some = some
copied_some (Some x) some = refl

-- ---- free blocks

pub same_count : (p q : ℕ → Bool) (s n : ℕ) → ((b : ℕ) → s ≤ b → p b ≡ q b) → count_by p (range_with_len s n) ≡ count_by q (range_with_len s n)
same_count p q s zero h = refl
same_count p q s (suc n) h =
    sum_by-cons (λ x. cond (p x) 1 0) s (range_with_len (s + 1) n)
    ∙ (λ i. cond (h s (omega arith) i) 1 0 + same_count p q (s + 1) n (λ b more. h b (omega arith)) i)
    ∙ sym (sum_by-cons (λ x. cond (q x) 1 0) s (range_with_len (s + 1) n))

-- no data block goes bad where only anchors do
pub same_data : (d e : Device) (was now : set.FinSet nat_cmp) → OnlyAnchors d was e now → (b : ℕ) → ANCHORS ≤ b → set.contains now b ≡ set.contains was b
same_data d e was now anchors b least = by (set.contains was b) (set.contains now b) refl refl
  where
    by : (x y : Bool) → set.contains was b ≡ x → set.contains now b ≡ y → y ≡ x
    by true y before after = sym after ∙ anchors.stays_bad b before
    by false false before after = refl
    by false true before after = absurd (let anchor : b < ANCHORS = anchors.bad_anchor b after before in omega arith)

-- as many data blocks are free, whatever anchors become bad
free_same : (ring : Ring) (was now : set.FinSet nat_cmp) → ((b : ℕ) → ANCHORS ≤ b → set.contains now b ≡ set.contains was b) → free_count ring now ≡ free_count ring was
free_same ring was now same = same_count (λ b. not (is_busy ring now b)) (λ b. not (is_busy ring was b)) ANCHORS (ring.blocks - ANCHORS) (λ b least i. not (set.contains ring.used b || same b least i))

-- what roots reach one of them does
pub reached_from : (f : Blocks) (roots : List ℕ) (b : ℕ) → Reached f roots b → (root : ℕ) × Contains roots root × Reached f (root ∷ []) b
reached_from f roots b (IsFirst has) = (b, has, IsFirst (0, omega arith, refl))
reached_from f roots b (IsNamed {block = c} reached names) = let from = reached_from f roots c reached in (from.0, from.1, IsNamed from.2 names)

-- a call that commits tells no space
tells_none : (call : Call) → is_sync call ≡ true → tells_space call ≡ true → ⊥
tells_none Call.Df sync tells = true≢false (sym sync)
tells_none _ sync tells = true≢false (sym tells)

-- ---- what is seen

module _ {T : Type 0} (d e : Device) (m n : System) (result : Result T Fault) (s : IsSystem d m) (on : m.state.is_off ≡ false) (saves : Saves d m result e n) where
  anchors : OnlyAnchors d m.state.storage.bad e n.state.storage.bad
  anchors = saves.only_anchors

  pub later : LeadsTo (seen_on d m.state) (seen_on e n.state)
  later =
      let free : free_count n.state.storage.ring n.state.storage.bad ≡ free_count m.state.storage.ring m.state.storage.bad =
      ap (λ (t : State). free_count t.storage.ring n.state.storage.bad) saves.state ∙ free_same m.state.storage.ring m.state.storage.bad n.state.storage.bad (same_data d e m.state.storage.bad n.state.storage.bad anchors) in
      let takes : n.state.storage.ring.takes ≡ m.state.storage.ring.takes = ap (λ (t : State). t.storage.ring.takes) saves.state in
      record {
        capacity = same_room d e (same d e m n result s saves);
        failed_reads = anchors.failed_reads;
        failures = anchors.failures;
        listed = len-within m.state.storage.bad n.state.storage.bad anchors.stays_bad;
        taken = omega (arith, free, takes);
        cuts = anchors.cuts;
        was_on = anchors.was_on;
        stays_read_only = stays_read_only m.state.storage.bad n.state.storage.bad anchors.stays_bad;
      }

  -- the flag after it
  flag : n.state.is_off ≡ is_cut_answer result
  flag = ap (λ (t : State). t.is_off) saves.state ∙ ap (λ (b : Bool). b || is_cut_answer result) on

  writable_before : is_read_only n.state.storage.bad ≡ false → is_read_only m.state.storage.bad ≡ false
  writable_before off = by (is_read_only m.state.storage.bad) refl
    where
      by : (x : Bool) → is_read_only m.state.storage.bad ≡ x → x ≡ false
      by false is = refl
      by true is = absurd (true≢false (sym (stays_read_only m.state.storage.bad n.state.storage.bad anchors.stays_bad is) ∙ off))

  -- why it is refused
  may_refuse : (call : Call) (fault : Fault) → IsSyncing (machine_on d m.state) call → SaveCause d m e n fault → MayRefuse (seen_on d m.state) (machine_on d m.state) call fault (seen_on e n.state)
  may_refuse call ReadOnly is why = (is.writing, why, λ off makes. absurd (true≢false (sym makes ∙ is.no_version)))
  may_refuse call Overflow is why = (why.0, inr (is.sync, ap is_none is.accepted))
  may_refuse call PowerCut is why = (is.begins, why)
  may_refuse call NoMemory is why = is.begins
  may_refuse call _ is why = absurd why

  -- the blocks that the newest record reaches are used
  used : (r : Record) → saved_on d ≡ Some r → (b : ℕ) → Reached (node_of d) (roots_of (history_of r)) b → set.contains m.state.storage.ring.used b ≡ true
  used r is b reached =
      let from = reached_from (node_of d) (roots_of (history_of r)) b reached in
      (s.stands on r is from.0 from.1).held from.0 refl b from.2

  -- the blocks that a version, a checkpoint or the group reaches are used
  reached_used : (b : ℕ) → IsReached d m.state b → set.contains m.state.storage.ring.used b ≡ true
  reached_used b (root, has, reached) = (s.mounted.roots root has).held root refl b reached

  synced : OnOk (replied empty result) (saved_trees e ≡ Some (machine_on d m.state).history)
  synced = by result saves.commits
    where
      by : (r : Result T Fault) → Commits d.pages e.pages (record_on d m.state) (greatest_on d.geometry d.pages + 1) n.state.storage.bad r → OnOk (replied empty r) (saved_trees e ≡ Some (machine_on d m.state).history)
      by (Ok x) c = newly_trees d e m n result s saves (newly_saved d e m.state _ n.state.storage.bad anchors.geometry c)
      by (Err fault) c = tt

  -- the newest record after it
  record_after : (call : Call) → is_sync call ≡ true → RecordAfter (is_sync call ≡ true) call (replied empty result) d (machine_on d m.state).history e
  record_after call sync = record {
    either = by (trees_after d e m n result s saves (saved_after d e m n result s saves) on);
    synced = λ is. synced;
    whole = whole_after d e m n result s saves (saved_after d e m n result s saves) on;
    anchors = λ none. absurd (none sync);
    kept = inl (λ r is p reached. saves.used_pages p (used r is (block_of d p) reached));
  }
    where
      by : (saved_trees e ≡ saved_trees d) ⊎ (saved_trees e ≡ Some (machine_on d m.state).history) → (saved_trees e ≡ saved_trees d) ⊎ ((is_sync call ≡ true) × (saved_trees e ≡ Some (machine_on d m.state).history))
      by (inl was) = inl was
      by (inr newly) = inr (sync, newly)

  answers : (call : Call) → IsSyncing (machine_on d m.state) call → IfErr result (SaveCause d m e n)
      → AnswersOnce (shown_on d m.state) call (replied empty result) (shown_on e n.state)
  answers call is why = by result m.state.is_off on flag saves.writable why
    where
      by : (r : Result T Fault) (off : Bool) → off ≡ false → n.state.is_off ≡ is_cut_answer r → OnOk r (is_read_only n.state.storage.bad ≡ false) → IfErr r (SaveCause d m e n)
          → AnswersOnce (showing (seen_on d m.state) (machine_on d m.state) off) call (replied empty r) (shown_on e n.state)
      by (Ok x) off was is_flag writable why = (
        was,
        record {
          accepted = is.accepted;
          answered = λ space told. is.answered space;
          leaves = same_machine d e m n result s saves ∙ sym is.leaves;
          writable = λ writes. (writable_before writable, writable);
          serial_left = λ makes. absurd (true≢false (sym makes ∙ is.no_version));
        },
        is_flag,
      )
      by (Err fault) true was is_flag writable why = absurd (true≢false was)
      by (Err fault) false was is_flag writable why = (inr (may_refuse call fault is why), same_machine d e m n result s saves, is_flag)

  -- the same of the reply
  replied_saves : Saves d m (replied empty result) e n
  replied_saves = by result saves
    where
      of_fault : (fault : Fault) → Commits {T = T} d.pages e.pages (record_on d m.state) (greatest_on d.geometry d.pages + 1) n.state.storage.bad (Err fault)
          → Commits {T = Reply} d.pages e.pages (record_on d m.state) (greatest_on d.geometry d.pages + 1) n.state.storage.bad (Err fault)
      of_fault PowerCut c = c
      of_fault _ c = c

      by : (r : Result T Fault) → Saves d m r e n → Saves d m (replied empty r) e n
      by (Ok x) a = record { commits = a.commits; only_anchors = a.only_anchors; used_pages = a.used_pages; state = a.state; writable = a.writable; placed = a.placed; overflow = λ is. absurd cc }
      by (Err fault) a = record { commits = of_fault fault a.commits; only_anchors = a.only_anchors; used_pages = a.used_pages; state = a.state; writable = tt; placed = tt; overflow = λ is. a.overflow (ap Err (same_fault is)) }
        where
          same_fault : {x y : Fault} → failed_as Reply x ≡ failed_as Reply y → x ≡ y
          same_fault e = cc

  -- a call that committed
  pub committed : (call : Call) → IsSyncing (machine_on d m.state) call → IfErr result (SaveCause d m e n) → n.pass ≡ m.pass → n.prepared ≡ m.prepared → (LacksSequence d m → (result ≡ Err Overflow) × (e ≡ d) × (n ≡ m)) → TriesOnce d m call (replied empty result) e n
  committed call is why same_pass same_prepared refuses = record {
    step = record { later = later; answers = answers call is why };
    leaves = λ none. absurd (true≢false (sym is.sync ∙ none));
    saves = λ sync. replied_saves;
    told = λ tells. absurd (tells_none call is.sync tells);
    refused = unchanged result;
    regrouped = regrouped result;
    stopped = λ off. absurd (true≢false (sym off ∙ on));
    last = λ _ _ _ lacks. let refused = refuses lacks in (ap (replied empty) refused.0, refused.1, refused.2);
    pass = same_pass;
    prepared = same_prepared;
    pages = λ p reached. saves.used_pages p (reached_used (block_of d p) reached);
    after = record_after call is.sync;
  }
    where
      regrouped : (r : Result T Fault) → OnErr (replied empty r) (n.state.group ≡ m.state.group)
      regrouped (Ok x) = tt
      regrouped (Err fault) = ap (λ (t : State). t.group) saves.state

      unchanged : (r : Result T Fault) → OnErr (replied empty r) (n.state.history ≡ m.state.history)
      unchanged (Ok x) = tt
      unchanged (Err fault) = same_history d e m n result s saves

-- ---- calls that were refused before any work

kept_anchors : (d : Device) (bad : set.FinSet nat_cmp) → OnlyAnchors d bad d bad
kept_anchors d bad = record {
  geometry = refl;
  data_pages = λ p above. refl;
  stays_bad = λ b is. is;
  bad_anchor = λ b is none. absurd (true≢false (sym is ∙ none));
  bad_worn = λ b is none. absurd (true≢false (sym is ∙ none));
  worn = λ b is. is;
  failures = refl;
  failed_reads = omega arith;
  cuts = omega arith;
  was_on = λ is. is;
  stays_off = λ off. refl;
  list_off = λ off. refl;
}

kept_record : (d : Device) (m : System) (fault : Fault) (working : Past Tree) (call : Call) → RecordAfter (is_sync call ≡ true) call (Err fault) d working d
kept_record d m fault working call = record {
  either = inl refl;
  synced = λ is. tt;
  whole = λ was. was;
  anchors = λ is p low. refl;
  kept = inl (λ r is p reached. refl);
}

keeps_itself : (T : Type 0) (d : Device) (m : System) (fault : Fault) → Commits {T = T} d.pages d.pages (record_on d m.state) (greatest_on d.geometry d.pages + 1) m.state.storage.bad (Err fault)
keeps_itself T d m PowerCut = inl (record { heads = λ q head is. is; place = refl; newest = refl })
keeps_itself T d m _ = record { heads = λ q head is. is; place = refl; newest = refl }

seen_itself : (a : Seen) → LeadsTo a a
seen_itself a = record {
  capacity = refl;
  failed_reads = omega arith;
  failures = refl;
  listed = omega arith;
  taken = refl;
  cuts = omega arith;
  was_on = λ is. is;
  stays_read_only = λ is. is;
}

pub refused_saves : {T : Type 0} (d : Device) (m : System) (fault : Fault) → (m.state.is_off || is_cut fault) ≡ m.state.is_off → (fault ≡ Overflow → greatest_on d.geometry d.pages ≡ 2 ^ 64 - 1) → Saves {T = T} d m (Err fault) d m
refused_saves {T = T} d m fault off last = record {
  commits = keeps_itself T d m fault;
  only_anchors = kept_anchors d m.state.storage.bad;
  used_pages = λ p is. refl;
  state = λ i. record m.state { is_off = sym off i };
  writable = tt;
  placed = tt;
  overflow = λ is. last (same_fault is);
}
  where
    same_fault : {x y : Fault} → failed_as T x ≡ failed_as T y → x ≡ y
    same_fault e = cc

-- the sequence that is remembered is the greatest
pub known_greatest : (d : Device) (m : System) → IsSystem d m → m.state.is_off ≡ false → greatest_on d.geometry d.pages ≡ sequence_of (remembered m.anchors)
known_greatest d m s on = by (best_on d.geometry (parts_on d.geometry d.pages)).twice (best_on d.geometry (parts_on d.geometry d.pages)).found (s.known on).place (s.known on).some
  where
    by : (twice : Bool) (found : Option Found) → (if twice then None else found) ≡ remembered m.anchors → is_some (remembered m.anchors) ≡ true → sequence_of found ≡ sequence_of (remembered m.anchors)
    by true found is some = absurd (true≢false (sym some ∙ ap is_some (sym is)))
    by false found is some = ap sequence_of is

-- a commit that is refused before anything is asked for
pub turned_away : (d : Device) (m : System) (fault : Fault) → IsSystem d m → m.state.is_off ≡ false → CommitRefuses m fault
    → Saves {T = Unit {0}} d m (Err fault) d m × SaveCause d m d m fault × (LacksSequence d m → fault ≡ Overflow)
turned_away d m ReadOnly s on why = (refused_saves d m ReadOnly (ap (λ (b : Bool). b || false) on ∙ sym on) (λ e. absurd cc), why, λ lacks. absurd (true≢false (sym why ∙ lacks.0)))
turned_away d m Overflow s on why =
    let last = known_greatest d m s on ∙ why.1 in
    (refused_saves d m Overflow (ap (λ (b : Bool). b || false) on ∙ sym on) (λ e. last), (why.0, last), λ lacks. refl)
turned_away d m _ s on why = absurd why

-- the device is off, as a call told before
pub off_step : (d : Device) (m : System) (call : Call) → is_sync call ≡ true → m.state.is_off ≡ true → TriesOnce d m call (Err PowerCut) d m
off_step d m call sync off = record {
  step = record { later = seen_itself (seen_on d m.state); answers = by m.state.is_off off };
  leaves = λ none. absurd (true≢false (sym sync ∙ none));
  saves = λ is. refused_saves d m PowerCut (ap (λ (b : Bool). b || true) off ∙ sym off) (λ e. absurd cc);
  told = λ tells. tt;
  refused = refl;
  regrouped = refl;
  stopped = λ is. (refl, refl);
  last = λ _ on. absurd (true≢false (sym off ∙ on));
  pass = refl;
  prepared = refl;
  pages = λ p reached. refl;
  after = kept_record d m PowerCut _ call;
}
  where
    by : (b : Bool) → b ≡ true → AnswersOnce (showing (seen_on d m.state) (machine_on d m.state) b) call (Err PowerCut) (showing (seen_on d m.state) (machine_on d m.state) b)
    by true is = (refl, refl, refl, refl)
    by false is = absurd (true≢false (sym is))

-- a group is open
pub grouped_step : (d : Device) (m : System) (call : Call) → is_sync call ≡ true → m.state.is_off ≡ false → refusal (machine_on d m.state) call ≡ Some InGroup → TriesOnce d m call (Err InGroup) d m
grouped_step d m call sync on refused = record {
  step = record { later = seen_itself (seen_on d m.state); answers = by m.state.is_off on };
  leaves = λ none. absurd (true≢false (sym sync ∙ none));
  saves = λ is. refused_saves d m InGroup (ap (λ (b : Bool). b || false) on ∙ sym on) (λ e. absurd cc);
  told = λ tells. tt;
  refused = refl;
  regrouped = refl;
  stopped = λ is. (refl, refl);
  last = λ _ _ accepted. absurd (true≢false (sym accepted ∙ ap is_none refused));
  pass = refl;
  prepared = refl;
  pages = λ p reached. refl;
  after = kept_record d m InGroup _ call;
}
  where
    by : (b : Bool) → b ≡ false → AnswersOnce (showing (seen_on d m.state) (machine_on d m.state) b) call (Err InGroup) (showing (seen_on d m.state) (machine_on d m.state) b)
    by false is = (inl refused, refl, refl)
    by true is = absurd (true≢false is)

map_grouped : (f : ℕ → Tree) (g : Option (Group ℕ)) → is_some g ≡ true → is_some (map_group f g) ≡ true
map_grouped f None some = some
map_grouped f (Some g) some = refl

pub refused_in_group : (d : Device) (m : System) → is_some m.state.group ≡ true → outside_refusal (machine_on d m.state) None ≡ Some InGroup
refused_in_group d m some = ap (λ b. if b then Some InGroup else None) (map_grouped (tree_on d) m.state.group some)

-- an fsync of an open file, in a group
pub fsync_grouped : (m : Machine) (descriptor : ℕ) (o : Option Descriptor) → o ≡ descriptor_at m.descriptors descriptor → is_some o ≡ true → outside_refusal m None ≡ Some InGroup → refusal m (Call.Fsync descriptor) ≡ Some InGroup
fsync_grouped m descriptor None is some grouped = absurd (true≢false (sym some))
fsync_grouped m descriptor (Some x) is some grouped = ap (λ (p : Option Descriptor). option_map_or (λ (y : Descriptor). outside_refusal m None) p (Some BadDescriptor)) (sym is) ∙ grouped

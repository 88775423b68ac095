-- The step of a call that is tried once, or twice.
use Rattle.std.proofs.Common.{◌≡◌, ◌≢◌, ◌⊎◌, inl, inr, ℕ, ◌+◌, ◌*◌, ◌<◌, ◌≤◌, Bool, true, false, not, ◌||◌, Option, Some, None, Result, Ok, Err, List, [], ◌∷◌, ◌++◌, count_by, refl, sym, ap, subst, ◌∙◌, arith}
use Rattle.std.proofs.lemmas.Bool.{true≢false, both_ways, and_parts}
use Rattle.std.proofs.lemmas.List.Elements.{Contains-append_cases, Contains-append_left}
use Rattle.std.specs.Prelude.{◌/◌, is_some, if◌then◌else◌, Contains}
use Rattle.std.specs.FinSet as set
use Rattle.std.specs.Option.{option_map_or}
use Rattle.std.specs.Ordering.{nat_cmp}
use Rattle.history_machine.specs.Descriptors.{Descriptor, descriptor_at}
use Rattle.history_machine.specs.History.{Past}
use Rattle.block_ring.specs.Ring.{data_blocks, free_count, is_busy}
use Rattle.history_machine.specs.Machine.{Machine, Space, makes_version, need, change_need, is_accepted, pwrite_tree, tree_after, changes_tree}
use Rattle.plain_trees.specs.Trees.{Tree}
use Rattle.fs_types.specs.declared.call.Call.{Call}
use Rattle.fs_types.specs.declared.call.Group.{Group}
use Rattle.fs_types.specs.declared.call.Reply.{Reply}
use Rattle.fs_types.specs.declared.fault.Fault.{Fault}
use Rattle.fs_types.specs.declared.fault.Fault.TheVariants.{FlashFull, ReadOnly, Overflow, ReadFailed, PowerCut, NoMemory}
use Rattle.flash_model.specs.declared.geometry.Geometry.{Geometry}
use Rattle.flash_model.specs.Device.{Device, block_of}
use Rattle.node_store.specs.NodePages.{node_of}
use Rattle.node_store.specs.Storage.{storage}
use Rattle.node_store.specs.StoreLaws.{Evolved_node}
use Rattle.nodes.specs.Bodies.{Blocks}
use Rattle.nodes.specs.Reached.{Reached}
use Rattle.reclaim.proofs.Marking.{reached_same, reached_back}
use Rattle.bad_blocks.specs.Mode.{is_read_only}
use Rattle.working_state.specs.Mounted.{KeepsPages}
use Rattle.working_state.specs.Roots.{IsReached, IsSpace}
use Rattle.working_state.specs.Seen.{Seen, capacity_of, seen_on, machine_on, showing, shown_on}
use Rattle.working_state.specs.Steps.{last_serial, is_sync, is_light, begins_work, is_cut, is_cut_answer, is_writing, tells_space, Refuses, LeadsTo}
use Rattle.working_state.specs.Steps as once_only
use Rattle.working_state.specs.Worked.{ReadCause}
use Rattle.working_state.specs.declared.state.State.{State}
use Rattle.working_state.proofs.ChangeSteps.{change_accepted}
use Rattle.working_state.proofs.CutCalls.{own_says}
use Rattle.working_state.proofs.Refusals.{accepted_begins}
use Rattle.mounting.specs.Records.{roots_of, group_roots, working_roots}
use Rattle.mounting.specs.Saved.{saved_trees, IsWholeRecord}
use Rattle.system.specs.Commits.{Saves, SaveCause, KeepsRecord, RecordAfter, TriesOnce}
use Rattle.system.specs.Reclaiming.{GoesOnFrom, Stays, EndsPass}
use Rattle.system.specs.Rooms.{unmarked, no_limit, MarksAnew, LacksCommit}
use Rattle.system.specs.Steps.{TriesAgain, MakesNoRoom, TriesTwice, IsOfSecond, SystemAnswers, IsAfter, bad_data, Takes, SystemStep}
use Rattle.system.specs.Systems.{IsSystem}
use Rattle.system.specs.declared.systems.System.{System}
use Rattle.system.proofs.AfterCommits.{same, same_machine, same_history, saved_after, whole_after, trees_after, newly_trees}
use Rattle.system.proofs.Committed.{IsNewly, newly_saved}
use Rattle.system.proofs.Measured.{listed_root, has_same}
use Rattle.system.proofs.Passing.{must_used}
use Rattle.mounting.proofs.SameNodes.{HasSameData, same_nodes, same_room}
use Rattle.system.proofs.SameRecords.{same_trees, still_whole}
use Rattle.system.proofs.Spent.{same_bad_data, more_bad, committed_data, committed_takes, once_takes, full_once, free_of_reached}
use Rattle.system.proofs.Syncs.{later, reached_from}

-- ---- one try

as_after : (old new : Seen) → LeadsTo old new → IsAfter old new
as_after old new l = record {
  capacity = l.capacity;
  failed_reads = l.failed_reads;
  failures = l.failures;
  listed = l.listed;
  cuts = l.cuts;
  was_on = l.was_on;
  stays_read_only = l.stays_read_only;
}

after_on : (a b c : Seen) → IsAfter a b → IsAfter b c → IsAfter a c
after_on a b c x y = record {
  capacity = y.capacity ∙ x.capacity;
  failed_reads = omega (arith, x.failed_reads, y.failed_reads);
  failures = omega (arith, x.failures, y.failures);
  listed = omega (arith, x.listed, y.listed);
  cuts = omega (arith, x.cuts, y.cuts);
  was_on = λ on. x.was_on (y.was_on on);
  stays_read_only = λ is. y.stays_read_only (x.stays_read_only is);
}

as_answers : (twice : Type 0) (old : Seen) (m : Machine) (off : Bool) (call : Call) (result : Result Reply Fault) (new : Seen) (n : Machine) (off' : Bool)
    → once_only.AnswersOnce (showing old m off) call result (showing new n off') → SystemAnswers twice (showing old m off) call result (showing new n off')
as_answers twice old m off call (Ok reply) new n off' h = h
as_answers twice old m true call (Err fault) new n off' h = h
as_answers twice old m false call (Err fault) new n off' (why, is, flag) = (inl why, is, flag)

-- the newest record, where more calls may commit
wider : (a b : Type 0) → (a → b) → (call : Call) (result : Result Reply Fault) (old : Device) (working : Past Tree) (new : Device) → RecordAfter a call result old working new → RecordAfter b call result old working new
wider a b f call result old working new r = record {
  either = elim r.either [
    | inl was ↦ inl was
    | inr newly ↦ inr (f newly.0, newly.1)
  ];
  synced = r.synced;
  whole = r.whole;
  anchors = λ none. r.anchors (λ commits. none (f commits));
  kept = elim r.kept [
    | inl kept ↦ inl kept
    | inr newly ↦ inr (f newly.0, newly.1)
  ];
}

-- the bad list grows
once_bad : (d e : Device) (m n : System) (call : Call) (result : Result Reply Fault) → TriesOnce d m call result e n → (b : ℕ) → set.contains m.state.storage.bad b ≡ true → set.contains n.state.storage.bad b ≡ true
once_bad d e m n call result once = by (is_sync call) refl
  where
    by : (x : Bool) → is_sync call ≡ x → (b : ℕ) → set.contains m.state.storage.bad b ≡ true → set.contains n.state.storage.bad b ≡ true
    by true is = (once.saves is).only_anchors.stays_bad
    by false is = (once.leaves is).written.evolved.stays_bad

-- ---- the first of two

-- a call that needs a node changes the tree
versions : (capacity : ℕ) (m : Machine) (call : Call) → 0 < need capacity m call → changes_tree m call ≡ true
versions capacity m call some = by (changes_tree m call) refl
  where
    by : (x : Bool) → changes_tree m call ≡ x → changes_tree m call ≡ true
    by true is = is
    by false is = absurd (let none : need capacity m call ≡ 0 = ap (λ (y : Bool). if y then change_need capacity m call else 0) is in omega (arith, some, none))

-- so it changes the tree
changes : (m : Machine) (call : Call) → changes_tree m call ≡ true → (is_accepted m call ≡ true) × (is_some (tree_after m call) ≡ true)
changes m call makes = and_parts (is_accepted m call) (is_some (tree_after m call)) makes

writes : (m : Machine) (call : Call) → changes_tree m call ≡ true → is_writing m call ≡ true
writes m call makes = let parts = changes m call makes in rw (parts.0, parts.1) refl

no_sync : (m : Machine) (call : Call) → is_some (tree_after m call) ≡ true → is_sync call ≡ false
no_sync m Call.Sync some = absurd (true≢false (sym some))
no_sync m (Call.Fsync descriptor) some = absurd (true≢false (sym some))
no_sync m _ some = refl

tells_none : (m : Machine) (call : Call) → is_some (tree_after m call) ≡ true → tells_space call ≡ false
tells_none m Call.Df some = absurd (true≢false (sym some))
tells_none m _ some = refl

heavy_call : (m : Machine) (call : Call) → is_some (tree_after m call) ≡ true → is_light call ≡ false
heavy_call m (Call.Close descriptor) some = absurd (true≢false (sym some))
heavy_call m Call.Undo some = absurd (true≢false (sym some))
heavy_call m Call.Redo some = absurd (true≢false (sym some))
heavy_call m (Call.Goto serial) some = absurd (true≢false (sym some))
heavy_call m Call.Begin some = absurd (true≢false (sym some))
heavy_call m Call.End some = absurd (true≢false (sym some))
heavy_call m Call.Abandon some = absurd (true≢false (sym some))
heavy_call m (Call.Pwrite descriptor offset []) some = absurd (by (descriptor_at m.descriptors descriptor) some)
  where
    by : (o : Option Descriptor) → is_some (option_map_or (pwrite_tree m offset []) o None) ≡ true → ⊥
    by None wrong = true≢false (sym wrong)
    by (Some d) wrong = true≢false (sym wrong)
heavy_call m (Call.WriteFiles directory []) some = absurd (true≢false (sym some))
heavy_call m _ some = refl

-- what is known of a call that found the flash full
record IsFull (d : Device) (m : System) (call : Call) (b : Device) (k : System) : Type 0 where
  on : m.state.is_off ≡ false
  still_on : k.state.is_off ≡ false
  machine : machine_on b k.state ≡ machine_on d m.state
  writable : is_read_only m.state.storage.bad ≡ false
  serial_left : makes_version (machine_on d m.state) call ≡ true → (machine_on d m.state).history.next < last_serial
  writing : is_writing (machine_on d m.state) call ≡ true
  begins : begins_work (machine_on d m.state) call ≡ true
  no_commit : is_sync call ≡ false
  no_space : tells_space call ≡ false

pub full_on : (d b : Device) (m k : System) (call : Call) → TriesOnce d m call (Err FlashFull) b k → k.state.is_off ≡ false
full_on d b m k call first = by m.state.is_off first.step.answers
  where
    by : (off : Bool) → once_only.AnswersOnce (showing (seen_on d m.state) (machine_on d m.state) off) call (Err FlashFull) (shown_on b k.state) → k.state.is_off ≡ false
    by true h = absurd (let wrong = h.0 in cc)
    by false h = h.2

is_full : (d b : Device) (m k : System) (call : Call) → TriesOnce d m call (Err FlashFull) b k → IsFull d m call b k
is_full d b m k call first = by m.state.is_off refl first.step.answers
  where
    by : (off : Bool) → m.state.is_off ≡ off → once_only.AnswersOnce (showing (seen_on d m.state) (machine_on d m.state) off) call (Err FlashFull) (shown_on b k.state) → IsFull d m call b k
    by true is h = absurd (let wrong = h.0 in cc)
    by false is (inl says, _, _) = absurd (true≢false (own_says (machine_on d m.state) call FlashFull says))
    by false is (inr why, as_was, flag) =
        let makes = versions (capacity_of d) (machine_on d m.state) call why.0 in
        let some = (changes (machine_on d m.state) call makes).1 in
        record {
          on = is;
          still_on = flag;
          machine = as_was;
          writable = why.1;
          serial_left = why.2;
          writing = writes (machine_on d m.state) call makes;
          begins = accepted_begins (machine_on d m.state) call (change_accepted (machine_on d m.state) call makes) (heavy_call (machine_on d m.state) call some);
          no_commit = no_sync (machine_on d m.state) call some;
          no_space = tells_none (machine_on d m.state) call some;
        }

-- ---- what stays from the first try on

-- the machine and the history are as they were before the call, and what they reach has its pages
record IsBetween (d : Device) (m : System) (c : Device) (q : System) : Type 0 where
  geometry : c.geometry ≡ d.geometry
  is_later : IsAfter (seen_on d m.state) (seen_on c q.state)
  machine : machine_on c q.state ≡ machine_on d m.state
  history : q.state.history ≡ m.state.history
  group : q.state.group ≡ m.state.group
  bad : (b : ℕ) → set.contains m.state.storage.bad b ≡ true → set.contains q.state.storage.bad b ≡ true
  pages : KeepsPages d m.state c
  reaches : (b : ℕ) → IsReached d m.state b → IsReached c q.state b
  whole : IsWholeRecord d → IsWholeRecord c

-- what a history reaches, where the nodes are the same
moved : (x y : Device) (s t : State) → t.history ≡ s.history → t.group ≡ s.group → node_of y ≡ node_of x → (b : ℕ) → IsReached x s b → IsReached y t b
moved x y s t history group nodes b (root, has, reached) = (
  root,
  has_same s t root history group has,
  subst (λ (f : Blocks). Reached f (root ∷ []) b) (sym nodes) reached,
)

tried_between : (d b : Device) (m k : System) (call : Call) → IsSystem d m → TriesOnce d m call (Err FlashFull) b k → IsBetween d m b k
tried_between d b m k call s first =
    let full = is_full d b m k call first in
    let evolved = (first.leaves full.no_commit).written.evolved in
    record {
      geometry = evolved.geometry;
      is_later = as_after (seen_on d m.state) (seen_on b k.state) first.step.later;
      machine = full.machine;
      history = first.refused;
      group = first.regrouped;
      bad = once_bad d b m k call (Err FlashFull) first;
      pages = first.pages;
      reaches = λ block (root, has, reached). (
        root,
        has_same m.state k.state root first.refused first.regrouped has,
        reached_same (node_of d) (node_of b) (root ∷ [])
            (λ c there. Evolved_node (storage d m.state.storage.bad m.state.storage.ring) (storage b k.state.storage.bad k.state.storage.ring) c s.mounted.lawful evolved ((s.mounted.roots root has).held root refl c there)) reached,
      );
      whole = first.after.whole;
    }

module _ {T : Type 0} (d b p : Device) (m k l : System) (result : Result T Fault) (s : IsSystem b k) (on : k.state.is_off ≡ false) (saves : Saves b k result p l) where
  committed_between : IsBetween d m b k → IsBetween d m p l
  committed_between between =
      let alike = same b p k l result s saves in
      record {
        geometry = saves.only_anchors.geometry ∙ between.geometry;
        is_later = after_on (seen_on d m.state) (seen_on b k.state) (seen_on p l.state) between.is_later (as_after (seen_on b k.state) (seen_on p l.state) (later b p k l result s on saves));
        machine = same_machine b p k l result s saves ∙ between.machine;
        history = same_history b p k l result s saves ∙ between.history;
        group = ap (λ (t : State). t.group) saves.state ∙ between.group;
        bad = λ x is. saves.only_anchors.stays_bad x (between.bad x is);
        pages = λ q reached.
            saves.used_pages q (must_used b k s on (block_of b q) (inl (subst (λ (g : Geometry). IsReached b k.state (q / g.pages)) (sym between.geometry) (between.reaches (block_of d q) reached))))
            ∙ between.pages q reached;
        reaches = λ block reached. moved b p k.state l.state (same_history b p k l result s saves) (ap (λ (t : State). t.group) saves.state) (same_nodes b p alike) block (between.reaches block reached);
        whole = λ was. whole_after b p k l result s saves (saved_after b p k l result s saves) on (between.whole was);
      }

marked_later : (p c : Device) (l q : System) → IsSystem p l → Stays p l c q → IsAfter (seen_on p l.state) (seen_on c q.state)
marked_later p c l q s stays =
    let same_bad = ap (λ (x : set.FinSet nat_cmp). set.len x) stays.bad in
    let same_failures = stays.reads.failures in
    record {
      capacity = same_room p c (record { lawful = s.mounted.lawful; geometry = stays.reads.geometry; data_pages = λ x least. stays.reads.pages x });
      failed_reads = stays.reads.failed_reads;
      failures = omega (arith, same_bad, same_failures);
      listed = omega (arith, same_bad);
      cuts = stays.reads.cuts;
      was_on = stays.reads.was_on;
      stays_read_only = λ is. ap is_read_only stays.bad ∙ is;
    }

marked_between : (d p c : Device) (m l q : System) → IsSystem p l → Stays p l c q → IsBetween d m p l → IsBetween d m c q
marked_between d p c m l q s stays between =
    let alike : HasSameData p c = record { lawful = s.mounted.lawful; geometry = stays.reads.geometry; data_pages = λ x least. stays.reads.pages x } in
    record {
      geometry = stays.reads.geometry ∙ between.geometry;
      is_later = after_on (seen_on d m.state) (seen_on p l.state) (seen_on c q.state) between.is_later (marked_later p c l q s stays);
      machine = stays.machine ∙ between.machine;
      history = stays.history ∙ between.history;
      group = stays.group ∙ between.group;
      bad = λ x is. ap (λ (l : set.FinSet nat_cmp). set.contains l x) stays.bad ∙ between.bad x is;
      pages = λ x reached. stays.reads.pages x ∙ between.pages x reached;
      reaches = λ block reached. moved p c l.state q.state stays.history stays.group (same_nodes p c alike) block (between.reaches block reached);
      whole = λ was. still_whole p c s.mounted.lawful stays.reads.geometry stays.reads.pages (between.whole was);
    }

-- ---- room is made

pub unmarked_system : (d : Device) (m : System) → IsSystem d m → IsSystem d (unmarked m)
unmarked_system d m s = record { mounted = s.mounted; bodies = s.bodies; prepared = s.prepared; saved = s.saved; stands = s.stands; roots = s.roots; passing = λ _. tt; known = s.known; listed = s.listed }

as_unmarked : (d b : Device) (m k : System) → IsBetween d m b k → IsBetween d m b (unmarked k)
as_unmarked d b m k x = record { geometry = x.geometry; is_later = x.is_later; machine = x.machine; history = x.history; group = x.group; bad = x.bad; pages = x.pages; reaches = x.reaches; whole = x.whole }

module _ (d b c : Device) (m k q : System) (call : Call) (s : IsSystem d m) (first : TriesOnce d m call (Err FlashFull) b k) (full : IsSystem b k) where
  facts : IsFull d m call b k
  facts = is_full d b m k call first

  tried : IsBetween d m b (unmarked k)
  tried = as_unmarked d b m k (tried_between d b m k call s first)

  module _ (result : Result Bool Fault) (made : MarksAnew b k result c q) where
    saved_between : IsBetween d m made.device made.system
    saved_between = committed_between d b made.device m (unmarked k) made.system (Ok tt) (unmarked_system b k full) facts.still_on made.saves tried

    made_between : IsBetween d m c q
    made_between = marked_between d made.device c m made.system q made.committed made.marks.stays saved_between

    -- the newest record is the working history from before the call
    made_newest : saved_trees c ≡ Some (machine_on d m.state).history
    made_newest =
        let stays = made.marks.stays in
        same_trees made.device c made.committed.mounted.lawful stays.reads.geometry stays.reads.pages
        ∙ newly_trees b made.device (unmarked k) made.system (Ok tt) (unmarked_system b k full) made.saves
        (newly_saved b made.device k.state _ made.system.state.storage.bad made.saves.only_anchors.geometry made.saves.commits)
        ∙ ap (λ (x : Machine). Some x.history) tried.machine

    saved_on_still : made.system.state.is_off ≡ false
    saved_on_still = ap (λ (t : State). t.is_off) made.saves.state ∙ ap (λ (x : Bool). x || false) facts.still_on

    made_off : q.state.is_off ≡ is_cut_answer result
    made_off = made.marks.off ∙ ap (λ (x : Bool). x || is_cut_answer result) saved_on_still

  -- pages of what the newest record reaches stay, where room is not made since the commit is refused
  module _ (fault : Fault) (lacks : LacksCommit b k fault c q) where
    lacks_between : IsBetween d m c q
    lacks_between = committed_between d b c m (unmarked k) q (Err fault) (unmarked_system b k full) facts.still_on lacks.saves tried

    keeps_record : KeepsRecord d c
    keeps_record r is p reached = elim first.after.kept [
      | inl kept ↦ lacks.saves.used_pages p used_there ∙ kept r is p reached
      | inr (sync, newly) ↦ absurd (true≢false (sym sync ∙ facts.no_commit))
    ]
      where
        used_there : set.contains k.state.storage.ring.used (block_of b p) ≡ true
        used_there = subst (λ (g : Geometry). set.contains k.state.storage.ring.used (p / g.pages) ≡ true) (sym (first.leaves facts.no_commit).written.evolved.geometry)
            ((first.leaves facts.no_commit).written.evolved.kept (block_of d p) (must_used d m s facts.on (block_of d p) (inr (r, is, reached))))

    lacks_off : q.state.is_off ≡ is_cut fault
    lacks_off = ap (λ (t : State). t.is_off) lacks.saves.state ∙ ap (λ (x : Bool). x || is_cut fault) facts.still_on

  -- ---- room is not made

  module _ (twice : Type 0) (is_twice : twice) where
    commit_cause : (fault : Fault) → SaveCause b (unmarked k) c q fault → Refuses (seen_on d m.state) (machine_on d m.state) call fault (seen_on c q.state) ⊎ (twice × IsOfSecond fault)
    commit_cause ReadOnly why = inl (inr (facts.writing, why, λ _ made. facts.serial_left made))
    commit_cause Overflow why = inr (is_twice, tt)
    commit_cause PowerCut why = inl (inr (facts.begins, why))
    commit_cause NoMemory why = inl (inr facts.begins)
    commit_cause _ why = absurd why

    read_cause : (x : Seen) (fault : Fault) → (seen_on d m.state).failed_reads ≤ x.failed_reads → ReadCause x fault (seen_on c q.state) → Refuses (seen_on d m.state) (machine_on d m.state) call fault (seen_on c q.state) ⊎ (twice × IsOfSecond fault)
    read_cause x ReadFailed more why = inl (inr (facts.begins, omega (arith, more, why)))
    read_cause x PowerCut more why = inl (inr (facts.begins, why))
    read_cause x NoMemory more why = inl (inr facts.begins)
    read_cause x _ more why = absurd why

    by_power : (result : Result Reply Fault) (fault : Fault) → result ≡ Err fault → Refuses (seen_on d m.state) (machine_on d m.state) call fault (seen_on c q.state) ⊎ (twice × IsOfSecond fault) → machine_on c q.state ≡ machine_on d m.state → q.state.is_off ≡ is_cut fault
        → SystemAnswers twice (shown_on d m.state) call result (shown_on c q.state)
    by_power result fault is why same flag =
        subst (λ (r : Result Reply Fault). SystemAnswers twice (shown_on d m.state) call r (shown_on c q.state)) (sym is)
        (subst (λ (off : Bool). SystemAnswers twice (showing (seen_on d m.state) (machine_on d m.state) off) call (Err fault) (shown_on c q.state)) (sym facts.on) (why, same, flag))

    lacks_answers : (result : Result Reply Fault) (lacks : MakesNoRoom b k result c q) → SystemAnswers twice (shown_on d m.state) call result (shown_on c q.state)
    lacks_answers result lacks = elim lacks.why [
      | inl commit ↦
          by_power result lacks.fault lacks.answers (commit_cause lacks.fault commit.why) (lacks_between lacks.fault commit).machine (lacks_off lacks.fault commit)
      | inr made ↦
          by_power result lacks.fault lacks.answers
          (read_cause (seen_on made.device made.system.state) lacks.fault (saved_between (Err lacks.fault) made).is_later.failed_reads (made.marks.ends (saved_on_still (Err lacks.fault) made)).2)
          (made_between (Err lacks.fault) made).machine (made_off (Err lacks.fault) made)
    ]

    lacks_after : (result : Result Reply Fault) (lacks : MakesNoRoom b k result c q) → RecordAfter ((is_sync call ≡ true) ⊎ twice) call result d (machine_on d m.state).history c
    lacks_after result lacks = elim lacks.why [
      | inl commit ↦ record {
        either = elim (trees_after b c (unmarked k) q (Err lacks.fault) (unmarked_system b k full) commit.saves (saved_after b c (unmarked k) q (Err lacks.fault) (unmarked_system b k full) commit.saves) facts.still_on) [
          | inl was ↦ elim first.after.either [
            | inl before ↦ inl (was ∙ before)
            | inr (sync, newly) ↦ absurd (true≢false (sym sync ∙ facts.no_commit))
          ]
          | inr newly ↦ inr (inr is_twice, newly ∙ ap (λ (x : Machine). Some x.history) tried.machine)
        ];
        synced = λ sync. absurd (true≢false (sym sync ∙ facts.no_commit));
        whole = (lacks_between lacks.fault commit).whole;
        anchors = λ none. absurd (none (inr is_twice));
        kept = inl (keeps_record lacks.fault commit);
      }
      | inr made ↦ record {
        either = inr (inr is_twice, made_newest (Err lacks.fault) made);
        synced = λ sync. absurd (true≢false (sym sync ∙ facts.no_commit));
        whole = (made_between (Err lacks.fault) made).whole;
        anchors = λ none. absurd (none (inr is_twice));
        kept = inr (inr is_twice, made_newest (Err lacks.fault) made);
      }
    ]

    between_of : (result : Result Reply Fault) (lacks : MakesNoRoom b k result c q) → IsBetween d m c q
    between_of result lacks = elim lacks.why [
      | inl commit ↦ lacks_between lacks.fault commit
      | inr made ↦ made_between (Err lacks.fault) made
    ]

  -- ---- the second try

  module _ (e : Device) (n : System) (result : Result Reply Fault) (room : MarksAnew b k (Ok true) c q) (second : TriesOnce c q call result e n) (twice : Type 0) (is_twice : twice) where
    at : IsBetween d m c q
    at = made_between (Ok true) room

    again_cause : (fault : Fault) → Refuses (seen_on c q.state) (machine_on d m.state) call fault (seen_on e n.state) → Refuses (seen_on d m.state) (machine_on d m.state) call fault (seen_on e n.state) ⊎ (twice × IsOfSecond fault)
    again_cause fault (inl own) = inl (inl own)
    again_cause FlashFull (inr why) = inr (is_twice, tt)
    again_cause ReadOnly (inr why) = inl (inr (why.0, why.1, λ _ made. facts.serial_left made))
    again_cause Overflow (inr why) = inr (is_twice, tt)
    again_cause ReadFailed (inr why) = inl (inr (why.0, let more = at.is_later.failed_reads in let fails = why.1 in omega (arith, more, fails)))
    again_cause PowerCut (inr why) = inl (inr why)
    again_cause NoMemory (inr why) = inl (inr why)
    again_cause _ (inr why) = absurd why

    again_answers : SystemAnswers twice (shown_on d m.state) call result (shown_on e n.state)
    again_answers =
        subst (λ (off : Bool). SystemAnswers twice (showing (seen_on d m.state) (machine_on d m.state) off) call result (shown_on e n.state)) (sym facts.on)
        (by result (subst (λ (off : Bool). once_only.AnswersOnce (showing (seen_on c q.state) (machine_on d m.state) off) call result (shown_on e n.state)) (made_off (Ok true) room)
        (subst (λ (x : Machine). once_only.AnswersOnce (showing (seen_on c q.state) x q.state.is_off) call result (shown_on e n.state)) at.machine second.step.answers)))
      where
        by : (r : Result Reply Fault) → once_only.AnswersOnce (showing (seen_on c q.state) (machine_on d m.state) false) call r (shown_on e n.state)
            → SystemAnswers twice (showing (seen_on d m.state) (machine_on d m.state) false) call r (shown_on e n.state)
        by (Ok reply) (on, is, flag) = (
          on,
          record {
            accepted = is.accepted;
            answered = is.answered;
            leaves = is.leaves;
            writable = λ writes. (facts.writable, (is.writable writes).1);
            serial_left = is.serial_left;
          },
          flag,
        )
        by (Err fault) (why, same, flag) = (again_cause fault why, same, flag)

    again_newest : saved_trees e ≡ Some (machine_on d m.state).history
    again_newest = elim second.after.either [
      | inl was ↦ was ∙ made_newest (Ok true) room
      | inr (sync, newly) ↦ absurd (true≢false (sym sync ∙ facts.no_commit))
    ]

    again_after : RecordAfter ((is_sync call ≡ true) ⊎ twice) call result d (machine_on d m.state).history e
    again_after = record {
      either = inr (inr is_twice, again_newest);
      synced = λ sync. absurd (true≢false (sym sync ∙ facts.no_commit));
      whole = λ was. second.after.whole (at.whole was);
      anchors = λ none. absurd (none (inr is_twice));
      kept = inr (inr is_twice, again_newest);
    }

    again_pages : KeepsPages d m.state e
    again_pages p reached =
        second.pages p (subst (λ (g : Geometry). IsReached c q.state (p / g.pages)) (sym at.geometry) (at.reaches (block_of d p) reached))
        ∙ at.pages p reached

-- ---- the space of two tries

module _ (d e : Device) (m n : System) (call : Call) (result : Result Reply Fault) (s : IsSystem d m) (both : TriesTwice d m call result e n) where
  abbrev b : Device
  b = both.device

  abbrev k : System
  k = both.system

  abbrev nodes : ℕ
  nodes = need (capacity_of d) (machine_on d m.state) call

  full_first : IsFull d m call b k
  full_first = is_full d b m k call both.first

  sizes_first : b.geometry ≡ d.geometry
  sizes_first = (both.first.leaves full_first.no_commit).written.evolved.geometry

  -- neither a commit nor a marking takes a block, and no data block goes bad in them
  record IsIdle (x : State) : Type 0 where
    takes : x.storage.ring.takes ≡ k.state.storage.ring.takes
    bad : bad_data d x ≡ bad_data d k.state

  committed_idle : {T : Type 0} (r : Result T Fault) (p : Device) (l : System) → Saves b (unmarked k) r p l → IsIdle l.state
  committed_idle r p l saves = record {
    takes = committed_takes b p (unmarked k) l r saves;
    bad = sym (same_bad_data d b l.state sizes_first) ∙ committed_data b p (unmarked k) l r saves ∙ same_bad_data d b k.state sizes_first;
  }

  made_idle : (r : Result Bool Fault) (c : Device) (q : System) → MarksAnew b k r c q → IsIdle q.state
  made_idle r c q made =
      let idle = committed_idle (Ok tt) made.device made.system made.saves in
      record {
        takes = made.marks.stays.takes ∙ idle.takes;
        bad = ap (λ (x : set.FinSet nat_cmp). count_by (set.contains x) (data_blocks d.geometry.blocks)) made.marks.stays.bad ∙ idle.bad;
      }

  lacks_idle : MakesNoRoom b k result e n → IsIdle n.state
  lacks_idle lacks = elim lacks.why [
    | inl commit ↦ committed_idle (Err lacks.fault) e n commit.saves
    | inr made ↦ made_idle (Err lacks.fault) e n made
  ]

  tried_few : free_count m.state.storage.ring m.state.storage.bad + bad_data d m.state < bad_data d n.state + nodes
  tried_few = by both.rest
    where
      few : free_count m.state.storage.ring m.state.storage.bad + bad_data d m.state < bad_data d k.state + nodes
      few = full_once d b m k call s both.first full_first.no_commit

      by : MakesNoRoom b k result e n ⊎ TriesAgain b k call result e n → free_count m.state.storage.ring m.state.storage.bad + bad_data d m.state < bad_data d n.state + nodes
      by (inl lacks) = let bad = (lacks_idle lacks).bad in omega (arith, few, bad)
      by (inr again) =
          let bad = (made_idle (Ok true) again.device again.system again.room).bad in
          let more = more_bad d again.system.state n.state (once_bad again.device e again.system n call result again.second) in
          omega (arith, few, bad, more)

  module _ (again : TriesAgain b k call result e n) where
    abbrev c : Device
    c = again.device

    abbrev q : System
    q = again.system

    between : IsBetween d m c q
    between = made_between d b c m k q call s both.first both.full (Ok true) again.room

    same_need : need (capacity_of c) (machine_on c q.state) call ≡ nodes
    same_need i = need (between.is_later.capacity i) (between.machine i) call

    -- what is used after the marking a version or a checkpoint reaches
    still_on : again.room.system.state.is_off ≡ false
    still_on = saved_on_still d b c m k q call s both.first both.full (Ok true) again.room

    ends : EndsPass again.room.device again.room.system no_limit q
    ends = again.room.marks.ends still_on

    newly : IsNewly again.room.device k.state.history
    newly = newly_saved b again.room.device k.state _ again.room.system.state.storage.bad again.room.saves.only_anchors.geometry again.room.saves.commits

    -- the roots of the marking are those of the history and of the group
    root_held : (root : ℕ) → Contains ends.from.roots root → Contains (working_roots m.state) root
    root_held root has = by ends.was
      where
        l : System
        l = again.room.system

        history : l.state.history ≡ m.state.history
        history = (saved_between d b c m k q call s both.first both.full (Ok true) again.room).history

        record_roots : l.record_roots.items ≡ roots_of m.state.history
        record_roots =
            again.room.committed.roots still_on newly.newest newly.saved
            ∙ ap roots_of (newly.history ∙ both.first.refused)

        group : l.state.group ≡ m.state.group
        group = (saved_between d b c m k q call s both.first both.full (Ok true) again.room).group

        by : GoesOnFrom l ends.from q.state.storage.ring.note → Contains (working_roots m.state) root
        by (inl (some, _)) = absurd (let none = again.room.anew in cc)
        by (inr (_, from, _, _)) =
            elim (Contains-append_cases (working_roots l.state) l.record_roots.items root (subst (λ (xs : List ℕ). Contains xs root) from has)) [
              | inl own ↦ subst (λ (x : Past ℕ × Option (Group ℕ)). Contains (roots_of x.0 ++ group_roots x.1) root) (λ i. (history i, group i)) own
              | inr saved ↦ Contains-append_left (roots_of m.state.history) (group_roots m.state.group) root (subst (λ (xs : List ℕ). Contains xs root) record_roots saved)
            ]

    no_note : (x : ℕ) → set.contains q.state.storage.ring.note x ≡ false
    no_note x = by ends.was
      where
        by : GoesOnFrom again.room.system ends.from q.state.storage.ring.note → set.contains q.state.storage.ring.note x ≡ false
        by (inl (some, _)) = absurd (let none = again.room.anew in cc)
        by (inr (_, _, _, empty)) = ap (λ (u : set.FinSet nat_cmp). set.contains u x) empty ∙ set.contains-empty nat_cmp x

    reached_before : (x : ℕ) → Reached (node_of again.room.device) ends.from.roots x → IsReached d m.state x
    reached_before x reached =
        let from = reached_from (node_of again.room.device) ends.from.roots x reached in
        let has = (listed_root m.state from.0).1 (root_held from.0 from.1) in
        (from.0, has, reached_back (node_of d) (node_of again.room.device) (from.0 ∷ []) (λ y there. same_node y (from.0, has, there)) from.2)
      where
        same_node : (y : ℕ) → IsReached d m.state y → node_of again.room.device y ≡ node_of d y
        same_node y there =
            ap (λ (f : Blocks). f y) (same_nodes b again.room.device (same b again.room.device (unmarked k) again.room.system (Ok tt) (unmarked_system b k both.full) again.room.saves))
            ∙ Evolved_node (storage d m.state.storage.bad m.state.storage.ring) (storage b k.state.storage.bad k.state.storage.ring) y s.mounted.lawful (both.first.leaves full_first.no_commit).written.evolved
            ((s.mounted.roots there.0 there.1).held there.0 refl y there.2)

    used_reached : (space : Space) (is : IsSpace d m.state space) (x : ℕ) → set.contains q.state.storage.ring.used x ≡ true → set.contains is.reached x ≡ true
    used_reached space is x used = by (set.contains is.reached x) refl
      where
        by : (y : Bool) → set.contains is.reached x ≡ y → set.contains is.reached x ≡ true
        by true there = there
        by false gone = absurd (both_ways (set.contains q.state.storage.ring.used x)
            (ends.only x (λ reached. both_ways (set.contains is.reached x) gone ((is.are_reached x).1 (reached_before x reached))) (no_note x)) used)

    again_few : result ≡ Err FlashFull → (space : Space) → IsSpace d m.state space → space.free + space.bad < bad_data d n.state + nodes
    again_few full space is =
        let few = full_once c e q n call again.ready (subst (λ (r : Result Reply Fault). TriesOnce c q call r e n) full again.second) full_first.no_commit in
        let now = same_bad_data d c n.state between.geometry in
        let then_bad = same_bad_data d c q.state between.geometry in
        let covers = free_of_reached d.geometry.blocks m.state.storage.bad q.state.storage.bad q.state.storage.ring.used is.reached between.bad (used_reached space is) in
        let ring : free_count q.state.storage.ring q.state.storage.bad ≡ count_by (λ x. not (is_busy q.state.storage.ring q.state.storage.bad x)) (data_blocks d.geometry.blocks) =
        ap (λ (k : ℕ). count_by (λ x. not (is_busy q.state.storage.ring q.state.storage.bad x)) (data_blocks k)) (again.ready.mounted.ring_blocks ∙ ap (λ (g : Geometry). g.blocks) between.geometry) in
        let bad = is.bad in
        let free = is.free in
        let needs = same_need in
        omega (arith, few, now, then_bad, covers, ring, bad, free, needs)

  two_takes : Takes d m.state nodes n.state ⊎ (TriesTwice d m call result e n × (saved_trees e ≡ Some (machine_on d m.state).history) × Takes d m.state (2 * nodes) n.state)
  two_takes = by both.rest
    where
      once : Takes d m.state nodes k.state
      once = once_takes d b m k call (Err FlashFull) s both.first

      by : MakesNoRoom b k result e n ⊎ TriesAgain b k call result e n
          → Takes d m.state nodes n.state ⊎ (TriesTwice d m call result e n × (saved_trees e ≡ Some (machine_on d m.state).history) × Takes d m.state (2 * nodes) n.state)
      by (inl lacks) = let idle = lacks_idle lacks in let takes = idle.takes in let bad = idle.bad in inl (omega (arith, once, takes, bad))
      by (inr again) =
          let idle = made_idle (Ok true) again.device again.system again.room in
          let takes = idle.takes in
          let bad = idle.bad in
          let sizes = (between again).geometry in
          let now = same_bad_data d again.device n.state sizes in
          let then_bad = same_bad_data d again.device again.system.state sizes in
          let needs : need (capacity_of again.device) (machine_on again.device again.system.state) call ≡ nodes = same_need again in
          let second : n.state.storage.ring.takes + bad_data again.device again.system.state ≤ again.system.state.storage.ring.takes + bad_data again.device n.state + need (capacity_of again.device) (machine_on again.device again.system.state) call =
          once_takes again.device e again.system n call result again.ready again.second in
          inr (
            both,
            again_newest d b again.device m k again.system call s both.first both.full e n result again.room again.second (TriesTwice d m call result e n) both,
            omega (arith, once, takes, bad, now, then_bad, needs, second),
          )

  two_full : result ≡ Err FlashFull → (space : Space) → IsSpace d m.state space → space.free + space.bad < bad_data d n.state + nodes
  two_full full = by both.rest
    where
      no_cause : (x : Seen) (fault : Fault) → fault ≡ FlashFull → (y : Seen) → ReadCause x fault y → ⊥
      no_cause x FlashFull is y why = why
      no_cause x _ is y why = absurd cc

      no_save : (x : Device) (u : System) (y : Device) (v : System) (fault : Fault) → fault ≡ FlashFull → SaveCause x u y v fault → ⊥
      no_save x u y v FlashFull is why = why
      no_save x u y v _ is why = absurd cc

      by : MakesNoRoom b k result e n ⊎ TriesAgain b k call result e n → (space : Space) → IsSpace d m.state space → space.free + space.bad < bad_data d n.state + nodes
      by (inl lacks) = absurd (elim lacks.why [
        | inl commit ↦ no_save b (unmarked k) e n lacks.fault same_fault commit.why
        | inr made ↦ no_cause (seen_on made.device made.system.state) lacks.fault same_fault (seen_on e n.state)
            (made.marks.ends (saved_on_still d b e m k n call s both.first both.full (Err lacks.fault) made)).2
      ])
        where
          same_fault : lacks.fault ≡ FlashFull
          same_fault = let is = sym lacks.answers ∙ full in cc
      by (inr again) = again_few again full

few_tried : (d e : Device) (m n : System) (call : Call) (result : Result Reply Fault) → IsSystem d m → TriesTwice d m call result e n
    → free_count m.state.storage.ring m.state.storage.bad + bad_data d m.state < bad_data d n.state + need (capacity_of d) (machine_on d m.state) call
few_tried d e m n call result s both = tried_few d e m n call result s both

-- ---- a call that is tried once

pub once_step : (d e : Device) (m n : System) (call : Call) (result : Result Reply Fault) → IsSystem d m → TriesOnce d m call result e n → result ≢ Err FlashFull → SystemStep d m call result e n
once_step d e m n call result s once other = record {
  tries = inl (once, other);
  later = as_after (seen_on d m.state) (seen_on e n.state) once.step.later;
  answers = as_answers (TriesTwice d m call result e n) (seen_on d m.state) (machine_on d m.state) m.state.is_off call result (seen_on e n.state) (machine_on e n.state) n.state.is_off once.step.answers;
  bad = once_bad d e m n call result once;
  told = once.told;
  stopped = once.stopped;
  pages = once.pages;
  space = record {
    taken = inl (once_takes d e m n call result s once);
    tried = few_tried d e m n call result s;
    full = λ is. absurd (other is);
  };
  after = wider (is_sync call ≡ true) ((is_sync call ≡ true) ⊎ TriesTwice d m call result e n) (λ sync. inl sync) call result d (machine_on d m.state).history e once.after;
}

-- ---- two tries

pub twice_step : (d e : Device) (m n : System) (call : Call) (result : Result Reply Fault) → IsSystem d m → TriesTwice d m call result e n → SystemStep d m call result e n
twice_step d e m n call result s both = by both.rest
  where
    is : IsFull d m call both.device both.system
    is = is_full d both.device m both.system call both.first

    by : MakesNoRoom both.device both.system result e n ⊎ TriesAgain both.device both.system call result e n → SystemStep d m call result e n
    by (inl lacks) = record {
      tries = inr both;
      later = (between_of d both.device e m both.system n call s both.first both.full (TriesTwice d m call result e n) both result lacks).is_later;
      answers = lacks_answers d both.device e m both.system n call s both.first both.full (TriesTwice d m call result e n) both result lacks;
      bad = (between_of d both.device e m both.system n call s both.first both.full (TriesTwice d m call result e n) both result lacks).bad;
      told = λ tells. absurd (true≢false (sym tells ∙ is.no_space));
      stopped = λ off. absurd (true≢false (sym off ∙ is.on));
      space = record { taken = two_takes d e m n call result s both; tried = few_tried d e m n call result s; full = two_full d e m n call result s both };
      pages = (between_of d both.device e m both.system n call s both.first both.full (TriesTwice d m call result e n) both result lacks).pages;
      after = lacks_after d both.device e m both.system n call s both.first both.full (TriesTwice d m call result e n) both result lacks;
    }
    by (inr again) = record {
      tries = inr both;
      later = after_on (seen_on d m.state) (seen_on again.device again.system.state) (seen_on e n.state)
          (made_between d both.device again.device m both.system again.system call s both.first both.full (Ok true) again.room).is_later
          (as_after (seen_on again.device again.system.state) (seen_on e n.state) again.second.step.later);
      answers = again_answers d both.device again.device m both.system again.system call s both.first both.full e n result again.room again.second (TriesTwice d m call result e n) both;
      bad = λ b there.
          once_bad again.device e again.system n call result again.second b
          ((made_between d both.device again.device m both.system again.system call s both.first both.full (Ok true) again.room).bad b there);
      told = λ tells. absurd (true≢false (sym tells ∙ is.no_space));
      stopped = λ off. absurd (true≢false (sym off ∙ is.on));
      space = record { taken = two_takes d e m n call result s both; tried = few_tried d e m n call result s; full = two_full d e m n call result s both };
      pages = again_pages d both.device again.device m both.system again.system call s both.first both.full e n result again.room again.second (TriesTwice d m call result e n) both;
      after = again_after d both.device again.device m both.system again.system call s both.first both.full e n result again.room again.second (TriesTwice d m call result e n) both;
    }

-- a call is tried twice only where the free blocks were fewer than the nodes that it needs and the blocks that went bad
pub few_free : (d e : Device) (m n : System) (call : Call) (result : Result Reply Fault) → TriesTwice d m call result e n
    → (seen_on d m.state).free + (seen_on d m.state).listed < (seen_on e n.state).listed + need (capacity_of d) (machine_on d m.state) call
few_free d e m n call result both =
    let more = grown both.rest in
    let few = first_few m.state.is_off both.first.step.answers in
    omega (arith, more, few)
  where
    b : Device
    b = both.device

    k : System
    k = both.system

    -- the bad list of a commit, and of the marking after it
    committed_listed : {T : Type 0} (r : Result T Fault) (p : Device) (l : System) → Saves b (unmarked k) r p l → (seen_on b k.state).listed ≤ (seen_on p l.state).listed
    committed_listed r p l saves = (later b p (unmarked k) l r (unmarked_system b k both.full) (full_on d b m k call both.first) saves).listed

    marked_listed : (r : Result Bool Fault) (c : Device) (q : System) → MarksAnew b k r c q → (seen_on b k.state).listed ≤ (seen_on c q.state).listed
    marked_listed r c q made =
        let first = committed_listed (Ok tt) made.device made.system made.saves in
        let then_on = (marked_later made.device c made.system q made.committed made.marks.stays).listed in
        omega (arith, first, then_on)

    grown : MakesNoRoom b k result e n ⊎ TriesAgain b k call result e n → (seen_on b k.state).listed ≤ (seen_on e n.state).listed
    grown (inl lacks) = elim lacks.why [
      | inl commit ↦ committed_listed (Err lacks.fault) e n commit.saves
      | inr made ↦ marked_listed (Err lacks.fault) e n made
    ]
    grown (inr again) =
        let room = marked_listed (Ok true) again.device again.system again.room in
        let second = again.second.step.later.listed in
        omega (arith, room, second)

    first_few : (off : Bool) → once_only.AnswersOnce (showing (seen_on d m.state) (machine_on d m.state) off) call (Err FlashFull) (shown_on b k.state)
        → (seen_on d m.state).free + (seen_on d m.state).listed < (seen_on b k.state).listed + need (capacity_of d) (machine_on d m.state) call
    first_few true h = absurd (let wrong = h.0 in cc)
    first_few false (inl says, _, _) = absurd (true≢false (own_says (machine_on d m.state) call FlashFull says))
    first_few false (inr why, _, _) = why.3.few_free

-- a call that needs no node does not find the flash full
pub never_full : (d e : Device) (m n : System) (call : Call) (result : Result Reply Fault) → TriesOnce d m call result e n → ((capacity : ℕ) (x : Machine) → change_need capacity x call ≡ 0) → result ≢ Err FlashFull
never_full d e m n call result once none is = by m.state.is_off (subst (λ (r : Result Reply Fault). once_only.AnswersOnce (shown_on d m.state) call r (shown_on e n.state)) is once.step.answers)
  where
    no_need : (x : Bool) → (if x then change_need (capacity_of d) (machine_on d m.state) call else 0) ≡ 0
    no_need true = none (capacity_of d) (machine_on d m.state)
    no_need false = refl

    by : (off : Bool) → once_only.AnswersOnce (showing (seen_on d m.state) (machine_on d m.state) off) call (Err FlashFull) (shown_on e n.state) → ⊥
    by true h = let wrong = h.0 in cc
    by false (inl says, _, _) = true≢false (own_says (machine_on d m.state) call FlashFull says)
    by false (inr why, _, _) = let needs = why.0 in let zero_need = no_need (changes_tree (machine_on d m.state) call) in omega (arith, needs, zero_need)

-- What a call that does no device operation has to show for its step, and what stays of the invariant.
use Rattle.std.proofs.Common.{◌≡◌, ◌⊎◌, inl, inr, ℕ, ◌+◌, ◌<◌, Bool, true, false, cond, ◌&&◌, Option, Some, None, List, [], ◌∷◌, map, Result, Ok, Err, OnOk, OnErr, IfOk, IfErr, length, sym, ap, refl, ◌∙◌, subst, arith}
use Rattle.std.proofs.lemmas.Bool.{true≢false, both_ways, and_parts, and_from}
use Rattle.std.specs.Prelude.{◌==◌, ◌||◌, nat_lt, nat_le, unwrap_or}
use Rattle.std.specs.Option.{option_map, option_map_or, option_and_then, is_some, is_none}
use Rattle.fs_types.specs.Names.{Name}
use Rattle.plain_trees.specs.Trees.{Tree}
use Rattle.history_machine.specs.History.{Past, map_roots, map_group, changed, checkpoint_root, first_serial, version_place, undo_refusal, redo_refusal, serial_refusal, forget_refusal, name_refusal, checkpoint_refusal, with_checkpoint, group_with}
use Rattle.history_machine.specs.HistoryMaps.{checkpoint_root-map, changed-map, checkpoint_refusal-map, with_checkpoint-map}
use Rattle.history_machine.specs.Descriptors.{Descriptors, any_open}
use Rattle.history_machine.specs.Machine.{Machine, IsMachine, Space, has_paths, travel_refusal, log_of, refusal, answer_of, machine_of, reply_of, is_accepted, changes_tree, makes_version, tree_after, version_after, outside_refusal, machine_with}
use Rattle.history_machine.proofs.Kept.{machine_law}
use Rattle.fs_types.specs.declared.call.Call.{Call}
use Rattle.fs_types.specs.declared.call.Group.{Group}
use Rattle.fs_types.specs.declared.call.Reply.{Reply}
use Rattle.fs_types.specs.declared.call.Version.{Version}
use Rattle.fs_types.specs.declared.fault.Fault.{Fault}
use Rattle.fs_types.specs.declared.fault.Fault.TheVariants.{PowerCut}
use Rattle.node_store.specs.declared.storage.Storage.{Storage}
use Rattle.machine_state.specs.HistoryAnswers.{told_nothing}
use Rattle.working_state.specs.Moments.{Moment, machine_at, seen_at, shown_at, IsMountedAt, IsAnswered, Steps, version_tree, moment}
use Rattle.working_state.specs.Changes.{IsReadOnly, IsOverflow}
use Rattle.working_state.specs.Facts.{facts_of, group_refusal}
use Rattle.working_state.specs.Leaves.{Leaves}
use Rattle.working_state.specs.Roots.{HasRoot, IsSpace, ReachesNew}
use Rattle.working_state.specs.Seen.{Seen, showing}
use Rattle.bad_blocks.specs.Mode.{is_read_only}
use Rattle.working_state.specs.Steps.{last_serial, replied, empty, is_cut, is_cut_answer, is_writing, is_for_record, tells_space, MayRefuse, AnswersOnce, LeadsTo, CallStep}
use Rattle.working_state.specs.declared.state.State.{State}
use Rattle.working_state.proofs.GroupRefusals.{outside_only, travelling, outside_of, closed_of, group_says}
use Rattle.working_state.proofs.Roots.{with_history, at_history, at_work, with_work, same_reach, after_checkpoint}
use Rattle.working_state.proofs.Standing.{AllStand, still_leaves}

same-later : (old : Seen) → LeadsTo old old
same-later old = record { capacity = refl; failed_reads = omega arith; failures = refl; listed = omega arith; taken = refl; cuts = omega arith; was_on = λ e. e; stays_read_only = λ e. e }

module _ (a : Moment) (call : Call) where
  abbrev before : Machine
  before = machine_at a

  -- the space that is left is told
  abbrev TellsSpace : Result Reply Fault → State → Type 0
  TellsSpace result t = IfOk result (λ reply. (space : Space) × IsSpace a.device t space × (answer_of space before call (refusal before call) ≡ Ok reply))

  stays : ReachesNew a.device a.state a.device a.state
  stays = same_reach a.device a.state a.state (λ root has. has)

  -- a call that does no device operation, and is answered so
  pub still_step : (t : State) (result : Result Reply Fault) → t.storage ≡ a.state.storage → (a.state.is_off ≡ true → t ≡ a.state) → (tells_space call ≡ true → TellsSpace result t) → ReachesNew a.device a.state a.device t → OnErr result (t.history ≡ a.state.history) → OnErr result (t.group ≡ a.state.group) → CallStep (shown_at a a.state.is_off) call result (shown_at (moment a.device t) t.is_off) → Steps a call result (moment a.device t)
  still_step t result same stopped told reached refused regrouped step = record {
    step = step;
    told = told;
    leaves = subst (λ (x : Storage). Leaves before call a.device a.state.storage a.device x) (sym same) (still_leaves before a.device a.state.storage call);
    reached = reached;
    refused = refused;
    regrouped = regrouped;
    stopped = λ off. (refl, stopped off);
  }

  -- a call that was carried out, and left this history and this group
  pub done_at : (p : Past ℕ) (g : Option (Group ℕ)) (reply : Reply) → a.state.is_off ≡ false → tells_space call ≡ false → refusal before call ≡ None → ((space : Space) → reply_of space before call ≡ reply) → machine_of before call None ≡ machine_at (at_work a p g) → ReachesNew a.device a.state a.device (with_work a.state p g)
      → (is_writing before call ≡ true → is_read_only a.state.storage.bad ≡ false) → (makes_version before call ≡ true → a.state.history.next < last_serial) → Steps a call (Ok reply) (at_work a p g)
  done_at p g reply on plain ok tells leaves reached writable serial = still_step (with_work a.state p g) (Ok reply) refl (λ off. absurd (both_ways a.state.is_off on off)) (λ space. absurd (both_ways (tells_space call) plain space)) reached tt tt (record {
    later = same-later (seen_at a);
    answers = (
      on,
      record {
        accepted = ok;
        answered = λ space _. ap (answer_of space before call) ok ∙ ap Ok (tells space);
        leaves = sym (ap (machine_of before call) ok ∙ leaves);
        writable = λ writes. (writable writes, writable writes);
        serial_left = serial;
      },
      on,
    );
  })

  -- the same, where the group stays
  pub done : (p : Past ℕ) (reply : Reply) → a.state.is_off ≡ false → tells_space call ≡ false → refusal before call ≡ None → ((space : Space) → reply_of space before call ≡ reply) → machine_of before call None ≡ machine_at (at_history a p) → ReachesNew a.device a.state a.device (with_history a.state p)
      → (is_writing before call ≡ true → is_read_only a.state.storage.bad ≡ false) → (makes_version before call ≡ true → a.state.history.next < last_serial) → Steps a call (Ok reply) (at_history a p)
  done p reply = done_at p a.state.group reply

  -- a call that was refused
  pub refused : (fault : Fault) → a.state.is_off ≡ false → is_cut fault ≡ false → (refusal before call ≡ Some fault) ⊎ MayRefuse (seen_at a) before call fault (seen_at a) → Steps a call (Err fault) a
  refused fault on no_cut why = still_step a.state (Err fault) refl (λ _. refl) (λ _. tt) stays refl refl (record {
    later = same-later (seen_at a);
    answers = subst (λ off. AnswersOnce (showing (seen_at a) before off) call (Err fault) (showing (seen_at a) before off)) (sym on) (why, refl, sym no_cut);
  })

  -- a call where an earlier one answered that the power is off
  pub off_step : (fault : Fault) → (fault ≡ PowerCut) × (a.state.is_off ≡ true) → Steps a call (Err fault) a
  off_step fault why = still_step a.state (Err fault) refl (λ _. refl) (λ _. tt) stays refl refl (record {
    later = same-later (seen_at a);
    answers = subst (λ off. AnswersOnce (showing (seen_at a) before off) call (Err fault) (showing (seen_at a) before off)) (sym why.1) (why.0, refl, refl, refl);
  })

  -- a call that the history answers
  pub answered : (r : Option Fault) (result : Result (Unit {0}) Fault) (after p : Past ℕ) → result ≡ told_nothing r → OnOk result (p ≡ after) → OnErr result (p ≡ a.state.history)
      → (r ≡ None → Steps a call (Ok Reply.Empty) (at_history a after)) → ((fault : Fault) → r ≡ Some fault → Steps a call (Err fault) a) → Steps a call (replied empty result) (at_history a p)
  answered r (Ok x) after p is ok err accepts refuses = subst (λ q. Steps a call (Ok Reply.Empty) (at_history a q)) (sym ok) (accepts (go r is))
    where
      go : (r : Option Fault) → Ok x ≡ told_nothing r → r ≡ None
      go None e = refl
      go (Some fault) e = cc
  answered r (Err fault) after p is ok err accepts refuses = subst (λ q. Steps a call (Err fault) (at_history a q)) (sym err) (refuses fault (go r is))
    where
      go : (r : Option Fault) → Err fault ≡ told_nothing r → r ≡ Some fault
      go None e = cc
      go (Some other) e = cc

-- a test that a call does not meet
pub never : (b : Bool) → b && false ≡ true → ⊥
never b e = true≢false (sym (and_parts b false e).1)

-- Calls that read-only mode refuses.

or-true : (b : Bool) → b || true ≡ true
or-true true = refl
or-true false = refl

pub writes-version : (m : Machine) (call : Call) → makes_version m call ≡ true → is_writing m call ≡ true
writes-version m call e =
    let parts = and_parts (is_accepted m call) (is_some (version_after m call)) e in
    and_from (is_accepted m call) _ parts.0 (ap (λ b. (is_some (tree_after m call) || b) || is_for_record call) parts.1 ∙ ap (λ b. b || is_for_record call) (or-true (is_some (tree_after m call))))

pub writes-tree : (m : Machine) (call : Call) → changes_tree m call ≡ true → is_writing m call ≡ true
writes-tree m call e =
    let parts = and_parts (is_accepted m call) (is_some (tree_after m call)) e in
    and_from (is_accepted m call) _ parts.0 (ap (λ b. (b || is_some (version_after m call)) || is_for_record call) parts.1)

pub writes-record : (m : Machine) (call : Call) → refusal m call ≡ None → is_for_record call ≡ true → is_writing m call ≡ true
writes-record m call ok e = and_from (is_accepted m call) _ (ap is_none ok) (ap (λ b. (is_some (tree_after m call) || is_some (version_after m call)) || b) e ∙ or-true (is_some (tree_after m call) || is_some (version_after m call)))

-- what refuses a change that the machine accepts, and that needs no node
pub refused_change : (a : Moment) (call : Call) (fault : Fault) → a.state.is_off ≡ false → a.state.group ≡ None → makes_version (machine_at a) call ≡ true
    → ((fault ≡ Fault.ReadOnly) × IsReadOnly a.state.history a.state.group a.state.storage a.state.storage) ⊎ ((fault ≡ Fault.Overflow) × IsOverflow a.state.history a.state.group a.state.storage) → Steps a call (Err fault) a
refused_change a call fault on outside makes (inl why) = subst (λ f. Steps a call (Err f) a) (sym why.0) (refused a call Fault.ReadOnly on refl (inr (writes-version (machine_at a) call makes, why.1.on, λ off made. why.1.serial_left off outside)))
refused_change a call fault on outside makes (inr why) = subst (λ f. Steps a call (Err f) a) (sym why.0) (refused a call Fault.Overflow on refl (inr (why.1.writable, inl (makes, why.1.last))))

-- what refuses another call that the record has to take
pub refused_record : (a : Moment) (call : Call) (fault : Fault) → a.state.is_off ≡ false → refusal (machine_at a) call ≡ None → is_for_record call ≡ true
    → (fault ≡ Fault.ReadOnly) × (is_read_only a.state.storage.bad ≡ true) → Steps a call (Err fault) a
refused_record a call fault on ok record_call why = subst (λ f. Steps a call (Err f) a) (sym why.0) (refused a call Fault.ReadOnly on refl (inr (writes-record (machine_at a) call ok record_call, why.1, λ off. absurd (both_ways (is_read_only a.state.storage.bad) off why.1))))

-- no group is open, so that a call may work on the history
pub may_change : (a : Moment) (refused : Option Fault) → a.state.group ≡ None → outside_refusal (machine_at a) refused ≡ refused
may_change a refused none = ap (λ (g : Option (Group ℕ)). cond (is_some (map_group (version_tree a) g)) (Some Fault.InGroup) refused) none

-- no file is open, so that the present version may move
pub may_travel : (m : Machine) (refused : Option Fault) → any_open m.descriptors ≡ false → travel_refusal m refused ≡ refused
may_travel m refused none = ap (λ b. cond b (Some Fault.Busy) refused) none

-- nothing of the group or of the open files refuses a call on the history, or one that moves the present version
pub works_outside : (a : Moment) (refused : Option Fault) → outside_only a.state.group ≡ None → outside_refusal (machine_at a) refused ≡ refused
works_outside a refused allowed = may_change a refused (outside_of a.state.group None allowed)

pub works_travelling : (a : Moment) (refused : Option Fault) → travelling a.state.group a.state.files ≡ None → outside_refusal (machine_at a) (travel_refusal (machine_at a) refused) ≡ refused
works_travelling a refused allowed =
    may_change a (travel_refusal (machine_at a) refused) (outside_of a.state.group _ allowed) ∙ may_travel (machine_at a) refused (closed_of (is_some a.state.group) Fault.InGroup a.state.files allowed)

-- Rollback to a checkpoint that is there.

module _ (a : Moment) (name : Name) (root : ℕ) (outside : a.state.group ≡ None) (none : any_open a.state.files ≡ false) (there : checkpoint_root a.state.history name ≡ Some root) where
  seen_there : checkpoint_root (map_roots (version_tree a) a.state.history) name ≡ Some (version_tree a root)
  seen_there = checkpoint_root-map (version_tree a) a.state.history name ∙ ap (option_map (version_tree a)) there

  pub rollback-accepted : refusal (machine_at a) (Call.Rollback name) ≡ None
  rollback-accepted = may_change a _ outside ∙ may_travel (machine_at a) _ none ∙ ap (λ o. cond (is_none o) (Some Fault.NoSuchVersion) None) seen_there

  pub rollback-makes : makes_version (machine_at a) (Call.Rollback name) ≡ true
  rollback-makes = and_from (is_accepted (machine_at a) (Call.Rollback name)) _ (ap is_none rollback-accepted)
      (ap (λ o. is_some (option_and_then (λ t. cond (is_some (map_group (version_tree a) a.state.group)) None (Some t)) o)) seen_there ∙ ap (λ (g : Option (Group ℕ)). is_some (cond (is_some (map_group (version_tree a) g)) None (Some (version_tree a root)))) outside)

  pub rollback-leaves : machine_of (machine_at a) (Call.Rollback name) None ≡ machine_at (at_history a (changed a.state.history root))
  rollback-leaves =
      let h = map_roots (version_tree a) a.state.history in
      (λ i. machine_with
      (option_map_or (changed h) (option_and_then (λ t. cond (is_some (map_group (version_tree a) (outside i))) None (Some t)) (seen_there i)) h)
      (option_map_or (group_with (map_group (version_tree a) (outside i))) (seen_there i) (map_group (version_tree a) (outside i)))
      a.state.files)
      ∙ (λ i. machine_with (changed-map (version_tree a) a.state.history root i) (map_group (version_tree a) (sym outside i)) a.state.files)

-- A checkpoint that the machine accepts, which may want memory.
pub checkpointed : (a : Moment) (name : Name) (result : Result (Unit {0}) Fault) (p : Past ℕ) → a.state.is_off ≡ false → a.state.group ≡ None → is_read_only a.state.storage.bad ≡ false → checkpoint_refusal a.state.history name ≡ None
    → OnOk result (p ≡ with_checkpoint a.state.history name) → IfErr result (λ fault. fault ≡ unwrap_or (checkpoint_refusal a.state.history name) Fault.NoMemory) → OnErr result (p ≡ a.state.history)
    → Steps a (Call.Checkpoint name) (replied empty result) (at_history a p)
checkpointed a name (Ok x) p on outside writable free ok why err =
    subst (λ q. Steps a (Call.Checkpoint name) (Ok Reply.Empty) (at_history a q)) (sym ok)
    (done a (Call.Checkpoint name) (with_checkpoint a.state.history name) Reply.Empty on refl (may_change a _ outside ∙ checkpoint_refusal-map (version_tree a) a.state.history name ∙ free) (λ _. refl) (ap (λ (h : Past Tree). machine_with h (map_group (version_tree a) a.state.group) a.state.files) (with_checkpoint-map (version_tree a) a.state.history name))
    (same_reach a.device a.state (with_history a.state (with_checkpoint a.state.history name)) (after_checkpoint (HasRoot a.state) a.state name (λ root has. has))) (λ _. writable) (λ e. absurd (never _ e)))
checkpointed a name (Err fault) p on outside writable free ok why err =
    let want : fault ≡ Fault.NoMemory = why ∙ ap (λ o. unwrap_or o Fault.NoMemory) free in
    subst (λ q. Steps a (Call.Checkpoint name) (Err fault) (at_history a q)) (sym err)
    (subst (λ f. Steps a (Call.Checkpoint name) (Err f) a) (sym want) (refused a (Call.Checkpoint name) Fault.NoMemory on refl (inr (ap is_none (may_change a _ outside ∙ checkpoint_refusal-map (version_tree a) a.state.history name ∙ free)))))

-- Log tells nothing of roots.

map-twice : {A B C : Type 0} (g : B → C) (f : A → B) (xs : List A) → map g (map f xs) ≡ map (λ x. g (f x)) xs
map-twice g f [] = refl
map-twice g f (x ∷ xs) = ap (λ ys. g (f x) ∷ ys) (map-twice g f xs)

pub log-tells : (f : ℕ → Tree) (p : Past ℕ) (next : ℕ) (dropped : Bool) (serials : List ℕ) (cursor : ℕ) (names : List Name) → next ≡ p.next → dropped ≡ p.dropped → serials ≡ map (λ v. v.serial) p.versions → cursor ≡ p.cursor → names ≡ map (λ e. e.0) p.checkpoints
    → log_of (map_roots f p) ≡ Reply.Log next dropped serials cursor names
log-tells f p next dropped serials cursor names a b c d e =
    let vs = map-twice (λ (v : Version Tree). v.serial) (λ (v : Version ℕ). record { serial = v.serial; root = f v.root }) p.versions ∙ sym c in
    let ns = map-twice (λ (g : Name × Tree). g.0) (λ (g : Name × ℕ). (g.0, f g.1)) p.checkpoints ∙ sym e in
    λ i. Reply.Log (sym a i) (sym b i) (vs i) (sym d i) (ns i)

-- what holds of both histories that a call may leave
pub by_result : (result : Result (Unit {0}) Fault) (P : Past ℕ → Type 0) (after old p : Past ℕ) → OnOk result (p ≡ after) → OnErr result (p ≡ old) → P after → P old → P p
by_result (Ok x) P after old p ok err here there = subst P (sym ok) here
by_result (Err fault) P after old p ok err here there = subst P (sym err) there

-- a call leaves a machine
pub still_machine : (s t : Seen) (m n : Machine) (off off' : Bool) (call : Call) (result : Result Reply Fault) → IsMachine m → has_paths call ≡ true → CallStep (showing s m off) call result (showing t n off') → IsMachine n
still_machine s t m n off off' call (Ok reply) is paths step = subst IsMachine (sym step.answers.1.leaves) (machine_law.kept m call is paths)
still_machine s t m n true off' call (Err fault) is paths step = subst IsMachine (sym step.answers.2) is
still_machine s t m n false off' call (Err fault) is paths step = subst IsMachine (sym step.answers.1) is

-- a call that leaves another history and another group, on roots that stand
pub mounted_work : (a : Moment) (call : Call) (result : Result Reply Fault) (p : Past ℕ) (g : Option (Group ℕ)) → IsMountedAt a → has_paths call ≡ true → Steps a call result (at_work a p g) → AllStand (at_work a p g) → IsMountedAt (at_work a p g)
mounted_work a call result p g is paths step all = record {
  lawful = is.lawful;
  ring_blocks = is.ring_blocks;
  fits = is.fits;
  roots = all;
  machine = still_machine (seen_at a) (seen_at a) (machine_at a) (machine_at (at_work a p g)) a.state.is_off a.state.is_off call result is.machine paths step.step;
  off = is.off;
}

-- the same, where the group stays
pub mounted_by : (a : Moment) (call : Call) (result : Result Reply Fault) (p : Past ℕ) → IsMountedAt a → has_paths call ≡ true → Steps a call result (at_history a p) → AllStand (at_history a p) → IsMountedAt (at_history a p)
mounted_by a call result p is paths step all = mounted_work a call result p a.state.group is paths step all

-- a call that the history answers
pub mounted_after : (a : Moment) (call : Call) (result : Result (Unit {0}) Fault) (after p : Past ℕ) → OnOk result (p ≡ after) → OnErr result (p ≡ a.state.history)
    → IsMountedAt a → has_paths call ≡ true → Steps a call (replied empty result) (at_history a p) → AllStand (at_history a after) → IsMountedAt (at_history a p)
mounted_after a call result after p ok err is paths step all =
    mounted_by a call (replied empty result) p is paths step (by_result result (λ h. AllStand (at_history a h)) after a.state.history p ok err all is.roots)

-- No refusal of the history is a cut of power.

abbrev pub NoCut : Option Fault → Type 0
NoCut None = Unit {0}
NoCut (Some fault) = is_cut fault ≡ false

either : (b : Bool) (x y : Option Fault) → NoCut x → NoCut y → NoCut (cond b x y)
either true x y hx hy = hx
either false x y hx hy = hy

pub no_cut : (r : Option Fault) (fault : Fault) → NoCut r → r ≡ Some fault → is_cut fault ≡ false
no_cut r fault h e = subst NoCut e h

module _ {R : Type 0} (p : Past R) where
  pub undo-no_cut : NoCut (undo_refusal p)
  undo-no_cut = either (p.cursor == 0) (Some (cond p.dropped Fault.TooOld Fault.NothingToUndo)) None (here p.dropped) tt
    where
      here : (b : Bool) → is_cut (cond b Fault.TooOld Fault.NothingToUndo) ≡ false
      here true = refl
      here false = refl

  pub redo-no_cut : NoCut (redo_refusal p)
  redo-no_cut = either (nat_lt (p.cursor + 1) (length p.versions)) None (Some Fault.NothingToRedo) tt refl

  pub serial-no_cut : (serial : ℕ) → NoCut (serial_refusal p serial)
  serial-no_cut serial =
      either (nat_lt serial (first_serial p)) (Some Fault.TooOld) _ refl
      (either (nat_le p.next serial) (Some Fault.NoSuchVersion) _ refl
      (either (is_none (version_place p serial)) (Some Fault.Discarded) None refl tt))

  pub forget-no_cut : (count : ℕ) → NoCut (forget_refusal p count)
  forget-no_cut count = either (nat_lt p.cursor count) (Some Fault.Invalid) None refl tt

  pub name-no_cut : (name : Name) → NoCut (name_refusal p name)
  name-no_cut name = either (is_none (checkpoint_root p name)) (Some Fault.NoSuchVersion) None refl tt

  pub checkpoint-no_cut : (name : Name) → NoCut (checkpoint_refusal p name)
  checkpoint-no_cut name =
      either (is_some (checkpoint_root p name)) (Some Fault.Exists) _ refl
      (either (nat_le 16 (length p.checkpoints)) (Some Fault.CheckpointsFull) None refl tt)

group-no_cut : (group : Option (Group ℕ)) (files : Descriptors) (call : Call) → NoCut (group_refusal group files call)
group-no_cut group files call =
    either ((facts_of call).outside && is_some group) (Some Fault.InGroup) _ refl
    (either ((facts_of call).inside && is_none group) (Some Fault.NoGroup) _ refl
    (either ((facts_of call).closed && any_open files) (Some Fault.Busy) None refl tt))

-- a call that is refused for the change group, or for an open file
pub refused_group : (a : Moment) (call : Call) (fault : Fault) → a.state.is_off ≡ false → group_refusal a.state.group a.state.files call ≡ Some fault → Steps a call (Err fault) a
refused_group a call fault on says =
    refused a call fault on (no_cut (group_refusal a.state.group a.state.files call) fault (group-no_cut a.state.group a.state.files call) says) (inl (group_says a fault call says))

-- How a call that does no device operation is answered, where none answered before that the power is off.

pub still_answer : (a : Moment) (call : Call) (result : Result Reply Fault) (t : State) → a.state.is_off ≡ false → t.is_off ≡ a.state.is_off → IsMountedAt (moment a.device t) → Steps a call result (moment a.device t) → IsAnswered a call result (moment a.device t)
still_answer a call result t on same m steps = record {
  mounted = m;
  step = record { later = steps.step.later; answers = by result t.is_off (subst (λ off. AnswersOnce (shown_at a off) call result (shown_at b t.is_off)) on steps.step.answers) };
  leaves = steps.leaves;
  is_off = same;
  pages = λ p reached. refl;
  reached = steps.reached;
  refused = steps.refused;
  regrouped = steps.regrouped;
}
  where
    b : Moment
    b = moment a.device t

    by : (result : Result Reply Fault) (off : Bool) → AnswersOnce (shown_at a false) call result (shown_at b off) → AnswersOnce (shown_at a false) call result (shown_at b (is_cut_answer result))
    by (Ok reply) off h = (refl, h.1, refl)
    by (Err fault) off h = (h.0, h.1, refl)

-- one that is refused
pub still_refused : (a : Moment) (call : Call) (fault : Fault) → a.state.is_off ≡ false → IsMountedAt a → Steps a call (Err fault) a → IsAnswered a call (Err fault) a
still_refused a call fault on m step = still_answer a call (Err fault) a.state on refl m step

-- one that the history answers
pub history_answer : (a : Moment) (call : Call) (r : Option Fault) (result : Result (Unit {0}) Fault) (after p : Past ℕ) → a.state.is_off ≡ false → IsMountedAt a → has_paths call ≡ true → tells_space call ≡ false
    → refusal (machine_at a) call ≡ r → NoCut r → ((space : Space) → reply_of space (machine_at a) call ≡ Reply.Empty) → machine_of (machine_at a) call None ≡ machine_at (at_history a after)
    → ReachesNew a.device a.state a.device (with_history a.state after) → AllStand (at_history a after)
    → (is_writing (machine_at a) call ≡ true → is_read_only a.state.storage.bad ≡ false) → (makes_version (machine_at a) call ≡ true → a.state.history.next < last_serial)
    → result ≡ told_nothing r → OnOk result (p ≡ after) → OnErr result (p ≡ a.state.history) → IsAnswered a call (replied empty result) (at_history a p)
history_answer a call r result after p on m paths plain same cuts replies leaves reached stand writable serial is ok err =
    let step : Steps a call (replied empty result) (at_history a p) =
    answered a call r result after p is ok err
    (λ fine. done a call after Reply.Empty on plain (same ∙ fine) replies leaves reached writable serial)
    (λ fault e. refused a call fault on (no_cut r fault cuts e) (inl (same ∙ e))) in
    still_answer a call (replied empty result) (with_history a.state p) on refl (mounted_after a call result after p ok err m paths step stand) step

-- What a change leaves: each answer of a call that is a change by an edit.
use Rattle.std.proofs.Common.{◌≡◌, ℕ, Option, zero, suc, ◌+◌, ◌<◌, ◌≤◌, true, false, Some, None, [], ◌∷◌, Result, Ok, Err, refl, sym, ap, subst, ◌∙◌, inl, inr, arith}
use Rattle.std.specs.Prelude.{is_some, nat_le, ◌||◌, IfOk, IfErr}
use Rattle.std.specs.FinSet as set
use Rattle.history_machine.specs.History.{Past, working_root, map_group}
use Rattle.plain_trees.specs.Trees.{Tree}
use Rattle.history_machine.specs.Descriptors.{Descriptors}
use Rattle.history_machine.specs.Machine.{Space, refusal, change_need, changes_tree, makes_version, reply_of, tree_after, descriptors_after, has_paths}
use Rattle.fs_types.specs.declared.call.Call.{Call}
use Rattle.fs_types.specs.declared.call.Group.{Group}
use Rattle.fs_types.specs.declared.call.Reply.{Reply}
use Rattle.fs_types.specs.declared.fault.Fault.{Fault}
use Rattle.fs_types.specs.declared.fault.Fault.TheVariants.{FlashFull, ReadOnly, ReadFailed, PowerCut, NoMemory}
use Rattle.flash_model.specs.Device.{Device}
use Rattle.node_store.specs.declared.storage.Storage.{Storage}
use Rattle.node_store.specs.NodePages.{node_of}
use Rattle.node_store.specs.Storage as parts
use Rattle.block_ring.specs.Ring.{Ring, free_count}
use Rattle.node_store.specs.declared.store.Store.{Store}
use Rattle.node_store.specs.Stores.{Follows, Causes}
use Rattle.nodes.specs.Reached.{Reached}
use Rattle.nodes.specs.Trees.{IsRoot, root_tree}
use Rattle.tree_edits.specs.declared.edits.Edit.{Edit}
use Rattle.tree_edits.specs.Edits.{edit_need, source}
use Rattle.tree_edits.specs.Roots.{IsNewRoot}
use Rattle.directory.specs.Trails.{IsChangeFault}
use Rattle.working_state.specs.Moments.{Moment, machine_at, seen_at, IsMountedAt, nodes_at, capacity_at, version_tree, moment}
use Rattle.working_state.specs.Changes.{IsReady, edited_tree, ReachesFrom, WorkRefuses, IsPushed, ChangeCause, IsChanged, work, work_at}
use Rattle.working_state.specs.Leaves.{HasWritten, is_still, Leaves}
use Rattle.working_state.specs.Looking.{only_looks}
use Rattle.working_state.specs.Mounted.{IsStanding}
use Rattle.working_state.specs.Moments.{IsAnswered}
use Rattle.working_state.specs.Roots.{HasRoot}
use Rattle.working_state.specs.Seen.{capacity_of, tree_on, seen_of}
use Rattle.bad_blocks.specs.Mode.{bad_anchors}
use Rattle.working_state.specs.Steps.{empty, replied, is_light, MayRefuse, Refuses}
use Rattle.working_state.specs.Worked.{IsSameBut, IsWorked, IsLooked, WorkCause}
use Rattle.working_state.specs.declared.state.State.{State}
use Rattle.history_machine.proofs.Groups.{outside_makes}
use Rattle.working_state.proofs.ChangeSteps.{makes, needs_all, later_stands, later_writable, later_serial, later_outside, writing_refuses, HasNewTree, changed_step, changed_mounted, changed_reaches}
use Rattle.working_state.proofs.OpenCalls.{refused_work}
use Rattle.working_state.proofs.Roots.{ReachesBefore, of_working}
use Rattle.working_state.proofs.Standing.{same_capacity, looked_worked, written_leaves, worked_on, worked_mounted, worked_pages, worked_reach, same_working}
use Rattle.working_state.proofs.Steps.{writes-tree}

-- ---- the state as it was

pub mounted_ready : (a : Moment) → IsMountedAt a → IsReady a.device a.state.storage
mounted_ready a m = record { lawful = m.lawful; ring_blocks = m.ring_blocks; fits = m.fits }

-- after a look, the system is ready and the root that calls work on stands

pub looked_ready : (a b : Moment) → IsMountedAt a → IsLooked a b → IsReady b.device b.state.storage
looked_ready a b m l = mounted_ready b (worked_mounted a b m (looked_worked a b l))

pub same_root : (a b : ℕ) (s t : State) → IsSameBut s t → working_root s.history s.group ≡ Some a → working_root t.history t.group ≡ Some b → a ≡ b
same_root a b s t same first second = some_same a b (sym first ∙ sym (same_working s t same) ∙ second)
  where
    some_same : (a b : ℕ) → Some a ≡ Some b → a ≡ b
    some_same a b e = cc

pub looked_stands : (a b : Moment) (root : ℕ) → IsMountedAt a → working_root a.state.history a.state.group ≡ Some root → IsLooked a b
    → (other : ℕ) → working_root b.state.history b.state.group ≡ Some other → IsStanding b.device b.state.storage.ring other
looked_stands a b root m is l other there =
    subst (λ (r : ℕ). IsStanding b.device b.state.storage.ring r) (same_root root other a.state b.state l.rest is there) (later_stands a b root m is l)

-- what is known of one root is known of that which calls work on
pub at_working : (P : ℕ → Type 0) (a b : Moment) (root : ℕ) → working_root a.state.history a.state.group ≡ Some root → IsLooked a b → P root
    → (other : ℕ) → working_root b.state.history b.state.group ≡ Some other → P other
at_working P a b root is l here other there = subst P (same_root root other a.state b.state l.rest is there) here

-- ---- a change

-- ---- the tree of the new root, at the room that the flash has by now

pub root_stands : (d : Device) (s : Storage) (e : Device) (t : Storage) (most from to : ℕ) (tree : Tree) → HasWritten d s most e t
    → IsNewRoot (capacity_of d) (node_of d) (set.contains s.ring.used) (node_of e) (set.contains t.ring.used) from to tree → IsStanding e t.ring to
root_stands d s e t most from to tree w new = record {
  held = new.held;
  rooted = subst (λ capacity. IsRoot capacity (node_of e) to) (sym (same_capacity (parts.storage d s.bad s.ring) (parts.storage e t.bad t.ring) w.evolved)) new.rooted;
}

pub root_shows : (d : Device) (s : Storage) (e : Device) (t : Storage) (most from to : ℕ) (tree : Tree) → HasWritten d s most e t
    → IsNewRoot (capacity_of d) (node_of d) (set.contains s.ring.used) (node_of e) (set.contains t.ring.used) from to tree → tree_on e to ≡ tree
root_shows d s e t most from to tree w new = ap (λ capacity. root_tree capacity (node_of e) to) (same_capacity (parts.storage d s.bad s.ring) (parts.storage e t.bad t.ring) w.evolved) ∙ new.shows

pub stands_result : (d : Device) (s : Storage) (e : Device) (t : Storage) (most from : ℕ) (tree : Tree) (result : Result ℕ Fault) → HasWritten d s most e t
    → IfOk result (λ to. IsNewRoot (capacity_of d) (node_of d) (set.contains s.ring.used) (node_of e) (set.contains t.ring.used) from to tree) → IfOk result (IsStanding e t.ring)
stands_result d s e t most from tree (Ok to) w new = root_stands d s e t most from to tree w new
stands_result d s e t most from tree (Err fault) w new = tt

pub shows_result : (d : Device) (s : Storage) (e : Device) (t : Storage) (most from : ℕ) (tree : Tree) (result : Result ℕ Fault) → HasWritten d s most e t
    → IfOk result (λ to. IsNewRoot (capacity_of d) (node_of d) (set.contains s.ring.used) (node_of e) (set.contains t.ring.used) from to tree) → IfOk result (λ to. tree_on e to ≡ tree)
shows_result d s e t most from tree (Ok to) w new = root_shows d s e t most from to tree w new
shows_result d s e t most from tree (Err fault) w new = tt

pub reached_result : (d : Device) (s : Storage) (e : Device) (t : Storage) (from : ℕ) (tree : Tree) (result : Result ℕ Fault)
    → IfOk result (λ to. IsNewRoot (capacity_of d) (node_of d) (set.contains s.ring.used) (node_of e) (set.contains t.ring.used) from to tree) → IfOk result (ReachesFrom d s from e)
reached_result d s e t from tree (Ok to) new = new.reached
reached_result d s e t from tree (Err fault) new = tt

-- ---- what a store says of itself

module _ {F : Type 0} (device : F → Device) where
  -- so many writes were asked at most
  pub follows_written : (s t : Store F) (most : ℕ) → Follows device s t → t.writes.n ≤ s.writes.n + most → HasWritten (device s.flash.now) s.storage.now most (device t.flash.now) t.storage.now
  follows_written s t most follows few = record {
    evolved = follows.evolved;
    paid = let paid = follows.paid in omega arith;
    fits = follows.fits;
  }

  cause_work : (s t : Store F) (fault : Fault) → Causes device s t fault → WorkCause (seen_of (device s.flash.now) s.storage.now) fault (seen_of (device t.flash.now) t.storage.now)
  cause_work s t FlashFull c = c.reason.none_free
  cause_work s t ReadOnly c = ap (λ n. nat_le 256 n || nat_le 7 (bad_anchors t.storage.now.bad)) c.reason
  cause_work s t ReadFailed c = c.reason
  cause_work s t PowerCut c = c.reason
  cause_work s t NoMemory c = tt
  cause_work s t _ c = absurd c.reason

  -- what an edit of a store's nodes answers where it needs none
  abbrev NeedsNone : Store F → Store F → Edit → ℕ → Result ℕ Fault → Type 0
  NeedsNone s t edit root result = edit_need (capacity_of (device s.flash.now)) (node_of (device s.flash.now)) edit ≡ 0 → (t ≡ s) × (result ≡ Ok (source root edit))

  few_left : (s t : Store F) (most : ℕ) (fault : Fault) → t.writes.n ≤ s.writes.n + most → Causes device s t fault → fault ≡ FlashFull → free_count s.storage.now.ring s.storage.now.bad + set.len s.storage.now.bad < set.len t.storage.now.bad + most
  few_left s t most FlashFull few c is = let free = c.reason.few_free in omega arith
  few_left s t most _ few c is = absurd cc

  pub refused_result : (s t : Store F) (edit : Edit) (root : ℕ) (result : Result ℕ Fault) → t.writes.n ≤ s.writes.n + edit_need (capacity_of (device s.flash.now)) (node_of (device s.flash.now)) edit
      → NeedsNone s t edit root result → IfErr result IsChangeFault → IfErr result (λ fault. Causes device s t fault)
      → IfErr result (λ fault. WorkRefuses (device s.flash.now) s.storage.now edit fault (device t.flash.now) t.storage.now)
  refused_result s t edit root (Ok to) few none faults why = tt
  refused_result s t edit root (Err fault) few none faults why = record {
    needs = some (edit_need (capacity_of (device s.flash.now)) (node_of (device s.flash.now)) edit) none;
    kind = faults;
    why = cause_work s t fault why;
    few_free = few_left s t (edit_need (capacity_of (device s.flash.now)) (node_of (device s.flash.now)) edit) fault few why;
  }
    where
      some : (n : ℕ) → (n ≡ 0 → (t ≡ s) × (Err fault ≡ Ok (source root edit))) → 0 < n
      some zero none = let wrong = (none refl).1 in absurd cc
      some (suc n) none = omega arith

  pub still_result : (s t : Store F) (edit : Edit) (root : ℕ) (result : Result ℕ Fault) → NeedsNone s t edit root result
      → edit_need (capacity_of (device s.flash.now)) (node_of (device s.flash.now)) edit ≡ 0 → (device t.flash.now ≡ device s.flash.now) × (t.storage.now ≡ s.storage.now)
  still_result s t edit root result none is = (ap (λ (x : Store F). device x.flash.now) (none is).0, ap (λ (x : Store F). x.storage.now) (none is).0)

-- ---- a call that is a change

-- the call is accepted, and makes this tree of the one of the root that calls work on
pub record IsChangeBy (a : Moment) (call : Call) (made : ℕ → Tree) (reply : Reply) : Type 0 where
  pub fine : refusal (machine_at a) call ≡ None
  pub after : (root : ℕ) → working_root a.state.history a.state.group ≡ Some root → tree_after (machine_at a) call ≡ Some (made root)
  pub heavy : is_light call ≡ false
  pub moves : is_still call || only_looks call ≡ false
  pub paths : has_paths call ≡ true
  pub more : (capacity : ℕ) → 0 < change_need capacity (machine_at a) call
  pub replies : (space : Space) → reply_of space (machine_at a) call ≡ reply

-- nodes were written
written_worked : (b : Moment) (f : Device) (st : Storage) (most : ℕ) → HasWritten b.device b.state.storage most f st → IsWorked b (moment f (record b.state { storage = st }))
written_worked b f st most w = record { evolved = w.evolved; fits = w.fits; rest = record { history = refl; group = refl; files = refl; is_off = refl } }

-- the nodes of the edit are no more than those of the call
abbrev NeedsFew : Moment → Edit → Moment → Call → Type 0
NeedsFew b edit a call = edit_need (capacity_at b) (nodes_at b) edit ≤ change_need (capacity_at a) (machine_at a) call

change_leaves : (a b : Moment) (f : Device) (st : Storage) (call : Call) (edit : Edit) → IsLooked a b → HasWritten b.device b.state.storage (edit_need (capacity_at b) (nodes_at b) edit) f st
    → is_still call || only_looks call ≡ false → changes_tree (machine_at a) call ≡ true → NeedsFew b edit a call → Leaves (machine_at a) call a.device a.state.storage f st
change_leaves a b f st call edit l w moves version few =
    let all = needs_all (capacity_at a) (machine_at a) call version in
    written_leaves a b f st call (edit_need (capacity_at b) (nodes_at b) edit) l w moves version (omega arith)

-- the edit is one of the tree that it is applied to
abbrev IsOfTree : Edit → Type 0
IsOfTree edit = (root : ℕ) → source root edit ≡ root

-- what the new root reaches was reached by that which calls worked on, or written in a block that was not used
pushed_reach : (a b : Moment) (f : Device) (from root to : ℕ) → IsMountedAt a → IsLooked a b → HasRoot a.state root → from ≡ root → ReachesFrom b.device b.state.storage from f to
    → ReachesBefore a.device a.state f to
pushed_reach a b f from root to m l has same reaches block reached = elim (reaches block reached) [
  | inl was ↦ inl (worked_reach a b root m (looked_worked a b l) has block (subst (λ (r : ℕ). Reached (node_of b.device) (r ∷ []) block) same was))
  | inr written ↦ inr (subst (λ (r : Ring). set.contains r.used block ≡ false) l.untouched.ring written.0, written.1)
]

pub pushed_answer : (a b : Moment) (f : Device) (st : Storage) (h : Past ℕ) (k : Option (Group ℕ)) (files : Descriptors) (call : Call) (edit : Edit) (reply : Reply) → IsMountedAt a → IsLooked a b
    → IsChangeBy a call (edited_tree b.device edit) reply → NeedsFew b edit a call → HasWritten b.device b.state.storage (edit_need (capacity_at b) (nodes_at b) edit) f st → IsPushed (work_at b) edit (work f h k st) → files ≡ descriptors_after (machine_at a) call → IsOfTree edit
    → IsAnswered a call (Ok reply) (moment f (record b.state { storage = st; history = h; group = k; files = files }))
pushed_answer a b f st h k files call edit reply m l by few written pushed opens own =
    let c : Moment = moment f (record b.state { storage = st }) in
    let w = written_worked b f st (edit_need (capacity_at b) (nodes_at b) edit) written in
    let all = worked_on a b c (looked_worked a b l) w in
    let working : working_root a.state.history a.state.group ≡ Some pushed.root = sym (same_working a.state b.state l.rest) ∙ pushed.working in
    let tree = edited_tree b.device edit pushed.root in
    let new : HasNewTree c pushed.to tree = record { stands = pushed.stands; is = pushed.shows } in
    let step = changed_step a b c pushed.to call tree reply h k files pushed.pushed pushed.regrouped opens m l by.fine (by.after pushed.root working) by.replies pushed.writable pushed.stays_writable by.heavy pushed.serial_left w new in
    record {
      mounted = changed_mounted a c pushed.to call tree (Ok reply) h k files pushed.pushed pushed.regrouped m all new by.paths step;
      step = step;
      leaves = change_leaves a b f st call edit l written by.moves (makes (machine_at a) call by.fine (ap is_some (by.after pushed.root working))) few;
      is_off = all.rest.is_off;
      pages = worked_pages a c m all;
      reached = changed_reaches a c pushed.to h k files pushed.pushed pushed.regrouped m all
          (pushed_reach a b f (source pushed.root edit) pushed.root pushed.to m l (of_working (HasRoot a.state) a.state pushed.root (λ root has. has) working) (own pushed.root) pushed.reached);
      refused = tt;
      regrouped = tt;
    }

-- outside a group an accepted change of the tree makes a version
makes_outside : (a : Moment) (call : Call) → a.state.group ≡ None → changes_tree (machine_at a) call ≡ true → makes_version (machine_at a) call ≡ true
makes_outside a call outside changes = outside_makes (machine_at a) call (ap (λ (g : Option (Group ℕ)). map_group (version_tree a) g) outside) changes

cause_refuses : (a b : Moment) (f : Device) (st : Storage) (root : ℕ) (call : Call) {edit : Edit} (made : ℕ → Tree) (reply : Reply) (fault : Fault) → working_root a.state.history a.state.group ≡ Some root → IsLooked a b
    → IsChangeBy a call made reply → NeedsFew b edit a call → ChangeCause (work_at b) edit fault f st → Refuses (seen_at a) (machine_at a) call fault (seen_at (moment f (record b.state { storage = st })))
cause_refuses a b f st root call made reply fault is l by few (inl (inl only)) =
    inr (subst (λ x. MayRefuse (seen_at a) (machine_at a) call x (seen_at (moment f (record b.state { storage = st })))) (sym only.0)
    (writes-tree (machine_at a) call (makes (machine_at a) call by.fine (ap is_some (by.after root is))), only.1.on, λ off made. later_serial a b l (only.1.serial_left (later_writable a b l ∙ off) (later_outside a b l call by.heavy made))))
cause_refuses a b f st root call made reply fault is l by few (inl (inr over)) =
    inr (subst (λ x. MayRefuse (seen_at a) (machine_at a) call x (seen_at (moment f (record b.state { storage = st })))) (sym over.0)
    (sym (later_writable a b l) ∙ over.1.writable, inl (makes_outside a call (sym l.rest.group ∙ over.1.outside) (makes (machine_at a) call by.fine (ap is_some (by.after root is))), ap (λ (h : Past ℕ). h.next) (sym l.rest.history) ∙ over.1.last)))
cause_refuses a b f st root call {edit} made reply fault is l by few (inr work) =
    writing_refuses a b f st edit call fault l by.heavy (makes (machine_at a) call by.fine (ap is_some (by.after root is))) (by.more (capacity_at a)) few work

pub refused_change : (a b : Moment) (f : Device) (st : Storage) (h : Past ℕ) (k : Option (Group ℕ)) (root : ℕ) (call : Call) {edit : Edit} (made : ℕ → Tree) (reply : Reply) (fault : Fault) → IsMountedAt a → working_root a.state.history a.state.group ≡ Some root
    → IsLooked a b → IsChangeBy a call made reply → NeedsFew b edit a call → HasWritten b.device b.state.storage (edit_need (capacity_at b) (nodes_at b) edit) f st → (h ≡ b.state.history) × (k ≡ b.state.group) × ChangeCause (work_at b) edit fault f st
    → IsAnswered a call (Err fault) (moment f (record b.state { storage = st; history = h; group = k }))
refused_change a b f st h k root call {edit} made reply fault m is l by few written ends =
    let c : Moment = moment f (record b.state { storage = st }) in
    let all = worked_on a b c (looked_worked a b l) (written_worked b f st (edit_need (capacity_at b) (nodes_at b) edit) written) in
    subst (λ (x : Past ℕ × Option (Group ℕ)). IsAnswered a call (Err fault) (moment f (record b.state { storage = st; history = x.0; group = x.1 }))) (λ i. (sym ends.0 i, sym ends.1 i))
    (refused_work a c call fault m all (change_leaves a b f st call edit l written by.moves (makes (machine_at a) call by.fine (ap is_some (by.after root is))) few)
    (cause_refuses a b f st root call {edit = edit} made reply fault is l by few ends.2))

-- a change that answers nothing, and leaves the open files
pub change_answer : (a b : Moment) (f : Device) (st : Storage) (h : Past ℕ) (k : Option (Group ℕ)) (root : ℕ) (call : Call) (edit : Edit) (result : Result (Unit {0}) Fault) → IsMountedAt a → working_root a.state.history a.state.group ≡ Some root
    → IsLooked a b → IsChangeBy a call (edited_tree b.device edit) Reply.Empty → NeedsFew b edit a call → descriptors_after (machine_at a) call ≡ a.state.files → IsOfTree edit → IsChanged (work_at b) edit result (work f h k st)
    → IsAnswered a call (replied empty result) (moment f (record b.state { storage = st; history = h; group = k }))
change_answer a b f st h k root call edit (Ok x) m is l by few files own changes =
    pushed_answer a b f st h k b.state.files call edit Reply.Empty m l by few changes.written changes.ends (l.rest.files ∙ sym files) own
change_answer a b f st h k root call edit (Err fault) m is l by few files own changes =
    refused_change a b f st h k root call (edited_tree b.device edit) Reply.Empty fault m is l by few changes.written changes.ends

-- the same, where the edit is that of the change

pub pushed_by : (a b : Moment) (f : Device) (st : Storage) (h : Past ℕ) (k : Option (Group ℕ)) (files : Descriptors) (call : Call) {edit : Edit} (reply : Reply) → IsPushed (work_at b) edit (work f h k st)
    → IsChangeBy a call (edited_tree b.device edit) reply → NeedsFew b edit a call → HasWritten b.device b.state.storage (edit_need (capacity_at b) (nodes_at b) edit) f st → IsMountedAt a → IsLooked a b → files ≡ descriptors_after (machine_at a) call → IsOfTree edit
    → IsAnswered a call (Ok reply) (moment f (record b.state { storage = st; history = h; group = k; files = files }))
pushed_by a b f st h k files call {edit} reply pushed by few written m l opens own = pushed_answer a b f st h k files call edit reply m l by few written pushed opens own

pub change_by : (a b : Moment) (f : Device) (st : Storage) (h : Past ℕ) (k : Option (Group ℕ)) (root : ℕ) (call : Call) {edit : Edit} (result : Result (Unit {0}) Fault) → IsChanged (work_at b) edit result (work f h k st)
    → IsChangeBy a call (edited_tree b.device edit) Reply.Empty → NeedsFew b edit a call → IsMountedAt a → working_root a.state.history a.state.group ≡ Some root → IsLooked a b → descriptors_after (machine_at a) call ≡ a.state.files → IsOfTree edit
    → IsAnswered a call (replied empty result) (moment f (record b.state { storage = st; history = h; group = k }))
change_by a b f st h k root call {edit} result changes by few m is l files own = change_answer a b f st h k root call edit result m is l by few files own changes

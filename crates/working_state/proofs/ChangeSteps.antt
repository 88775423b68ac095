-- The step of a change that writes a path of the tree that calls work on anew, and has them work on the new root.
use Rattle.std.proofs.Common.{◌≡◌, ◌≢◌, ℕ, Option, None, ◌<◌, ◌≤◌, true, false, Some, Result, Ok, length, refl, sym, ap, subst, ◌∙◌, inr, arith}
use Rattle.std.proofs.lemmas.Bool.{true≢false, and_parts, and_from, leb-true}
use Rattle.std.specs.Prelude.{nat_le, is_some, is_none, unwrap_or, if◌then◌else◌}
use Rattle.std.specs.List.{list_all}
use Rattle.std.specs.FinSet as set
use Rattle.fs_types.specs.Names.{Path, is_name, is_path}
use Rattle.plain_trees.specs.Trees.{Tree}
use Rattle.history_machine.specs.History.{Past, working_root, history_with, group_with, map_roots, map_group}
use Rattle.history_machine.specs.HistoryMaps.{history_with-map, group_with-map}
use Rattle.history_machine.specs.Descriptors.{Descriptors}
use Rattle.history_machine.specs.Machine.{Machine, Space, has_paths, working_tree, refusal, need, way_need, change_need, answer_of, machine_of, reply_of, is_accepted, tree_after, version_after, history_after, group_after, descriptors_after, changes_tree, makes_version, machine_with}
use Rattle.fs_types.specs.declared.call.Call.{Call}
use Rattle.fs_types.specs.declared.call.Group.{Group}
use Rattle.fs_types.specs.declared.call.Reply.{Reply}
use Rattle.fs_types.specs.declared.fault.Fault.{Fault}
use Rattle.flash_model.specs.Device.{Device}
use Rattle.node_store.specs.declared.storage.Storage.{Storage}
use Rattle.block_ring.specs.Ring.{Ring}
use Rattle.tree_edits.specs.Edits as edits
use Rattle.tree_edits.specs.declared.edits.Edit.{Edit}
use Rattle.working_state.specs.Moments.{Moment, moment, machine_at, seen_at, IsMountedAt, IsStep, nodes_at, capacity_at, version_tree}
use Rattle.working_state.specs.Changes.{IsUnwritten, work_at}
use Rattle.bad_blocks.specs.Mode.{is_read_only}
use Rattle.working_state.specs.Steps.{is_light, last_serial, Refuses}
use Rattle.working_state.specs.Mounted.{IsStanding}
use Rattle.working_state.specs.Roots.{ReachesNew}
use Rattle.working_state.specs.Worked.{IsWorked, IsLooked}
use Rattle.plain_trees.proofs.Beneath.{None≢Some}
use Rattle.plain_trees.proofs.Needs.{path_need-long}
use Rattle.history_machine.proofs.Groups.{worked-after, version-outside}
use Rattle.working_state.proofs.Roots.{AllRoots, ReachesBefore, after_work, at_work, with_work, all_reach}
use Rattle.working_state.proofs.Standing.{AllStand, worked_trees, worked_machine, worked_later, worked_mounted, worked_before, looked_worked, worked_on, worked_group, same_working}
use Rattle.working_state.proofs.PathCalls.{working_tree_is, working_stands}
use Rattle.working_state.proofs.Refusals.{accepted_begins, write_refuses, cause_later}
use Rattle.working_state.proofs.Steps.{writes-tree, still_machine}

pub path_within : (path : Path) → is_path path ≡ true → length path ≤ 16
path_within path is = leb-true (length path) 16 (and_parts (list_all is_name path) (nat_le (length path) 16) is).1

-- Refusals of a change that the machine accepts.

pub makes : (m : Machine) (call : Call) → refusal m call ≡ None → is_some (tree_after m call) ≡ true → changes_tree m call ≡ true
makes m call fine tree = and_from (is_none (refusal m call)) (is_some (tree_after m call)) (ap is_none fine) tree

pub needs : (capacity : ℕ) (m : Machine) (call : Call) → changes_tree m call ≡ true → 0 < change_need capacity m call → 0 < need capacity m call
needs capacity m call version more = subst (λ b. 0 < (if b then change_need capacity m call else 0)) (sym version) more

-- a version writes all that its change needs
pub needs_all : (capacity : ℕ) (m : Machine) (call : Call) → changes_tree m call ≡ true → need capacity m call ≡ change_need capacity m call
needs_all capacity m call version = ap (λ b. if b then change_need capacity m call else 0) version

-- a way that has a name needs a node
pub way_some : (m : Machine) (call : Call) (path : Path) → 0 < length path → 0 < way_need m call path
way_some m call path some = let long = path_need-long (working_tree m) (unwrap_or (tree_after m call) (working_tree m)) path in omega arith

-- read-only mode before reads is that after them
pub later_writable : (a b : Moment) → IsLooked a b → is_read_only b.state.storage.bad ≡ is_read_only a.state.storage.bad
later_writable a b l = ap is_read_only l.untouched.bad

pub later_serial : (a b : Moment) → IsLooked a b → b.state.history.next < last_serial → a.state.history.next < last_serial
later_serial a b l left = subst (λ (x : Past ℕ). x.next < last_serial) l.rest.history left

-- a tree is changed by an accepted call
pub change_accepted : (m : Machine) (call : Call) → changes_tree m call ≡ true → refusal m call ≡ None
change_accepted m call changes = by (refusal m call) (and_parts (is_none (refusal m call)) (is_some (tree_after m call)) changes).0
  where
    by : (o : Option Fault) → is_none o ≡ true → o ≡ None
    by None none = refl
    by (Some fault) none = absurd (true≢false (sym none))

unmapped : (f : ℕ → Tree) (g : Option (Group ℕ)) → map_group f g ≡ None → g ≡ None
unmapped f None e = refl
unmapped f (Some g) e = absurd (None≢Some (sym e))

not_end : (call : Call) → is_light call ≡ false → call ≢ Call.End
not_end call heavy is = true≢false (sym (ap is_light is) ∙ heavy)

-- a change that makes a version is made outside a group
pub outside_version : (a : Moment) (call : Call) → is_light call ≡ false → makes_version (machine_at a) call ≡ true → a.state.group ≡ None
outside_version a call heavy made = unmapped (version_tree a) a.state.group (version-outside (machine_at a) call (not_end call heavy) (and_parts (is_accepted (machine_at a) call) (is_some (version_after (machine_at a) call)) made).1)

pub later_outside : (a b : Moment) → IsLooked a b → (call : Call) → is_light call ≡ false → makes_version (machine_at a) call ≡ true → b.state.group ≡ None
later_outside a b l call heavy made = l.rest.group ∙ outside_version a call heavy made

-- the nodes of a version are not written
pub writing_refuses : (a b : Moment) (f : Device) (st : Storage) (edit : Edit) (call : Call) (fault : Fault) → IsLooked a b → is_light call ≡ false → changes_tree (machine_at a) call ≡ true
    → 0 < change_need (capacity_at a) (machine_at a) call → edits.edit_need (capacity_at b) (nodes_at b) edit ≤ change_need (capacity_at a) (machine_at a) call → IsUnwritten (work_at b) edit fault f st
    → Refuses (seen_at a) (machine_at a) call fault (seen_at (moment f (record b.state { storage = st })))
writing_refuses a b f st edit call fault l heavy version more few work =
    let m = machine_at a in
    let c : Moment = moment f (record b.state { storage = st }) in
    let later = worked_later a b (looked_worked a b l) in
    let all = needs_all (capacity_at a) m call version in
    let same = later.taken in
    let free = ap (λ (r : Ring). r.takes) l.untouched.ring in
    let bad = ap set.len l.untouched.bad in
    inr (write_refuses (seen_at a) (seen_at c) m call fault (accepted_begins m call (change_accepted m call version) heavy) (needs (capacity_at a) m call version more) (writes-tree m call version) (sym (later_writable a b l) ∙ work.writable) (λ made. later_serial a b l (work.serial_left (later_outside a b l call heavy made))) work.why.kind
    (λ full. let short = work.why.few_free full in omega arith)
    (cause_later (seen_at a) (seen_at b) (seen_at c) fault later work.why.why))

-- The root that calls work on, after reads.

later_root : (a b : Moment) (root : ℕ) → working_root a.state.history a.state.group ≡ Some root → IsLooked a b → working_root b.state.history b.state.group ≡ Some root
later_root a b root is l = same_working a.state b.state l.rest ∙ is

pub later_stands : (a b : Moment) (root : ℕ) → IsMountedAt a → working_root a.state.history a.state.group ≡ Some root → IsLooked a b → IsStanding b.device b.state.storage.ring root
later_stands a b root m is l = working_stands b root (worked_mounted a b m (looked_worked a b l)) (later_root a b root is l)

pub later_tree : (a b : Moment) (root : ℕ) → IsMountedAt a → working_root a.state.history a.state.group ≡ Some root → IsLooked a b → working_tree (machine_at a) ≡ version_tree b root
later_tree a b root m is l =
    ap working_tree (sym (worked_machine a b m (looked_worked a b l))) ∙ working_tree_is b root (later_root a b root is l)

-- a root stands, and has this tree
pub record HasNewTree (b : Moment) (to : ℕ) (tree : Tree) : Type 0 where
  pub stands : IsStanding b.device b.state.storage.ring to
  pub is : version_tree b to ≡ tree

-- Calls work on the new root.

-- the trees of the history are those before, and the new one
pushed_trees : (a b : Moment) (to : ℕ) (tree : Tree) → IsMountedAt a → IsWorked a b → HasNewTree b to tree
    → map_roots (version_tree b) (history_with b.state.history b.state.group to) ≡ history_with (map_roots (version_tree a) a.state.history) (map_group (version_tree a) a.state.group) tree
pushed_trees a b to tree m w new =
    (λ i. map_roots (version_tree b) (history_with (w.rest.history i) (w.rest.group i) to))
    ∙ sym (history_with-map (version_tree b) a.state.history a.state.group to)
    ∙ (λ i. history_with (worked_trees a b m w i) (worked_group a b m w i) (new.is i))

-- and the group has the new tree, where one is open
pushed_group : (a b : Moment) (to : ℕ) (tree : Tree) → IsMountedAt a → IsWorked a b → HasNewTree b to tree → map_group (version_tree b) (group_with b.state.group to) ≡ group_with (map_group (version_tree a) a.state.group) tree
pushed_group a b to tree m w new =
    (λ i. map_group (version_tree b) (group_with (w.rest.group i) to))
    ∙ sym (group_with-map (version_tree b) a.state.group to)
    ∙ (λ i. group_with (worked_group a b m w i) (new.is i))

-- the machine that a change leaves
changed_machine : (m : Machine) (call : Call) (tree : Tree) (n : Machine) → refusal m call ≡ None → tree_after m call ≡ Some tree → n.history ≡ history_with m.history m.group tree → n.group ≡ group_with m.group tree → n.descriptors ≡ descriptors_after m call
    → n ≡ machine_of m call (refusal m call)
changed_machine m call tree n fine after history group descriptors =
    let parts = worked-after m call tree after in
    let same : n.history ≡ history_after m call = history ∙ sym parts.0 in
    let same_group : n.group ≡ group_after m call = group ∙ sym parts.1 in
    (λ i. machine_with (same i) (same_group i) (descriptors i)) ∙ sym (ap (machine_of m call) fine)

-- the moment with the new root, and with the open files that a change leaves
abbrev pub changed_at : Moment → Past ℕ → Option (Group ℕ) → Descriptors → Moment
changed_at c h k files = moment c.device (record c.state { history = h; group = k; files = files })

-- a change that was looked at from `a` to `b` and written from `b` to `c`
pub changed_step : (a b c : Moment) (to : ℕ) (call : Call) (tree : Tree) (reply : Reply) (h : Past ℕ) (k : Option (Group ℕ)) (files : Descriptors) → h ≡ history_with c.state.history c.state.group to → k ≡ group_with c.state.group to → files ≡ descriptors_after (machine_at a) call
    → IsMountedAt a → IsLooked a b → refusal (machine_at a) call ≡ None → tree_after (machine_at a) call ≡ Some tree → ((space : Space) → reply_of space (machine_at a) call ≡ reply)
    → is_read_only b.state.storage.bad ≡ false → is_read_only c.state.storage.bad ≡ false → is_light call ≡ false → (b.state.group ≡ None → b.state.history.next < last_serial) → IsWorked b c → HasNewTree c to tree
    → IsStep a call (Ok reply) (changed_at c h k files) false
changed_step a b c to call tree reply h k files pushes groups opens m l fine after replies writable stays heavy serial w new =
    let all = worked_on a b c (looked_worked a b l) w in
    subst (λ (x : Past ℕ × Option (Group ℕ)). IsStep a call (Ok reply) (changed_at c x.0 x.1 files) false) (λ i. (sym pushes i, sym groups i))
    (record {
      later = worked_later a c all;
      answers = (
        refl,
        record {
          accepted = fine;
          answered = λ space _. ap (answer_of space (machine_at a) call) fine ∙ ap Ok (replies space);
          leaves = changed_machine (machine_at a) call tree (machine_at (changed_at c (history_with c.state.history c.state.group to) (group_with c.state.group to) files)) fine after (pushed_trees a c to tree m all new) (pushed_group a c to tree m all new) opens;
          writable = λ writes. (sym (later_writable a b l) ∙ writable, stays);
          serial_left = λ makes. later_serial a b l (serial (later_outside a b l call heavy makes));
        },
        refl,
      );
    })

-- what stands before a change stands after it, and what its step leaves is a machine
pub changed_mounted : (a c : Moment) (to : ℕ) (call : Call) (tree : Tree) (result : Result Reply Fault) (h : Past ℕ) (k : Option (Group ℕ)) (files : Descriptors) → h ≡ history_with c.state.history c.state.group to → k ≡ group_with c.state.group to → IsMountedAt a → IsWorked a c → HasNewTree c to tree
    → has_paths call ≡ true → IsStep a call result (changed_at c h k files) false → IsMountedAt (changed_at c h k files)
changed_mounted a c to call tree result h k files pushes groups m w new paths step =
    let mounted = worked_mounted a c m w in
    let all : AllStand (at_work c h k) = subst (λ (x : Past ℕ × Option (Group ℕ)). AllStand (at_work c x.0 x.1)) (λ i. (sym pushes i, sym groups i)) (after_work (IsStanding c.device c.state.storage.ring) c.state to mounted.roots new.stands) in
    record {
      lawful = mounted.lawful;
      ring_blocks = mounted.ring_blocks;
      fits = mounted.fits;
      roots = all;
      machine = still_machine (seen_at a) (seen_at (changed_at c h k files)) (machine_at a) (machine_at (changed_at c h k files)) false false call result m.machine paths step;
      off = mounted.off;
    }

-- what the roots reach after a change, where what the new one reaches was reached before, or written in a block that was not used
pub changed_reaches : (a c : Moment) (to : ℕ) (h : Past ℕ) (k : Option (Group ℕ)) (files : Descriptors) → h ≡ history_with c.state.history c.state.group to → k ≡ group_with c.state.group to → IsMountedAt a → IsWorked a c → ReachesBefore a.device a.state c.device to
    → ReachesNew a.device a.state c.device (changed_at c h k files).state
changed_reaches a c to h k files pushes groups m w here =
    let before : ℕ → Type 0 = ReachesBefore a.device a.state c.device in
    all_reach a.device a.state c.device (changed_at c h k files).state
    (subst (λ (x : Past ℕ × Option (Group ℕ)). AllRoots before (with_work c.state x.0 x.1)) (λ i. (sym pushes i, sym groups i)) (after_work before c.state to (worked_before a c m w) here))

-- What stands still stands after reads and writes of nodes, and the machine is the same.
use Rattle.std.proofs.Common.{◌≡◌, ℕ, Option, [], ◌∷◌, ◌-◌, ◌≤◌, true, false, ◌||◌, refl, sym, ap, subst, ◌∙◌, inl, arith}
use Rattle.std.proofs.lemmas.Bool.{both_ways}
use Rattle.std.specs.FinSet as set
use Rattle.history_machine.specs.History.{Past, map_roots, map_group, working_root}
use Rattle.history_machine.specs.HistoryMaps.{same-map_roots, same-map_group}
use Rattle.history_machine.specs.Machine.{Machine, IsMachine, changes_tree, need, machine_with}
use Rattle.fs_types.specs.declared.call.Call.{Call}
use Rattle.fs_types.specs.declared.call.Group.{Group}
use Rattle.flash_model.specs.declared.geometry.Geometry.{Geometry}
use Rattle.flash_model.specs.Device.{Device, block_of}
use Rattle.flash_model.specs.Geometry.{IsGeometry, block_bytes}
use Rattle.block_ring.specs.Ring.{Ring}
use Rattle.node_format.specs.Headers.{body_header}
use Rattle.node_format.specs.declared.place.Place.TheVariants.{Dir}
use Rattle.node_store.specs.NodePages.{node_of}
use Rattle.node_store.specs.declared.storage.Storage as parts
use Rattle.node_store.specs.FittingLaws.{still_itself, still_on}
use Rattle.node_store.specs.Storage.{Storage, storage, is_kept, Evolved}
use Rattle.node_store.specs.StorageLaws.{Evolved_itself, Evolved_on, Untouched_itself, Untouched_evolved, Untouched_on}
use Rattle.node_store.specs.StoreLaws.{Evolved_node}
use Rattle.nodes.specs.TreeLaws.{FrameLaw}
use Rattle.nodes.specs.Reached.{Keeps, Reached}
use Rattle.nodes.specs.Trees.{IsRoot, root_tree}
use Rattle.nodes.proofs.Frames.{frame_law}
use Rattle.working_state.specs.Moments.{Moment, machine_at, seen_at, storage_at, IsMountedAt, capacity_at, version_tree, moment}
use Rattle.working_state.specs.Leaves.{HasLooked, HasWritten, is_still, Leaves}
use Rattle.working_state.specs.Looking.{only_looks, LooksOnce}
use Rattle.working_state.proofs.Looks.{looks_still, looks_other, neither}
use Rattle.working_state.specs.Seen.{capacity_of, tree_on}
use Rattle.working_state.specs.Roots.{HasRoot, IsReached, ReachesNew}
use Rattle.working_state.specs.Steps.{LeadsTo}
use Rattle.working_state.specs.Mounted.{IsStanding, KeepsPages}
use Rattle.working_state.specs.Worked.{IsSameBut, IsWorked, IsLooked}
use Rattle.working_state.specs.declared.state.State.{State}
use Rattle.working_state.proofs.Roots.{AllRoots, ReachesBefore, of_versions, of_checkpoints, of_group, at_history, at_work, with_work, all_reach}
use Rattle.working_state.proofs.BadCounts.{len-within, stays_read_only}

-- Blocks and roots.

-- kept blocks stay kept, with their nodes
pub keeps : (s t : Storage) → IsGeometry s.device.geometry → Evolved s t → Keeps (is_kept s) (node_of s.device) (is_kept t) (node_of t.device)
keeps s t lawful e = record { same = λ b kept. Evolved_node s t b lawful e kept; stays = e.kept }

pub same_capacity : (s t : Storage) → Evolved s t → capacity_of t.device ≡ capacity_of s.device
same_capacity s t e = ap (λ (g : Geometry). block_bytes g - body_header) e.geometry

frame : (s t : Storage) → IsGeometry s.device.geometry → Evolved s t → FrameLaw (node_of s.device) (node_of t.device) (is_kept s) (is_kept t)
frame s t lawful e = frame_law (node_of s.device) (node_of t.device) (is_kept s) (is_kept t) (keeps s t lawful e)

pub still_stands : (s t : Storage) (root : ℕ) → IsGeometry s.device.geometry → Evolved s t → IsStanding s.device s.ring root → IsStanding t.device t.ring root
still_stands s t root lawful e stands = record {
  held = (frame s t lawful e).held (Dir root) stands.held;
  rooted = subst (λ capacity. IsRoot capacity (node_of t.device) root) (sym (same_capacity s t e))
      ((frame s t lawful e).shape (capacity_of s.device) 16 (Dir root) stands.held stands.rooted);
}

pub same_tree : (s t : Storage) (root : ℕ) → IsGeometry s.device.geometry → Evolved s t → IsStanding s.device s.ring root → tree_on t.device root ≡ tree_on s.device root
same_tree s t root lawful e stands =
    ap (λ capacity. root_tree capacity (node_of t.device) root) (same_capacity s t e)
    ∙ (frame s t lawful e).roots (capacity_of s.device) root stands.held stands.rooted

-- Histories.

-- each root stands
abbrev pub AllStand : Moment → Type 0
AllStand a = AllRoots (IsStanding a.device a.state.storage.ring) a.state

-- a root has the same tree
abbrev HasSameTree : Device → Device → ℕ → Type 0
HasSameTree d e root = tree_on e root ≡ tree_on d root

all_still_stand : (s t : Storage) (u : State) → IsGeometry s.device.geometry → Evolved s t → AllRoots (IsStanding s.device s.ring) u → AllRoots (IsStanding t.device t.ring) u
all_still_stand s t u lawful e all root has = still_stands s t root lawful e (all root has)

pub same_trees : (s t : Storage) (u : State) → IsGeometry s.device.geometry → Evolved s t → AllRoots (IsStanding s.device s.ring) u → map_roots (tree_on t.device) u.history ≡ map_roots (tree_on s.device) u.history
same_trees s t u lawful e all =
    let each : AllRoots (HasSameTree s.device t.device) u = λ root has. same_tree s t root lawful e (all root has) in
    same-map_roots (tree_on t.device) (tree_on s.device) u.history (of_versions (HasSameTree s.device t.device) u each) (of_checkpoints (HasSameTree s.device t.device) u each)

pub same_group : (s t : Storage) (u : State) → IsGeometry s.device.geometry → Evolved s t → AllRoots (IsStanding s.device s.ring) u → map_group (tree_on t.device) u.group ≡ map_group (tree_on s.device) u.group
same_group s t u lawful e all =
    same-map_group (tree_on t.device) (tree_on s.device) u.group (of_group (HasSameTree s.device t.device) u (λ root has. same_tree s t root lawful e (all root has)))

-- States.

-- a look at nodes leaves the rest of the state
pub looked_at : (a : Moment) (e : Device) (st : parts.Storage) → HasLooked a.device a.state.storage e st → IsLooked a (moment e (record a.state { storage = st }))
looked_at a e st l = record { untouched = l.untouched; fits = l.fits; rest = record { history = refl; group = refl; files = refl; is_off = refl } }

pub looked_worked : (a b : Moment) → IsLooked a b → IsWorked a b
looked_worked a b l = record { evolved = Untouched_evolved (storage_at a) (storage_at b) l.untouched; fits = l.fits; rest = l.rest }

pub worked_itself : (a : Moment) → IsWorked a a
worked_itself a = record { evolved = Evolved_itself (storage_at a); fits = still_itself a.device a.state.storage; rest = record { history = refl; group = refl; files = refl; is_off = refl } }

same_but_on : (s t u : State) → IsSameBut s t → IsSameBut t u → IsSameBut s u
same_but_on s t u a b = record { history = b.history ∙ a.history; group = b.group ∙ a.group; files = b.files ∙ a.files; is_off = b.is_off ∙ a.is_off }

pub worked_on : (a b c : Moment) → IsWorked a b → IsWorked b c → IsWorked a c
worked_on a b c v w = record { evolved = Evolved_on (storage_at a) (storage_at b) (storage_at c) v.evolved w.evolved; fits = still_on a.device a.state.storage b.device b.state.storage c.device c.state.storage v.fits w.fits; rest = same_but_on a.state b.state c.state v.rest w.rest }

pub looked_on : (a b c : Moment) → IsLooked a b → IsLooked b c → IsLooked a c
looked_on a b c l k = record { untouched = Untouched_on (storage_at a) (storage_at b) (storage_at c) l.untouched k.untouched; fits = still_on a.device a.state.storage b.device b.state.storage c.device c.state.storage l.fits k.fits; rest = same_but_on a.state b.state c.state l.rest k.rest }

-- calls work on the same root
pub same_working : (s t : State) → IsSameBut s t → working_root t.history t.group ≡ working_root s.history s.group
same_working s t same = λ i. working_root (same.history i) (same.group i)

-- What is left of what nodes are kept with.

pub none_written : (d : Device) (s : parts.Storage) (most : ℕ) → HasWritten d s most d s
none_written d s most = record { evolved = Evolved_itself (storage d s.bad s.ring); paid = omega arith; fits = still_itself d s }

none_looked : (d : Device) (s : parts.Storage) → HasLooked d s d s
none_looked d s = record { untouched = Untouched_itself (storage d s.bad s.ring); fits = still_itself d s }

-- a look, and then writes of no more nodes
pub looked_written : (d : Device) (s : parts.Storage) (e : Device) (t : parts.Storage) (f : Device) (u : parts.Storage) (nodes most : ℕ) → HasLooked d s e t → HasWritten e t nodes f u → nodes ≤ most → HasWritten d s most f u
looked_written d s e t f u nodes most l w few =
    let paid = w.paid in
    let takes = ap (λ (r : Ring). r.takes) l.untouched.ring in
    let bad = ap set.len l.untouched.bad in
    record {
      evolved = Evolved_on (storage d s.bad s.ring) (storage e t.bad t.ring) (storage f u.bad u.ring) (Untouched_evolved (storage d s.bad s.ring) (storage e t.bad t.ring) l.untouched) w.evolved;
      paid = omega arith;
      fits = still_on d s e t f u l.fits w.fits;
    }

looks : (a b : Moment) → IsLooked a b → HasLooked a.device a.state.storage b.device b.state.storage
looks a b l = record { untouched = l.untouched; fits = l.fits }

-- a call that only read
pub read_leaves : (a b : Moment) (call : Call) → IsLooked a b → is_still call ≡ false → LooksOnce (machine_at a) call a.device b.device → Leaves (machine_at a) call a.device a.state.storage b.device b.state.storage
read_leaves a b call l moves asks = record {
  written = looked_written a.device a.state.storage b.device b.state.storage b.device b.state.storage 0 (need (capacity_at a) (machine_at a) call) (looks a b l) (none_written b.device b.state.storage 0) (omega arith);
  looked = λ _. looks a b l;
  still = λ still. absurd (both_ways (is_still call) moves still);
  asks = asks;
}

-- one that may do more than look
pub looked_leaves : (a b : Moment) (call : Call) → IsLooked a b → is_still call || only_looks call ≡ false → Leaves (machine_at a) call a.device a.state.storage b.device b.state.storage
looked_leaves a b call l moves =
    let apart = neither (is_still call) (only_looks call) moves in
    read_leaves a b call l apart.0 (looks_other (machine_at a) call a.device b.device apart.1)

-- a call that did no device operation
pub still_leaves : (m : Machine) (d : Device) (s : parts.Storage) (call : Call) → Leaves m call d s d s
still_leaves m d s call = record { written = none_written d s (need (capacity_of d) m call); looked = λ _. none_looked d s; still = λ _. (refl, refl); asks = looks_still m call d }

-- a call that wrote as many nodes as it may
pub written_leaves : (a b : Moment) (f : Device) (u : parts.Storage) (call : Call) (nodes : ℕ) → IsLooked a b → HasWritten b.device b.state.storage nodes f u
    → is_still call || only_looks call ≡ false → changes_tree (machine_at a) call ≡ true → nodes ≤ need (capacity_at a) (machine_at a) call → Leaves (machine_at a) call a.device a.state.storage f u
written_leaves a b f u call nodes l w moves makes few = record {
  written = looked_written a.device a.state.storage b.device b.state.storage f u nodes (need (capacity_at a) (machine_at a) call) (looks a b l) w few;
  looked = λ none. absurd (both_ways (changes_tree (machine_at a) call) none makes);
  still = λ still. absurd (both_ways (is_still call) (neither (is_still call) (only_looks call) moves).0 still);
  asks = looks_other (machine_at a) call a.device f (neither (is_still call) (only_looks call) moves).1;
}

-- all roots stand on
pub worked_stand : (a b : Moment) → IsMountedAt a → IsWorked a b → AllStand (at_work b a.state.history a.state.group)
worked_stand a b m w = all_still_stand (storage_at a) (storage_at b) a.state m.lawful w.evolved m.roots

pub worked_trees : (a b : Moment) → IsMountedAt a → IsWorked a b → map_roots (version_tree b) a.state.history ≡ map_roots (version_tree a) a.state.history
worked_trees a b m w = same_trees (storage_at a) (storage_at b) a.state m.lawful w.evolved m.roots

pub worked_group : (a b : Moment) → IsMountedAt a → IsWorked a b → map_group (version_tree b) a.state.group ≡ map_group (version_tree a) a.state.group
worked_group a b m w = same_group (storage_at a) (storage_at b) a.state m.lawful w.evolved m.roots

pub worked_machine : (a b : Moment) → IsMountedAt a → IsWorked a b → machine_at b ≡ machine_at a
worked_machine a b m w =
    let history = ap (λ (h : Past ℕ). map_roots (version_tree b) h) w.rest.history ∙ worked_trees a b m w in
    let group = ap (λ (g : Option (Group ℕ)). map_group (version_tree b) g) w.rest.group ∙ worked_group a b m w in
    (λ i. machine_with (history i) (group i) (w.rest.files i))

-- a mounted system, with any history of roots that stand
pub mounted_with : (a b : Moment) (h : Past ℕ) → IsMountedAt a → IsWorked a b → AllStand (at_history b h) → IsMachine (machine_at (at_history b h))
    → IsMountedAt (at_history b h)
mounted_with a b h m w all machine =
    let same = sym w.evolved.geometry in
    record {
      lawful = subst IsGeometry same m.lawful;
      ring_blocks = w.evolved.blocks ∙ m.ring_blocks ∙ ap (λ (g : Geometry). g.blocks) same;
      fits = w.fits.fits m.fits;
      roots = all;
      machine = machine;
      off = λ off. let was = m.off (sym w.rest.is_off ∙ off) in ap (λ (x : Device). x.powered) (w.evolved.stays_off was) ∙ was;
    }

pub worked_mounted : (a b : Moment) → IsMountedAt a → IsWorked a b → IsMountedAt b
worked_mounted a b m w = mounted_with a b b.state.history m w (subst (λ (x : Past ℕ × Option (Group ℕ)). AllStand (at_work b x.0 x.1)) (λ i. (sym w.rest.history i, sym w.rest.group i)) (worked_stand a b m w))
    (subst IsMachine (sym (worked_machine a b m w)) m.machine)

pub worked_later : (a b : Moment) → IsWorked a b → LeadsTo (seen_at a) (seen_at b)
worked_later a b w = record {
  capacity = same_capacity (storage_at a) (storage_at b) w.evolved;
  failed_reads = w.evolved.failed_reads;
  failures = w.evolved.failures;
  listed = len-within a.state.storage.bad b.state.storage.bad w.evolved.stays_bad;
  taken = w.evolved.taken;
  cuts = w.evolved.cuts;
  was_on = w.evolved.was_on;
  stays_read_only = stays_read_only a.state.storage.bad b.state.storage.bad w.evolved.stays_bad;
}

pub worked_pages : (a b : Moment) → IsMountedAt a → IsWorked a b → KeepsPages a.device a.state b.device
worked_pages a b m w p (root, has, reached) = w.evolved.kept_pages p ((m.roots root has).held root refl (block_of a.device p) reached)

-- a root that was reaches what it did
pub worked_reach : (a b : Moment) (root : ℕ) → IsMountedAt a → IsWorked a b → HasRoot a.state root → (block : ℕ) → Reached (node_of b.device) (root ∷ []) block → IsReached a.device a.state block
worked_reach a b root m w has block reached = (root, has, (frame (storage_at a) (storage_at b) m.lawful w.evolved).reached root block (m.roots root has).held reached)

pub worked_before : (a b : Moment) → IsMountedAt a → IsWorked a b → AllRoots (ReachesBefore a.device a.state b.device) b.state
worked_before a b m w root has block reached = inl (worked_reach a b root m w (subst (λ (x : Past ℕ × Option (Group ℕ)). HasRoot (with_work b.state x.0 x.1) root) (λ i. (w.rest.history i, w.rest.group i)) has) block reached)

pub worked_reaches : (a b : Moment) → IsMountedAt a → IsWorked a b → ReachesNew a.device a.state b.device b.state
worked_reaches a b m w = all_reach a.device a.state b.device b.state (worked_before a b m w)

-- The step of a whole file that is written.
use Rattle.std.proofs.Common.{◌≡◌, ℕ, ◌+◌, ◌<◌, ◌≤◌, Bool, true, false, cond, not, ◌||◌, Option, Some, None, Ok, Err, List, length, refl, sym, ap, ◌∙◌, inl, inr, arith}
use Rattle.std.proofs.lemmas.Bool.{cases_Bool, eqb-false, eqb-true, true≢false}
use Rattle.std.specs.Prelude.{is_some, is_none, nat_lt, if◌then◌else◌}
use Rattle.std.specs.Option.{option_or, option_map_or, option_and_then}
use Rattle.std.specs.FinMap.{get}
use Rattle.std.specs.FinSet as set
use Rattle.fs_types.specs.Names.{Path, is_path}
use Rattle.fs_types.specs.declared.call.Call.{Call}
use Rattle.fs_types.specs.declared.call.Reply.{Reply}
use Rattle.fs_types.specs.declared.fault.Fault.{Fault}
use Rattle.fs_types.specs.declared.fault.Fault.TheVariants.{DirectoryFull, TooBig, ReadFailed, PowerCut, NoMemory}
use Rattle.fs_types.proofs.Orders.{same_name-is}
use Rattle.plain_trees.specs.Contents.{Contents, Entry, parent_of, lookup_refusal, body_need, same_bytes}
use Rattle.plain_trees.specs.Trees.{Tree, put, is_full, bytes_of, bytes_of_file}
use Rattle.history_machine.specs.Descriptors.{is_open}
use Rattle.history_machine.specs.History.{working_root, changed, group_with}
use Rattle.plain_trees.specs.Files.{file_put}
use Rattle.history_machine.specs.Machine.{Machine, working_tree, write_place_refusal, size_refusal, write_file_changes, refusal, tree_after, change_need, way_need, machine_of, machine_with}
use Rattle.nodes.specs.Trees.{tree}
use Rattle.nodes.proofs.RootMaps.{full_directory}
use Rattle.directory.specs.Counts.{path_nodes}
use Rattle.directory.specs.Trails.{IsTrail}
use Rattle.directory.specs.declared.lookups.Found.{Found}
use Rattle.directory.specs.declared.lookups.Found.TheVariants as found
use Rattle.directory.specs.Lookups.{look_up, found_entry, is_path_fault, IsLookupFault}
use Rattle.directory.proofs.LookupLaws.{found_is, missing_parent, refused_is, rooted_leads}
use Rattle.directory.proofs.TrailEdits.{look_later, trail_later}
use Rattle.node_store.specs.Faults.{is_look_fault}
use Rattle.tree_edits.specs.Edits.{TakesFile}
use Rattle.working_state.specs.Moments.{Moment, machine_at, seen_at, IsMountedAt, IsRefused, nodes_at, capacity_at, version_tree}
use Rattle.working_state.specs.WholeFiles.{place_refusal, is_as_long, file_bytes, IsWholeFile}
use Rattle.working_state.specs.Worked.{IsLooked, WorkCause, ReadCause}
use Rattle.working_state.specs.Mounted.{IsStanding}
use Rattle.working_state.specs.Seen.{Seen}
use Rattle.working_state.specs.Moments.{storage_at}
use Rattle.working_state.proofs.ChangeSteps.{later_tree, way_some}
use Rattle.working_state.proofs.FileChanges.{working_body, long_body}
use Rattle.working_state.proofs.ChangedCalls.{IsChangeBy}
use Rattle.working_state.proofs.Needs.{put_way}
use Rattle.working_state.proofs.OpenCalls.{working_is}
use Rattle.working_state.proofs.PathCalls.{OnlyReads, working_tree_is, working_stands}
use Rattle.working_state.proofs.Refusals.{read_refuses}
use Rattle.working_state.proofs.Standing.{keeps, same_capacity, looked_worked}

-- Refusals.

-- by what stands at each path
abbrev refusal_by : Machine → Path → List ℕ → Contents → Option Fault
refusal_by m path bytes t = option_or (lookup_refusal t path) (option_or (write_place_refusal (working_tree m) m.descriptors path (t path)) (size_refusal bytes))

write_at : (a : Moment) (path : Path) (bytes : List ℕ) (root : ℕ) → IsMountedAt a → working_root a.state.history a.state.group ≡ Some root
    → refusal (machine_at a) (Call.WriteFile path bytes) ≡ refusal_by (machine_at a) path bytes (tree (capacity_at a) (nodes_at a) root)
write_at a path bytes root m is = ap (refusal_by (machine_at a) path bytes) (working_is a root m is)

-- what was found is refused or not, and then too many bytes are
write_found : (a : Moment) (path : Path) (bytes : List ℕ) (root : ℕ) (x : Found) → IsMountedAt a → working_root a.state.history a.state.group ≡ Some root → look_up (nodes_at a) root path ≡ Ok x
    → refusal (machine_at a) (Call.WriteFile path bytes) ≡ option_or (place_refusal (is_open a.state.files path) x) (size_refusal bytes)
write_found a path bytes root x m is e =
    let n = machine_at a in
    let law = found_is (capacity_at a) (nodes_at a) root path x (rooted_leads (capacity_at a) (nodes_at a) root (working_stands a root m is).rooted) e in
    write_at a path bytes root m is
    ∙ ap (λ o. option_or o (option_or (write_place_refusal (working_tree n) n.descriptors path (tree (capacity_at a) (nodes_at a) root path)) (size_refusal bytes))) law.0
    ∙ ap (λ o. option_or (write_place_refusal (working_tree n) n.descriptors path o) (size_refusal bytes)) law.1
    ∙ ap (λ o. option_or o (size_refusal bytes)) (go x e)
  where
    go : (x : Found) → look_up (nodes_at a) root path ≡ Ok x → write_place_refusal (working_tree (machine_at a)) (machine_at a).descriptors path (found_entry (capacity_at a) (nodes_at a) x) ≡ place_refusal (is_open a.state.files path) x
    go (found.Missing full) e =
        let parent = missing_parent (nodes_at a) root path full (rooted_leads (capacity_at a) (nodes_at a) root (working_stands a root m is).rooted) e in
        let same : is_full (working_tree (machine_at a)) (parent_of path) ≡ full =
        ap (λ (t : Tree). is_full t (parent_of path)) (working_tree_is a root is)
        ∙ full_directory (capacity_at a) (nodes_at a) root (parent_of path) parent.0 (working_stands a root m is).rooted parent.1 ∙ sym parent.2 in
        ap (λ b. cond b (Some DirectoryFull) None) same
    go (found.File head size) e = refl
    go (found.Dir block) e = refl

write_told : (a : Moment) (path : Path) (bytes : List ℕ) (root : ℕ) (fault : Fault) → IsMountedAt a → working_root a.state.history a.state.group ≡ Some root → look_up (nodes_at a) root path ≡ Err fault
    → refusal (machine_at a) (Call.WriteFile path bytes) ≡ Some fault
write_told a path bytes root fault m is e =
    write_at a path bytes root m is
    ∙ ap (λ o. option_or o (option_or (write_place_refusal (working_tree (machine_at a)) (machine_at a).descriptors path (tree (capacity_at a) (nodes_at a) root path)) (size_refusal bytes))) (refused_is (capacity_at a) (nodes_at a) root path fault (working_stands a root m is).rooted e)

-- a look up that was refused, by whether the nodes tell of it
pub write_fault : (a b : Moment) (path : Path) (bytes : List ℕ) (root : ℕ) (fault : Fault) → IsMountedAt a → working_root a.state.history a.state.group ≡ Some root
    → (is_path_fault fault ≡ true → look_up (nodes_at a) root path ≡ Err fault)
    → (is_path_fault fault ≡ false → WorkCause (seen_at a) fault (seen_at b)) → IsLookupFault fault
    → IsRefused a (Call.WriteFile path bytes) fault b
write_fault a b path bytes root fault m is refused why lookup = elim (cases_Bool (is_path_fault fault)) [
  | inl told ↦ inl (write_told a path bytes root fault m is (refused told))
  | inr other ↦ inr (read_refuses (seen_at a) (seen_at b) (machine_at a) (Call.WriteFile path bytes) fault refl other lookup (why other))
]

-- what was found is refused
pub write_refuses : (a b : Moment) (path : Path) (bytes : List ℕ) (root : ℕ) (x : Found) (fault : Fault) → IsMountedAt a → working_root a.state.history a.state.group ≡ Some root
    → look_up (nodes_at a) root path ≡ Ok x → place_refusal (is_open a.state.files path) x ≡ Some fault → IsRefused a (Call.WriteFile path bytes) fault b
write_refuses a b path bytes root x fault m is led refused = inl (write_found a path bytes root x m is led ∙ ap (λ o. option_or o (size_refusal bytes)) refused)

-- too many bytes are
pub size_refuses : (a b : Moment) (path : Path) (bytes : List ℕ) (root : ℕ) (x : Found) → IsMountedAt a → working_root a.state.history a.state.group ≡ Some root
    → look_up (nodes_at a) root path ≡ Ok x → place_refusal (is_open a.state.files path) x ≡ None → nat_lt 16777216 (length bytes) ≡ true → IsRefused a (Call.WriteFile path bytes) TooBig b
size_refuses a b path bytes root x m is led fits long =
    inl (write_found a path bytes root x m is led ∙ ap (λ o. option_or o (size_refusal bytes)) fits ∙ ap (λ c. cond c (Some TooBig) None) long)

pub write_accepted : (a : Moment) (path : Path) (bytes : List ℕ) (root : ℕ) (x : Found) → IsMountedAt a → working_root a.state.history a.state.group ≡ Some root
    → look_up (nodes_at a) root path ≡ Ok x → place_refusal (is_open a.state.files path) x ≡ None → nat_lt 16777216 (length bytes) ≡ false → refusal (machine_at a) (Call.WriteFile path bytes) ≡ None
write_accepted a path bytes root x m is led fits short =
    write_found a path bytes root x m is led ∙ ap (λ o. option_or o (size_refusal bytes)) fits ∙ ap (λ c. cond c (Some TooBig) None) short

-- where nothing is refused a file may be put
pub write_takes : (busy : Bool) (x : Found) → place_refusal busy x ≡ None → TakesFile x
write_takes busy (found.Missing true) fits = absurd cc
write_takes busy (found.Missing false) fits = refl
write_takes busy (found.File head size) fits = tt
write_takes busy (found.Dir block) fits = absurd cc

-- What it changes.

made_by : (m : Machine) (path : Path) (bytes : List ℕ) (b : Bool) → write_file_changes (working_tree m) path bytes ≡ b → tree_after m (Call.WriteFile path bytes) ≡ cond b (Some (file_put (working_tree m) path bytes)) None
made_by m path bytes b is = ap (λ c. cond c (Some (file_put (working_tree m) path bytes)) None) is

pub write_change : (a b : Moment) (path : Path) (bytes : List ℕ) → IsMountedAt a → IsLooked a b → refusal (machine_at a) (Call.WriteFile path bytes) ≡ None → is_path path ≡ true
    → write_file_changes (working_tree (machine_at a)) path bytes ≡ true → 0 < length path
    → IsChangeBy a (Call.WriteFile path bytes) (λ root. put (version_tree b root) path (Entry.File bytes)) Reply.Empty
write_change a b path bytes m l fine lawful changes below = record {
  fine = fine;
  after = λ root is. made_by (machine_at a) path bytes true changes ∙ ap (λ (x : Tree). Some (file_put x path bytes)) (later_tree a b root m is l);
  heavy = refl;
  moves = refl;
  paths = lawful;
  more = λ capacity. some_more (body_need capacity (length bytes)) (way_need (machine_at a) (Call.WriteFile path bytes) path) (way_some (machine_at a) (Call.WriteFile path bytes) path below);
  replies = λ space. refl;
}
  where
    some_more : (x y : ℕ) → 0 < y → 0 < x + y
    some_more x y some = omega arith

-- the same bytes make no version
pub write_nothing : (m : Machine) (path : Path) (bytes : List ℕ) → write_file_changes (working_tree m) path bytes ≡ false → OnlyReads m (Call.WriteFile path bytes)
write_nothing m path bytes same = record { stays = stays; no_version = no_tree; no_end = ap (option_and_then (λ t. if is_some m.group then None else Some t)) no_tree; no_record = refl }
  where
    no_tree : tree_after m (Call.WriteFile path bytes) ≡ None
    no_tree = made_by m path bytes false same

    stays : machine_of m (Call.WriteFile path bytes) None ≡ m
    stays i = machine_with (option_map_or (changed m.history) (option_and_then (λ t. if is_some m.group then None else Some t) (no_tree i)) m.history) (option_map_or (group_with m.group) (no_tree i) m.group) m.descriptors

-- How many nodes it needs.

pub write_few : (a b : Moment) (root : ℕ) (path : Path) (bytes : List ℕ) (trail : List ℕ) → IsMountedAt a → working_root a.state.history a.state.group ≡ Some root → IsLooked a b
    → IsChangeBy a (Call.WriteFile path bytes) (λ r. put (version_tree b r) path (Entry.File bytes)) Reply.Empty → IsTrail (nodes_at b) root path trail
    → body_need (capacity_at b) (length bytes) + path_nodes (nodes_at b) trail path true 0 ≤ change_need (capacity_at a) (machine_at a) (Call.WriteFile path bytes)
write_few a b root path bytes trail m is l by way =
    let same : capacity_at a ≡ capacity_at b = sym (same_capacity (storage_at a) (storage_at b) (looked_worked a b l).evolved) in
    let body : body_need (capacity_at a) (length bytes) ≡ body_need (capacity_at b) (length bytes) = ap (λ (c : ℕ). body_need c (length bytes)) same in
    let few = put_way a b (Call.WriteFile path bytes) (λ _. Entry.File bytes) Reply.Empty root path trail m is l by way in
    omega (arith, body)

-- what was found stays through a look
pub write_later : (b d : Moment) (root : ℕ) (path : Path) (x : Found) (trail : List ℕ) → IsMountedAt b → IsStanding b.device b.state.storage.ring root → IsLooked b d → look_up (nodes_at b) root path ≡ Ok x → IsTrail (nodes_at b) root path trail
    → (look_up (nodes_at d) root path ≡ Ok x) × IsTrail (nodes_at d) root path trail
write_later b d root path x trail m stands l led way =
    let stay = keeps (storage_at b) (storage_at d) m.lawful (looked_worked b d l).evolved in (
      look_later (nodes_at b) (nodes_at d) (set.contains b.state.storage.ring.used) (set.contains d.state.storage.ring.used) stay path root stands.held ∙ led,
      trail_later (nodes_at b) (nodes_at d) (set.contains b.state.storage.ring.used) (set.contains d.state.storage.ring.used) stay path root trail stands.held way,
    )

-- The bytes that are there.

-- another length is that of other bytes
other_bytes : (xs ys : List ℕ) → (length xs ≡ length ys → ⊥) → same_bytes xs ys ≡ false
other_bytes xs ys other = elim (cases_Bool (same_bytes xs ys)) [
  | inl same ↦ absurd (other (ap length (same_name-is xs ys same)))
  | inr differ ↦ differ
]

-- what stands at the path, as it was found
pub there : (b : Moment) (root : ℕ) (path : Path) (x : Found) → IsMountedAt b → working_root b.state.history b.state.group ≡ Some root → look_up (nodes_at b) root path ≡ Ok x → get (working_tree (machine_at b)) path ≡ found_entry (capacity_at b) (nodes_at b) x
there b root path x m is led = ap (λ (t : Contents). t path) (working_is b root m is) ∙ (found_is (capacity_at b) (nodes_at b) root path x (rooted_leads (capacity_at b) (nodes_at b) root (working_stands b root m is).rooted) led).1

-- nothing, or a file of another length, has not these bytes
pub other_changes : (b : Moment) (root : ℕ) (path : Path) (bytes : List ℕ) (x : Found) → IsMountedAt b → working_root b.state.history b.state.group ≡ Some root → look_up (nodes_at b) root path ≡ Ok x → TakesFile x → is_as_long x (length bytes) ≡ false
    → write_file_changes (working_tree (machine_at b)) path bytes ≡ true
other_changes b root path bytes (found.Missing full) m is led takes other = ap (λ o. is_none o || not (same_bytes (bytes_of o) bytes)) (there b root path (found.Missing full) m is led)
other_changes b root path bytes (found.Dir block) m is led takes other = absurd takes
other_changes b root path bytes (found.File head size) m is led takes other =
    let body = working_body b root path head size m is led in
    let long : length (bytes_of_file (working_tree (machine_at b)) path) ≡ size = ap length body.shown ∙ long_body (capacity_at b) (nodes_at b) head size body.whole in
    let differ = other_bytes (bytes_of_file (working_tree (machine_at b)) path) bytes (λ same. eqb-false size (length bytes) other (sym long ∙ same)) in
    ap (λ o. is_none o || not (same_bytes (bytes_of_file (working_tree (machine_at b)) path) bytes)) (there b root path (found.File head size) m is led) ∙ ap not differ

-- a file that was found of as many bytes is whole
pub found_whole : (b : Moment) (root : ℕ) (path : Path) (n : ℕ) (x : Found) → IsMountedAt b → working_root b.state.history b.state.group ≡ Some root → look_up (nodes_at b) root path ≡ Ok x → is_as_long x n ≡ true
    → IsWholeFile (capacity_at b) (nodes_at b) x n
found_whole b root path n (found.Missing full) m is led same = absurd (true≢false (sym same))
found_whole b root path n (found.Dir block) m is led same = absurd (true≢false (sym same))
found_whole b root path n (found.File head size) m is led same = ((working_body b root path head size m is led).whole, eqb-true size n same)

-- it is the bytes that are compared
pub same_changes : (b : Moment) (root : ℕ) (path : Path) (bytes : List ℕ) (x : Found) (same : Bool) → IsMountedAt b → working_root b.state.history b.state.group ≡ Some root → look_up (nodes_at b) root path ≡ Ok x → is_as_long x (length bytes) ≡ true
    → same ≡ same_bytes (file_bytes (capacity_at b) (nodes_at b) x) bytes → write_file_changes (working_tree (machine_at b)) path bytes ≡ not same
same_changes b root path bytes (found.Missing full) same m is led long compared = absurd (true≢false (sym long))
same_changes b root path bytes (found.Dir block) same m is led long compared = absurd (true≢false (sym long))
same_changes b root path bytes (found.File head size) same m is led long compared =
    let shown = working_body b root path head size m is led in
    ap (λ o. is_none o || not (same_bytes (bytes_of_file (working_tree (machine_at b)) path) bytes)) (there b root path (found.File head size) m is led)
    ∙ ap (λ xs. not (same_bytes xs bytes)) shown.shown ∙ ap not (sym compared)

-- a file that is there is refused to be compared only for what reads are
pub body_cause : (old new : Seen) (fault : Fault) → is_look_fault fault ≡ true → WorkCause old fault new → ReadCause old fault new
body_cause old new ReadFailed is why = why
body_cause old new PowerCut is why = why
body_cause old new NoMemory is why = tt
body_cause old new _ is why = absurd (true≢false (sym is))

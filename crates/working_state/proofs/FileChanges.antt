-- The step of a change of the bytes of an open file.
use Rattle.std.proofs.Common.{Bool, ◌≡◌, ℕ, zero, suc, ◌+◌, ◌<◌, ◌≤◌, true, false, Option, Some, None, Result, Ok, Err, List, [], ◌∷◌, length, refl, sym, ap, subst, ◌∙◌, arith}
use Rattle.std.proofs.lemmas.Bool.{true≢false, eq-eqb, ne_eqb}
use Rattle.std.proofs.lemmas.List.{length-take}
use Rattle.std.specs.Prelude.{unwrap_or, is_some, nat_le, ◌||◌, if◌then◌else◌, ◌==◌}
use Rattle.std.specs.Option.{option_map, option_map_or, option_and_then}
use Rattle.std.specs.FinMap.{get}
use Rattle.std.specs.FinSet as set
use Rattle.fs_types.specs.declared.limits.TheConstants.{MAX_ENTRIES}
use Rattle.fs_types.specs.Names.{Path, is_path}
use Rattle.plain_trees.specs.Contents.{Contents, Entry, overwritten, resized, pwrite_need, ftruncate_need}
use Rattle.plain_trees.specs.Trees.{Tree, put, IsFile, bytes_of, bytes_of_file}
use Rattle.history_machine.specs.History.{working_root, changed, group_with}
use Rattle.history_machine.specs.Descriptors.{Descriptor, descriptor_at}
use Rattle.plain_trees.specs.Files.{file_put}
use Rattle.history_machine.specs.Machine.{Machine, Space, has_paths, working_tree, pwrite_tree, ftruncate_tree, refusal, way_need, pwrite_body, ftruncate_body, change_need, reply_of, tree_after, descriptors_after, machine_of, machine_with}
use Rattle.fs_types.specs.declared.call.Call.{Call}
use Rattle.fs_types.specs.declared.call.Reply.{Reply}
use Rattle.fs_types.specs.declared.fault.Fault.{Fault}
use Rattle.history_machine.proofs.Accepted.{not-root}
use Rattle.history_machine.proofs.Kept.{working-file_tree}
use Rattle.node_format.specs.Items.{Item, named_place}
use Rattle.node_format.specs.declared.place.Place.{Place}
use Rattle.node_format.specs.declared.place.Place.TheVariants as place
use Rattle.node_store.specs.FittingLaws.{still_itself}
use Rattle.node_store.specs.StorageLaws.{Untouched_itself}
use Rattle.nodes.specs.Bodies.{Blocks, body, head_index, data_to, IsBody}
use Rattle.nodes.specs.Reached.{IsHeld}
use Rattle.nodes.specs.Trees.{entries_in, leads, entry_at, IsRoot, root_tree}
use Rattle.nodes.proofs.Entries.{some_place, place_is}
use Rattle.nodes.proofs.Reaching.{held_leads}
use Rattle.nodes.proofs.RootMaps.{map_law}
use Rattle.directory.specs.Counts.{path_nodes}
use Rattle.directory.specs.Trails.{IsTrail}
use Rattle.directory.specs.declared.lookups.Found.{Found}
use Rattle.directory.specs.declared.lookups.Found.TheVariants as found
use Rattle.directory.specs.Lookups.{◌>>=◌, look_up, found_in, found_of, below_in, directory_at, is_path_fault, IsLookupFault}
use Rattle.directory.proofs.Directories.{place_named}
use Rattle.directory.proofs.LookupLaws.{found_is, found_items, found_leads_file, rooted_leads}
use Rattle.working_state.specs.Moments.{Moment, machine_at, storage_at, IsMountedAt, nodes_at, capacity_at, version_tree}
use Rattle.working_state.specs.Changing.{IsPathOf}
use Rattle.working_state.specs.Leaves.{is_still}
use Rattle.working_state.specs.Looking.{only_looks}
use Rattle.working_state.specs.Seen.{Seen}
use Rattle.working_state.specs.Steps.{is_light}
use Rattle.working_state.specs.Moments.{IsAnswered}
use Rattle.working_state.specs.Worked.{IsWorked, IsLooked, WorkCause, ReadCause}
use Rattle.working_state.proofs.ChangedCalls.{IsChangeBy}
use Rattle.working_state.proofs.ChangeSteps.{later_tree, way_some}
use Rattle.working_state.proofs.MovedEntries.{read_cause}
use Rattle.working_state.proofs.Needs.{put_way}
use Rattle.working_state.proofs.OpenCalls.{working_is}
use Rattle.working_state.proofs.PathCalls.{OnlyReads, working_stands, read_done}
use Rattle.working_state.proofs.Standing.{same_working, same_capacity, worked_machine, worked_mounted, worked_pages, worked_reaches, looked_worked, looked_leaves}

-- What a path leads to, looked up.

-- a path that leads to a file is looked up as that
leads_looked : (f : Blocks) (root : ℕ) (path : Path) (head size : ℕ) → leads f (place.Dir root) path ≡ Some (place.File head size) → look_up f root path ≡ Ok (found.File head size)
leads_looked f root [] head size e = absurd cc
leads_looked f root (n ∷ []) head size e = last (entries_in f root) refl e
  where
    at : (r : Option Place) (full : Bool) → option_and_then some_place r ≡ Some (place.File head size) → (let x : Result Found Fault = Ok (found_of r full) in x) ≡ Ok (found.File head size)
    at None full e = absurd cc
    at (Some (place.Dir block)) full e = absurd cc
    at (Some (place.File h n)) full e = ap (λ (p : Place). let x : Result Found Fault = Ok (found_of (Some p) full) in x) (place_is (place.File h n) (place.File head size) e)

    last : (o : Option (List Item)) → entries_in f root ≡ o → option_and_then some_place (named_place (unwrap_or o []) n) ≡ Some (place.File head size) → found_in f n root ≡ Ok (found.File head size)
    last None is e = absurd cc
    last (Some items) is e = found_items f root n items is ∙ at (named_place items n) (nat_le MAX_ENTRIES (length items)) e
leads_looked f root (n ∷ m ∷ path) head size e = way (λ below. leads_looked f below (m ∷ path) head size) (entries_in f root) refl e
  where
    on : ((below : ℕ) → leads f (place.Dir below) (m ∷ path) ≡ Some (place.File head size) → look_up f below (m ∷ path) ≡ Ok (found.File head size)) → (r : Option Place) → option_and_then (λ next. leads f next (m ∷ path)) r ≡ Some (place.File head size) → (directory_at r >>= λ below. look_up f below (m ∷ path)) ≡ Ok (found.File head size)
    on again None e = absurd cc
    on again (Some (place.Dir below)) e = again below e
    on again (Some (place.File h n)) e = absurd cc

    way : ((below : ℕ) → leads f (place.Dir below) (m ∷ path) ≡ Some (place.File head size) → look_up f below (m ∷ path) ≡ Ok (found.File head size)) → (o : Option (List Item)) → entries_in f root ≡ o → option_and_then (λ next. leads f next (m ∷ path)) (named_place (unwrap_or o []) n) ≡ Some (place.File head size) → (below_in f n root >>= λ below. look_up f below (m ∷ path)) ≡ Ok (found.File head size)
    way again None is e = absurd cc
    way again (Some items) is e = ap (λ (r : Result (Option Place) Fault). r >>= directory_at >>= λ below. look_up f below (m ∷ path)) (place_named f root n items is) ∙ on again (named_place items n) e

-- a file of the tree that calls work on is looked up as one
pub working_file : (a : Moment) (root : ℕ) (path : Path) → IsMountedAt a → working_root a.state.history a.state.group ≡ Some root → IsFile (working_tree (machine_at a)) path
    → (head : ℕ) × (size : ℕ) × (look_up (nodes_at a) root path ≡ Ok (found.File head size))
working_file a root path m is file =
    go (leads (nodes_at a) (place.Dir root) path) refl (ap (λ (t : Contents). t path) (sym (working_is a root m is)) ∙ file.1)
  where
    go : (o : Option Place) → leads (nodes_at a) (place.Dir root) path ≡ o → option_map (entry_at (capacity_at a) (nodes_at a)) o ≡ Some (Entry.File file.0)
        → (head : ℕ) × (size : ℕ) × (look_up (nodes_at a) root path ≡ Ok (found.File head size))
    go None led e = absurd cc
    go (Some (place.Dir block)) led e = absurd cc
    go (Some (place.File head size)) led e = (head, size, leads_looked (nodes_at a) root path head size led)

-- a body is as long as its file
pub long_body : (capacity : ℕ) (f : Blocks) (head size : ℕ) → IsBody capacity f head size → length (body capacity f head size) ≡ size
long_body capacity f head zero is = refl
long_body capacity f head (suc n) is =
    let enough : suc n ≤ length (data_to f (head_index capacity (suc n)) head) = is.1 in
    omega (arith, length-take (suc n) (data_to f (head_index capacity (suc n)) head))

-- the body of a file of the tree that calls work on
pub record IsWorkingBody (a : Moment) (path : Path) (head size : ℕ) : Type 0 where
  pub whole : IsBody (capacity_at a) (nodes_at a) head size
  pub held : IsHeld (nodes_at a) (set.contains a.state.storage.ring.used) (place.File head size)
  pub shown : bytes_of_file (working_tree (machine_at a)) path ≡ body (capacity_at a) (nodes_at a) head size
  pub short : size ≤ 16777216

pub working_body : (a : Moment) (root : ℕ) (path : Path) (head size : ℕ) → IsMountedAt a → working_root a.state.history a.state.group ≡ Some root → look_up (nodes_at a) root path ≡ Ok (found.File head size) → IsWorkingBody a path head size
working_body a root path head size m is led =
    let stands = working_stands a root m is in
    let leads = found_leads_file (nodes_at a) root path head size (rooted_leads (capacity_at a) (nodes_at a) root stands.rooted) led in
    let whole = (stands.rooted path (place.File head size) leads).0 in
    let there : get (working_tree (machine_at a)) path ≡ Some (Entry.File (body (capacity_at a) (nodes_at a) head size)) =
    ap (λ (t : Contents). t path) (working_is a root m is) ∙ (found_is (capacity_at a) (nodes_at a) root path (found.File head size) (rooted_leads (capacity_at a) (nodes_at a) root stands.rooted) led).1 in
    let most = (working-file_tree (machine_at a) m.machine).lengths path (body (capacity_at a) (nodes_at a) head size) there in
    record {
      whole = whole;
      held = held_leads (nodes_at a) (set.contains a.state.storage.ring.used) path (place.Dir root) (place.File head size) leads stands.held;
      shown = ap bytes_of there;
      short = omega (arith, most, long_body (capacity_at a) (nodes_at a) head size whole);
    }

-- the length of the file that a look up finds
pub file_length : (capacity : ℕ) (f : Blocks) (root : ℕ) (path : Path) → IsRoot capacity f root → (x : Found) (head size : ℕ) → look_up f root path ≡ Ok x → x ≡ found.File head size → length (bytes_of_file (root_tree capacity f root) path) ≡ size
file_length capacity f root path is x head size led called =
    let there : look_up f root path ≡ Ok (found.File head size) = subst (λ z. look_up f root path ≡ Ok z) called led in
    let whole = (is path (place.File head size) (found_leads_file f root path head size (rooted_leads capacity f root is) there)).0 in
    ap (λ (o : Option Entry). length (bytes_of o)) (ap (λ (t : Contents). t path) (map_law capacity f root is).same ∙ (found_is capacity f root path (found.File head size) (rooted_leads capacity f root is) there).1)
    ∙ long_body capacity f head size whole

-- Refusals.

-- a look up of a file that is there is refused only for what reads are refused for
pub file_cause : (f : Blocks) (root : ℕ) (path : Path) (old new : Seen) (fault : Fault) → (head : ℕ) × (size : ℕ) × (look_up f root path ≡ Ok (found.File head size))
    → (is_path_fault fault ≡ true → look_up f root path ≡ Err fault) → (is_path_fault fault ≡ false → WorkCause old fault new) → IsLookupFault fault → ReadCause old fault new
file_cause f root path old new fault there refused why lookup = by (is_path_fault fault) refl
  where
    not_both : look_up f root path ≡ Err fault → ⊥
    not_both e = let is = sym there.2 ∙ e in cc

    by : (b : Bool) → is_path_fault fault ≡ b → ReadCause old fault new
    by true told = absurd (not_both (refused told))
    by false other = read_cause old new fault other lookup (why other)

-- a call that changes the bytes of the file at a path
pub record IsFileChange (m : Machine) (call : Call) (path : Path) (bytes : List ℕ) : Type 0 where
  pub fine : refusal m call ≡ None
  pub after : tree_after m call ≡ Some (file_put (working_tree m) path bytes)
  pub files : descriptors_after m call ≡ m.descriptors
  pub heavy : is_light call ≡ false
  pub moves : is_still call || only_looks call ≡ false
  pub paths : has_paths call ≡ true
  pub more : (capacity : ℕ) → 0 < change_need capacity m call

-- the root that calls work on, after work, and the file in it
later_root : (a c : Moment) (root : ℕ) → working_root a.state.history a.state.group ≡ Some root → IsWorked a c → working_root c.state.history c.state.group ≡ Some root
later_root a c root is w = same_working a.state c.state w.rest ∙ is

pub later_body : (a c : Moment) (root : ℕ) (path : Path) (head size : ℕ) → IsMountedAt a → working_root a.state.history a.state.group ≡ Some root → IsWorked a c → look_up (nodes_at c) root path ≡ Ok (found.File head size)
    → IsWorkingBody c path head size
later_body a c root path head size m is w led = working_body c root path head size (worked_mounted a c m w) (later_root a c root is w) led

-- a call that changes nothing
pub same_answer : (a b : Moment) (call : Call) (reply : Reply) → IsMountedAt a → IsLooked a b → OnlyReads (machine_at a) call → refusal (machine_at a) call ≡ None
    → ((space : Space) → reply_of space (machine_at a) call ≡ reply) → is_still call || only_looks call ≡ false → IsAnswered a call (Ok reply) b
same_answer a b call reply m l reads fine replies moves =
    let w = looked_worked a b l in
    record {
      mounted = worked_mounted a b m w;
      step = read_done a b call reply m l reads fine replies;
      leaves = looked_leaves a b call l moves;
      is_off = w.rest.is_off;
      pages = worked_pages a b m w;
      reached = worked_reaches a b m w;
      refused = tt;
      regrouped = tt;
    }

pub looked_itself : (a : Moment) → IsLooked a a
looked_itself a = record { untouched = Untouched_itself (storage_at a); fits = still_itself a.device a.state.storage; rest = record { history = refl; group = refl; files = refl; is_off = refl } }

-- the path of an open file

pub open_file : (a : Moment) (descriptor : ℕ) (path : Path) → IsMountedAt a → IsPathOf a.state.files descriptor path → IsFile (working_tree (machine_at a)) path
open_file a descriptor path m has = m.machine.files descriptor (record { path = path; flags = has.0 }) has.1

pub below_root : (a : Moment) (path : Path) → IsMountedAt a → IsFile (working_tree (machine_at a)) path → 0 < length path
below_root a path m file = not-root (working_tree (machine_at a)) path (working-file_tree (machine_at a) m.machine) (λ dir. let both = sym dir ∙ file.1 in cc)

-- Writing.

some_more : (a b : ℕ) → 0 < b → 0 < a + b
some_more a b some = omega arith

pub some_heavy : (descriptor offset : ℕ) (bytes : List ℕ) → (length bytes == 0) ≡ false → is_light (Call.Pwrite descriptor offset bytes) ≡ false
some_heavy descriptor offset [] some = absurd (true≢false some)
some_heavy descriptor offset (b ∷ bytes) some = refl

pub pwrite_change : (m : Machine) (descriptor offset : ℕ) (bytes : List ℕ) (path : Path) → IsPathOf m.descriptors descriptor path → refusal m (Call.Pwrite descriptor offset bytes) ≡ None → (length bytes == 0) ≡ false → 0 < length path
    → IsFileChange m (Call.Pwrite descriptor offset bytes) path (overwritten (bytes_of_file (working_tree m) path) offset bytes)
pwrite_change m descriptor offset bytes path has fine some below = record {
  fine = fine;
  after = ap (λ o. option_map_or (pwrite_tree m offset bytes) o None) has.1
      ∙ ap (λ b. if b then None else Some (file_put (working_tree m) path (overwritten (bytes_of_file (working_tree m) path) offset bytes))) some;
  files = refl;
  heavy = some_heavy descriptor offset bytes some;
  moves = refl;
  paths = refl;
  more = λ capacity.
      subst (λ (o : Option Descriptor). 0 < option_map_or (λ d. pwrite_body capacity m offset bytes d + way_need m (Call.Pwrite descriptor offset bytes) d.path) o 0) (sym has.1)
      (some_more (pwrite_need capacity (length (bytes_of_file (working_tree m) path)) offset (length bytes)) (way_need m (Call.Pwrite descriptor offset bytes) path) (way_some m (Call.Pwrite descriptor offset bytes) path below));
}

pub some_length : (n : ℕ) → (n == 0) ≡ false → 0 < n
some_length zero some = absurd (true≢false some)
some_length (suc n) some = omega arith

-- no bytes make no version
pub pwrite_nothing : (m : Machine) (descriptor offset : ℕ) (bytes : List ℕ) → length bytes ≡ 0 → OnlyReads m (Call.Pwrite descriptor offset bytes)
pwrite_nothing m descriptor offset (b ∷ bytes) none = absurd (omega arith)
pwrite_nothing m descriptor offset [] none = record { stays = stays; no_version = no_tree; no_end = ap (option_and_then (λ t. if is_some m.group then None else Some t)) no_tree; no_record = refl }
  where
    go : (o : Option Descriptor) → option_map_or (pwrite_tree m offset []) o None ≡ None
    go None = refl
    go (Some d) = refl

    no_tree : tree_after m (Call.Pwrite descriptor offset []) ≡ None
    no_tree = go (descriptor_at m.descriptors descriptor)

    stays : machine_of m (Call.Pwrite descriptor offset []) None ≡ m
    stays i = machine_with (option_map_or (changed m.history) (option_and_then (λ t. if is_some m.group then None else Some t) (no_tree i)) m.history) (option_map_or (group_with m.group) (no_tree i) m.group) m.descriptors

-- Resizing.

pub ftruncate_change : (m : Machine) (descriptor n : ℕ) (path : Path) → IsPathOf m.descriptors descriptor path → refusal m (Call.Ftruncate descriptor n) ≡ None → (length (bytes_of_file (working_tree m) path) == n) ≡ false → 0 < length path
    → IsFileChange m (Call.Ftruncate descriptor n) path (resized (bytes_of_file (working_tree m) path) n)
ftruncate_change m descriptor n path has fine other below = record {
  fine = fine;
  after = ap (λ o. option_map_or (ftruncate_tree m n) o None) has.1
      ∙ ap (λ b. if b then None else Some (file_put (working_tree m) path (resized (bytes_of_file (working_tree m) path) n))) other;
  files = refl;
  heavy = refl;
  moves = refl;
  paths = refl;
  more = λ capacity.
      subst (λ (o : Option Descriptor). 0 < option_map_or (λ d. ftruncate_body capacity m n d + way_need m (Call.Ftruncate descriptor n) d.path) o 0) (sym has.1)
      (some_more (ftruncate_need capacity (length (bytes_of_file (working_tree m) path)) n) (way_need m (Call.Ftruncate descriptor n) path) (way_some m (Call.Ftruncate descriptor n) path below));
}

-- the same length makes no version
pub ftruncate_nothing : (m : Machine) (descriptor n : ℕ) (path : Path) → IsPathOf m.descriptors descriptor path → (length (bytes_of_file (working_tree m) path) == n) ≡ true → OnlyReads m (Call.Ftruncate descriptor n)
ftruncate_nothing m descriptor n path has same = record { stays = stays; no_version = no_tree; no_end = ap (option_and_then (λ t. if is_some m.group then None else Some t)) no_tree; no_record = refl }
  where
    no_tree : tree_after m (Call.Ftruncate descriptor n) ≡ None
    no_tree =
        ap (λ o. option_map_or (ftruncate_tree m n) o None) has.1
        ∙ ap (λ b. if b then None else Some (file_put (working_tree m) path (resized (bytes_of_file (working_tree m) path) n))) same

    stays : machine_of m (Call.Ftruncate descriptor n) None ≡ m
    stays i = machine_with (option_map_or (changed m.history) (option_and_then (λ t. if is_some m.group then None else Some t) (no_tree i)) m.history) (option_map_or (group_with m.group) (no_tree i) m.group) m.descriptors

-- the length of the file whose body was found
pub working_length : (a b : Moment) (path : Path) (head size : ℕ) → IsMountedAt a → IsWorked a b → IsWorkingBody b path head size → length (bytes_of_file (working_tree (machine_at a)) path) ≡ size
working_length a b path head size m w there =
    ap (λ (x : Machine). length (bytes_of_file (working_tree x) path)) (sym (worked_machine a b m w)) ∙ ap length there.shown ∙ long_body (capacity_at b) (nodes_at b) head size there.whole

pub same_length : (a b : Moment) (path : Path) (head size wide n : ℕ) → IsMountedAt a → IsWorked a b → IsWorkingBody b path head size → wide ≡ size → wide ≡ n
    → (length (bytes_of_file (working_tree (machine_at a)) path) == n) ≡ true
same_length a b path head size wide n m w there is same = eq-eqb (length (bytes_of_file (working_tree (machine_at a)) path)) n (working_length a b path head size m w there ∙ sym is ∙ same)

pub other_length : (a b : Moment) (path : Path) (head size wide n : ℕ) → IsMountedAt a → IsWorked a b → IsWorkingBody b path head size → wide ≡ size → (wide ≡ n → ⊥)
    → (length (bytes_of_file (working_tree (machine_at a)) path) == n) ≡ false
other_length a b path head size wide n m w there is other =
    ne_eqb (length (bytes_of_file (working_tree (machine_at a)) path)) n (λ same. other (is ∙ sym (working_length a b path head size m w there) ∙ same))

-- the change of a file's bytes, as the flash shows it after a look
pub file_change : (a b : Moment) (call : Call) (path : Path) (f : List ℕ → List ℕ) (reply : Reply) → IsMountedAt a → IsLooked a b
    → IsFileChange (machine_at a) call path (f (bytes_of_file (working_tree (machine_at a)) path)) → ((space : Space) → reply_of space (machine_at a) call ≡ reply)
    → IsChangeBy a call (λ root. put (version_tree b root) path (Entry.File (f (bytes_of_file (version_tree b root) path)))) reply
file_change a b call path f reply m l change replies = record {
  fine = change.fine;
  after = λ root is. change.after ∙ ap (λ (x : Tree). Some (put x path (Entry.File (f (bytes_of_file x path))))) (later_tree a b root m is l);
  heavy = change.heavy;
  moves = change.moves;
  paths = change.paths;
  more = change.more;
  replies = replies;
}

pub file_lawful : (a : Moment) (path : Path) → IsMountedAt a → IsFile (working_tree (machine_at a)) path → is_path path ≡ true
file_lawful a path m file = (working-file_tree (machine_at a) m.machine).paths path (ap is_some file.1)

-- How many nodes a change of a file's bytes needs, by the body that was found.

same_capacity_at : (a b : Moment) → IsWorked a b → capacity_at a ≡ capacity_at b
same_capacity_at a b w = sym (same_capacity (storage_at a) (storage_at b) w.evolved)

pub pwrite_few : (a b : Moment) (root descriptor offset : ℕ) (bytes : List ℕ) (path : Path) (trail : List ℕ) (head size : ℕ) (x : ℕ → Entry) (reply : Reply) → IsMountedAt a → working_root a.state.history a.state.group ≡ Some root → IsLooked a b
    → IsPathOf a.state.files descriptor path → IsWorkingBody b path head size → IsChangeBy a (Call.Pwrite descriptor offset bytes) (λ r. put (version_tree b r) path (x r)) reply → IsTrail (nodes_at b) root path trail
    → pwrite_need (capacity_at b) size offset (length bytes) + path_nodes (nodes_at b) trail path true 0 ≤ change_need (capacity_at a) (machine_at a) (Call.Pwrite descriptor offset bytes)
pwrite_few a b root descriptor offset bytes path trail head size x reply m is l has there by way =
    let w = looked_worked a b l in
    let call = Call.Pwrite descriptor offset bytes in
    let long = working_length a b path head size m w there in
    let same = same_capacity_at a b w in
    let all : change_need (capacity_at a) (machine_at a) (Call.Pwrite descriptor offset bytes) ≡ pwrite_need (capacity_at b) size offset (length bytes) + way_need (machine_at a) (Call.Pwrite descriptor offset bytes) path =
    ap (λ (o : Option Descriptor). option_map_or (λ y. pwrite_body (capacity_at a) (machine_at a) offset bytes y + way_need (machine_at a) (Call.Pwrite descriptor offset bytes) y.path) o 0) has.1
    ∙ (λ i. pwrite_need (same i) (long i) offset (length bytes) + way_need (machine_at a) (Call.Pwrite descriptor offset bytes) path) in
    let few = put_way a b call x reply root path trail m is l by way in
    omega arith

pub ftruncate_few : (a b : Moment) (root descriptor n : ℕ) (path : Path) (trail : List ℕ) (head size : ℕ) (x : ℕ → Entry) (reply : Reply) → IsMountedAt a → working_root a.state.history a.state.group ≡ Some root → IsLooked a b
    → IsPathOf a.state.files descriptor path → IsWorkingBody b path head size → IsChangeBy a (Call.Ftruncate descriptor n) (λ r. put (version_tree b r) path (x r)) reply → IsTrail (nodes_at b) root path trail
    → ftruncate_need (capacity_at b) size n + path_nodes (nodes_at b) trail path true 0 ≤ change_need (capacity_at a) (machine_at a) (Call.Ftruncate descriptor n)
ftruncate_few a b root descriptor n path trail head size x reply m is l has there by way =
    let w = looked_worked a b l in
    let call = Call.Ftruncate descriptor n in
    let long = working_length a b path head size m w there in
    let same = same_capacity_at a b w in
    let all : change_need (capacity_at a) (machine_at a) (Call.Ftruncate descriptor n) ≡ ftruncate_need (capacity_at b) size n + way_need (machine_at a) (Call.Ftruncate descriptor n) path =
    ap (λ (o : Option Descriptor). option_map_or (λ y. ftruncate_body (capacity_at a) (machine_at a) n y + way_need (machine_at a) (Call.Ftruncate descriptor n) y.path) o 0) has.1
    ∙ (λ i. ftruncate_need (same i) (long i) n + way_need (machine_at a) (Call.Ftruncate descriptor n) path) in
    let few = put_way a b call x reply root path trail m is l by way in
    omega arith

-- Many files written in one directory: what refuses them, what they change, and how many nodes they need.
use Rattle.std.proofs.Common.{◌≡◌, ◌≢◌, ℕ, ◌+◌, ◌<◌, ◌≤◌, Bool, true, false, cond, not, ◌&&◌, Option, Some, None, Result, Ok, Err, List, [], ◌∷◌, ◌++◌, length, take, get_or, refl, sym, ap, subst, ◌∙◌, inl, inr, arith}
use Rattle.std.proofs.lemmas.Bool.{cases_Bool, and_parts, and_from, leb-false, lt-leb, lt-ltb, eqb-false}
use Rattle.std.proofs.lemmas.List.{length-map, take_more}
use Rattle.std.proofs.lemmas.List.Elements.{All-weaker}
use Rattle.std.specs.Prelude.{All, is_some, is_none, nat_lt, nat_le, map, count_by, ◌==◌, unwrap_or, IfErr, if◌then◌else◌}
use Rattle.std.specs.Option.{option_or, option_map, option_map_or, option_and_then}
use Rattle.std.specs.List.{list_all, list_any}
use Rattle.std.specs.FinMap.{get}
use Rattle.std.specs.FinSet as set
use Rattle.fs_types.specs.Names.{Name, Path, is_name, is_path}
use Rattle.fs_types.specs.NamedFiles.{path_in, ascend_from, files_refusal}
use Rattle.fs_types.specs.declared.call.Call.{Call}
use Rattle.fs_types.specs.declared.call.Reply.{Reply}
use Rattle.fs_types.specs.declared.fault.Fault.{Fault}
use Rattle.fs_types.specs.declared.fault.Fault.TheVariants.{NoEntry, NotDirectory, Invalid, NameTooLong, DirectoryFull, Damaged}
use Rattle.fs_types.specs.declared.named_file.NamedFile.{NamedFile}
use Rattle.plain_trees.specs.Contents.{Contents, Entry, lookup_refusal}
use Rattle.plain_trees.specs.Files.{file_put, files_put, bodies_need}
use Rattle.plain_trees.specs.Trees.{Tree, entry_count, nodes_for}
use Rattle.plain_trees.proofs.Beneath.{None≢Some}
use Rattle.plain_trees.proofs.Lookups.{lookup_law, parent-push}
use Rattle.plain_trees.proofs.Needs.{nodes_for-some}
use Rattle.history_machine.specs.Descriptors.{is_open}
use Rattle.history_machine.specs.History.{working_root, changed, group_with}
use Rattle.history_machine.specs.Machine.{Machine, working_tree, size_refusal, write_place_refusal, each_refusal, refusal, changed_files, tree_after, change_need, machine_of, machine_with}
use Rattle.history_machine.specs.NextFiles.{next_entry_refusal, next_refusal, next_count, next_refusals, next_counts}
use Rattle.history_machine.proofs.NextFiles.{same-itself, next_is, counted_is, IsWritable, all-writable, counts-room}
use Rattle.history_machine.proofs.Accepted.{write_files-accepted, put-changed}
use Rattle.history_machine.proofs.Kept.{working-file_tree}
use Rattle.node_format.specs.Items.{Item, named_place, is_dir_place}
use Rattle.node_format.specs.declared.place.Place.{Place}
use Rattle.node_format.specs.declared.place.Place.TheVariants as places
use Rattle.node_store.specs.Faults.{IsReadFault}
use Rattle.nodes.specs.Bodies.{Blocks}
use Rattle.nodes.specs.Trees.{child, leads, entry_at, entries_in, items_in}
use Rattle.nodes.proofs.Reaching.{held_leads}
use Rattle.nodes.proofs.RootMaps.{leads-append, map_law}
use Rattle.directory.specs.declared.lookups.Found.{Found}
use Rattle.directory.specs.declared.lookups.Found.TheVariants as found
use Rattle.directory.specs.Lookups.{directory_at, below_in, found_of, found_in, found_entry, look_up, is_path_fault, IsLookupFault, ◌>>=◌}
use Rattle.directory.specs.Seeking.{place_in, chain_items}
use Rattle.directory.specs.Trails.{IsTrail}
use Rattle.directory.proofs.Directories.{place_named}
use Rattle.directory.proofs.Held.{same_held_items}
use Rattle.directory.proofs.LookupLaws.{found_leads, missing_parent, refused_is, rooted_leads}
use Rattle.directory.proofs.TrailEdits.{look_later, trail_later}
use Rattle.tree_edits.specs.Edits.{chosen, count_new, files_nodes, TakesFile, AreWritable, IsNoDirectory}
use Rattle.tree_edits.proofs.NeedLaws.{taken_few}
use Rattle.working_state.specs.ManyFiles.{no_directory, next_place_refusal, count_with, IsRefusedBy}
use Rattle.working_state.specs.Moments.{Moment, machine_at, seen_at, IsMountedAt, IsRefused, nodes_at, capacity_at, version_tree, storage_at}
use Rattle.working_state.specs.Seen.{Seen}
use Rattle.working_state.specs.Steps.{is_light, begins_work}
use Rattle.working_state.specs.Worked.{IsLooked, WorkCause, ReadCause}
use Rattle.working_state.proofs.ChangeSteps.{later_tree}
use Rattle.working_state.proofs.ChangedCalls.{IsChangeBy}
use Rattle.working_state.proofs.MovedEntries.{read_cause, read_lookup, not_path, read_later, read_may}
use Rattle.working_state.proofs.ChosenFiles.{changes_in, chosen-filter, any-filter, missing-changed}
use Rattle.working_state.proofs.OpenCalls.{working_is}
use Rattle.working_state.proofs.PathCalls.{OnlyReads, working_tree_is, working_stands}
use Rattle.working_state.proofs.Standing.{keeps, same_capacity, looked_worked, worked_machine, worked_later}
use Rattle.working_state.proofs.WholeFiles.{there}
use Rattle.working_state.proofs.Needs.{way_at, looked_rooted}

-- names that are not refused ascend
ascends : (d : Path) (files : List NamedFile) → files_refusal d files ≡ None → ascend_from None files ≡ true
ascends d files fine = on (ascend_from None files) fine
  where
    on : (b : Bool) → cond (not b) (Some Invalid) (cond (nat_lt 0 (length files) && nat_le 16 (length d)) (Some NameTooLong) None) ≡ None → b ≡ true
    on true e = refl
    on false e = absurd (None≢Some (sym e))

-- ---- a name in the directory at a path

-- the directory that was found, for a name after it
abbrev pub directory_found : Result Found Fault → Result ℕ Fault
directory_found (Err fault) = Err fault
directory_found (Ok (found.Missing is_full)) = Err NoEntry
directory_found (Ok (found.File head size)) = Err NotDirectory
directory_found (Ok (found.Dir block)) = Ok block

pub look_in : (f : Blocks) (root : ℕ) (d : Path) (n : Name) → look_up f root (d ++ n ∷ []) ≡ (directory_found (look_up f root d) >>= found_in f n)
look_in f root [] n = refl
look_in f root (m ∷ []) n = on (place_in f m root)
  where
    on : (r : Result (Option Place) Fault) → ((r >>= directory_at) >>= (λ below. found_in f n below)) ≡ (directory_found (r >>= (λ place. Ok (found_of place (nat_le 1024 (length (chain_items f root)))))) >>= found_in f n)
    on (Err fault) = refl
    on (Ok None) = refl
    on (Ok (Some (places.File head size))) = refl
    on (Ok (Some (places.Dir block))) = refl
look_in f root (m ∷ k ∷ d) n = on (below_in f m root) (λ block. look_in f block (k ∷ d) n)
  where
    on : (r : Result ℕ Fault) → ((block : ℕ) → look_up f block (k ∷ d ++ n ∷ []) ≡ (directory_found (look_up f block (k ∷ d)) >>= found_in f n))
        → (r >>= (λ block. look_up f block (k ∷ d ++ n ∷ []))) ≡ (directory_found (r >>= (λ block. look_up f block (k ∷ d))) >>= found_in f n)
    on (Err fault) again = refl
    on (Ok block) again = again block

-- where the directory was found, and what the name leads to
pub look_found : (f : Blocks) (root block : ℕ) (d : Path) (n : Name) (x : Found) → look_up f root d ≡ Ok (found.Dir block) → found_in f n block ≡ Ok x → look_up f root (d ++ n ∷ []) ≡ Ok x
look_found f root block d n x led is = look_in f root d n ∙ ap (λ (r : Result Found Fault). directory_found r >>= found_in f n) led ∙ is

-- ---- the directory is none

-- each path in it is refused so
pub target_refuses : (a : Moment) (root : ℕ) (d : Path) (x : Found) (fault : Fault) → IsMountedAt a → working_root a.state.history a.state.group ≡ Some root → look_up (nodes_at a) root d ≡ Ok x → no_directory x ≡ Some fault → (file : NamedFile)
    → lookup_refusal (get (working_tree (machine_at a))) (path_in d file) ≡ Some fault
target_refuses a root d x fault m is led none file =
    ap (λ (t : Contents). lookup_refusal t (path_in d file)) (working_is a root m is)
    ∙ refused_is (capacity_at a) (nodes_at a) root (path_in d file) fault (working_stands a root m is).rooted
    (look_in (nodes_at a) root d file.name ∙ ap (λ (r : Result Found Fault). directory_found r >>= found_in (nodes_at a) file.name) led ∙ on x none)
  where
    on : (y : Found) → no_directory y ≡ Some fault → (directory_found (Ok y) >>= found_in (nodes_at a) file.name) ≡ Err fault
    on (found.Missing full) e = ap (λ (o : Option Fault). err_of o) e
      where
        err_of : Option Fault → Result Found Fault
        err_of None = Err NoEntry
        err_of (Some y) = Err y
    on (found.File head size) e = ap (λ (o : Option Fault). err_of o) e
      where
        err_of : Option Fault → Result Found Fault
        err_of None = Err NotDirectory
        err_of (Some y) = Err y
    on (found.Dir block) e = absurd cc

-- a look up of it that was refused
pub target_told : (a : Moment) (root : ℕ) (d : Path) (fault : Fault) → IsMountedAt a → working_root a.state.history a.state.group ≡ Some root → look_up (nodes_at a) root d ≡ Err fault → (file : NamedFile)
    → lookup_refusal (get (working_tree (machine_at a))) (path_in d file) ≡ Some fault
target_told a root d fault m is led file =
    ap (λ (t : Contents). lookup_refusal t (path_in d file)) (working_is a root m is)
    ∙ refused_is (capacity_at a) (nodes_at a) root (path_in d file) fault (working_stands a root m is).rooted
    (look_in (nodes_at a) root d file.name ∙ ap (λ (r : Result Found Fault). directory_found r >>= found_in (nodes_at a) file.name) led)

pub target_fault : (a b : Moment) (root : ℕ) (d : Path) (fault : Fault) → IsMountedAt a → working_root a.state.history a.state.group ≡ Some root
    → (is_path_fault fault ≡ true → look_up (nodes_at a) root d ≡ Err fault) → (is_path_fault fault ≡ false → WorkCause (seen_at a) fault (seen_at b)) → IsLookupFault fault
    → (file : NamedFile) → IsRefusedBy (lookup_refusal (get (working_tree (machine_at a))) (path_in d file)) a fault b
target_fault a b root d fault m is refused why lookup file = elim (cases_Bool (is_path_fault fault)) [
  | inl told ↦ inl (target_told a root d fault m is (refused told) file)
  | inr other ↦ inr (read_cause (seen_at a) (seen_at b) fault other lookup (why other))
]

-- ---- the directory

-- it begins in its block
pub begins : (b : Moment) (root : ℕ) (d : Path) (block : ℕ) → IsMountedAt b → working_root b.state.history b.state.group ≡ Some root → look_up (nodes_at b) root d ≡ Ok (found.Dir block) → (items : List Item) × (entries_in (nodes_at b) block ≡ Some items)
begins b root d block m is led =
    let rooted = (working_stands b root m is).rooted in
    (rooted d (places.Dir block) (found_leads (nodes_at b) root d block (rooted_leads (capacity_at b) (nodes_at b) root rooted) led)).0

-- so its nodes are not damaged
pub not_none : (b : Moment) (root : ℕ) (d : Path) (block : ℕ) → IsMountedAt b → working_root b.state.history b.state.group ≡ Some root → look_up (nodes_at b) root d ≡ Ok (found.Dir block) → entries_in (nodes_at b) block ≡ None → ⊥
not_none b root d block m is led none = None≢Some (sym none ∙ (begins b root d block m is led).1)

pub not_damaged : (b : Moment) (root : ℕ) (d : Path) (block : ℕ) (n : Name) → IsMountedAt b → working_root b.state.history b.state.group ≡ Some root → look_up (nodes_at b) root d ≡ Ok (found.Dir block) → place_in (nodes_at b) n block ≡ Err Damaged → ⊥
not_damaged b root d block n m is led damaged =
    let whole = begins b root d block m is led in
    let told = place_named (nodes_at b) block n whole.0 whole.1 in
    let wrong : (let r : Result (Option Place) Fault = Err Damaged in r) ≡ Ok (named_place whole.0 n) = sym damaged ∙ told in
    absurd cc

-- a read of it was refused
pub reads_refused : (old new : Seen) (fault : Fault) → (fault ≡ Damaged → ⊥) → (is_path_fault fault ≡ false → WorkCause old fault new) → IsReadFault fault → ReadCause old fault new
reads_refused old new fault whole why reads =
    let other = not_path fault reads whole in
    read_cause old new fault other (read_lookup fault reads) (why other)

-- it stays through a look
pub later_target : (b c : Moment) (root : ℕ) (d : Path) (block : ℕ) → IsMountedAt b → working_root b.state.history b.state.group ≡ Some root → IsLooked b c → look_up (nodes_at b) root d ≡ Ok (found.Dir block)
    → (look_up (nodes_at c) root d ≡ Ok (found.Dir block)) × (items_in (nodes_at c) block ≡ items_in (nodes_at b) block)
later_target b c root d block m is l led =
    let stands = working_stands b root m is in
    let stay = keeps (storage_at b) (storage_at c) m.lawful (looked_worked b c l).evolved in
    let leads_to = found_leads (nodes_at b) root d block (rooted_leads (capacity_at b) (nodes_at b) root stands.rooted) led in (
      look_later (nodes_at b) (nodes_at c) (set.contains b.state.storage.ring.used) (set.contains c.state.storage.ring.used) stay d root stands.held ∙ led,
      same_held_items (nodes_at b) (nodes_at c) (set.contains b.state.storage.ring.used) (set.contains c.state.storage.ring.used) stay block
          (held_leads (nodes_at b) (set.contains b.state.storage.ring.used) d (places.Dir root) (places.Dir block) leads_to stands.held),
    )

pub later_way : (b c : Moment) (root : ℕ) (d : Path) (trail : List ℕ) → IsMountedAt b → working_root b.state.history b.state.group ≡ Some root → IsLooked b c → IsTrail (nodes_at b) root d trail → IsTrail (nodes_at c) root d trail
later_way b c root d trail m is l way =
    let stands = working_stands b root m is in
    let stay = keeps (storage_at b) (storage_at c) m.lawful (looked_worked b c l).evolved in
    trail_later (nodes_at b) (nodes_at c) (set.contains b.state.storage.ring.used) (set.contains c.state.storage.ring.used) stay d root trail stands.held way

-- ---- a file of it

module _ (a : Moment) (root : ℕ) (d : Path) (block : ℕ) (m : IsMountedAt a) (is : working_root a.state.history a.state.group ≡ Some root) (led : look_up (nodes_at a) root d ≡ Ok (found.Dir block)) where
  leads_here : leads (nodes_at a) (places.Dir root) d ≡ Some (places.Dir block)
  leads_here = found_leads (nodes_at a) root d block (rooted_leads (capacity_at a) (nodes_at a) root (working_stands a root m is).rooted) led

  module _ (file : NamedFile) (x : Found) (found_here : found_in (nodes_at a) file.name block ≡ Ok x) where
    pub led_file : look_up (nodes_at a) root (path_in d file) ≡ Ok x
    led_file = look_found (nodes_at a) root block d file.name x led found_here

    in_tree : get (working_tree (machine_at a)) (path_in d file) ≡ found_entry (capacity_at a) (nodes_at a) x
    in_tree = there a root (path_in d file) x m is led_file

    -- what refuses it
    pub next_at : (count : ℕ) → next_refusal (working_tree (machine_at a)) a.state.files d count file ≡ option_or (next_place_refusal (is_open a.state.files (path_in d file)) count x) (size_refusal file.bytes)
    next_at count =
        ap (λ o. option_or (next_entry_refusal a.state.files (path_in d file) count o) (size_refusal file.bytes)) in_tree ∙ ap (λ o. option_or o (size_refusal file.bytes)) (on x)
      where
        on : (y : Found) → next_entry_refusal a.state.files (path_in d file) count (found_entry (capacity_at a) (nodes_at a) y) ≡ next_place_refusal (is_open a.state.files (path_in d file)) count y
        on (found.Missing full) = refl
        on (found.File head size) = refl
        on (found.Dir below) = refl

    -- how many entries there are with it
    pub next_with : (count : ℕ) → next_count (working_tree (machine_at a)) d count file ≡ count_with count x
    next_with count = ap (λ (o : Option Entry). count + cond (is_none o) 1 0) in_tree ∙ on x
      where
        on : (y : Found) → count + cond (is_none (found_entry (capacity_at a) (nodes_at a) y)) 1 0 ≡ count_with count y
        on (found.Missing full) = refl
        on (found.File head size) = omega arith
        on (found.Dir below) = omega arith

    -- a file may be put in its place
    pub next_takes : (busy : Bool) (count : ℕ) → length (items_in (nodes_at a) block) ≤ count → next_place_refusal busy count x ≡ None → TakesFile x
    next_takes busy count within fits = on x refl fits
      where
        dir_is : (p q : ℕ) → (let o : Option Place = Some (places.Dir p) in o ≡ Some (places.Dir q)) → p ≡ q
        dir_is p q e = cc

        not_full : (b : Bool) → cond b (Some DirectoryFull) None ≡ None → b ≡ false
        not_full true e = absurd (None≢Some (sym e))
        not_full false e = refl

        on : (y : Found) → x ≡ y → next_place_refusal busy count y ≡ None → TakesFile y
        on (found.Missing full) called fits =
            let parent = missing_parent (nodes_at a) root (path_in d file) full (rooted_leads (capacity_at a) (nodes_at a) root (working_stands a root m is).rooted) (led_file ∙ ap (λ (z : Found). (let r : Result Found Fault = Ok z in r)) called) in
            let same : parent.0 ≡ block = dir_is parent.0 block (sym parent.1 ∙ ap (leads (nodes_at a) (places.Dir root)) (parent-push d file.name) ∙ leads_here) in
            let less : count < 1024 = leb-false 1024 count (not_full (nat_le 1024 count) fits) in
            parent.2 ∙ ap (λ (b : ℕ). nat_le 1024 (length (items_in (nodes_at a) b))) same ∙ lt-leb 1024 (length (items_in (nodes_at a) block)) (omega arith)
        on (found.File head size) called fits = tt
        on (found.Dir below) called fits = absurd (None≢Some (sym fits))

  -- what its name leads to, in the tree
  tree_child : (file : NamedFile) → get (working_tree (machine_at a)) (path_in d file) ≡ option_map (entry_at (capacity_at a) (nodes_at a)) (child (nodes_at a) (places.Dir block) file.name)
  tree_child file =
      ap (λ (c : Contents). c (path_in d file)) (working_is a root m is)
      ∙ ap (option_map (entry_at (capacity_at a) (nodes_at a))) (leads-append (nodes_at a) (places.Dir root) d (file.name ∷ []) ∙ ap (option_and_then (λ next. leads (nodes_at a) next (file.name ∷ []))) leads_here ∙ and_then_same (child (nodes_at a) (places.Dir block) file.name))
    where
      and_then_same : (o : Option Place) → option_and_then (λ next. Some next) o ≡ o
      and_then_same None = refl
      and_then_same (Some place) = refl

  tree_counted : entry_count (working_tree (machine_at a)) d ≡ length (items_in (nodes_at a) block)
  tree_counted =
      ap (λ (x : Tree). entry_count x d) (working_tree_is a root is)
      ∙ ap length ((map_law (capacity_at a) (nodes_at a) root (working_stands a root m is).rooted).lists d block leads_here)
      ∙ length-map (items_in (nodes_at a) block) (λ (item : Item). (item.name, is_dir_place item.place))

  -- ---- the call

  pub writes_is : (count : ℕ) (files : List NamedFile) → length (items_in (nodes_at a) block) ≡ count → files_refusal d files ≡ None
      → refusal (machine_at a) (Call.WriteFiles d files) ≡ next_refusals (working_tree (machine_at a)) a.state.files d count files
  writes_is count files counted fine =
      ap (λ o. option_or o (each_refusal (working_tree (machine_at a)) a.state.files d files)) fine
      ∙ next_is (working_tree (machine_at a)) a.state.files d files (working_tree (machine_at a)) count None (ascends d files fine) (same-itself (working_tree (machine_at a)) d files) (tree_counted ∙ counted)
      (λ n. (lookup_law.found (working_tree (machine_at a)) d n (working-file_tree (machine_at a) m.machine).shape).1 (there a root d (found.Dir block) m is led))

  -- which files can be written
  pub writes_free : (files : List NamedFile) → All (IsWritable (working_tree (machine_at a)) d) files → All (λ (file : NamedFile). IsNoDirectory (child (nodes_at a) (places.Dir block) file.name)) files
  writes_free files all = All-weaker (IsWritable (working_tree (machine_at a)) d) (λ (file : NamedFile). IsNoDirectory (child (nodes_at a) (places.Dir block) file.name))
      (λ file writable. on (child (nodes_at a) (places.Dir block) file.name) (λ dir. writable.free (tree_child file ∙ dir))) files all
    where
      on : (o : Option Place) → (option_map (entry_at (capacity_at a) (nodes_at a)) o ≡ Some Entry.Dir → ⊥) → IsNoDirectory o
      on None free = tt
      on (Some (places.File head size)) free = tt
      on (Some (places.Dir below)) free = free refl

  -- as many of them are missing
  writes_new : (files : List NamedFile) → count_new (items_in (nodes_at a) block) files ≡ count_by (λ (file : NamedFile). is_none (get (working_tree (machine_at a)) (path_in d file))) files
  writes_new files = ap (λ (f : NamedFile → Bool). count_by f files) (λ i file. sym (ap is_none (tree_child file) ∙ same (child (nodes_at a) (places.Dir block) file.name)) i)
    where
      same : (o : Option Place) → is_none (option_map (entry_at (capacity_at a) (nodes_at a)) o) ≡ is_none o
      same None = refl
      same (Some place) = refl

  -- the directory has so many entries with them
  writes_counted : (count : ℕ) (files : List NamedFile) → length (items_in (nodes_at a) block) ≡ count
      → length (items_in (nodes_at a) block) + count_new (items_in (nodes_at a) block) (changed_files (working_tree (machine_at a)) d files) ≡ next_counts (working_tree (machine_at a)) d count files
  writes_counted count files counted =
      let new = writes_new (changed_files (working_tree (machine_at a)) d files) in
      omega (arith, counted, new, missing-changed (working_tree (machine_at a)) d count files)

  pub writes_room : (count : ℕ) (files : List NamedFile) → length (items_in (nodes_at a) block) ≡ count → next_refusals (working_tree (machine_at a)) a.state.files d count files ≡ None
      → length (items_in (nodes_at a) block) + count_new (items_in (nodes_at a) block) (changed_files (working_tree (machine_at a)) d files) ≤ 1024
  writes_room count files counted fine =
      let few : entry_count (working_tree (machine_at a)) d ≤ 1024 = (working-file_tree (machine_at a) m.machine).entries d in
      let room = counts-room (working_tree (machine_at a)) a.state.files d count files (omega (arith, tree_counted, counted)) fine in
      omega (arith, room, writes_counted count files counted)

  -- the tree after them has as many
  pub writes_after : (files : List NamedFile) → refusal (machine_at a) (Call.WriteFiles d files) ≡ None
      → length (items_in (nodes_at a) block) + count_new (items_in (nodes_at a) block) (changed_files (working_tree (machine_at a)) d files)
      ≡ entry_count (files_put (working_tree (machine_at a)) d (changed_files (working_tree (machine_at a)) d files)) d
  writes_after files fine =
      let accepted = write_files-accepted (machine_at a) d files fine in
      writes_counted (length (items_in (nodes_at a) block)) files refl
      ∙ sym (counted_is (working_tree (machine_at a)) d files (working_tree (machine_at a)) (length (items_in (nodes_at a) block)) None accepted.ascend (same-itself (working_tree (machine_at a)) d files) tree_counted)
      ∙ sym (ap (λ (x : Tree). entry_count x d) (put-changed (working_tree (machine_at a)) d None files accepted.ascend accepted.each))

-- ---- refusals of the call

some-light : (d : Path) (files : List NamedFile) → 0 < length files → is_light (Call.WriteFiles d files) ≡ false
some-light d [] some = absurd (omega arith)
some-light d (file ∷ files) some = refl

pub writes_begin : (m : Machine) (d : Path) (files : List NamedFile) → files_refusal d files ≡ None → 0 < length files → begins_work m (Call.WriteFiles d files) ≡ true
writes_begin m d files fine some = (λ i. not (some-light d files some i) && is_none (fine i))

-- before anything is looked up
pub order_refuses : (a b : Moment) (d : Path) (files : List NamedFile) (fault : Fault) → files_refusal d files ≡ Some fault → IsRefused a (Call.WriteFiles d files) fault b
order_refuses a b d files fault refused = inl (ap (λ o. option_or o (each_refusal (working_tree (machine_at a)) a.state.files d files)) refused)

-- for the directory
pub directory_refuses : (a b : Moment) (d : Path) (files : List NamedFile) (fault : Fault) → files_refusal d files ≡ None → 0 < length files
    → ((file : NamedFile) → IsRefusedBy (lookup_refusal (get (working_tree (machine_at a))) (path_in d file)) a fault b) → IsRefused a (Call.WriteFiles d files) fault b
directory_refuses a b d [] fault fine some refused = absurd (omega arith)
directory_refuses a b d (file ∷ files) fault fine some refused = elim (refused file) [
  | inl told ↦ inl
      (ap (λ o. option_or o (each_refusal (working_tree (machine_at a)) a.state.files d (file ∷ files))) fine
      ∙ ap (λ o. option_or (option_or o (option_or (write_place_refusal (working_tree (machine_at a)) a.state.files (path_in d file) (get (working_tree (machine_at a)) (path_in d file))) (size_refusal file.bytes)))
      (each_refusal (file_put (working_tree (machine_at a)) (path_in d file) file.bytes) a.state.files d files)) told)
  | inr cause ↦ inr (read_may (seen_at a) (seen_at b) (machine_at a) (Call.WriteFiles d (file ∷ files)) fault (writes_begin (machine_at a) d (file ∷ files) fine some) cause)
]

-- for the files
pub files_refuse : (a b : Moment) (d : Path) (files : List NamedFile) (fault : Fault) (refused : Option Fault) → files_refusal d files ≡ None → 0 < length files → refusal (machine_at a) (Call.WriteFiles d files) ≡ refused → IsRefusedBy refused a fault b
    → IsRefused a (Call.WriteFiles d files) fault b
files_refuse a b d files fault refused fine some is why = elim why [
  | inl told ↦ inl (is ∙ told)
  | inr cause ↦ inr (read_may (seen_at a) (seen_at b) (machine_at a) (Call.WriteFiles d files) fault (writes_begin (machine_at a) d files fine some) cause)
]

-- what is said of a later moment is said of this one
pub refused_later : (a b c : Moment) (refused : Option Fault) (fault : Fault) → IsLooked a b → IsRefusedBy refused b fault c → IsRefusedBy refused a fault c
refused_later a b c refused fault l why = elim why [
  | inl told ↦ inl told
  | inr cause ↦ inr (read_later (seen_at a) (seen_at b) (seen_at c) fault (worked_later a b (looked_worked a b l)) cause)
]

-- ---- what it changes

made_by : (m : Machine) (d : Path) (files : List NamedFile) (b : Bool) → length (changed_files (working_tree m) d files) == 0 ≡ b
    → tree_after m (Call.WriteFiles d files) ≡ cond b None (Some (files_put (working_tree m) d (changed_files (working_tree m) d files)))
made_by m d files b is = ap (λ c. cond c None (Some (files_put (working_tree m) d (changed_files (working_tree m) d files)))) is

-- whether any of the files changes
none-changes : (t : Tree) (d : Path) (files : List NamedFile) (changes : List Bool) (b : Bool) → changes ≡ map (changes_in t d) files → list_any (λ change. change) changes ≡ b → length (changed_files t d files) == 0 ≡ not b
none-changes t d files changes b are any =
    let same : not (length (changed_files t d files) == 0) ≡ b = sym (any-filter (changes_in t d) files) ∙ ap (list_any (λ change. change)) (sym are) ∙ any in
    sym (not-not (length (changed_files t d files) == 0)) ∙ ap not same
  where
    not-not : (c : Bool) → not (not c) ≡ c
    not-not true = refl
    not-not false = refl

pub chosen_are : (t : Tree) (d : Path) (files : List NamedFile) (changes : List Bool) → changes ≡ map (changes_in t d) files → chosen files changes ≡ changed_files t d files
chosen_are t d files changes are = ap (chosen files) are ∙ chosen-filter (changes_in t d) files

pub chosen_some : (t : Tree) (d : Path) (files : List NamedFile) (changes : List Bool) → changes ≡ map (changes_in t d) files → list_any (λ change. change) changes ≡ true → 0 < length (chosen files changes)
chosen_some t d files changes are any =
    let other : length (changed_files t d files) ≢ 0 = eqb-false (length (changed_files t d files)) 0 (none-changes t d files changes true are any) in
    omega (arith, ap length (chosen_are t d files changes are))

pub writes_change : (a b : Moment) (d : Path) (files : List NamedFile) (changes : List Bool) → IsMountedAt a → IsLooked a b → refusal (machine_at a) (Call.WriteFiles d files) ≡ None → is_path d ≡ true → list_all (λ file. is_name file.name) files ≡ true → 0 < length files
    → changes ≡ map (changes_in (working_tree (machine_at a)) d) files → list_any (λ change. change) changes ≡ true
    → IsChangeBy a (Call.WriteFiles d files) (λ root. files_put (version_tree b root) d (chosen files changes)) Reply.Empty
writes_change a b d files changes m l fine lawful names some are any = record {
  fine = fine;
  after = λ root is. made_by (machine_at a) d files false (none-changes (working_tree (machine_at a)) d files changes true are any)
      ∙ (λ i. Some (files_put (later_tree a b root m is l i) d (sym (chosen_are (working_tree (machine_at a)) d files changes are) i)));
  heavy = some-light d files some;
  moves = refl;
  paths = and_from (is_path d) (list_all (λ file. is_name file.name) files) lawful names;
  more = λ capacity. let list = nodes_for-some (entry_count (working_tree (machine_at a)) d) in omega arith;
  replies = λ space. refl;
}

-- the same bytes make no version
pub writes_nothing : (m : Machine) (d : Path) (files : List NamedFile) (changes : List Bool) → changes ≡ map (changes_in (working_tree m) d) files → list_any (λ change. change) changes ≡ false → OnlyReads m (Call.WriteFiles d files)
writes_nothing m d files changes are none = record { stays = stays; no_version = no_tree; no_end = ap (option_and_then (λ t. if is_some m.group then None else Some t)) no_tree; no_record = refl }
  where
    no_tree : tree_after m (Call.WriteFiles d files) ≡ None
    no_tree = made_by m d files true (none-changes (working_tree m) d files changes false are none)

    stays : machine_of m (Call.WriteFiles d files) None ≡ m
    stays i = machine_with (option_map_or (changed m.history) (option_and_then (λ t. if is_some m.group then None else Some t) (no_tree i)) m.history) (option_map_or (group_with m.group) (no_tree i) m.group) m.descriptors

-- and so do no files
pub no_writes : (m : Machine) (d : Path) (files : List NamedFile) → length files ≡ 0 → OnlyReads m (Call.WriteFiles d files)
no_writes m d [] none = writes_nothing m d [] [] refl refl
no_writes m d (file ∷ files) none = absurd (omega arith)

pub no_refusal : (m : Machine) (d : Path) (files : List NamedFile) → length files ≡ 0 → refusal m (Call.WriteFiles d files) ≡ None
no_refusal m d [] none = refl
no_refusal m d (file ∷ files) none = absurd (omega arith)

-- ---- how many nodes it needs

pub writes_few : (a b : Moment) (root : ℕ) (d : Path) (trail : List ℕ) (block : ℕ) (files : List NamedFile) (changes : List Bool) → IsMountedAt a → IsMountedAt b → working_root a.state.history a.state.group ≡ Some root → working_root b.state.history b.state.group ≡ Some root → IsLooked a b
    → IsChangeBy a (Call.WriteFiles d files) (λ r. files_put (version_tree b r) d (chosen files changes)) Reply.Empty → changes ≡ map (changes_in (working_tree (machine_at a)) d) files
    → IsTrail (nodes_at b) root d trail → look_up (nodes_at b) root d ≡ Ok (found.Dir block)
    → files_nodes (capacity_at b) (nodes_at b) trail d block (chosen files changes) ≤ change_need (capacity_at a) (machine_at a) (Call.WriteFiles d files)
writes_few a b root d trail block files changes m n is later l by are way led =
    let call = Call.WriteFiles d files in
    let t = working_tree (machine_at a) in
    let same : capacity_at a ≡ capacity_at b = sym (same_capacity (storage_at a) (storage_at b) (looked_worked a b l).evolved) in
    let chosen_is = chosen_are t d files changes are in
    let body : bodies_need (capacity_at b) (chosen files changes) ≡ bodies_need (capacity_at a) (changed_files t d files) = (λ i. bodies_need (sym same i) (chosen_is i)) in
    let machine : machine_at b ≡ machine_at a = worked_machine a b m (looked_worked a b l) in
    let fine : refusal (machine_at b) call ≡ None = ap (λ (x : Machine). refusal x call) machine ∙ by.fine in
    let after : length (items_in (nodes_at b) block) + count_new (items_in (nodes_at b) block) (changed_files t d files) ≡ entry_count (files_put t d (changed_files t d files)) d =
    subst (λ (x : Machine). length (items_in (nodes_at b) block) + count_new (items_in (nodes_at b) block) (changed_files (working_tree x) d files) ≡ entry_count (files_put (working_tree x) d (changed_files (working_tree x) d files)) d) machine
    (writes_after b root d block n later led files fine) in
    let made : unwrap_or (tree_after (machine_at a) call) t ≡ files_put t d (changed_files t d files) =
    ap (λ (o : Option Tree). unwrap_or o t) (by.after root is) ∙ (λ i. files_put (sym (later_tree a b root m is l) i) d (chosen_is i)) in
    let list : nodes_for (length (items_in (nodes_at b) block) + count_new (items_in (nodes_at b) block) (chosen files changes)) ≡ nodes_for (entry_count (unwrap_or (tree_after (machine_at a) call) t) d) =
    ap (λ (fs : List NamedFile). nodes_for (length (items_in (nodes_at b) block) + count_new (items_in (nodes_at b) block) fs)) chosen_is ∙ ap nodes_for (after ∙ sym (ap (λ (x : Tree). entry_count x d) made)) in
    let need = way_at a b call (λ r. files_put (version_tree b r) d (chosen files changes)) Reply.Empty root d m is l by in
    let few = taken_few (capacity_at b) (nodes_at b) root (looked_rooted a b root m is l) (files_put (version_tree b root) d (chosen files changes)) d trail way in
    omega (arith, body, list, need, few)

-- what was answered is a refusal
pub at_refused : {T : Type 0} (a b : Moment) (refused : Option Fault) (fault : Fault) (result : Result T Fault) → result ≡ Err fault → IsRefusedBy refused a fault b → IfErr result (λ x. IsRefusedBy refused a x b)
at_refused a b refused fault result is why = subst (λ r. IfErr r (λ x. IsRefusedBy refused a x b)) (sym is) why

-- the file that was found is refused for what it is
pub place_refuses : (opened busy : Bool) (count : ℕ) (x : Found) (size : Option Fault) (fault : Fault) (refused : Option Fault) → refused ≡ option_or (next_place_refusal opened count x) size → busy ≡ opened → next_place_refusal busy count x ≡ Some fault → refused ≡ Some fault
place_refuses opened busy count x size fault refused is same told = is ∙ ap (λ o. option_or o size) (ap (λ b. next_place_refusal b count x) (sym same) ∙ told)

-- or for its size, or not
pub size_tells : (opened busy : Bool) (count : ℕ) (x : Found) (size told : Option Fault) (refused : Option Fault) → refused ≡ option_or (next_place_refusal opened count x) size → busy ≡ opened → next_place_refusal busy count x ≡ None → size ≡ told → refused ≡ told
size_tells opened busy count x size told refused is same fits says = is ∙ ap (λ o. option_or o size) (ap (λ b. next_place_refusal b count x) (sym same) ∙ fits) ∙ says

-- and one of the directory
pub at_target : {T : Type 0} (a b : Moment) (d : Path) (fault : Fault) (result : Result T Fault) → result ≡ Err fault → ((file : NamedFile) → IsRefusedBy (lookup_refusal (get (working_tree (machine_at a))) (path_in d file)) a fault b)
    → IfErr result (λ x. (file : NamedFile) → IsRefusedBy (lookup_refusal (get (working_tree (machine_at a))) (path_in d file)) a x b)
at_target a b d fault result is why = subst (λ r. IfErr r (λ x. (file : NamedFile) → IsRefusedBy (lookup_refusal (get (working_tree (machine_at a))) (path_in d file)) a x b)) (sym is) why

-- the refusal of a part is that of all
pub part_refused : (a b : Moment) (part all : Option Fault) (fault : Fault) → (part ≡ Some fault → all ≡ Some fault) → IsRefusedBy part a fault b → IsRefusedBy all a fault b
part_refused a b part all fault tells why = elim why [
  | inl told ↦ inl (tells told)
  | inr cause ↦ inr cause
]

-- one lawful name more
pub names-more : (files : List NamedFile) (k : ℕ) (file : NamedFile) → k < length files → file ≡ get_or files k file → list_all (λ (one : NamedFile). is_name one.name) (take k files) ≡ true → is_name file.name ≡ true → list_all (λ (one : NamedFile). is_name one.name) (take (k + 1) files) ≡ true
names-more files k file below is all here =
    ap (list_all (λ (one : NamedFile). is_name one.name)) (take_more files k file below ∙ ap (λ (x : NamedFile). take k files ++ x ∷ []) (sym is)) ∙ push (take k files) all
  where
    push : (xs : List NamedFile) → list_all (λ (one : NamedFile). is_name one.name) xs ≡ true → list_all (λ (one : NamedFile). is_name one.name) (xs ++ file ∷ []) ≡ true
    push [] all = and_from (is_name file.name) true here refl
    push (x ∷ xs) all =
        let parts = and_parts (is_name x.name) (list_all (λ (one : NamedFile). is_name one.name) xs) all in
        and_from (is_name x.name) (list_all (λ (one : NamedFile). is_name one.name) (xs ++ file ∷ [])) parts.0 (push xs parts.1)

-- a directory of some files has room for a name
pub above_limit : (d : Path) (files : List NamedFile) → files_refusal d files ≡ None → 0 < length files → length d < 16
above_limit d files fine some = leb-false 16 (length d) (on (ascend_from None files) fine)
  where
    second : (b : Bool) → cond (b && nat_le 16 (length d)) (Some NameTooLong) None ≡ None → b ≡ true → nat_le 16 (length d) ≡ false
    second b e is = last (nat_le 16 (length d)) (ap (λ c. cond (c && nat_le 16 (length d)) (Some NameTooLong) None) (sym is) ∙ e)
      where
        last : (c : Bool) → cond c (Some NameTooLong) None ≡ None → c ≡ false
        last true e = absurd (None≢Some (sym e))
        last false e = refl

    on : (b : Bool) → cond (not b) (Some Invalid) (cond (nat_lt 0 (length files) && nat_le 16 (length d)) (Some NameTooLong) None) ≡ None → nat_le 16 (length d) ≡ false
    on true e = second (nat_lt 0 (length files)) e (lt-ltb 0 (length files) some)
    on false e = absurd (None≢Some (sym e))

-- the files can be put
pub are_writable : (e : Moment) (root : ℕ) (d : Path) (trail : List ℕ) (block count : ℕ) (files : List NamedFile) (changes : List Bool) → IsMountedAt e → working_root e.state.history e.state.group ≡ Some root → look_up (nodes_at e) root d ≡ Ok (found.Dir block)
    → IsTrail (nodes_at e) root d trail → length (items_in (nodes_at e) block) ≡ count → length d < 16 → changes ≡ map (changes_in (working_tree (machine_at e)) d) files → list_any (λ change. change) changes ≡ true
    → next_refusals (working_tree (machine_at e)) e.state.files d count files ≡ None → AreWritable (nodes_at e) root d trail block files changes
are_writable e root d trail block count files changes m is led way counted above are any fine =
    let all = all-writable (working_tree (machine_at e)) e.state.files d count files fine in
    let t = working_tree (machine_at e) in
    record {
      way = way;
      led = led;
      above = above;
      counted = ap length are ∙ length-map files (changes_in t d);
      some = chosen_some t d files changes are any;
      short = All-weaker (IsWritable t d) (λ (file : NamedFile). length file.bytes ≤ 16777216) (λ file writable. writable.short) files all;
      free = writes_free e root d block m is led files all;
      room = let room = writes_room e root d block m is led count files counted fine in
          omega (arith, room, ap (count_new (items_in (nodes_at e) block)) (chosen_are t d files changes are));
    }

-- What a rename is refused with, by what its look ups find, and the step of what it moves.
use Rattle.std.proofs.Common.{◌≡◌, ◌⊎◌, ℕ, ◌-◌, ◌≤◌, Bool, true, false, not, ◌&&◌, ◌||◌, Option, Some, None, Result, Ok, Err, List, [], ◌∷◌, length, refl, sym, ap, subst, ◌∙◌, inl, inr, arith}
use Rattle.std.proofs.lemmas.Bool.{cases_Bool, true≢false}
use Rattle.std.specs.Prelude.{nat_lt, is_none, if◌then◌else◌, IfErr, IsTrue}
use Rattle.std.specs.Option.{option_or, option_map_or}
use Rattle.std.specs.FinMap.{get}
use Rattle.fs_types.specs.Names.{Path, same_path}
use Rattle.plain_trees.specs.Contents.{Contents, Entry, is_dir, begins, parent_of, lookup_refusal}
use Rattle.plain_trees.specs.Trees.{Tree, entry_count, is_full, is_too_deep}
use Rattle.history_machine.specs.History.{working_root}
use Rattle.history_machine.specs.Descriptors.{is_open, is_open_within}
use Rattle.history_machine.specs.Machine.{Machine, working_tree, found_refusal, replace_refusal, rename_refusal, move_refusal}
use Rattle.fs_types.specs.declared.call.Call.{Call}
use Rattle.fs_types.specs.declared.fault.Fault.{Fault}
use Rattle.fs_types.specs.declared.fault.Fault.TheVariants.{NoEntry, NotDirectory, IsDirectory, NotEmpty, Invalid, NameTooLong, Busy, DirectoryFull, ReadFailed, PowerCut, NoMemory, Damaged}
use Rattle.plain_trees.proofs.Beneath.{None≢Some}
use Rattle.history_machine.proofs.Kept.{working-file_tree}
use Rattle.flash_model.specs.Device.{Device}
use Rattle.node_format.specs.Items.{Item}
use Rattle.node_format.specs.declared.place.Place.{Place}
use Rattle.node_format.specs.declared.place.Place.TheVariants.{Dir, File}
use Rattle.node_store.specs.Faults.{IsReadFault}
use Rattle.node_store.specs.NodePages.{node_of}
use Rattle.nodes.specs.Bodies.{Blocks, body}
use Rattle.nodes.specs.TreeLaws.{IsShallow}
use Rattle.nodes.specs.Trees.{entries_in, leads, tree, root_tree, is_dir_place, IsRoot}
use Rattle.nodes.proofs.RootMaps.{map_law, full_directory}
use Rattle.nodes.proofs.TooDeep.{depth_law}
use Rattle.directory.specs.declared.lookups.Found.{Found}
use Rattle.directory.specs.declared.lookups.Found.TheVariants as found
use Rattle.directory.specs.Trails.{has_room}
use Rattle.directory.specs.Lookups.{look_up, found_entry, is_path_fault, IsLookupFault}
use Rattle.directory.proofs.LookupLaws.{found_is, found_leads, found_leads_file, missing_parent, refused_is, rooted_leads}
use Rattle.working_state.specs.Moments.{Moment, machine_at, seen_at, IsMountedAt, nodes_at, capacity_at, version_tree}
use Rattle.working_state.specs.Seen.{Seen}
use Rattle.working_state.specs.Steps.{begins_work, MayRefuse, LeadsTo}
use Rattle.directory.specs.Depths.{IsDeeper}
use Rattle.working_state.specs.Renames.{target_refusal, lacks_room}
use Rattle.working_state.specs.Worked.{IsLooked, WorkCause, ReadCause}
use Rattle.working_state.specs.declared.state.State.{State}
use Rattle.working_state.proofs.PathCalls.{working_tree_is, working_stands}
use Rattle.working_state.proofs.Standing.{looked_worked, worked_later}
use Rattle.working_state.proofs.Stats.{body_length}
use Rattle.working_state.proofs.TakenOut.{rmdir_count}

-- Why nodes were not read.

not_so : IsTrue false → ⊥
not_so h = true≢false (sym h)

pub read_cause : (old new : Seen) (fault : Fault) → is_path_fault fault ≡ false → IsLookupFault fault → WorkCause old fault new → ReadCause old fault new
read_cause old new ReadFailed other is why = why
read_cause old new PowerCut other is why = why
read_cause old new NoMemory other is why = tt
read_cause old new NoEntry other is why = absurd (true≢false other)
read_cause old new NotDirectory other is why = absurd (true≢false other)
read_cause old new Damaged other is why = absurd (true≢false other)
read_cause old new _ other is why = absurd (not_so is)

pub read_later : (old mid new : Seen) (fault : Fault) → LeadsTo old mid → ReadCause mid fault new → ReadCause old fault new
read_later old mid new ReadFailed later why = omega arith
read_later old mid new PowerCut later why = why
read_later old mid new NoMemory later why = tt
read_later old mid new _ later why = absurd why

pub read_may : (old new : Seen) (m : Machine) (call : Call) (fault : Fault) → begins_work m call ≡ true → ReadCause old fault new → MayRefuse old m call fault new
read_may old new m call ReadFailed begins why = (begins, why)
read_may old new m call PowerCut begins why = (begins, why)
read_may old new m call NoMemory begins why = begins
read_may old new m call _ begins why = absurd why

pub read_lookup : (fault : Fault) → IsReadFault fault → IsLookupFault fault
read_lookup NoEntry reads = refl
read_lookup NotDirectory reads = refl
read_lookup _ reads = reads

pub not_path : (fault : Fault) → IsReadFault fault → (fault ≡ Damaged → ⊥) → is_path_fault fault ≡ false
not_path NoEntry reads whole = absurd (not_so reads)
not_path NotDirectory reads whole = absurd (not_so reads)
not_path Damaged reads whole = absurd (whole refl)
not_path _ reads whole = refl

-- what holds of the fault that was answered
pub of_fault : {T : Type 0} (P : Fault → Type 0) (fault : Fault) (result : Result T Fault) → result ≡ Err fault → P fault → IfErr result P
of_fault P fault result is holds = subst (λ r. IfErr r P) (sym is) holds

-- What stands at the old path.

abbrev pub PlaceRefused : Moment → Moment → Path → Fault → Type 0
PlaceRefused a b path fault = ((refuse : Entry → Option Fault) → found_refusal (working_tree (machine_at a)) path refuse ≡ Some fault) ⊎ ReadCause (seen_at a) fault (seen_at b)

abbrev pub PlaceFound : Moment → Path → Place → Type 0
PlaceFound a path place = (entry : Entry) × (is_dir entry ≡ is_dir_place place) × ((refuse : Entry → Option Fault) → found_refusal (working_tree (machine_at a)) path refuse ≡ refuse entry)

-- What stands at the new path.

abbrev pub TargetRefused : Moment → Moment → Path → Bool → Fault → Type 0
TargetRefused a b path moves fault = ((entry : Entry) → is_dir entry ≡ moves → target_refusal (working_tree (machine_at a)) path entry ≡ Some fault) ⊎ ReadCause (seen_at a) fault (seen_at b)

missing_fits : (t : Tree) (path : Path) (entry : Entry) → replace_refusal t path entry None ≡ None
missing_fits t path Entry.Dir = refl
missing_fits t path (Entry.File bytes) = refl

file_refuses : (t : Tree) (path : Path) (entry : Entry) (bytes : List ℕ) → is_dir entry ≡ true → replace_refusal t path entry (Some (Entry.File bytes)) ≡ Some NotDirectory
file_refuses t path Entry.Dir bytes dir = refl
file_refuses t path (Entry.File own) bytes dir = absurd (true≢false (sym dir))

file_fits : (t : Tree) (path : Path) (entry : Entry) (bytes : List ℕ) → is_dir entry ≡ false → replace_refusal t path entry (Some (Entry.File bytes)) ≡ None
file_fits t path Entry.Dir bytes file = absurd (true≢false file)
file_fits t path (Entry.File own) bytes file = refl

dir_refuses : (t : Tree) (path : Path) (entry : Entry) → is_dir entry ≡ false → replace_refusal t path entry (Some Entry.Dir) ≡ Some IsDirectory
dir_refuses t path Entry.Dir file = absurd (true≢false file)
dir_refuses t path (Entry.File own) file = refl

dir_counted : (t : Tree) (path : Path) (entry : Entry) → is_dir entry ≡ true → replace_refusal t path entry (Some Entry.Dir) ≡ (if nat_lt 0 (entry_count t path) then Some NotEmpty else None)
dir_counted t path Entry.Dir dir = refl
dir_counted t path (Entry.File own) dir = absurd (true≢false (sym dir))

-- a name that is there, or has room, by what was found, which is also called `y`
pub room_by : (f : Blocks) (root : ℕ) (path : Path) (x y : Found) → look_up f root path ≡ Ok x → x ≡ y → has_room (Ok y) ≡ true → has_room (look_up f root path) ≡ true
room_by f root path x y led called capacity = ap has_room (led ∙ ap (λ (z : Found). let r : Result Found Fault = Ok z in r) called) ∙ capacity

-- Look ups in the tree that calls work on.

module _ (a : Moment) (root : ℕ) (path : Path) (m : IsMountedAt a) (is : working_root a.state.history a.state.group ≡ Some root) where
  rooted : IsRoot (capacity_at a) (nodes_at a) root
  rooted = (working_stands a root m is).rooted

  same : get (version_tree a root) ≡ tree (capacity_at a) (nodes_at a) root
  same = (map_law (capacity_at a) (nodes_at a) root rooted).same

  place_at : (refuse : Entry → Option Fault)
      → found_refusal (working_tree (machine_at a)) path refuse ≡ option_or (lookup_refusal (tree (capacity_at a) (nodes_at a) root) path) (option_map_or refuse (tree (capacity_at a) (nodes_at a) root path) (Some NoEntry))
  place_at refuse =
      ap (λ t. found_refusal t path refuse) (working_tree_is a root is)
      ∙ ap (λ (t : Contents). option_or (lookup_refusal t path) (option_map_or refuse (t path) (Some NoEntry))) same

  pub place_by : (x y : Found) → look_up (nodes_at a) root path ≡ Ok x → x ≡ y → (refuse : Entry → Option Fault)
      → found_refusal (working_tree (machine_at a)) path refuse ≡ option_map_or refuse (found_entry (capacity_at a) (nodes_at a) y) (Some NoEntry)
  place_by x y led called refuse =
      let there = found_is (capacity_at a) (nodes_at a) root path x (rooted_leads (capacity_at a) (nodes_at a) root rooted) led in
      place_at refuse
      ∙ ap (λ o. option_or o (option_map_or refuse (tree (capacity_at a) (nodes_at a) root path) (Some NoEntry))) there.0
      ∙ ap (λ o. option_map_or refuse o (Some NoEntry)) there.1
      ∙ ap (λ z. option_map_or refuse (found_entry (capacity_at a) (nodes_at a) z) (Some NoEntry)) called

  pub place_look : (b : Moment) (fault : Fault) → (is_path_fault fault ≡ true → look_up (nodes_at a) root path ≡ Err fault)
      → (is_path_fault fault ≡ false → WorkCause (seen_at a) fault (seen_at b)) → IsLookupFault fault → PlaceRefused a b path fault
  place_look b fault refused why lookup = elim (cases_Bool (is_path_fault fault)) [
    | inl tells ↦ inl (λ refuse. place_at refuse ∙ ap (λ o. option_or o (option_map_or refuse (tree (capacity_at a) (nodes_at a) root path) (Some NoEntry))) (refused_is (capacity_at a) (nodes_at a) root path fault rooted (refused tells)))
    | inr other ↦ inr (read_cause (seen_at a) (seen_at b) fault other lookup (why other))
  ]

  pub place_file : (x : Found) (head size : ℕ) → look_up (nodes_at a) root path ≡ Ok x → x ≡ found.File head size → PlaceFound a path (File head size)
  place_file x head size led called = (Entry.File (body (capacity_at a) (nodes_at a) head size), refl, λ refuse. place_by x (found.File head size) led called refuse)

  pub place_dir : (x : Found) (block : ℕ) → look_up (nodes_at a) root path ≡ Ok x → x ≡ found.Dir block → PlaceFound a path (Dir block)
  place_dir x block led called = (Entry.Dir, refl, λ refuse. place_by x (found.Dir block) led called refuse)

  -- a file's length has its limit
  pub file_short : (x : Found) (head size : ℕ) → look_up (nodes_at a) root path ≡ Ok x → x ≡ found.File head size → size ≤ 16777216
  file_short x head size led called =
      let file : look_up (nodes_at a) root path ≡ Ok (found.File head size) = subst (λ z. look_up (nodes_at a) root path ≡ Ok z) called led in
      let there : get (working_tree (machine_at a)) path ≡ Some (Entry.File (body (capacity_at a) (nodes_at a) head size)) =
      ap (λ t. get t path) (working_tree_is a root is) ∙ ap (λ (t : Contents). t path) same ∙ (found_is (capacity_at a) (nodes_at a) root path (found.File head size) (rooted_leads (capacity_at a) (nodes_at a) root rooted) file).1 in
      subst (λ n. n ≤ 16777216) (body_length (capacity_at a) (nodes_at a) head size (rooted path (File head size) (found_leads_file (nodes_at a) root path head size (rooted_leads (capacity_at a) (nodes_at a) root rooted) file)).0)
      ((working-file_tree (machine_at a) m.machine).lengths path (body (capacity_at a) (nodes_at a) head size) there)

  target_at : (entry : Entry)
      → target_refusal (working_tree (machine_at a)) path entry ≡ option_or (lookup_refusal (tree (capacity_at a) (nodes_at a) root) path) (replace_refusal (version_tree a root) path entry (tree (capacity_at a) (nodes_at a) root path))
  target_at entry =
      ap (λ t. target_refusal t path entry) (working_tree_is a root is)
      ∙ ap (λ (t : Contents). option_or (lookup_refusal t path) (replace_refusal (version_tree a root) path entry (t path))) same

  target_by : (x y : Found) → look_up (nodes_at a) root path ≡ Ok x → x ≡ y → (entry : Entry)
      → target_refusal (working_tree (machine_at a)) path entry ≡ replace_refusal (version_tree a root) path entry (found_entry (capacity_at a) (nodes_at a) y)
  target_by x y led called entry =
      let there = found_is (capacity_at a) (nodes_at a) root path x (rooted_leads (capacity_at a) (nodes_at a) root rooted) led in
      target_at entry
      ∙ ap (λ o. option_or o (replace_refusal (version_tree a root) path entry (tree (capacity_at a) (nodes_at a) root path))) there.0
      ∙ ap (λ o. replace_refusal (version_tree a root) path entry o) there.1
      ∙ ap (λ z. replace_refusal (version_tree a root) path entry (found_entry (capacity_at a) (nodes_at a) z)) called

  pub target_look : (b : Moment) (moves : Bool) (fault : Fault) → (is_path_fault fault ≡ true → look_up (nodes_at a) root path ≡ Err fault)
      → (is_path_fault fault ≡ false → WorkCause (seen_at a) fault (seen_at b)) → IsLookupFault fault → TargetRefused a b path moves fault
  target_look b moves fault refused why lookup = elim (cases_Bool (is_path_fault fault)) [
    | inl tells ↦ inl (λ entry kind. target_at entry ∙ ap (λ o. option_or o (replace_refusal (version_tree a root) path entry (tree (capacity_at a) (nodes_at a) root path))) (refused_is (capacity_at a) (nodes_at a) root path fault rooted (refused tells)))
    | inr other ↦ inr (read_cause (seen_at a) (seen_at b) fault other lookup (why other))
  ]

  pub target_read : (b c : Moment) (block : ℕ) (x : Found) (moves : Bool) (fault : Fault) → IsLooked a b → nodes_at b ≡ nodes_at a → look_up (nodes_at a) root path ≡ Ok x → x ≡ found.Dir block
      → (fault ≡ Damaged → entries_in (nodes_at b) block ≡ None) → (is_path_fault fault ≡ false → WorkCause (seen_at b) fault (seen_at c)) → IsReadFault fault → TargetRefused a c path moves fault
  target_read b c block x moves fault l nodes led called damaged why reads =
      let dir : look_up (nodes_at a) root path ≡ Ok (found.Dir block) = subst (λ z. look_up (nodes_at a) root path ≡ Ok z) called led in
      let whole = (rooted path (Dir block) (found_leads (nodes_at a) root path block (rooted_leads (capacity_at a) (nodes_at a) root rooted) dir)).0 in
      let other = not_path fault reads (λ is. None≢Some (sym (damaged is) ∙ ap (λ (g : Blocks). entries_in g block) nodes ∙ whole.1)) in
      inr (read_later (seen_at a) (seen_at b) (seen_at c) fault (worked_later a b (looked_worked a b l)) (read_cause (seen_at b) (seen_at c) fault other (read_lookup fault reads) (why other)))

  pub target_missing : (x : Found) (full : Bool) → look_up (nodes_at a) root path ≡ Ok x → x ≡ found.Missing full → (entry : Entry) → target_refusal (working_tree (machine_at a)) path entry ≡ None
  target_missing x full led called entry = target_by x (found.Missing full) led called entry ∙ missing_fits (version_tree a root) path entry

  pub target_file : (x : Found) (head size : ℕ) → look_up (nodes_at a) root path ≡ Ok x → x ≡ found.File head size → (entry : Entry) → is_dir entry ≡ false → target_refusal (working_tree (machine_at a)) path entry ≡ None
  target_file x head size led called entry kind = target_by x (found.File head size) led called entry ∙ file_fits (version_tree a root) path entry (body (capacity_at a) (nodes_at a) head size) kind

  pub target_no_directory : (x : Found) (head size : ℕ) → look_up (nodes_at a) root path ≡ Ok x → x ≡ found.File head size → (entry : Entry) → is_dir entry ≡ true → target_refusal (working_tree (machine_at a)) path entry ≡ Some NotDirectory
  target_no_directory x head size led called entry kind = target_by x (found.File head size) led called entry ∙ file_refuses (version_tree a root) path entry (body (capacity_at a) (nodes_at a) head size) kind

  pub target_directory : (x : Found) (block : ℕ) → look_up (nodes_at a) root path ≡ Ok x → x ≡ found.Dir block → (entry : Entry) → is_dir entry ≡ false → target_refusal (working_tree (machine_at a)) path entry ≡ Some IsDirectory
  target_directory x block led called entry kind = target_by x (found.Dir block) led called entry ∙ dir_refuses (version_tree a root) path entry kind

  pub target_counted : (e : Device) (x : Found) (block : ℕ) (items : List Item) → node_of e ≡ nodes_at a → look_up (nodes_at a) root path ≡ Ok x → x ≡ found.Dir block → entries_in (node_of e) block ≡ Some items → (entry : Entry) → is_dir entry ≡ true
      → target_refusal (working_tree (machine_at a)) path entry ≡ (if nat_lt 0 (length items) then Some NotEmpty else None)
  target_counted e x block items nodes led called spelled entry kind =
      let dir : look_up (nodes_at a) root path ≡ Ok (found.Dir block) = subst (λ z. look_up (nodes_at a) root path ≡ Ok z) called led in
      let here : entries_in (nodes_at a) block ≡ Some items = ap (λ (g : Blocks). entries_in g block) (sym nodes) ∙ spelled in
      target_by x (found.Dir block) led called entry
      ∙ dir_counted (version_tree a root) path entry kind
      ∙ ap (λ n. if nat_lt 0 n then Some NotEmpty else None) (rmdir_count a path root block items m is dir here)

  lacks_by : (x y : Found) → look_up (nodes_at a) root path ≡ Ok x → x ≡ y → lacks_room (working_tree (machine_at a)) path ≡ (is_none (found_entry (capacity_at a) (nodes_at a) y) && is_full (version_tree a root) (parent_of path))
  lacks_by x y led called =
      ap (λ t. lacks_room t path) (working_tree_is a root is)
      ∙ ap (λ (t : Contents). is_none (t path) && is_full (version_tree a root) (parent_of path)) same
      ∙ ap (λ o. is_none o && is_full (version_tree a root) (parent_of path)) (found_is (capacity_at a) (nodes_at a) root path x (rooted_leads (capacity_at a) (nodes_at a) root rooted) led).1
      ∙ ap (λ z. is_none (found_entry (capacity_at a) (nodes_at a) z) && is_full (version_tree a root) (parent_of path)) called

  pub lacks_missing : (x : Found) (full : Bool) → look_up (nodes_at a) root path ≡ Ok x → x ≡ found.Missing full → full ≡ lacks_room (working_tree (machine_at a)) path
  lacks_missing x full led called =
      let missing : look_up (nodes_at a) root path ≡ Ok (found.Missing full) = subst (λ z. look_up (nodes_at a) root path ≡ Ok z) called led in
      let parent = missing_parent (nodes_at a) root path full (rooted_leads (capacity_at a) (nodes_at a) root rooted) missing in
      sym (lacks_by x (found.Missing full) led called ∙ full_directory (capacity_at a) (nodes_at a) root (parent_of path) parent.0 rooted parent.1 ∙ sym parent.2)

  pub lacks_file : (x : Found) (head size : ℕ) → look_up (nodes_at a) root path ≡ Ok x → x ≡ found.File head size → false ≡ lacks_room (working_tree (machine_at a)) path
  lacks_file x head size led called = sym (lacks_by x (found.File head size) led called)

  pub lacks_dir : (x : Found) (block : ℕ) → look_up (nodes_at a) root path ≡ Ok x → x ≡ found.Dir block → false ≡ lacks_room (working_tree (machine_at a)) path
  lacks_dir x block led called = sym (lacks_by x (found.Dir block) led called)

-- Depth.

pub too_deep : (capacity : ℕ) (f : Blocks) (root : ℕ) (old new : Path) (place : Place) → IsRoot capacity f root → leads f (Dir root) old ≡ Some place → length new ≤ 16 → IsDeeper f place (16 - length new) → is_too_deep (root_tree capacity f root) old new ≡ true
too_deep capacity f root old new place has led lawful (path, there, long) = elim (cases_Bool (is_too_deep (root_tree capacity f root) old new)) [
  | inl deep ↦ deep
  | inr shallow ↦ absurd (let short = (depth_law capacity f root old new place has led lawful).0 shallow path there in omega arith)
]

-- What is refused of a move to another path.

abbrev pub MoveRefused : Moment → Moment → Path → Path → Place → Fault → Type 0
MoveRefused a b old new place fault = ((entry : Entry) → is_dir entry ≡ is_dir_place place → rename_refusal (machine_at a) old new entry ≡ Some fault) ⊎ ReadCause (seen_at a) fault (seen_at b)

-- so many checks passed
pub below_refuses : (m : Machine) (old new : Path) (entry : Entry) → same_path old new ≡ false → (is_dir entry && begins old new) ≡ true → rename_refusal m old new entry ≡ Some Invalid
below_refuses m old new entry differ below = rw (differ, below) refl

after_below : (m : Machine) (old new : Path) (entry : Entry) → same_path old new ≡ false → (is_dir entry && begins old new) ≡ false
    → rename_refusal m old new entry ≡ option_or (lookup_refusal (get (working_tree m)) new) (option_or (replace_refusal (working_tree m) new entry (get (working_tree m) new)) (move_refusal m old new))
after_below m old new entry differ beyond =
    ap (λ b. if b then None else if is_dir entry && begins old new then Some Invalid else option_or (lookup_refusal (get (working_tree m)) new) (option_or (replace_refusal (working_tree m) new entry (get (working_tree m) new)) (move_refusal m old new))) differ
    ∙ ap (λ b. if b then Some Invalid else option_or (lookup_refusal (get (working_tree m)) new) (option_or (replace_refusal (working_tree m) new entry (get (working_tree m) new)) (move_refusal m old new))) beyond

first_of : (a b c : Option Fault) (fault : Fault) → option_or a b ≡ Some fault → option_or a (option_or b c) ≡ Some fault
first_of None None c fault is = absurd (None≢Some is)
first_of None (Some x) c fault is = is
first_of (Some x) b c fault is = is

last_of : (a b c : Option Fault) → option_or a b ≡ None → option_or a (option_or b c) ≡ c
last_of None None c none = refl
last_of None (Some x) c none = absurd (None≢Some (sym none))
last_of (Some x) b c none = absurd (None≢Some (sym none))

pub target_refuses : (m : Machine) (old new : Path) (entry : Entry) (fault : Fault) → same_path old new ≡ false → (is_dir entry && begins old new) ≡ false → target_refusal (working_tree m) new entry ≡ Some fault → rename_refusal m old new entry ≡ Some fault
target_refuses m old new entry fault differ beyond refused =
    after_below m old new entry differ beyond
    ∙ first_of (lookup_refusal (get (working_tree m)) new) (replace_refusal (working_tree m) new entry (get (working_tree m) new)) (move_refusal m old new) fault refused

pub then_moves : (m : Machine) (old new : Path) (entry : Entry) → same_path old new ≡ false → (is_dir entry && begins old new) ≡ false → target_refusal (working_tree m) new entry ≡ None → rename_refusal m old new entry ≡ move_refusal m old new
then_moves m old new entry differ beyond allowed =
    after_below m old new entry differ beyond
    ∙ last_of (lookup_refusal (get (working_tree m)) new) (replace_refusal (working_tree m) new entry (get (working_tree m) new)) (move_refusal m old new) allowed

-- the checks of a move, in order
abbrev by_checks : Bool → Bool → Bool → Option Fault
by_checks deep busy full = if deep then Some NameTooLong else if busy then Some Busy else if full then Some DirectoryFull else None

last_and : (a b c : Bool) → (a && b && c) ≡ ((a && c) && b)
last_and true true true = refl
last_and true true false = refl
last_and true false true = refl
last_and true false false = refl
last_and false b c = refl

pub moves_by : (m : Machine) (old new : Path) (deep busy full : Bool) → is_too_deep (working_tree m) old new ≡ deep → (is_open_within m.descriptors old || is_open m.descriptors new) ≡ busy
    → (lacks_room (working_tree m) new && not (same_path (parent_of old) (parent_of new))) ≡ full → move_refusal m old new ≡ by_checks deep busy full
moves_by m old new deep busy full is_deep is_busy is_full_now =
    ap (λ b. by_checks b (is_open_within m.descriptors old || is_open m.descriptors new) (is_none (get (working_tree m) new) && not (same_path (parent_of old) (parent_of new)) && is_full (working_tree m) (parent_of new))) is_deep
    ∙ ap (λ b. by_checks deep b (is_none (get (working_tree m) new) && not (same_path (parent_of old) (parent_of new)) && is_full (working_tree m) (parent_of new))) is_busy
    ∙ ap (λ b. by_checks deep busy b) (last_and (is_none (get (working_tree m) new)) (not (same_path (parent_of old) (parent_of new))) (is_full (working_tree m) (parent_of new)) ∙ is_full_now)

pub deep_refuses : (m : Machine) (old new : Path) → is_too_deep (working_tree m) old new ≡ true → move_refusal m old new ≡ Some NameTooLong
deep_refuses m old new deep = moves_by m old new true _ _ deep refl refl

pub busy_refuses : (m : Machine) (old new : Path) → is_too_deep (working_tree m) old new ≡ false → (is_open_within m.descriptors old || is_open m.descriptors new) ≡ true → move_refusal m old new ≡ Some Busy
busy_refuses m old new shallow busy = moves_by m old new false true _ shallow busy refl

-- the moved place's kind is the entry's
pub kind_below : (entry : Entry) (dir : Bool) (old new : Path) (b : Bool) → is_dir entry ≡ dir → (dir && begins old new) ≡ b → (is_dir entry && begins old new) ≡ b
kind_below entry dir old new b kind is = ap (λ k. k && begins old new) kind ∙ is

-- the new name has room where that is asked
pub move_room : (f : Blocks) (root : ℕ) (old new : Path) (full : Bool) → (full && not (same_path (parent_of old) (parent_of new))) ≡ false → (full ≡ false → has_room (look_up f root new) ≡ true)
    → same_path (parent_of old) (parent_of new) ≡ false → has_room (look_up f root new) ≡ true
move_room f root old new full capacity fits other = fits (go (same_path (parent_of old) (parent_of new)) full capacity other)
  where
    go : (within full : Bool) → (full && not within) ≡ false → within ≡ false → full ≡ false
    go within false capacity other = refl
    go false true capacity other = absurd (true≢false capacity)
    go true true capacity other = absurd (true≢false other)

module _ (a : Moment) (old new : Path) (place : Place) (dir : Bool) (differ : same_path old new ≡ false) (dirs : dir ≡ is_dir_place place) where
  pub move_below : (b : Moment) (fault : Fault) → (fault ≡ Invalid) × ((dir && begins old new) ≡ true) → MoveRefused a b old new place fault
  move_below b fault told = inl (λ entry kind. below_refuses (machine_at a) old new entry differ (kind_below entry dir old new true (kind ∙ sym dirs) told.1) ∙ ap Some (sym told.0))

  pub move_target : (b : Moment) (fault : Fault) → (dir && begins old new) ≡ false → TargetRefused a b new dir fault → MoveRefused a b old new place fault
  move_target b fault beyond (inl told) =
      inl (λ entry kind. target_refuses (machine_at a) old new entry fault differ (kind_below entry dir old new false (kind ∙ sym dirs) beyond) (told entry (kind ∙ sym dirs)))
  move_target b fault beyond (inr why) = inr why

  -- what is refused or not after what stands at the new path
  pub move_then : (o : Option Fault) → (dir && begins old new) ≡ false → ((entry : Entry) → is_dir entry ≡ dir → target_refusal (working_tree (machine_at a)) new entry ≡ None) → move_refusal (machine_at a) old new ≡ o
      → (entry : Entry) → is_dir entry ≡ is_dir_place place → rename_refusal (machine_at a) old new entry ≡ o
  move_then o beyond allowed is entry kind =
      then_moves (machine_at a) old new entry differ (kind_below entry dir old new false (kind ∙ sym dirs) beyond) (allowed entry (kind ∙ sym dirs)) ∙ is

-- the depth of what a path leads to, in the tree that calls work on
module _ (a : Moment) (root : ℕ) (old new : Path) (place : Place) (m : IsMountedAt a) (is : working_root a.state.history a.state.group ≡ Some root) (led : leads (nodes_at a) (Dir root) old ≡ Some place) (short : length new ≤ 16) where
  depth_is : (deep : Bool) → is_too_deep (version_tree a root) old new ≡ deep → is_too_deep (working_tree (machine_at a)) old new ≡ deep
  depth_is deep told = ap (λ t. is_too_deep t old new) (working_tree_is a root is) ∙ told

  pub is_deep : IsDeeper (nodes_at a) place (16 - length new) → is_too_deep (working_tree (machine_at a)) old new ≡ true
  is_deep deeper = depth_is true (too_deep (capacity_at a) (nodes_at a) root old new place (working_stands a root m is).rooted led short deeper)

  pub is_shallow : IsShallow (nodes_at a) place (16 - length new) → is_too_deep (working_tree (machine_at a)) old new ≡ false
  is_shallow shallow = depth_is false ((depth_law (capacity_at a) (nodes_at a) root old new place (working_stands a root m is).rooted led short).1 shallow)

-- a depth of the nodes before
pub deeper_before : (f g : Blocks) (place : Place) (most : ℕ) → g ≡ f → IsDeeper g place most → IsDeeper f place most
deeper_before f g place most same deeper = subst (λ h. IsDeeper h place most) same deeper

pub shallow_before : (f g : Blocks) (place : Place) (most : ℕ) → g ≡ f → IsShallow g place most → IsShallow f place most
shallow_before f g place most same shallow = subst (λ h. IsShallow h place most) same shallow

-- open files are the same after reads
pub busy_before : (s t : State) (old new : Path) (busy : Bool) → t.files ≡ s.files → (is_open_within t.files old || is_open t.files new) ≡ busy → (is_open_within s.files old || is_open s.files new) ≡ busy
busy_before s t old new busy same told = subst (λ ds. (is_open_within ds old || is_open ds new) ≡ busy) same told

-- whether room is lacking, by what was looked up
pub room_is : (tree : Tree) (old new : Path) (full lacks : Bool) → full ≡ lacks_room tree new → (full && not (same_path (parent_of old) (parent_of new))) ≡ lacks → (lacks_room tree new && not (same_path (parent_of old) (parent_of new))) ≡ lacks
room_is tree old new full lacks is told = ap (λ b. b && not (same_path (parent_of old) (parent_of new))) (sym is) ∙ told

-- no path goes on below a file
pub file_shallow : (f : Blocks) (at : Place) (most head size : ℕ) → at ≡ File head size → IsShallow f at most
file_shallow f at most head size is = subst (λ p. IsShallow f p most) (sym is) below
  where
    below : IsShallow f (File head size) most
    below [] some = omega arith
    below (n ∷ path) some = absurd (true≢false (sym some))

-- The steps of an entry taken out of the tree that calls work on: an empty directory, and a file.
use Rattle.std.proofs.Common.{◌≡◌, ℕ, ◌<◌, Bool, true, false, Option, Some, None, Ok, List, [], ◌∷◌, length, refl, sym, ap, subst, ◌∙◌, inl, arith}
use Rattle.std.proofs.lemmas.List.{length-map}
use Rattle.std.specs.Prelude.{is_none, nat_lt, unwrap_or, if◌then◌else◌, ◌==◌}
use Rattle.fs_types.specs.Names.{Path, is_path}
use Rattle.plain_trees.specs.Trees.{Tree, remove, entry_count}
use Rattle.history_machine.specs.History.{working_root}
use Rattle.history_machine.specs.Machine.{refusal, found_refusal, unlink_refusal, rmdir_refusal}
use Rattle.history_machine.specs.Descriptors.{Descriptors, is_open}
use Rattle.fs_types.specs.declared.call.Call.{Call}
use Rattle.fs_types.specs.declared.call.Reply.{Reply}
use Rattle.fs_types.specs.declared.fault.Fault.TheVariants.{NotEmpty, Busy}
use Rattle.flash_model.specs.Device.{Device}
use Rattle.node_format.specs.Items.{Item}
use Rattle.node_store.specs.NodePages.{node_of}
use Rattle.nodes.specs.Bodies.{Blocks}
use Rattle.nodes.specs.Trees.{entries_in, is_dir_place}
use Rattle.nodes.proofs.RootMaps.{map_law}
use Rattle.directory.specs.declared.lookups.Found.{Found}
use Rattle.directory.specs.declared.lookups.Found.TheVariants as found
use Rattle.directory.specs.Lookups.{look_up}
use Rattle.directory.proofs.LookupLaws.{found_leads, rooted_leads}
use Rattle.working_state.specs.Moments.{Moment, machine_at, IsMountedAt, IsRefused, nodes_at, capacity_at, version_tree}
use Rattle.working_state.specs.Worked.{IsLooked}
use Rattle.working_state.proofs.LookNodes.{some_items, no_items}
use Rattle.working_state.proofs.ChangeSteps.{later_tree, way_some}
use Rattle.working_state.proofs.ChangedCalls.{IsChangeBy}
use Rattle.working_state.proofs.PathCalls.{working_tree_is, working_stands, LooksUp, found_by}

-- An empty directory.

pub rmdir_looks : (a : Moment) (path : Path) (root : ℕ) → IsMountedAt a → working_root a.state.history a.state.group ≡ Some root → (length path == 0) ≡ false → LooksUp a (Call.Rmdir path) root path (rmdir_refusal (version_tree a root) path)
rmdir_looks a path root m is below = record {
  rooted = (working_stands a root m is).rooted;
  begins = ap (λ b. is_none (if b then Some Busy else None)) below;
  by_path = ap (λ (t : Tree). if length path == 0 then Some Busy else found_refusal t path (rmdir_refusal t path)) (working_tree_is a root is)
      ∙ ap (λ b. if b then Some Busy else found_refusal (version_tree a root) path (rmdir_refusal (version_tree a root) path)) below;
}

-- the number of entries that was read
pub rmdir_count : (a : Moment) (path : Path) (root block : ℕ) (items : List Item) → IsMountedAt a → working_root a.state.history a.state.group ≡ Some root → look_up (nodes_at a) root path ≡ Ok (found.Dir block) → entries_in (nodes_at a) block ≡ Some items
    → entry_count (version_tree a root) path ≡ length items
rmdir_count a path root block items m is led spelled =
    ap length ((map_law (capacity_at a) (nodes_at a) root (working_stands a root m is).rooted).lists path block (found_leads (nodes_at a) root path block (rooted_leads (capacity_at a) (nodes_at a) root (working_stands a root m is).rooted) led))
    ∙ length-map (unwrap_or (entries_in (nodes_at a) block) []) (λ (item : Item). (item.name, is_dir_place item.place))
    ∙ ap (λ (o : Option (List Item)). length (unwrap_or o [])) spelled

-- what is refused for a directory of so many entries
pub rmdir_counted : (a : Moment) (e : Device) (path : Path) (root block : ℕ) (items : List Item) (x : Found) → IsMountedAt a → working_root a.state.history a.state.group ≡ Some root → (length path == 0) ≡ false → node_of e ≡ nodes_at a
    → look_up (nodes_at a) root path ≡ Ok x → x ≡ found.Dir block → entries_in (node_of e) block ≡ Some items
    → refusal (machine_at a) (Call.Rmdir path) ≡ (if nat_lt 0 (length items) then Some NotEmpty else None)
rmdir_counted a e path root block items x m is below same led called spelled =
    let dir : look_up (nodes_at a) root path ≡ Ok (found.Dir block) = subst (λ z. look_up (nodes_at a) root path ≡ Ok z) called led in
    let here : entries_in (nodes_at a) block ≡ Some items = ap (λ (g : Blocks). entries_in g block) (sym same) ∙ spelled in
    found_by a (Call.Rmdir path) root path (rmdir_refusal (version_tree a root) path) (rmdir_looks a path root m is below) x (found.Dir block) led called
    ∙ ap (λ n. if nat_lt 0 n then Some NotEmpty else None) (rmdir_count a path root block items m is dir here)

-- a directory with entries
pub rmdir_refuses : (a : Moment) (e : Device) (c : Moment) (path : Path) (root block : ℕ) (empty : Bool) (items : List Item) (x : Found) → IsMountedAt a → working_root a.state.history a.state.group ≡ Some root → (length path == 0) ≡ false → node_of e ≡ nodes_at a
    → look_up (nodes_at a) root path ≡ Ok x → x ≡ found.Dir block → entries_in (node_of e) block ≡ Some items → empty ≡ (length items == 0) → empty ≡ false
    → IsRefused a (Call.Rmdir path) NotEmpty c
rmdir_refuses a e c path root block empty items x m is below same led called spelled shows some =
    inl (rmdir_counted a e path root block items x m is below same led called spelled
    ∙ ap (λ b. if b then Some NotEmpty else None) (some_items empty items shows some))

-- the directory that a path led to has no entries
pub emptied : (f g h : Blocks) (path : Path) (root block : ℕ) (empty : Bool) (items : List Item) (x : Found) → g ≡ f → h ≡ g → look_up f root path ≡ Ok x → x ≡ found.Dir block → entries_in g block ≡ Some items → empty ≡ (length items == 0) → empty ≡ true
    → (b : ℕ) × (look_up h root path ≡ Ok (found.Dir b)) × (entries_in h b ≡ Some [])
emptied f g h path root block empty items x same again led called spelled shows none = (
  block,
  subst (λ k. look_up k root path ≡ Ok (found.Dir block)) (sym (again ∙ same)) (subst (λ z. look_up f root path ≡ Ok z) called led),
  ap (λ (k : Blocks). entries_in k block) again ∙ spelled ∙ ap Some (no_items empty items shows none),
)

pub rmdir_accepts : (a : Moment) (e : Device) (path : Path) (root block : ℕ) (empty : Bool) (items : List Item) (x : Found) → IsMountedAt a → working_root a.state.history a.state.group ≡ Some root → (length path == 0) ≡ false → node_of e ≡ nodes_at a
    → look_up (nodes_at a) root path ≡ Ok x → x ≡ found.Dir block → entries_in (node_of e) block ≡ Some items → empty ≡ (length items == 0) → empty ≡ true
    → refusal (machine_at a) (Call.Rmdir path) ≡ None
rmdir_accepts a e path root block empty items x m is below same led called spelled shows none =
    rmdir_counted a e path root block items x m is below same led called spelled
    ∙ ap (λ (all : List Item). if nat_lt 0 (length all) then Some NotEmpty else None) (no_items empty items shows none)

pub rmdir_change : (a b : Moment) (path : Path) → IsMountedAt a → IsLooked a b → refusal (machine_at a) (Call.Rmdir path) ≡ None → is_path path ≡ true → 0 < length path
    → IsChangeBy a (Call.Rmdir path) (λ root. remove (version_tree b root) path) Reply.Empty
rmdir_change a b path m l fine lawful below = record {
  fine = fine;
  after = λ root is. ap (λ (x : Tree). Some (remove x path)) (later_tree a b root m is l);
  heavy = refl;
  moves = refl;
  paths = lawful;
  more = λ capacity. way_some (machine_at a) (Call.Rmdir path) path below;
  replies = λ space. refl;
}

-- A file.

pub file_below : (f : Blocks) (root : ℕ) (path : Path) (head size : ℕ) → look_up f root path ≡ Ok (found.File head size) → 0 < length path
file_below f root [] head size e = absurd cc
file_below f root (n ∷ path) head size e = omega arith

pub unlink_looks : (a : Moment) (path : Path) (root : ℕ) → IsMountedAt a → working_root a.state.history a.state.group ≡ Some root → LooksUp a (Call.Unlink path) root path (unlink_refusal (machine_at a) path)
unlink_looks a path root m is = record {
  rooted = (working_stands a root m is).rooted;
  begins = refl;
  by_path = ap (λ (t : Tree). found_refusal t path (unlink_refusal (machine_at a) path)) (working_tree_is a root is);
}

-- a file that is open or not
pub unlink_found : (a : Moment) (files : Descriptors) (path : Path) (root head size : ℕ) (x : Found) (busy : Bool) → IsMountedAt a → working_root a.state.history a.state.group ≡ Some root → files ≡ a.state.files → look_up (nodes_at a) root path ≡ Ok x → x ≡ found.File head size
    → is_open files path ≡ busy → refusal (machine_at a) (Call.Unlink path) ≡ (if busy then Some Busy else None)
unlink_found a files path root head size x busy m is same led called told =
    found_by a (Call.Unlink path) root path (unlink_refusal (machine_at a) path) (unlink_looks a path root m is) x (found.File head size) led called
    ∙ ap (λ b. if b then Some Busy else None) (ap (λ (ds : Descriptors). is_open ds path) (sym same) ∙ told)

pub unlink_change : (a b : Moment) (path : Path) → IsMountedAt a → IsLooked a b → refusal (machine_at a) (Call.Unlink path) ≡ None → is_path path ≡ true → 0 < length path
    → IsChangeBy a (Call.Unlink path) (λ root. remove (version_tree b root) path) Reply.Empty
unlink_change a b path m l fine lawful below = record {
  fine = fine;
  after = λ root is. ap (λ (x : Tree). Some (remove x path)) (later_tree a b root m is l);
  heavy = refl;
  moves = refl;
  paths = lawful;
  more = λ capacity. way_some (machine_at a) (Call.Unlink path) path below;
  replies = λ space. refl;
}

-- The step of a new directory.
use Rattle.std.proofs.Common.{◌≡◌, ℕ, Bool, true, false, Option, Some, None, Ok, Err, [], ◌∷◌, length, refl, sym, ap, ◌∙◌, inl, inr, arith}
use Rattle.std.proofs.lemmas.Bool.{cases_Bool, ne_eqb}
use Rattle.std.specs.Prelude.{if◌then◌else◌, ◌==◌}
use Rattle.std.specs.Option.{option_or, is_some, is_none}
use Rattle.std.specs.FinMap.{get}
use Rattle.fs_types.specs.Names.{Name, Path, is_path}
use Rattle.plain_trees.specs.Contents.{Contents, Entry, parent_of, lookup_refusal}
use Rattle.plain_trees.specs.Trees.{Tree, put, is_full}
use Rattle.history_machine.specs.History.{working_root}
use Rattle.history_machine.specs.Machine.{refusal}
use Rattle.fs_types.specs.declared.call.Call.{Call}
use Rattle.fs_types.specs.declared.call.Reply.{Reply}
use Rattle.fs_types.specs.declared.fault.Fault.{Fault}
use Rattle.fs_types.specs.declared.fault.Fault.TheVariants.{Exists, DirectoryFull}
use Rattle.nodes.specs.Bodies.{Blocks, body}
use Rattle.nodes.specs.Trees.{tree, root_tree, IsRoot}
use Rattle.nodes.proofs.RootMaps.{map_law, full_directory}
use Rattle.directory.specs.declared.lookups.Found.{Found}
use Rattle.directory.specs.declared.lookups.Found.TheVariants as found
use Rattle.directory.specs.Lookups.{look_up, found_entry, is_path_fault, IsLookupFault}
use Rattle.directory.proofs.LookupLaws.{found_is, missing_parent, refused_is, rooted_leads}
use Rattle.working_state.specs.Moments.{Moment, machine_at, seen_at, IsMountedAt, IsRefused, nodes_at, capacity_at, version_tree}
use Rattle.working_state.specs.Worked.{IsLooked, WorkCause}
use Rattle.working_state.proofs.ChangeSteps.{later_tree}
use Rattle.working_state.proofs.ChangedCalls.{IsChangeBy}
use Rattle.working_state.proofs.PathCalls.{working_tree_is, working_stands}
use Rattle.working_state.proofs.Refusals.{read_refuses}

-- Refusals.

-- why no directory is made at a path below the root, by what path resolution and the tree say
abbrev below_refusal : Option Fault → Option Entry → Bool → Option Fault
below_refusal refused there full = option_or refused (if is_some there then Some Exists else if full then Some DirectoryFull else None)

abbrev path_refusal : Path → Option Fault → Option Entry → Bool → Option Fault
path_refusal path refused there full = if length path == 0 then Some Exists else below_refusal refused there full

mkdir_at : (a : Moment) (path : Path) (root : ℕ) → IsMountedAt a → working_root a.state.history a.state.group ≡ Some root
    → refusal (machine_at a) (Call.Mkdir path)
    ≡ path_refusal path (lookup_refusal (tree (capacity_at a) (nodes_at a) root) path) (tree (capacity_at a) (nodes_at a) root path) (is_full (version_tree a root) (parent_of path))
mkdir_at a path root m is =
    ap (λ t. path_refusal path (lookup_refusal (get t) path) (get t path) (is_full t (parent_of path))) (working_tree_is a root is)
    ∙ ap (λ (t : Contents). path_refusal path (lookup_refusal t path) (t path) (is_full (version_tree a root) (parent_of path)))
    (map_law (capacity_at a) (nodes_at a) root (working_stands a root m is).rooted).same

-- why no directory is made where a look up found this
abbrev pub found_refuses : Found → Option Fault
found_refuses (found.Missing full) = if full then Some DirectoryFull else None
found_refuses (found.File head size) = Some Exists
found_refuses (found.Dir block) = Some Exists

some_names : (n : Name) (path : Path) → (length (n ∷ path) == 0) ≡ false
some_names n path = ne_eqb (length (n ∷ path)) 0 (λ none. omega arith)

same_when_there : (path : Path) (entry : Entry) (full : Bool) → path_refusal path None (Some entry) full ≡ Some Exists
same_when_there path entry full = go (length path == 0)
  where
    go : (b : Bool) → (if b then Some Exists else Some Exists) ≡ Some Exists
    go true = refl
    go false = refl

missing_refuses : (capacity : ℕ) (f : Blocks) (root : ℕ) (path : Path) (full : Bool) → IsRoot capacity f root → look_up f root path ≡ Ok (found.Missing full)
    → path_refusal path None None (is_full (root_tree capacity f root) (parent_of path)) ≡ found_refuses (found.Missing full)
missing_refuses capacity f root [] full is e = absurd cc
missing_refuses capacity f root (n ∷ path) full is e =
    let parent = missing_parent f root (n ∷ path) full (rooted_leads capacity f root is) e in
    ap (λ b. if b then Some Exists else below_refusal None None (is_full (root_tree capacity f root) (parent_of (n ∷ path)))) (some_names n path)
    ∙ ap (λ b. if b then Some DirectoryFull else None) (full_directory capacity f root (parent_of (n ∷ path)) parent.0 is parent.1 ∙ sym parent.2)

mkdir_found : (a : Moment) (path : Path) (root : ℕ) (x : Found) → IsMountedAt a → working_root a.state.history a.state.group ≡ Some root → look_up (nodes_at a) root path ≡ Ok x
    → refusal (machine_at a) (Call.Mkdir path) ≡ found_refuses x
mkdir_found a path root x m is e =
    let law = found_is (capacity_at a) (nodes_at a) root path x (rooted_leads (capacity_at a) (nodes_at a) root (working_stands a root m is).rooted) e in
    mkdir_at a path root m is
    ∙ ap (λ o. path_refusal path o (tree (capacity_at a) (nodes_at a) root path) (is_full (version_tree a root) (parent_of path))) law.0
    ∙ ap (λ o. path_refusal path None o (is_full (version_tree a root) (parent_of path))) law.1
    ∙ go x e
  where
    go : (x : Found) → look_up (nodes_at a) root path ≡ Ok x → path_refusal path None (found_entry (capacity_at a) (nodes_at a) x) (is_full (version_tree a root) (parent_of path)) ≡ found_refuses x
    go (found.Missing full) e = missing_refuses (capacity_at a) (nodes_at a) root path full (working_stands a root m is).rooted e
    go (found.File head size) e = same_when_there path (Entry.File (body (capacity_at a) (nodes_at a) head size)) (is_full (version_tree a root) (parent_of path))
    go (found.Dir block) e = same_when_there path Entry.Dir (is_full (version_tree a root) (parent_of path))

told_refuses : (f : Blocks) (root : ℕ) (path : Path) (fault : Fault) (there : Option Entry) (full : Bool) → look_up f root path ≡ Err fault → path_refusal path (Some fault) there full ≡ Some fault
told_refuses f root [] fault there full e = absurd cc
told_refuses f root (n ∷ path) fault there full e = ap (λ b. if b then Some Exists else Some fault) (some_names n path)

mkdir_told : (a : Moment) (path : Path) (root : ℕ) (fault : Fault) → IsMountedAt a → working_root a.state.history a.state.group ≡ Some root → look_up (nodes_at a) root path ≡ Err fault
    → refusal (machine_at a) (Call.Mkdir path) ≡ Some fault
mkdir_told a path root fault m is e =
    let there = tree (capacity_at a) (nodes_at a) root path in
    let full = is_full (version_tree a root) (parent_of path) in
    mkdir_at a path root m is
    ∙ ap (λ o. path_refusal path o there full) (refused_is (capacity_at a) (nodes_at a) root path fault (working_stands a root m is).rooted e)
    ∙ told_refuses (nodes_at a) root path fault there full e

-- a look up that was refused, by whether the nodes tell of it
pub mkdir_fault : (a b : Moment) (path : Path) (root : ℕ) (fault : Fault) → IsMountedAt a → working_root a.state.history a.state.group ≡ Some root → (length path == 0) ≡ false
    → (is_path_fault fault ≡ true → look_up (nodes_at a) root path ≡ Err fault)
    → (is_path_fault fault ≡ false → WorkCause (seen_at a) fault (seen_at b)) → IsLookupFault fault
    → IsRefused a (Call.Mkdir path) fault b
mkdir_fault a b path root fault m is below refused why lookup = elim (cases_Bool (is_path_fault fault)) [
  | inl told ↦ inl (mkdir_told a path root fault m is (refused told))
  | inr other ↦ inr (read_refuses (seen_at a) (seen_at b) (machine_at a) (Call.Mkdir path) fault (ap (λ b. is_none (if b then Some Exists else None)) below) other lookup (why other))
]

-- what is refused or not for what was found, which is also called `y`
pub mkdir_by : (a : Moment) (path : Path) (root : ℕ) (x y : Found) → IsMountedAt a → working_root a.state.history a.state.group ≡ Some root → look_up (nodes_at a) root path ≡ Ok x → x ≡ y
    → refusal (machine_at a) (Call.Mkdir path) ≡ found_refuses y
mkdir_by a path root x y m is e same = mkdir_found a path root x m is e ∙ ap found_refuses same

pub mkdir_refuses : (a b : Moment) (path : Path) (root : ℕ) (x y : Found) (fault : Fault) → IsMountedAt a → working_root a.state.history a.state.group ≡ Some root
    → look_up (nodes_at a) root path ≡ Ok x → x ≡ y → found_refuses y ≡ Some fault
    → IsRefused a (Call.Mkdir path) fault b
mkdir_refuses a b path root x y fault m is led same refused = inl (mkdir_by a path root x y m is led same ∙ refused)

-- A directory that is made.

pub mkdir_change : (a b : Moment) (path : Path) → IsMountedAt a → IsLooked a b → refusal (machine_at a) (Call.Mkdir path) ≡ None → is_path path ≡ true
    → IsChangeBy a (Call.Mkdir path) (λ root. put (version_tree b root) path Entry.Dir) Reply.Empty
mkdir_change a b path m l fine lawful = record {
  fine = fine;
  after = λ root is. ap (λ (x : Tree). Some (put x path Entry.Dir)) (later_tree a b root m is l);
  heavy = refl;
  moves = refl;
  paths = lawful;
  more = λ capacity. omega arith;
  replies = λ space. refl;
}

-- The law of updates.
use Rattle.std.specs.Prelude.{◌≡◌, ◌≢◌, ◌⊎◌, ℕ, Bool, true, Some, None, IsSome, List, [], ◌∷◌, ◌++◌, All, Contains, map}
use Rattle.std.specs.FinMap.{get}
use Rattle.fs_types.specs.Names.{Path}
use Rattle.fs_types.specs.declared.call.Call.{Call}
use Rattle.plain_trees.specs.Contents.{Entry, begins}
use Rattle.plain_trees.specs.Trees.{Tree, IsFileTree, move}
use Rattle.history_machine.specs.Descriptors.{none_open}
use Rattle.history_machine.specs.History.{Past, IsLawful, changed}
use Rattle.history_machine.specs.Machine.{Machine, IsMachine, machine_with, mounted, present_tree, refusal, next, after}
use Rattle.tree_differences.specs.Updates.{edit_changes, edit_paths, goes, patch_calls, update_calls}

-- each call is accepted, one after the other
abbrev pub EachAccepted : Machine → List Call → Type 0
EachAccepted m [] = Unit {0}
EachAccepted m (call ∷ calls) = (refusal m call ≡ None) × EachAccepted (next m call) calls

-- a tree has what the new one has at each path at which that differs from the old one, and elsewhere what was there before
pub record IsUpdated (old new was now : Tree) : Type 0 where
  pub differing : (path : Path) → get old path ≢ get new path → get now path ≡ get new path
  pub others : (path : Path) → get old path ≡ get new path → get now path ≡ get was path

-- the calls of an update, where each is accepted: they update the present tree, and make one version at most, and none where the
-- two trees are one
pub record Updates (old new : Tree) (m n : Machine) : Type 0 where
  pub tree : IsUpdated old new (present_tree m) (present_tree n)
  pub version : (n.history ≡ m.history) ⊎ ((t : Tree) × (n.history ≡ changed m.history t))
  pub none : old ≡ new → n.history ≡ m.history
  -- no group and no file is open then
  pub rests : n ≡ mounted n.history

abbrev pub UpdateLaw : Type 0
UpdateLaw = (old new : Tree) (m : Machine) → IsFileTree old → IsFileTree new → IsMachine m
    → EachAccepted m (update_calls old new) → Updates old new m (after m (update_calls old new))

-- a tree has the old one's bytes in each file of which the new one has others
abbrev pub HasOld : Tree → Tree → Tree → Type 0
HasOld old new t = (path : Path) (bytes others : List ℕ) → get old path ≡ Some (Entry.File bytes) → get new path ≡ Some (Entry.File others) → bytes ≢ others → get t path ≡ Some (Entry.File bytes)

-- the same of an update that writes of each file only what differs, where the present tree has what it is to differ from
abbrev pub PatchLaw : Type 0
PatchLaw = (old new : Tree) (m : Machine) → IsFileTree old → IsFileTree new → IsMachine m → HasOld old new (present_tree m)
    → EachAccepted m (patch_calls old new) → Updates old new m (after m (patch_calls old new))

-- a history with a change group that has a tree, where no file is open
abbrev pub grouped : Past Tree → Tree → Bool → Machine
grouped h t due = machine_with h (Some (record { root = t; is_due = due })) none_open

-- whether a version is due after calls, each of which changes something
abbrev pub due_after : List Call → Bool → Bool
due_after [] due = due
due_after (call ∷ calls) due = true

-- calls that bring a tree to another one: where a change group has the first and each is accepted, it has the second then
pub record Brings (old new : Tree) (calls : List Call) : Type 0 where
  pub leads : (h : Past Tree) (due : Bool) → IsLawful h → EachAccepted (grouped h old due) calls → after (grouped h old due) calls ≡ grouped h new (due_after calls due)

-- the changes that keep of each file what they can bring the one tree to the other
abbrev pub EditLaw : Type 0
EditLaw = (old new : Tree) → IsFileTree old → IsFileTree new → Brings old new (edit_changes old new)

-- lists of paths have each path at which two trees differ: the one where the old tree has something there, the other where the new one has
pub record Covers (old new : Tree) (olds news : List Path) : Type 0 where
  pub from_old : (path : Path) → get old path ≢ get new path → IsSome (get old path) → Contains olds path
  pub from_new : (path : Path) → get old path ≢ get new path → IsSome (get new path) → Contains news path

-- so do those at some paths, where these have each at which the two differ
abbrev pub CoverLaw : Type 0
CoverLaw = (old new : Tree) (olds news : List Path) → Covers old new olds news → Brings old new (edit_paths old new olds news)

-- calls one after the other bring a tree to the last one, and none leave it
pub record JoinLaw : Type 0 where
  pub none : (t : Tree) → Brings t t []
  pub both : (old between new : Tree) (first second : List Call) → Brings old between first → Brings between new second → Brings old new (first ++ second)

-- a rename moves what stands at one path to another one
abbrev pub OneRenameLaw : Type 0
OneRenameLaw = (t : Tree) (old new : Path) → old ≢ new → Brings t (move t old new) (Call.Rename old new ∷ [])

-- what stands at the first path of each pair is moved to the second one, in order
abbrev pub moved_by : Tree → List (Path × Path) → Tree
moved_by t [] = t
moved_by t (one ∷ moves) = moved_by (move t one.0 one.1) moves

-- the calls that do it
abbrev pub renames : List (Path × Path) → List Call
renames moves = map (λ one. Call.Rename one.0 one.1) moves

-- what stands at a path moves to another one: at the first nothing of its kind is left, and at the second nothing of its kind stood
pub record IsMoved (old new : Tree) (from to : Path) : Type 0 where
  pub apart : from ≢ to
  pub gone : goes (get old from) (get new from) ≡ true
  pub come : goes (get new to) (get old to) ≡ true

-- of what stands somewhere after moves a list has each path of another list, and all that moved
pub record StillCovers (now : Tree) (moves : List (Path × Path)) (olds rest : List Path) : Type 0 where
  pub others : (path : Path) → Contains olds path → IsSome (get now path) → Contains rest path
  pub moved : (one : Path × Path) (path : Path) → Contains moves one → begins one.1 path ≡ true → IsSome (get now path) → Contains rest path

-- renames, and then the changes at paths that cover what differs still, bring a tree to the other one
abbrev pub RenamesLaw : Type 0
RenamesLaw = (old new : Tree) (moves : List (Path × Path)) (olds news rest : List Path) → IsFileTree old → IsFileTree new → Covers old new olds news
    → All (λ one. IsMoved old new one.0 one.1) moves → StillCovers (moved_by old moves) moves olds rest → Brings old new (renames moves ++ edit_paths (moved_by old moves) new rest news)

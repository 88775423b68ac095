-- The directories that an edit writes anew have no more nodes than the call needs that makes it.
use Rattle.std.proofs.Common.{◌≡◌, ℕ, ◌+◌, ◌≤◌, true, false, Option, Some, List, ap, ◌∙◌, arith}
use Rattle.std.specs.Prelude.{unwrap_or}
use Rattle.std.specs.Option.{is_some}
use Rattle.fs_types.specs.Names.{Path}
use Rattle.plain_trees.specs.Contents.{Entry, Apart}
use Rattle.plain_trees.specs.Trees.{Tree, put, remove, move, path_need}
use Rattle.history_machine.specs.History.{working_root}
use Rattle.history_machine.specs.Machine.{working_tree, way_need}
use Rattle.fs_types.specs.declared.call.Call.{Call}
use Rattle.fs_types.specs.declared.call.Reply.{Reply}
use Rattle.nodes.specs.Trees.{IsRoot}
use Rattle.directory.specs.Counts.{path_nodes, move_nodes}
use Rattle.directory.specs.Trails.{IsTrail}
use Rattle.tree_edits.specs.Edits.{IsMovable}
use Rattle.node_format.specs.declared.place.Place.{Place}
use Rattle.tree_edits.proofs.NeedLaws.{put_few, taken_few, move_few}
use Rattle.working_state.specs.Moments.{Moment, machine_at, IsMountedAt, nodes_at, capacity_at, version_tree}
use Rattle.working_state.specs.Worked.{IsLooked}
use Rattle.working_state.proofs.ChangedCalls.{IsChangeBy}
use Rattle.working_state.proofs.ChangeSteps.{later_stands, later_tree}

-- the way of a call, by the trees before it and after it as the flash shows them after a look
pub way_at : (a b : Moment) (call : Call) (made : ℕ → Tree) (reply : Reply) (root : ℕ) (path : Path) → IsMountedAt a → working_root a.state.history a.state.group ≡ Some root → IsLooked a b → IsChangeBy a call made reply
    → way_need (machine_at a) call path ≡ path_need (version_tree b root) (made root) path
way_at a b call made reply root path m is l by =
    ap (λ (o : Option Tree). path_need (working_tree (machine_at a)) (unwrap_or o (working_tree (machine_at a))) path) (by.after root is)
    ∙ ap (λ (t : Tree). path_need t (made root) path) (later_tree a b root m is l)

pub looked_rooted : (a b : Moment) (root : ℕ) → IsMountedAt a → working_root a.state.history a.state.group ≡ Some root → IsLooked a b → IsRoot (capacity_at b) (nodes_at b) root
looked_rooted a b root m is l = (later_stands a b root m is l).rooted

-- what is put at a path
pub put_way : (a b : Moment) (call : Call) (x : ℕ → Entry) (reply : Reply) (root : ℕ) (path : Path) (trail : List ℕ) → IsMountedAt a → working_root a.state.history a.state.group ≡ Some root → IsLooked a b
    → IsChangeBy a call (λ r. put (version_tree b r) path (x r)) reply → IsTrail (nodes_at b) root path trail → path_nodes (nodes_at b) trail path true 0 ≤ way_need (machine_at a) call path
put_way a b call x reply root path trail m is l by way =
    let same = way_at a b call (λ r. put (version_tree b r) path (x r)) reply root path m is l by in
    let few = put_few (capacity_at b) (nodes_at b) root (looked_rooted a b root m is l) path trail (x root) way in
    omega (arith, same, few)

-- what is taken out
pub taken_way : (a b : Moment) (call : Call) (reply : Reply) (root : ℕ) (path : Path) (trail : List ℕ) → IsMountedAt a → working_root a.state.history a.state.group ≡ Some root → IsLooked a b
    → IsChangeBy a call (λ r. remove (version_tree b r) path) reply → IsTrail (nodes_at b) root path trail → path_nodes (nodes_at b) trail path false 0 ≤ way_need (machine_at a) call path
taken_way a b call reply root path trail m is l by way =
    let same = way_at a b call (λ r. remove (version_tree b r) path) reply root path m is l by in
    let few = taken_few (capacity_at b) (nodes_at b) root (looked_rooted a b root m is l) (remove (version_tree b root) path) path trail way in
    omega (arith, same, few)

-- what is moved
pub move_way : (a b : Moment) (call : Call) (reply : Reply) (root : ℕ) (old : Path) (old_trail : List ℕ) (new : Path) (new_trail : List ℕ) (place : Place) → IsMountedAt a → working_root a.state.history a.state.group ≡ Some root → IsLooked a b
    → IsChangeBy a call (λ r. move (version_tree b r) old new) reply → Apart old new → IsMovable (nodes_at b) root old old_trail new new_trail place
    → move_nodes (nodes_at b) old_trail old new_trail new ≤ way_need (machine_at a) call old + way_need (machine_at a) call new
move_way a b call reply root old old_trail new new_trail place m is l by apart movable =
    let first = way_at a b call (λ r. move (version_tree b r) old new) reply root old m is l by in
    let second = way_at a b call (λ r. move (version_tree b r) old new) reply root new m is l by in
    let few = move_few (capacity_at b) (nodes_at b) root (looked_rooted a b root m is l) old new old_trail new_trail apart movable.old_way movable.new_way (ap is_some movable.stands) in
    omega (arith, first, second, few)

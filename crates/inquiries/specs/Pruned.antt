-- What stands in a tree where another one may have something else.
use Rattle.std.specs.Prelude.{◌≡◌, ℕ, Bool, false, Some, List, filter}
use Rattle.std.specs.FinMap.{get}
use Rattle.fs_types.specs.Names.{Path}
use Rattle.fs_types.specs.declared.call.View.{View}
use Rattle.flash_model.specs.Device.{Device}
use Rattle.history_machine.specs.History.{seen_root}
use Rattle.history_machine.specs.Machine.{view_tree}
use Rattle.node_store.specs.NodePages.{node_of}
use Rattle.plain_trees.specs.Trees.{Tree}
use Rattle.tree_differences.specs.Differing.{differs_at, differing_paths}
use Rattle.working_state.specs.Seen.{machine_on}
use Rattle.working_state.specs.declared.state.State.{State}
use Rattle.inquiries.specs.Items.{items_of}
use Rattle.inquiries.specs.declared.items.Item.{Item}

-- two views show these roots
pub record ShowBoth (s : State) (view other : View) (root beside : ℕ) : Type 0 where
  pub first : seen_root s.history s.group view ≡ Some root
  pub second : seen_root s.history s.group other ≡ Some beside

-- the paths of the tree of a view at which its root leads elsewhere than that of another one
pub record AreElsewhere (d : Device) (s : State) (view other : View) (paths : List Path) : Type 0 where
  pub root : ℕ
  pub beside : ℕ
  pub shown : ShowBoth s view other root beside
  pub are : paths ≡ differing_paths (node_of d) root beside (view_tree (machine_on d s) view)

-- what stands at these
pub record IsElsewhere (d : Device) (s : State) (view other : View) (items : List Item) : Type 0 where
  pub root : ℕ
  pub beside : ℕ
  pub shown : ShowBoth s view other root beside
  pub are : items ≡ filter (λ item. differs_at (node_of d) root beside item.path) (items_of (view_tree (machine_on d s) view))

-- of what stands in a tree, what a test keeps: at each path that it does not keep another tree has the same
pub record IsPruned (t other : Tree) (items : List Item) : Type 0 where
  pub keeps : Path → Bool
  pub alike : (path : Path) → keeps path ≡ false → get t path ≡ get other path
  pub are : items ≡ filter (λ item. keeps item.path) (items_of t)

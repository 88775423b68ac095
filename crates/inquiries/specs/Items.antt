-- All that stands in a tree.
use Rattle.std.specs.Prelude.{◌≡◌, ◌++◌, ◌-◌, zero, suc, ℕ, map, Some, None, IsSome, List, [], ◌∷◌, if◌then◌else◌}
use Rattle.std.specs.FinMap.{get}
use Rattle.std.specs.List.{flat_map}
use Rattle.fs_types.specs.Names.{Name, Path}
use Rattle.fs_types.specs.declared.call.Stat.{Stat}
use Rattle.fs_types.specs.declared.call.View.{View}
use Rattle.fs_types.specs.declared.limits.TheConstants.{MAX_NAMES}
use Rattle.plain_trees.specs.Contents.{Entry}
use Rattle.plain_trees.specs.Trees.{Tree, children, bytes_of_file}
use Rattle.history_machine.specs.History.{view_refusal}
use Rattle.history_machine.specs.Machine.{Machine, view_tree, stat_of, with_stat}
use Rattle.inquiries.specs.declared.items.Item.{Item}

-- what stands at a path
abbrev pub item_at : Tree → Path → Item
item_at t path = record { path = path; stat = stat_of t path (get t path) }

-- the entries of a directory, each with what stands there
abbrev pub all_entries : Tree → Path → List (Name × Stat)
all_entries t path = map (with_stat t path) (children t path)

-- how many levels are left below what stands there: nothing stands below a file
abbrev pub levels_below : Stat → ℕ → ℕ
levels_below (Stat.Dir count) levels = levels - 1
levels_below (Stat.File size) levels = 0

-- what stands below a directory, in so many levels: its entries in byte order of their names, each before what stands below it
unfoldable pub items_below : Tree → ℕ → Path → List Item
items_below t zero directory = []
items_below t (suc levels) directory = flat_map (λ entry. item_at t (directory ++ entry.0 ∷ []) ∷ (if entry.1 then items_below t levels (directory ++ entry.0 ∷ []) else [])) (children t directory)

-- what stands below the root: no path has more names
abbrev pub items_of : Tree → List Item
items_of t = items_below t MAX_NAMES []

-- what is listed at a path by what stands there: the entries of a directory, or the file alone
abbrev pub items_by : Tree → Path → Stat → List Item
items_by t path (Stat.Dir count) = items_below t 1 path
items_by t path (Stat.File size) = item_at t path ∷ []

abbrev pub items_at : Tree → Path → List Item
items_at t path = items_by t path (stat_of t path (get t path))

-- an item is what stands in a tree
pub record IsItemOf (t : Tree) (item : Item) : Type 0 where
  pub there : IsSome (get t item.path)
  pub stat : item.stat ≡ stat_of t item.path (get t item.path)

-- a view is there, and a directory of its tree stands at the path
pub record IsDirectoryOf (m : Machine) (view : View) (path : Path) : Type 0 where
  pub accepted : view_refusal m.history view ≡ None
  pub there : get (view_tree m view) path ≡ Some Entry.Dir

-- a view is there, and a file of its tree stands at the path
pub record IsFileOf (m : Machine) (view : View) (path : Path) : Type 0 where
  pub accepted : view_refusal m.history view ≡ None
  pub there : get (view_tree m view) path ≡ Some (Entry.File (bytes_of_file (view_tree m view) path))

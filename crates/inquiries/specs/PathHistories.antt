-- What stood at a path in each version where that is other than in the version before, and in each checkpoint.
use Rattle.std.specs.Prelude.{ℕ, Bool, true, false, not, ◌||◌, ◌-◌, ◌==◌, Option, Some, None, is_some, List, [], ◌++◌, length, map, get_or, codes, decimal, if◌then◌else◌}
use Rattle.std.specs.FinMap.{get}
use Rattle.std.specs.List.{flat_map, enumerate_from, list_any}
use Rattle.std.specs.Str.{bytes_eq}
use Rattle.fs_types.specs.Names.{Path}
use Rattle.fs_types.specs.declared.call.Stat.{Stat}
use Rattle.fs_types.specs.declared.call.View.{View}
use Rattle.fs_types.specs.declared.fault.Fault.{Fault}
use Rattle.fs_types.specs.declared.fault.Fault.TheVariants.{NoEntry}
use Rattle.plain_trees.specs.Contents.{Entry}
use Rattle.plain_trees.specs.Trees.{Tree}
use Rattle.history_machine.specs.Machine.{Machine, view_tree}
use Rattle.script.specs.Replies.{escaped}
use Rattle.inquiries.specs.Counterparts.{stat_there}
use Rattle.inquiries.specs.Differences.{difference_below}
use Rattle.inquiries.specs.Folders.{IsSmall}
use Rattle.inquiries.specs.Items.{items_of}
use Rattle.inquiries.specs.Versions.{kept_serials, kept_names}

-- the versions, the oldest first, and then the checkpoints, in byte order of their names
abbrev pub kept_views : Machine → List View
kept_views m = map View.Serial (kept_serials m) ++ map View.Checkpoint (kept_names m)

-- something stands at the path of a view
abbrev pub is_there : Machine → Path → View → Bool
is_there m path view = is_some (get (view_tree m view) path)

-- a path at which nothing stands in any of these views
abbrev pub nowhere_in : Machine → Path → List View → Option Fault
nowhere_in m path views = if list_any (is_there m path) views then None else Some NoEntry

-- how many entries have to be looked at in a tree by what stands at the path: all, where that is a directory
abbrev pub looked_below : Tree → Option Entry → ℕ
looked_below t (Some Entry.Dir) = length (items_of t)
looked_below t _ = 0

abbrev pub looked_at : Machine → Path → View → ℕ
looked_at m path view = looked_below (view_tree m view) (get (view_tree m view) path)

-- such a tree is small enough that all of it is read
abbrev pub IsSmallBelow : Tree → Option Entry → Type 0
IsSmallBelow t (Some Entry.Dir) = IsSmall t
IsSmallBelow t _ = Unit {0}

abbrev pub IsSmallAt : Machine → Path → View → Type 0
IsSmallAt m path view = IsSmallBelow (view_tree m view) (get (view_tree m view) path)

-- whether one of these is other than the other: of another kind, a file with other bytes, or a directory below which something
-- differs
abbrev pub is_other : Bool → Option Entry → Option Entry → Bool
is_other differs None None = false
is_other differs (Some Entry.Dir) (Some Entry.Dir) = differs
is_other differs (Some (Entry.File bytes)) (Some (Entry.File others)) = not (bytes_eq bytes others)
is_other differs _ _ = true

-- whether a text has bytes
abbrev pub is_filled : List ℕ → Bool
is_filled text = not (length text == 0)

-- whether something else stands at a path of one tree than of the other, or below it
abbrev pub is_changed : Tree → Tree → Path → Bool
is_changed old new path = is_other (is_filled (difference_below old new path)) (get old path) (get new path)

abbrev pub is_checkpoint : View → Bool
is_checkpoint (View.Checkpoint name) = true
is_checkpoint _ = false

-- whether the view at a place has a line: the first version, each that changed what stands there, and each checkpoint
abbrev pub is_told : Machine → Path → ℕ → View → Bool
is_told m path place view = (place == 0) || (is_checkpoint view || is_changed (view_tree m (get_or (kept_views m) (place - 1) View.Present)) (view_tree m view) path)

-- a version by its serial, with `*` before the present one, or a checkpoint by its name
abbrev pub view_text : Bool → View → List ℕ
view_text is_present View.Present = []
view_text is_present (View.Serial serial) = (if is_present then codes "*" else []) ++ decimal serial
view_text is_present (View.Checkpoint name) = codes "=" ++ escaped name

-- what stands there
abbrev pub state_text : Option Stat → List ℕ
state_text None = codes " none\n"
state_text (Some (Stat.Dir entries)) = codes " dir " ++ decimal entries ++ codes "\n"
state_text (Some (Stat.File bytes)) = codes " file " ++ decimal bytes ++ codes "\n"

abbrev pub state_line : Machine → Path → Bool → View → List ℕ
state_line m path is_present view = view_text is_present view ++ state_text (stat_there (view_tree m view) path)

-- the line of a view at its place, if it has one
abbrev pub history_line : Machine → Path → ℕ × View → List ℕ
history_line m path row = if is_told m path row.0 row.1 then state_line m path (row.0 == m.history.cursor) row.1 else []

abbrev pub history_lines : Machine → Path → List ℕ
history_lines m path = flat_map (history_line m path) (enumerate_from 0 (kept_views m))

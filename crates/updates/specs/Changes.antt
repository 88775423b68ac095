-- The calls of an update for what stands in two trees.
use Rattle.std.specs.Prelude.{ℕ, Option, List, Some, [], ◌∷◌, ◌++◌, map}
use Rattle.std.specs.FinMap.{get}
use Rattle.fs_types.specs.Names.{Path}
use Rattle.fs_types.specs.declared.call.Call.{Call}
use Rattle.plain_trees.specs.Contents.{Entry}
use Rattle.plain_trees.specs.Trees.{Tree}
use Rattle.inquiries.specs.declared.items.Item.{Item}
use Rattle.tree_differences.specs.Updates.{adapting, amending, edit_changes, making, patch_changes, removal_at, update_changes}
use Rattle.updates.specs.declared.manner.Manner.{Manner}

-- those for what stands at a path in the old tree, where it goes
abbrev pub removal_of : Tree → Tree → Item → List Call
removal_of old new item = removal_at old new item.path

-- those that make what stands at a path in the new tree: a file of both trees is written whole, or keeps what it can from its beginning
-- on, or wherever that is
abbrev pub made_by : Manner → Path → Option Entry → Option Entry → List Call
made_by Manner.Whole path there entry = making path there entry
made_by Manner.Edited path there entry = adapting path there entry
made_by Manner.Patched path there entry = amending path there entry

-- the paths of items
abbrev pub paths_in : List Item → List Path
paths_in items = map (λ item. item.path) items

-- those for what is new or changed
abbrev pub making_of : Manner → Tree → Tree → Item → List Call
making_of manner old new item = made_by manner item.path (get old item.path) (get new item.path)

-- those for a file of both trees
abbrev pub changed_file : Manner → Path → List ℕ → List ℕ → List Call
changed_file manner path bytes others = made_by manner path (Some (Entry.File bytes)) (Some (Entry.File others))

-- all of them
abbrev pub changes_by : Manner → Tree → Tree → List Call
changes_by Manner.Whole old new = update_changes old new
changes_by Manner.Edited old new = edit_changes old new
changes_by Manner.Patched old new = patch_changes old new

-- all of it in one change group, which is brought to the flash
abbrev pub group_by : Manner → Tree → Tree → List Call
group_by manner old new = Call.Begin ∷ (changes_by manner old new ++ Call.End ∷ Call.Sync ∷ [])

-- How many nodes directories have, and how many an edit reads and writes.
use Rattle.std.specs.Prelude.{ℕ, suc, ◌+◌, ◌-◌, Bool, true, false, ◌&&◌, nat_lt, Option, List, [], ◌∷◌, length, take, slice_index, slice_index_or, if◌then◌else◌}
use Rattle.std.specs.List.{sum_by, range_with_len}
use Rattle.std.specs.Option.{is_some, is_none}
use Rattle.fs_types.specs.Names.{Name, Path, same_name}
use Rattle.plain_trees.specs.Trees.{nodes_for}
use Rattle.node_format.specs.Items.{Item, named_place}
use Rattle.node_format.specs.Edits.{edited_count}
use Rattle.node_format.specs.declared.place.Place.{Place}
use Rattle.nodes.specs.Bodies.{Blocks}
use Rattle.nodes.specs.Chains.{items_in}
use Rattle.directory.specs.Moves.{common}

-- how many nodes the directory that begins in a block has
abbrev pub nodes_in : Blocks → ℕ → ℕ
nodes_in f block = nodes_for (length (items_in f block))

-- the greater number of nodes before and after an edit: where a name is put that is missing, there is one entry more
abbrev pub edit_nodes : List Item → Name → Bool → ℕ
edit_nodes items name puts = nodes_for (length items + (if puts && is_none (named_place items name) then 1 else 0))

-- the same of the directories that a path goes through, from one level down; where something is put at the path, the names
-- before the last stand already
abbrev pub path_nodes : Blocks → List ℕ → Path → Bool → ℕ → ℕ
path_nodes f trail names puts level = sum_by (λ i. edit_nodes (items_in f (slice_index trail i)) (slice_index_or names i []) puts) (range_with_len level (length names - level))

-- the same of two paths from where they part down, so many names down, where what stands at the first is put at the second:
-- a name that goes there makes room for the one that is put
abbrev pub fork_nodes : Blocks → List ℕ → Path → List ℕ → Path → ℕ → ℕ
fork_nodes f old_trail old new_trail new fork =
    edit_nodes (items_in f (slice_index old_trail fork)) (slice_index_or new fork []) (nat_lt (fork + 1) (length old))
    + (path_nodes f old_trail old false (fork + 1) + path_nodes f new_trail new true (fork + 1))

-- the same of the whole paths; the directories that both go through count once
abbrev pub move_nodes : Blocks → List ℕ → Path → List ℕ → Path → ℕ
move_nodes f old_trail old new_trail new = sum_by (nodes_in f) (take (common old new) old_trail) + fork_nodes f old_trail old new_trail new (common old new)

-- so many entries come up to the one of a name, that one too; all of them where none has the name
abbrev pub entries_to : List Item → Name → ℕ
entries_to [] name = 0
entries_to (item ∷ items) name = if same_name item.name name then 1 else suc (entries_to items name)

-- how many nodes an edit reads: where a place is put, none after the one with the name
abbrev pub read_nodes : List Item → Name → Bool → ℕ
read_nodes items name puts = nodes_for (if puts then entries_to items name else length items)

-- how many nodes an edit writes: where a name that is there leads to another place, none after the one with the name; else all that there are then
abbrev pub written_nodes : List Item → Name → Option Place → ℕ
written_nodes items name place =
    if is_some place && is_some (named_place items name) then nodes_for (entries_to items name)
    else nodes_for (edited_count (named_place items name) place (length items))
